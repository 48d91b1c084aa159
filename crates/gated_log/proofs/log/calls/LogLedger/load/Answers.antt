use Rattle.std.proofs.Common.{refl, arith}
use Rattle.disk_volume.specs.Moments.{still, no_sync}
use Rattle.gated_log.proofs.Opening.{found_stands, found_primed}
use Rattle.gated_log.proofs.log.calls.LogLedger.load.Goals as goal

pub returns-in_err-name-clause-files : goal.returns-in_err-name-clause-files
returns-in_err-name-clause-files g c = λ told. still

pub returns-in_err-piece-clause-files : goal.returns-in_err-piece-clause-files
returns-in_err-piece-clause-files g c = λ told. still

pub returns-clause-list : goal.returns-clause-list
returns-clause-list g c = λ told.
    found_stands _ c.args.form c.args.file.now (g.V.Volume.disk c.args.volume.now) (g.V.Volume.disk c.find_settled.new.volume) _ c.in_ok-found.found (c.in_ok-found.ensures.found told)
    refl c.in_ok-name.ensures.ok refl refl refl (c.in_ok-found.ensures.reads told c.args.file.now)

pub returns-clause-primed : goal.returns-clause-primed
returns-clause-primed g c = λ told closed.
    found_primed c.args.form c.args.file.now (g.V.Volume.disk c.args.volume.now) (g.V.Volume.disk c.find_settled.new.volume) _ c.in_ok-found.found (c.in_ok-found.ensures.found told)
    (c.in_ok-found.ensures.reads told c.args.file.now) closed

pub returns-in_err-piece-clause-clock : goal.returns-in_err-piece-clause-clock
returns-in_err-piece-clause-clock g c = (0, 0, omega arith, omega arith, omega arith, λ told. omega arith)

pub returns-in_err-name-clause-syncs : goal.returns-in_err-name-clause-syncs
returns-in_err-name-clause-syncs g c = λ told. no_sync

pub returns-in_err-piece-clause-syncs : goal.returns-in_err-piece-clause-syncs
returns-in_err-piece-clause-syncs g c = λ told. no_sync

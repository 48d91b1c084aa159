use Rattle.std.proofs.Common.{◌≡◌, List, ℕ, sym, subst}
use Rattle.disk_volume.specs.Disk.{Disk}
use Rattle.disk_volume.specs.Moments.{Grew, OnlySyncs}
use Rattle.gated_log.proofs.loading.find_settled.Goals as goal

pub returns-clause-files : goal.returns-clause-files
returns-clause-files g c = λ told.
    let P : Disk → Type 0 = λ disk. Grew (λ (name : List ℕ). name ≡ c.args.file.now) (g.V.Volume.disk c.args.volume.now) disk in
    subst P (sym (c.find_at_rest.ensures.disk told)) (c.in_ok-settle.ensures.files told)

pub returns-clause-syncs : goal.returns-clause-syncs
returns-clause-syncs g c = λ told.
    let P : Disk → Type 0 = λ disk. OnlySyncs (λ (name : List ℕ). name ≡ c.args.file.now) (g.V.Volume.disk c.args.volume.now) disk in
    subst P (sym (c.find_at_rest.ensures.disk told)) (c.in_ok-settle.ensures.syncs told)

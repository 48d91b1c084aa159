use Rattle.std.proofs.Common.{subst}
use Rattle.disk_volume.specs.Disk.{reads}
use Rattle.disk_volume.specs.Lemmas.Since.{elsewhere}
use Rattle.log_format.specs.declared.form.Form.{Form}
use Rattle.log_format.specs.declared.form.Form.TheVariants.{One, Two}
use Rattle.keeper_channel.proofs.Stays.{restarted}
use Rattle.keeper_channel.proofs.migrating.restart_channel.Goals as goal

pub returns-in-Ok-clause-any_moment : goal.returns-in-Ok-clause-any_moment
returns-in-Ok-clause-any_moment g c = λ told old new holds opened none.
    let disk = g.V.Volume.disk c.args.volume.now in
    let name = g.O.Ledger.name c.args.one.now in
    restarted (g.O.Ledger.opens_as One name) (g.G.Ledger.opens_as Two c.args.two.now) (g.O.Ledger.owns name) disk (g.V.Volume.disk c.restart.new.volume) old new
    (g.met.V.Volume.as_it_reads c.args.volume.now told) (c.in-Ok.ensures.files told) c.requires.apart (λ one other. g.met.O.Ledger.opened_by One name one other old)
    (g.met.O.Ledger.rests_now One name disk old (subst (λ (f : Form). g.O.Ledger.rests f name disk) c.requires.form_one (g.met.O.Ledger.holds_rests c.args.one.now old disk holds))
    (subst (λ (f : Form). g.O.Ledger.opens_as f name (reads disk) old) c.requires.form_one (g.met.O.Ledger.holds_reads c.args.one.now old disk holds)))
    none (c.in-Ok.ensures.any_moment told new opened)

pub returns-in-Ok-clause-moving : goal.returns-in-Ok-clause-moving
returns-in-Ok-clause-moving g c = λ told old new holds opened none.
    let disk = g.V.Volume.disk c.args.volume.now in
    let after = g.V.Volume.disk c.restart.new.volume in
    let empty = c.in-Ok.ensures.empty told in
    record {
      holds_old = g.met.O.Ledger.holds_on c.args.one.now old disk after holds (λ file mine. elsewhere after file (c.in-Ok.ensures.files told) (λ theirs. c.requires.apart file theirs mine));
      holds_new = empty;
      sure = c.in-Ok.ensures.no_doubt told;
      each = returns-in-Ok-clause-any_moment g c told old new holds opened none;
      files = c.in-Ok.ensures.files told;
    }

pub returns-in-Err-Store-clause-any_moment : goal.returns-in-Err-Store-clause-any_moment
returns-in-Err-Store-clause-any_moment g c = λ told old new holds opened none.
    let disk = g.V.Volume.disk c.args.volume.now in
    let name = g.O.Ledger.name c.args.one.now in
    restarted (g.O.Ledger.opens_as One name) (g.G.Ledger.opens_as Two c.args.two.now) (g.O.Ledger.owns name) disk (g.V.Volume.disk c.restart.new.volume) old new
    (g.met.V.Volume.as_it_reads c.args.volume.now told) (c.restart.ensures.files told) c.requires.apart (λ one other. g.met.O.Ledger.opened_by One name one other old)
    (g.met.O.Ledger.rests_now One name disk old (subst (λ (f : Form). g.O.Ledger.rests f name disk) c.requires.form_one (g.met.O.Ledger.holds_rests c.args.one.now old disk holds))
    (subst (λ (f : Form). g.O.Ledger.opens_as f name (reads disk) old) c.requires.form_one (g.met.O.Ledger.holds_reads c.args.one.now old disk holds)))
    none (c.restart.ensures.any_moment told new opened)

pub returns-in-Err-clause-any_moment : goal.returns-in-Err-clause-any_moment
returns-in-Err-clause-any_moment g c = λ told old new holds opened none.
    let disk = g.V.Volume.disk c.args.volume.now in
    let name = g.O.Ledger.name c.args.one.now in
    restarted (g.O.Ledger.opens_as One name) (g.G.Ledger.opens_as Two c.args.two.now) (g.O.Ledger.owns name) disk (g.V.Volume.disk c.restart.new.volume) old new
    (g.met.V.Volume.as_it_reads c.args.volume.now told) (c.restart.ensures.files told) c.requires.apart (λ one other. g.met.O.Ledger.opened_by One name one other old)
    (g.met.O.Ledger.rests_now One name disk old (subst (λ (f : Form). g.O.Ledger.rests f name disk) c.requires.form_one (g.met.O.Ledger.holds_rests c.args.one.now old disk holds))
    (subst (λ (f : Form). g.O.Ledger.opens_as f name (reads disk) old) c.requires.form_one (g.met.O.Ledger.holds_reads c.args.one.now old disk holds)))
    none (c.restart.ensures.any_moment told new opened)

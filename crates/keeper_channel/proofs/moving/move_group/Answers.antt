use Rattle.std.proofs.Common.{◌≡◌, ◌∙◌, false, length, List, ℕ, ◌++◌, ◌+◌, arith, take, drop, sym, ap, subst}
use Rattle.std.proofs.lemmas.Result.{err_from_is_err_and, on_ok_weaker}
use Rattle.disk_volume.specs.Disk.{Disk, reads}
use Rattle.disk_volume.specs.Moments.{Grew, EachSince, still}
use Rattle.gated_log.specs.Ledger.{has_room}
use Rattle.log_format.specs.Frames.{size_of}
use Rattle.keeper_channel.specs.Chan.{moved}
use Rattle.keeper_channel.specs.Inside.Adding.{IsAdding}
use Rattle.keeper_channel.proofs.Stays.{adding_still}
use Rattle.keeper_channel.specs.declared.refused.KeeperRefused.TheVariants.{Damaged}
use Rattle.keeper_channel.proofs.Results.{err_of}
use Rattle.keeper_channel.proofs.moving.move_group.Goals as goal

pub returns-in_err-entries-clause-any_moment : goal.returns-in_err-entries-clause-any_moment
returns-in_err-entries-clause-any_moment g c = λ told old done holds_one holds.
    let G = g.G.Ledger in let log = c.args.log.now in let disk = g.V.Volume.disk c.args.volume.now in
    adding_still (G.opens_as (G.form_of log) (G.name log)) disk (g.V.Volume.disk c.read_group.new.volume) done (G.doubt (G.form_of log) (G.name log) (reads disk)) (moved (take c.args.many (drop c.args.first old)))
    (c.read_group.ensures.disk told) (g.met.G.Ledger.rests_now (G.form_of log) (G.name log) disk done (g.met.G.Ledger.holds_rests log done disk holds) (g.met.G.Ledger.holds_reads log done disk holds))

pub returns-clause-any_moment : goal.returns-clause-any_moment
returns-clause-any_moment g c = λ told old done holds_one holds.
    let G = g.G.Ledger in let log = c.args.log.now in let disk = g.V.Volume.disk c.args.volume.now in
    adding_still (G.opens_as (G.form_of log) (G.name log)) disk (g.V.Volume.disk c.read_group.new.volume) done (G.doubt (G.form_of log) (G.name log) (reads disk)) (moved (take c.args.many (drop c.args.first old)))
    (c.read_group.ensures.disk told) (g.met.G.Ledger.rests_now (G.form_of log) (G.name log) disk done (g.met.G.Ledger.holds_rests log done disk holds) (g.met.G.Ledger.holds_reads log done disk holds))

pub returns-in_err-entries-clause-files : goal.returns-in_err-entries-clause-files
returns-in_err-entries-clause-files g c = λ told.
    let P : Disk → Type 0 = λ disk. Grew (g.G.Ledger.owns (g.G.Ledger.name c.args.log.now)) (g.V.Volume.disk c.args.volume.now) disk in subst P (sym (c.read_group.ensures.disk told)) still

pub returns-clause-files : goal.returns-clause-files
returns-clause-files g c = λ told.
    let P : Disk → Type 0 = λ disk. Grew (g.G.Ledger.owns (g.G.Ledger.name c.args.log.now)) (g.V.Volume.disk c.args.volume.now) disk in subst P (sym (c.read_group.ensures.disk told)) still

pub returns-in-Ok-clause-any_moment : goal.returns-in-Ok-clause-any_moment
returns-in-Ok-clause-any_moment g c = λ told old done holds_one holds.
    let G = g.G.Ledger in let log = c.args.log.now in let new = g.V.Volume.disk c.add_reserved.new.volume in
    let form = G.form_of log in let name = G.name log in
    let same : c.in-Ok.group ≡ moved (take c.args.many (drop c.args.first old)) = c.in-Ok.ensures ∙ c.in_ok-entries.ensures.group told old holds_one in
    let P : Disk → List (List ℕ) → Type 0 = λ d l. EachSince d new (λ image. IsAdding (G.opens_as form name image) done (G.doubt form name (reads d)) l) in
    let here = subst (λ (d : Disk). G.holds log done d) (sym (c.in_ok-entries.ensures.disk told)) holds in
    subst (λ (l : List (List ℕ)). P (g.V.Volume.disk c.args.volume.now) l) same (subst (λ (d : Disk). P d c.in-Ok.group) (c.in_ok-entries.ensures.disk told) (c.add_reserved.ensures.any_moment told done here))

pub returns-in-Ok-clause-moved : goal.returns-in-Ok-clause-moved
returns-in-Ok-clause-moved g c = λ told old done holds_one holds.
    let G = g.G.Ledger in let log = c.args.log.now in
    let same : c.in-Ok.group ≡ moved (take c.args.many (drop c.args.first old)) = c.in-Ok.ensures ∙ c.in_ok-entries.ensures.group told old holds_one in
    let here = subst (λ (d : Disk). G.holds log done d) (sym (c.in_ok-entries.ensures.disk told)) holds in
    let P : List (List ℕ) → Type 0 = λ l. G.holds c.add_reserved.new.log (done ++ l) (g.V.Volume.disk c.add_reserved.new.volume) in
    on_ok_weaker c.add_reserved.result (λ held. subst P same held) (c.add_reserved.ensures.ok told done here)

pub returns-in-Ok-clause-sure : goal.returns-in-Ok-clause-sure
returns-in-Ok-clause-sure g c = λ told done holds.
    let G = g.G.Ledger in
    c.add_reserved.ensures.sure told done (subst (λ (d : Disk). G.holds c.args.log.now done d) (sym (c.in_ok-entries.ensures.disk told)) holds)

pub returns-in-Ok-clause-full : goal.returns-in-Ok-clause-full
returns-in-Ok-clause-full g c = λ told old done holds_one holds is_full.
    let G = g.G.Ledger in let log = c.args.log.now in let group = c.in-Ok.group in
    let same : c.in-Ok.group ≡ moved (take c.args.many (drop c.args.first old)) = c.in-Ok.ensures ∙ c.in_ok-entries.ensures.group told old holds_one in
    subst (λ (l : List (List ℕ)). has_room (G.form_of log) done (length l) (size_of l) ≡ false) same
    (sym (g.met.G.Ledger.holds_room log done (g.V.Volume.disk c.args.volume.now) (length group) (size_of group) holds) ∙ c.add_reserved.ensures.full is_full)

pub add_reserved-requires-clause-holds : goal.add_reserved-requires-clause-holds
add_reserved-requires-clause-holds g c = λ told.
    let given = c.requires.holds told in
    (given.0, subst (λ (d : Disk). g.G.Ledger.holds c.args.log.now given.0 d) (sym (c.in_ok-entries.ensures.disk told)) given.1)

pub returns-in_err-entries-clause-damaged : goal.returns-in_err-entries-clause-damaged
returns-in_err-entries-clause-damaged g c = let p = err_from_is_err_and c.from_residual.result c.from_residual.ensures.1 in rw (p.1, p.2) (λ told old holds damage is all.
    c.in_err-entries.ensures.damaged told old holds damage (err_of _ (Damaged damage) is) all)

pub returns-in-Ok-clause-counted : goal.returns-in-Ok-clause-counted
returns-in-Ok-clause-counted g c =
    let many = ap (λ (l : List (List ℕ)). length l) c.in-Ok.ensures ∙ c.in_ok-entries.ensures.many in
    on_ok_weaker c.add_reserved.result (λ counted. counted ∙ ap (λ n. g.G.Ledger.count c.args.log.now + n) many) c.add_reserved.ensures.counted

pub build-requires : goal.build-requires
build-requires g c = record {
  some = omega (arith, c.in_ok-entries.ensures.many, c.requires.some);
  few = omega (arith, c.in_ok-entries.ensures.many, c.requires.few);
  small = λ k d within. (c.in_ok-entries.ensures.entries k d within).short;
}

use Rattle.std.proofs.Common.{◌≡◌, ◌<◌, true, false, slice_index, rules, arith, refl, sym, ◌∙◌, ap}
use Rattle.std.proofs.lemmas.Bool.Decides.{nat_tests}
use Rattle.disk_volume.specs.Disk.{File}
use Rattle.disk_volume.specs.Pick.{is_within}
use Rattle.disk_volume.specs.Lemmas.Torn.{outside, not_within}
use Rattle.disk_volume.proofs.pending.Pending.may_hold.Goals as goal
use Rattle.disk_volume.proofs.pending.Pending.may_hold.Goals.{then-self-place-via-then-self-place, then-self-place-via-else-self-place+then-is_written}

pub returns-then-self-place : goal.returns-then-self-place
returns-then-self-place c =
    let loose : c.self.inside.loose ≡ c.args.self.now.loose = ap (λ (f : File). f.loose) c.self.view_is in (
      λ held low out. elim c.then-self-place.branch [
        | then-self-place-via-then-self-place w ↦ absurd (omega (arith, low, w.if-self-place.true))
        | then-self-place-via-else-self-place+then-is_written w ↦
            let no : is_within c.args.self.now.written c.args.place ≡ false = outside c.args.self.now.written c.args.place out in
            let yes : is_within c.args.self.now.written c.args.place ≡ true = sym w.is_written.ensures ∙ w.if-is_written.true in
            absurd (cc)
      ],
      λ held. refl,
    )

pub returns : goal.returns
returns c =
    let loose : c.self.inside.loose ≡ c.args.self.now.loose = ap (λ (f : File). f.loose) c.self.view_is in
    let stood : c.unwrap_or.result ≡ slice_index c.args.self.now.stood c.args.place = search rules in
    let low : c.args.place < c.args.self.now.loose = omega (arith, c.if-self-place.false) in
    let out = not_within c.args.self.now.written c.args.place (sym c.is_written.ensures ∙ c.if-is_written.false) in
    (λ same low' out'. grind (arith, nat_tests), λ held. let same : c.args.byte ≡ slice_index c.args.self.now.stood c.args.place = held low out in grind (arith, nat_tests))

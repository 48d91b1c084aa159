use Rattle.std.proofs.Common.{◌≤◌, length, sym, ◌∙◌, subst, arith}
use Rattle.pad_patch.specs.Misfit.{longest_text}
use Rattle.pad_branch.proofs.Growing.{short_after}
use Rattle.pad_branch.proofs.forward.grow.Goals as goal

pub invert_counted-requires-clause-small_after : goal.invert_counted-requires-clause-small_after
invert_counted-requires-clause-small_after g c =
    let short = short_after c.args.message.now.patch (g.S.UnitStore.units c.args.at.now.text) (c.is_sound.ensures.sound.0 c.if-not-is_sound.false).fits in
    omega (arith, short)

pub invariant_of-result : goal.invariant_of-result
invariant_of-result g c =
    let short = short_after c.args.message.now.patch (g.S.UnitStore.units c.args.at.now.text) (c.is_sound.ensures.sound.0 c.if-not-is_sound.false).fits in
    record {
      hashed = c.tip_next-tip.ensures.hash ∙ c.in_ok-hash.ensures;
      short = subst (λ units. length units ≤ longest_text) (sym (c.remember.ensures ∙ c.in_ok-text.ensures.after)) short;
      timed = c.tip_next-tip.ensures.timed;
    }

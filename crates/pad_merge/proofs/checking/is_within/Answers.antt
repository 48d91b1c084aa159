use Rattle.std.proofs.Common.{arith, ◌-◌, ap, sym, ◌∙◌}
use Rattle.std.specs.Prelude.{is_some}
use Rattle.pad_merge.proofs.Standing.{stands_within}
use Rattle.pad_merge.proofs.checking.is_within.Goals as goal

pub returns : goal.returns
returns c =
    let within = stands_within c.args.patch.now c.args.len (c.args.at - 1) c.args.at c.requires.inside (omega (arith, c.if-at-eq0.false)) in
    let same = c.is_some.ensures ∙ ap is_some c.unit_after.ensures in
    (λ is. within.0 (sym same ∙ is), λ below. same ∙ within.1 below)

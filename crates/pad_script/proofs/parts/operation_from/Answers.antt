-- The text is no operation: no number stands behind the first, or what stands behind both spells no string.
use Rattle.std.proofs.Common.{◌≡◌, List, ℕ, subst, sym, arith}
use Rattle.serde_json.specs.Data.{string}
use Rattle.pad_text.specs.Text.{utf8}
use Rattle.pad_json.specs.Spells.{Spells}
use Rattle.pad_script.proofs.Fronts.{behind_offset, behind_remove}
use Rattle.pad_script.proofs.parts.operation_from.Goals as goal

pub returns-in_default-number_before : goal.returns-in_default-number_before
returns-in_default-number_before c operation spells =
    c.in_default-number_before.ensures.none operation.remove spells.quoted (omega arith) (omega (arith, spells.typed.remove))
    (behind_offset c.args.text.now c.in-Some.rest.now c.in-Some.offset operation spells c.in-Some.ensures.some.0 (omega (arith, c.in-Some.ensures.some.2)))

pub returns-in-None : goal.returns-in-None
returns-in-None c operation spells =
    let none = rw c.in-None.is at c.in_ok-insert.ensures in
    let same : c.in-Some-number_before.quoted.now ≡ spells.quoted =
    behind_remove c.args.text.now c.in-Some.rest.now c.in-Some-number_before.quoted.now c.in-Some.offset c.in-Some-number_before.remove operation spells c.in-Some.ensures.some.0
    (omega (arith, c.in-Some.ensures.some.2)) c.in-Some-number_before.ensures.some.0 (omega (arith, c.in-Some-number_before.ensures.some.2)) in
    none operation.insert (subst (λ (text : List ℕ). Spells text (string (utf8 operation.insert))) (sym same) spells.spells)

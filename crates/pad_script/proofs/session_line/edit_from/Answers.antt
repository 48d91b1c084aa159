-- What stands behind the client's number is no operation.
use Rattle.std.proofs.Common.{◌≡◌, List, ℕ, subst, sym, arith}
use Rattle.std.specs.Prelude.{codes}
use Rattle.pad_script.specs.Parts.{SpellsOperation}
use Rattle.pad_script.proofs.Fronts.{behind_is}
use Rattle.pad_script.proofs.session_line.edit_from.Goals as goal

pub returns-in-None : goal.returns-in-None
returns-in-None c client operation spells =
    let none = rw c.in-None.is at c.in_ok-operation.ensures in
    let same : c.in-Some-client_before.text.now ≡ spells.0 =
    behind_is c.args.line.now (codes "edit ") c.in-Some.rest.now c.in-Some-client_before.client client c.in-Some-client_before.text.now spells.0 c.in-Some.ensures
    c.in-Some-client_before.ensures.some.0 spells.1 (omega (arith, c.in-Some-client_before.ensures.some.1)) (omega (arith, spells.2)) in
    none operation (subst (λ (text : List ℕ). SpellsOperation text operation) (sym same) spells.3)

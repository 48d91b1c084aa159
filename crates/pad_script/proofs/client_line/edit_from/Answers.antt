-- What stands behind the word is no operation.
use Rattle.std.proofs.Common.{◌≡◌, List, ℕ, subst, sym}
use Rattle.std.specs.Prelude.{codes}
use Rattle.pad_script.specs.Parts.{SpellsOperation}
use Rattle.pad_script.proofs.Fronts.{rest_is}
use Rattle.pad_script.proofs.client_line.edit_from.Goals as goal

pub returns-in-None : goal.returns-in-None
returns-in-None c operation spells =
    let none = rw c.in-None.is at c.in_ok-operation.ensures in
    let same : c.in-Some.text.now ≡ spells.0 = rest_is c.args.line.now (codes "edit ") c.in-Some.text.now spells.0 c.in-Some.ensures spells.1 in
    none operation (subst (λ (text : List ℕ). SpellsOperation text operation) (sym same) spells.2)

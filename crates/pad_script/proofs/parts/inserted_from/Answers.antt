use Rattle.std.proofs.Common.{rules}
use Rattle.serde_json.specs.View.{view}
use Rattle.pad_json.specs.Spells.{Spells}
use Rattle.pad_script.proofs.Inserted.{inserted}
use Rattle.pad_script.proofs.parts.inserted_from.Goals as goal

pub returns-in-Some : goal.returns-in-Some
returns-in-Some c =
    let spells : Spells c.args.quoted.now (view c.in-Some.value) = rw c.in-Some.is at c.in_ok-value.ensures.found in
    inserted c.args.quoted.now (view c.in-Some.value) c.text_from.result spells c.text_from.ensures

use Rattle.std.proofs.Common.{rules, ◌≡◌, ap, sym, ◌∙◌}
use Rattle.serde_json.specs.Data.{string}
use Rattle.serde_json.specs.View.{view}
use Rattle.serde_json.specs.declared.value.Value.{the_lemmas}
use Rattle.pad_text.specs.Text.{IsText, utf8, units_of}
use Rattle.pad_text.proofs.CallerLemmas.{IsText-units_of, utf8-units_of}
use Rattle.pad_script.proofs.parts.text_from.Goals as goal

pub returns : goal.returns
returns c =
    let seen : view c.args.value.now ≡ string c.as_str.result.now = search (rules, the_lemmas) in
    let units : c.in_ok-from_str.field-0 ≡ units_of c.as_str.result.now = c.in_ok-from_str.ensures in
    (seen ∙ ap string (sym (ap utf8 units ∙ utf8-units_of c.as_str.result.now c.as_str.utf8)), rw units (IsText-units_of c.as_str.result.now c.as_str.utf8))

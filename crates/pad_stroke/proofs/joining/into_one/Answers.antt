use Rattle.std.proofs.Common.{subst, sym, ◌∙◌, ap, ◌++◌}
use Rattle.pad_text.specs.Text.{IsText}
use Rattle.pad_stroke.proofs.joining.into_one.Goals as goal

pub from_units-requires : goal.from_units-requires
from_units-requires c =
    let whole = c.in_ok-extend_from_slice.ensures.items
    ∙ ap (λ us. us ++ c.as_units.result.now) c.into_units-units.ensures.units
    ∙ ap (λ us. c.args.first.insert ++ us) c.as_units.ensures.units in
    subst IsText (sym whole)
    (c.texts_are_kept_by_cuts.ensures.joined c.args.first.insert c.args.second.insert c.into_units-units.ensures.text c.as_units.ensures.text)

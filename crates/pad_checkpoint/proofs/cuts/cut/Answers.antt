use Rattle.std.proofs.Common.{sym, ap, ◌∙◌}
use Rattle.pad_checkpoint.specs.Cut.{last_but_one}
use Rattle.pad_checkpoint.specs.Place.{place_of}
use Rattle.pad_checkpoint.proofs.CutLemmas.{higher_none, higher_some}
use Rattle.pad_checkpoint.proofs.cuts.cut.Goals as goal

pub returns-in-Some-clause-path : goal.returns-in-Some-clause-path
returns-in-Some-clause-path c b root above at are =
    higher_some b root above c.in-Some.mark (c.in-Some.ensures ∙ ap last_but_one (c.as_slice.ensures ∙ are))

pub returns-in-None-clause-path : goal.returns-in-None-clause-path
returns-in-None-clause-path c b root above at are =
    at ∙ ap (place_of b) (sym (higher_none b root above (c.in-None.ensures ∙ ap last_but_one (c.as_slice.ensures ∙ are))))

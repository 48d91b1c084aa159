use Rattle.std.proofs.Common.{◌≡◌, ◌-◌, ◌<◌, length, take, drop, arith, rules}
use Rattle.std.proofs.lemmas.List.{length-take-le, length-drop}
use Rattle.pad_text.specs.Text.{IsText, CutsPair}
use Rattle.pad_text.proofs.CallerLemmas.{IsText-take, IsText-between}
use Rattle.pad_rope.proofs.edit.+build.Goals as goal

pub build-requires : goal.build-requires
build-requires t c =
    let us = c.args.units.now in
    let inside = c.middle-at.ensures.inside in
    let text : IsText (take c.middle-at.result us) = IsText-take us c.middle-at.result c.requires c.middle-at.ensures.whole in
    let size : length (take c.middle-at.result us) ≡ c.middle-at.result = length-take-le c.middle-at.result us (omega arith) in
    search rules

pub build-requires-2 : goal.build-requires-2
build-requires-2 t c =
    let us = c.args.units.now in
    let inside = c.middle-at.ensures.inside in
    let end : ¬ (CutsPair us (length us)) = λ cut. let before : length us < length us = cut.before_end in absurd (omega arith) in
    let text : IsText (take (length us - c.middle-at.result) (drop c.middle-at.result us)) = IsText-between us c.middle-at.result (length us) c.requires (omega arith) c.middle-at.ensures.whole end in
    let size = length-take-le (length us - c.middle-at.result) (drop c.middle-at.result us) (omega (arith, length-drop c.middle-at.result us)) in
    search rules

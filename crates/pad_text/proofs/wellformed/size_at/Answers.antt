use Rattle.std.proofs.Common.{◌≡◌, true, sym, ◌∙◌, arith}
use Rattle.std.specs.Prelude.{slice_index}
use Rattle.std.specs.Char.Utf16.{is_high_surrogate}
use Rattle.pad_text.proofs.Halves.{at_low, at_plain, at_end, at_high, at_pair}
use Rattle.pad_text.proofs.wellformed.size_at.Goals as goal

pub returns-then-is_second_of_pair-clause-half : goal.returns-then-is_second_of_pair-clause-half
returns-then-is_second_of_pair-clause-half c =
    at_low c.args.units.now c.args.at c.requires (sym c.is_second_of_pair.ensures ∙ c.if-is_second_of_pair.true)

pub returns-then-not-is_first_of_pair-clause-rest : goal.returns-then-not-is_first_of_pair-clause-rest
returns-then-not-is_first_of_pair-clause-rest c =
    at_plain c.args.units.now c.args.at c.requires (sym c.is_first_of_pair.ensures ∙ c.if-not-is_first_of_pair.true)
    (sym c.is_second_of_pair.ensures ∙ c.if-is_second_of_pair.false)

pub returns-then-at-units-clause-half : goal.returns-then-at-units-clause-half
returns-then-at-units-clause-half c =
    let high : is_high_surrogate (slice_index c.args.units.now c.args.at) ≡ true = sym c.is_first_of_pair.ensures ∙ c.if-not-is_first_of_pair.false in
    at_end c.args.units.now c.args.at c.requires high (omega arith)

pub returns-then-is_second_of_pair-2-clause-rest : goal.returns-then-is_second_of_pair-2-clause-rest
returns-then-is_second_of_pair-2-clause-rest c =
    let high : is_high_surrogate (slice_index c.args.units.now c.args.at) ≡ true = sym c.is_first_of_pair.ensures ∙ c.if-not-is_first_of_pair.false in
    let apart = c.if-at-units.false in
    at_pair c.args.units.now c.args.at c.requires high (omega (arith, c.requires)) (sym c.is_second_of_pair-2.ensures ∙ c.if-is_second_of_pair-2.true)

pub returns-clause-half : goal.returns-clause-half
returns-clause-half c =
    let high : is_high_surrogate (slice_index c.args.units.now c.args.at) ≡ true = sym c.is_first_of_pair.ensures ∙ c.if-not-is_first_of_pair.false in
    at_high c.args.units.now c.args.at c.requires high (sym c.is_second_of_pair-2.ensures ∙ c.if-is_second_of_pair-2.false)

use Rattle.std.proofs.Common.{◌≡◌, List, ℕ, [], ◌∷◌, ◌++◌, ◌∙◌, ap, sym, subst, arith}
use Rattle.pad_text.specs.Text.{IsText}
use Rattle.pad_generator.specs.Item.{letter_of}
use Rattle.pad_generator.proofs.Letters.{IsText-letter}
use Rattle.pad_generator.proofs.drafting.letter.Goals as goal

pub from_units-requires : goal.from_units-requires
from_units-requires c =
    let letter = letter_of c.args.choice in
    let units : c.push.new.self.items ≡ letter ∷ [] = c.in_ok-push.ensures.items ∙ ap (λ (l : List ℕ). l ++ letter ∷ []) c.new-units.ensures.items in
    subst IsText (sym units) (IsText-letter letter (omega arith))

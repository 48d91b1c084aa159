-- The first space stands behind the word.
use Rattle.std.proofs.Common.{◌≡◌, ◌≢◌, ℕ, List, ◌∷◌, ◌++◌, true, Option, None, Some, arith}
use Rattle.std.specs.Option.{IfNone, IfSome, MatchOption}
use Rattle.std.specs.Borrow.{Bor}
use Rattle.std.proofs.lemmas.Str.Pattern.{IsSplitOnceResult, split_after}
use Rattle.pad_script.specs.Parts.{space}
use Rattle.pad_script.specs.Inside.Words.{has_no_space}
use Rattle.pad_script.proofs.Spaces.{none_at}
use Rattle.pad_script.proofs.parts.split_space.Goals as goal

is_first : (text : List ℕ) (split : Option (Bor (List ℕ) × Bor (List ℕ))) → IsSplitOnceResult space text split
    → IfSome split (λ parts. (word rest : List ℕ) → has_no_space word ≡ true → text ≡ word ++ space ∷ rest → (parts.0.now ≡ word) × (parts.1.now ≡ rest))
is_first text None is = tt
is_first text (Some parts) is = λ word rest none same. split_after space text word rest (Some parts) is (omega arith) same (none_at word none)

is_none : (text : List ℕ) (split : Option (Bor (List ℕ) × Bor (List ℕ))) → IsSplitOnceResult space text split
    → IfNone split ((word rest : List ℕ) → has_no_space word ≡ true → text ≢ word ++ space ∷ rest)
is_none text None is = λ word rest none same. split_after space text word rest None is (omega arith) same (none_at word none)
is_none text (Some parts) is = tt

pub returns-clause-first : goal.returns-clause-first
returns-clause-first c = is_first c.args.text.now c.split_once.result c.split_once.ensures.cases

pub returns-clause-none : goal.returns-clause-none
returns-clause-none c = is_none c.args.text.now c.split_once.result c.split_once.ensures.cases

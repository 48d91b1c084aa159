-- What stands at an index of a list.
use Rattle.std.proofs.Common.{◌≡◌, ℕ, List, slice_index_or, sym, ◌∙◌, ap}
use Rattle.std.specs.Prelude.{Some, slice_get}
use Rattle.std.proofs.lemmas.Option.{get_or_from_slice_get}

-- what is read at an index is the element there
pub same_element : {X : Type 0} (xs ys : List X) (index : ℕ) (read element : X) → ys ≡ xs → read ≡ slice_index_or ys index read → slice_get xs index ≡ Some element → element ≡ read
same_element xs ys index read element same is_read is_element =
    sym (get_or_from_slice_get xs index element read is_element) ∙ ap (λ zs. slice_index_or zs index read) (sym same) ∙ sym is_read

-- The sums fit where the texts are short.
use Rattle.std.proofs.Common.{◌≡◌, ℕ, ◌+◌, ◌<◌, ◌≤◌, ◌^◌, List, length, arith, slice_index_or}
use Rattle.std.specs.Prelude.{slice_get}
use Rattle.std.specs.List.{All}
use Rattle.std.proofs.lemmas.Option.{slice_get-get_or}
use Rattle.pad_patch.specs.declared.operation.Operation.{Operation}
use Rattle.pad_patch.specs.Piece.{inserted, text_after, length_after, end_of}
use Rattle.pad_patch.proofs.CallerLemmas.{inside_of, length-text_after, inserted-within}
use Rattle.pad_transform.specs.Laws.{SumsFitWithin}
use Rattle.pad_transform.proofs.Cases.{sums_fit}

pub sums_fit_within : SumsFitWithin
sums_fit_within patch by text can can_by short =
    sums_fit patch by (λ k default below.
    let operation = slice_index_or patch.ops k default in
    let inside = inside_of patch (length text) can.inside k operation (slice_get-get_or patch.ops k default below) in
    omega (arith, inside, inserted-within by text))

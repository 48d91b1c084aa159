-- Kept units are where their old places say, and sums that fit.
use Rattle.std.proofs.Common.{◌≡◌, ℕ, ◌+◌, ◌<◌, ◌≤◌, ◌^◌, List, map, length, replicate, refl, sym, ◌∙◌, ap, arith}
use Rattle.std.specs.Prelude.{Option, Some, None, slice_get}
use Rattle.std.specs.List.{range_with_len, All}
use Rattle.std.proofs.lemmas.List.{length-replicate}
use Rattle.std.proofs.lemmas.List.FromFn.{length-map-range_with_len}
use Rattle.std.proofs.lemmas.Option.{get_or_from_slice_get}
use Rattle.std.proofs.lemmas.List.{get_or_default}
use Rattle.pad_patch.specs.declared.operation.Operation.{Operation}
use Rattle.pad_patch.specs.Piece.{inserted, text_after, length_after, end_of}
use Rattle.pad_patch.specs.Removed.{old_places, IsKeptFrom}
use Rattle.pad_patch.proofs.CallerLemmas.{same_length, element_kept, below_get, get_below}
use Rattle.pad_transform.specs.Laws.{KeptUnitsStay}

pub kept_units_stay : KeptUnitsStay
unfolding text_after
kept_units_stay patch text can =
    let size = length text in
    let olds : List (Option ℕ) = map Some (range_with_len 0 size) in
    let news : List (Option ℕ) = replicate (length (inserted patch)) None in
    let counts : length news ≡ length (inserted patch) = length-replicate (length (inserted patch)) None in
    let long = same_length patch news olds (inserted patch) text counts (length-map-range_with_len {X = Option ℕ} Some 0 size) in (
      long,
      λ place old kept.
          let within = below_get (Some old) (old_places patch size) place kept in
          let found = get_below (text_after patch text) place (omega (arith, within, long)) in
          let stood = element_kept patch (inserted patch) text old place found.0 refl kept found.1 in
          get_or_from_slice_get (text_after patch text) place found.0 0 found.1 ∙ sym (get_or_from_slice_get text old found.0 0 stood),
    )

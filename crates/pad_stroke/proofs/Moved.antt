-- A work that is moved to another text.
use Rattle.std.proofs.Common.{◌≡◌, ℕ, ◌+◌, ◌<◌, ◌≤◌, ◌⊎◌, inl, inr, List, [], length, slice_index_or, refl, sym, ap, subst, arith}
use Rattle.std.specs.Prelude.{All, Some, slice_get}
use Rattle.std.proofs.lemmas.Option.{slice_get_within, get_or_from_slice_get}
use Rattle.pad_text.specs.Text.{CutsPair}
use Rattle.pad_text.specs.declared.name.Name.{Name}
use Rattle.pad_patch.specs.declared.operation.Operation.{Operation}
use Rattle.pad_patch.specs.Piece.{end_of}
use Rattle.pad_patch.specs.Misfit.{CanApply}
use Rattle.pad_merge.specs.Merge.{IsNormal}
use Rattle.pad_stroke.specs.Work.{Marked, IsWork, moved_to}

pub IsWork-moved_to : (work : Marked) (before : Name) → IsWork work → IsWork (moved_to work before)
IsWork-moved_to work before is = record {
  normal = record { untouched = is.normal.untouched; needed = is.normal.needed };
  texts = is.texts;
  counted = is.counted;
}

-- where it inserts alone and fits the empty text it fits every text
pub CanApply-moved_to : (work : Marked) (before : Name) → CanApply work.patch [] → (text : List ℕ) → CanApply (moved_to work before).patch text
CanApply-moved_to work before can text = record {
  ordered = λ index overlap. can.ordered index overlap;
  inside = λ index (operation, is, late).
      let none : 0 < end_of operation → ⊥ = λ past. can.inside index (operation, is, past) in
      absurd (omega arith);
  whole = λ index (operation, is, cut).
      let none : 0 < end_of operation → ⊥ = λ past. can.inside index (operation, is, past) in
      elim cut [
        | inl start ↦ let after = start.after_start in absurd (omega arith)
        | inr end ↦ let after = end.after_start in absurd (omega arith)
      ];
}

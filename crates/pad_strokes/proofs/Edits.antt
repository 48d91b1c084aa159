-- One edit of a text, and what takes it back.
use Rattle.std.proofs.Common.{◌≡◌, ℕ, ◌+◌, ◌-◌, ◌<◌, ◌≤◌, inl, inr, List, ◌++◌, length, take, drop, refl, sym, ◌∙◌, ap, subst, arith, append_assoc}
use Rattle.std.proofs.Math.Seq.{take-add, take-append_seam}
use Rattle.std.proofs.lemmas.Bool.{cases_lt}
use Rattle.std.proofs.lemmas.List.{drop_at, take_all, take-append-le, take-append-drop, length-append, length-take-le, length-drop}
use Rattle.pad_text.specs.Text.{IsText, CutsPair}
use Rattle.pad_text.proofs.CallerLemmas.{IsText-append, IsText-take, IsText-drop, IsText-between, drop-cuts_none}
use Rattle.pad_patch.specs.declared.operation.Operation.{Operation}
use Rattle.pad_patch.specs.Piece.{end_of}
use Rattle.pad_patch.specs.UnitStore.{between}
use Rattle.pad_patch.proofs.CallerLemmas.{same_operation}
use Rattle.pad_stroke.specs.Edit.{shown_after}
use Rattle.pad_strokes.specs.Stroke.{taking_back, IsEdit}
use Rattle.pad_strokes.specs.Laws.{GivesBack, BackGivesBack}

-- what is not below a number is at least that
pub not_below : (a b : ℕ) → ¬ (a < b) → b ≤ a
not_below a b not = elim (cases_lt a b) [
  | inl below ↦ absurd (not below)
  | inr above ↦ above
]

module _ (shown : List ℕ) (operation : Operation) (is_text : IsText shown) (edit : IsEdit shown operation) where
  abbrev from : ℕ
  from = operation.offset

  abbrev to : ℕ
  to = end_of operation

  abbrev typed : List ℕ
  typed = operation.insert

  abbrev after : List ℕ
  after = shown_after operation shown

  abbrev rest : List ℕ
  rest = drop to shown

  abbrev removed : List ℕ
  removed = between from to shown

  inside : to ≤ length shown
  inside = not_below (length shown) to edit.allowed.inside

  starts_whole : ¬ (CutsPair shown from)
  starts_whole cut = edit.allowed.whole (inl cut)

  ends_whole : ¬ (CutsPair shown to)
  ends_whole cut = edit.allowed.whole (inr cut)

  front_size : length (take from shown) ≡ from
  front_size = length-take-le from shown (omega (arith, inside))

  typed_size : length (take from shown ++ typed) ≡ from + length typed
  typed_size = length-append (take from shown) typed ∙ ap (λ n. n + length typed) front_size

  removed_size : length removed ≡ operation.remove
  removed_size = length-take-le (to - from) (drop from shown) (omega (arith, inside, length-drop from shown)) ∙ omega arith

  rest_is : drop (from + length typed) after ≡ rest
  rest_is = drop_at (take from shown ++ typed) rest (from + length typed) typed_size

  behind_is : drop from after ≡ typed ++ rest
  behind_is = ap (drop from) (append_assoc (take from shown) typed rest) ∙ drop_at (take from shown) (typed ++ rest) from front_size

  front_is : take from after ≡ take from shown
  front_is =
      take-append-le from (take from shown ++ typed) rest (omega (arith, typed_size))
      ∙ take-append-le from (take from shown) typed (omega (arith, front_size))
      ∙ take_all from (take from shown) (omega (arith, front_size))

  cut_is : take from shown ++ removed ≡ take to shown
  cut_is =
      let there : from + (to - from) ≡ to = omega arith in
      sym (take-add from (to - from) shown) ∙ ap (λ n. take n shown) there

  before_again : shown_after (taking_back operation shown) after ≡ shown
  before_again =
      ap (λ us. (us ++ removed) ++ drop (from + length typed) after) front_is
      ∙ ap (λ us. us ++ drop (from + length typed) after) cut_is
      ∙ ap (λ us. take to shown ++ us) rest_is
      ∙ take-append-drop to shown

  typed_again : between from (from + length typed) after ≡ typed
  typed_again =
      let size : from + length typed - from ≡ length typed = omega arith in
      ap (λ n. take n (drop from after)) size ∙ ap (take (length typed)) behind_is ∙ take-append_seam typed rest

  again : taking_back (taking_back operation shown) after ≡ operation
  again = same_operation (taking_back (taking_back operation shown) after) operation refl removed_size typed_again

  rest_text : IsText rest
  rest_text = IsText-drop shown to is_text ends_whole

  after_text : IsText after
  after_text =
      IsText-append (take from shown ++ typed) rest
      (IsText-append (take from shown) typed (IsText-take shown from is_text starts_whole) edit.text) rest_text

  gives_back : GivesBack shown operation after (taking_back operation shown)
  gives_back = record {
    text = IsText-between shown from to is_text (omega arith) starts_whole ends_whole;
    inside = λ late. absurd (omega (arith, late, length-append (take from shown ++ typed) rest, typed_size));
    whole = λ cut. elim cut [
      | inl start ↦ drop-cuts_none after from (subst IsText (sym behind_is) (IsText-append typed rest edit.text rest_text)) start
      | inr end ↦ drop-cuts_none after (from + length typed) (subst IsText (sym rest_is) rest_text) end
    ];
    before_again = before_again;
    again = again;
  }

pub back_gives_back : BackGivesBack
back_gives_back shown operation is_text edit = (after_text shown operation is_text edit, gives_back shown operation is_text edit)

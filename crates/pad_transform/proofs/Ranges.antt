-- A range of a text by an operation: it is a range of the changed text.
use Rattle.std.proofs.Common.{◌≡◌, ℕ, suc, ◌+◌, ◌-◌, ◌≤◌, inl, inr, List, [], ◌∷◌, ◌++◌, length, take, drop, refl, sym, ◌∙◌, ap, subst, arith}
use Rattle.std.specs.Prelude.{Some}
use Rattle.std.proofs.Math.Seq.{drop-append-add}
use Rattle.std.proofs.lemmas.List.{drop-drop, drop-take, drop-append-le, length-take-le, length-drop, length-append}
use Rattle.std.proofs.lemmas.Bool.{cases_lt}
use Rattle.pad_text.specs.Text.{IsText, CutsPair}
use Rattle.pad_text.proofs.CallerLemmas.{IsText-append, IsText-take, IsText-drop, IsText-between, drop-cuts_none}
use Rattle.pad_patch.specs.declared.operation.Operation.{Operation}
use Rattle.pad_patch.specs.Piece.{end_of}
use Rattle.pad_patch.specs.UnitStore.{IsRange, replaced}
use Rattle.pad_patch.proofs.CallerLemmas.{IsLaid}
use Rattle.pad_patch.proofs.CallerLemmas.{copy_from, copy_from-none, copy_from-replaced, IsRange-copy_from, IsNext, Whole, InsertsTexts}
use Rattle.pad_transform.specs.Table.{through}
use Rattle.pad_transform.proofs.Cases.{Moved, behind, within, before, across, last_step}

-- units with an insertion in place of a range
module _ (units : List ℕ) (start end : ℕ) (insert : List ℕ) (is_text : IsText units) (inserts : IsText insert) (range : IsRange units start end) where
  front_size : length (take start units ++ insert) ≡ start + length insert
  front_size =
      let order = range.ordered in
      let inside = range.inside in
      length-append (take start units) insert ∙ ap (λ n. n + length insert) (length-take-le start units (omega arith))

  pub length-replaced : length (replaced start end insert units) + end ≡ start + length insert + length units
  length-replaced =
      let inside = range.inside in
      omega (arith, length-append (take start units ++ insert) (drop end units), front_size, length-drop end units)

  pub IsText-replaced : IsText (replaced start end insert units)
  IsText-replaced =
      IsText-append (take start units ++ insert) (drop end units)
      (IsText-append (take start units) insert (IsText-take units start is_text range.starts_whole) inserts)
      (IsText-drop units end is_text range.ends_whole)

  -- a place before the range
  whole_early : (place : ℕ) → place ≤ start → ¬ (CutsPair units place) → ¬ (CutsPair (replaced start end insert units) place)
  whole_early place early whole =
      let order = range.ordered in
      let inside = range.inside in
      let size : length (take start units) ≡ start = length-take-le start units (omega arith) in
      let split : place + (start - place) ≡ start = omega arith in
      let kept : drop place (take start units) ≡ take (start - place) (drop place units) =
      ap (λ n. drop place (take n units)) (sym split) ∙ drop-take place (start - place) units in
      let rest : drop place (replaced start end insert units) ≡ (take (start - place) (drop place units) ++ insert) ++ drop end units =
      drop-append-le place (take start units ++ insert) (drop end units) (omega (arith, front_size))
      ∙ ap (λ xs. xs ++ drop end units) (drop-append-le place (take start units) insert (omega arith))
      ∙ ap (λ xs. (xs ++ insert) ++ drop end units) kept in
      drop-cuts_none (replaced start end insert units) place
      (subst IsText (sym rest)
      (IsText-append (take (start - place) (drop place units) ++ insert) (drop end units)
      (IsText-append (take (start - place) (drop place units)) insert (IsText-between units place start is_text early whole range.starts_whole) inserts)
      (IsText-drop units end is_text range.ends_whole)))

  -- a place behind the range
  whole_late : (place moved : ℕ) → end ≤ place → moved + end ≡ start + length insert + place → ¬ (CutsPair units place) → ¬ (CutsPair (replaced start end insert units) moved)
  whole_late place moved late at whole =
      let there : moved ≡ length (take start units ++ insert) + (place - end) = omega (arith, front_size) in
      let back : end + (place - end) ≡ place = omega arith in
      let rest : drop moved (replaced start end insert units) ≡ drop place units =
      ap (λ n. drop n (replaced start end insert units)) there
      ∙ drop-append-add (take start units ++ insert) (drop end units) (place - end)
      ∙ drop-drop (place - end) end units ∙ ap (λ n. drop n units) back in
      drop-cuts_none (replaced start end insert units) moved (subst IsText (sym rest) (IsText-drop units place is_text whole))

  -- the place behind the insertion
  whole_seam : (moved : ℕ) → moved ≡ start + length insert → ¬ (CutsPair (replaced start end insert units) moved)
  whole_seam moved at = whole_late end moved (omega arith) (omega arith) range.ends_whole

  -- a range of the units by the operation
  pub IsRange-moved : (a b c : Operation) → b.offset ≡ start → end_of b ≡ end → b.insert ≡ insert → IsRange units a.offset (end_of a) → Moved a b c
      → IsRange (replaced start end insert units) c.offset (end_of c)
  IsRange-moved a b c is_start is_end is_insert first (behind late at size) =
      let same = ap length is_insert in
      let inside = first.inside in
      record {
        ordered = omega arith;
        inside = omega (arith, length-replaced);
        starts_whole = whole_late a.offset c.offset (omega arith) (omega arith) first.starts_whole;
        ends_whole = whole_late (end_of a) (end_of c) (omega arith) (omega arith) first.ends_whole;
      }
  IsRange-moved a b c is_start is_end is_insert first (within after most at size) =
      let same = ap length is_insert in
      let inside = first.inside in
      let inside_b = range.inside in
      record {
        ordered = omega arith;
        inside = omega (arith, length-replaced);
        starts_whole = whole_seam c.offset (omega arith);
        ends_whole = elim (cases_lt end (end_of a)) [
          | inl more ↦ whole_late (end_of a) (end_of c) (omega arith) (omega arith) first.ends_whole
          | inr none ↦ whole_seam (end_of c) (omega arith)
        ];
      }
  IsRange-moved a b c is_start is_end is_insert first (before early apart at size) =
      let inside_b = range.inside in
      let order_b = range.ordered in
      record {
        ordered = omega arith;
        inside = omega (arith, length-replaced);
        starts_whole = whole_early c.offset (omega arith) (subst (λ n. ¬ (CutsPair units n)) (sym at) first.starts_whole);
        ends_whole = let same : end_of a ≡ end_of c = omega arith in whole_early (end_of c) (omega arith) (subst (λ n. ¬ (CutsPair units n)) same first.ends_whole);
      }
  IsRange-moved a b c is_start is_end is_insert first (across early meets at size) =
      let inside_b = range.inside in
      let order_b = range.ordered in
      record {
        ordered = omega arith;
        inside = omega (arith, length-replaced);
        starts_whole = whole_early c.offset (omega arith) (subst (λ n. ¬ (CutsPair units n)) (sym at) first.starts_whole);
        ends_whole = let same : start ≡ end_of c = omega arith in whole_early (end_of c) (omega arith) (subst (λ n. ¬ (CutsPair units n)) same range.starts_whole);
      }

-- operations that can be applied to a text, one after another from the last to the first
abbrev pub AreNext : List ℕ → List Operation → Type 0
AreNext text [] = Unit {0}
AreNext text (b ∷ later) = IsNext text b later × IsText b.insert × AreNext text later

pub AreNext-laid : (text : List ℕ) (place : ℕ) (operations : List Operation) → IsLaid place (length text) operations → Whole text operations → InsertsTexts operations → AreNext text operations
AreNext-laid text place [] laid_out whole inserts = tt
AreNext-laid text place (b ∷ later) laid_out whole inserts =
    let ends = whole 0 b refl in (
      record { inside = laid_out.1; laid_out = laid_out.2; starts_whole = ends.0; ends_whole = ends.1 },
      inserts 0 b refl,
      AreNext-laid text (end_of b) later laid_out.2 (λ index op is. whole (suc index) op is) (λ index op is. inserts (suc index) op is),
    )

IsText-copied : (text : List ℕ) (by : List Operation) → IsText text → AreNext text by → IsText (copy_from text 0 by)
IsText-copied text [] is_text next = subst IsText (sym (copy_from-none text)) is_text
IsText-copied text (b ∷ later) is_text next =
    let units = copy_from text 0 later in
    subst IsText (sym (copy_from-replaced text b later next.0))
    (IsText-replaced units b.offset (end_of b) b.insert (IsText-copied text later is_text next.2) next.1 (IsRange-copy_from text b later is_text next.0))

-- the range of an operation by others is a range of the copy that they make
pub IsRange-through : (text : List ℕ) (by : List Operation) (a c : Operation) → IsText text → AreNext text by → IsRange text a.offset (end_of a) → through by a ≡ Some c
    → IsRange (copy_from text 0 by) c.offset (end_of c)
IsRange-through text [] a c is_text next first is =
    let same : a ≡ c = cc in
    subst (λ (x : Operation). IsRange (copy_from text 0 []) x.offset (end_of x)) same
    (subst (λ us. IsRange us a.offset (end_of a)) (sym (copy_from-none text)) first)
IsRange-through text (b ∷ later) a c is_text next first is =
    let step = last_step a b later c is in
    let units = copy_from text 0 later in
    let before = IsRange-through text later a step.earlier is_text next.2 first step.image in
    subst (λ us. IsRange us c.offset (end_of c)) (sym (copy_from-replaced text b later next.0))
    (IsRange-moved units b.offset (end_of b) b.insert (IsText-copied text later is_text next.2) next.1 (IsRange-copy_from text b later is_text next.0)
    step.earlier b c refl refl refl before step.line)

-- A mark stays with its unit.
use Rattle.std.proofs.Common.{◌≡◌, ℕ, zero, suc, ◌+◌, ◌≤◌, Bool, true, false, cond, List, [], ◌∷◌, length, map, slice_index_or, refl, sym, ◌∙◌, ap, subst, arith}
use Rattle.std.specs.Prelude.{Option, Some, None, slice_get, filter}
use Rattle.std.specs.Option.{option_map}
use Rattle.std.proofs.lemmas.List.{length-map}
use Rattle.pad_text.specs.declared.name.Name.{Name}
use Rattle.pad_patch.specs.declared.patch.Patch.{Patch}
use Rattle.pad_patch.specs.Piece.{inserted}
use Rattle.pad_patch.proofs.CallerLemmas.{get-map, map-map, some-injective}
use Rattle.pad_merge.specs.declared.origin.Origin.{Origin}
use Rattle.pad_merge.specs.declared.origin.Origin.TheVariants.{First, Second}
use Rattle.pad_merge.specs.Origin.{origins, named_unit}
use Rattle.pad_merge.specs.Merge.{merged}
use Rattle.pad_merge.proofs.CallerLemmas.{named_all}
use Rattle.pad_stroke.specs.declared.mark.Mark.{Mark}
use Rattle.pad_stroke.specs.Work.{Marked}
use Rattle.pad_stroke.specs.InTurn.{no_mark, mark_from, in_turn}
use Rattle.pad_stroke.specs.Through.{carried}
use Rattle.pad_stroke.specs.Strip.{stays, staying, stripped}
use Rattle.pad_stroke.proofs.CallerLemmas.{carried_marks, carried_inserted, in_turn_marks, in_turn_patch, stripped_is_filter, stripped_inserted}
use Rattle.pad_row.specs.Pairs.{AreTyped, TurnTyped, CarriedTyped, StrippedTyped}

-- a unit that an origin names is the one that was typed under the mark that it names
pub typed_there : (typed : Mark → ℕ) (marks : List Mark) (units : List ℕ) (place unit : ℕ) → map typed marks ≡ units → slice_get units place ≡ Some unit → typed (slice_index_or marks place no_mark) ≡ unit
typed_there typed [] [] place unit same is = cc
typed_there typed [] (u ∷ units) place unit same is = cc
typed_there typed (mark ∷ marks) [] place unit same is = cc
typed_there typed (mark ∷ marks) (u ∷ units) zero unit same is =
    let heads : typed mark ≡ u = cc in
    let there : u ≡ unit = cc in
    heads ∙ there
typed_there typed (mark ∷ marks) (u ∷ units) (suc place) unit same is =
    let tails : map typed marks ≡ units = cc in
    typed_there typed marks units place unit tails is

typed_origin : (typed : Mark → ℕ) (first second : Marked) (origin : Origin) (unit : ℕ) → AreTyped typed first → AreTyped typed second → named_unit first.patch second.patch origin ≡ Some unit
    → typed (mark_from first.marks second.marks origin) ≡ unit
typed_origin typed first second (First place) unit firsts seconds is = typed_there typed first.marks (inserted first.patch) place unit firsts is
typed_origin typed first second (Second place) unit firsts seconds is = typed_there typed second.marks (inserted second.patch) place unit seconds is

-- read off all origins
typed_all : (typed : Mark → ℕ) (first second : Marked) (found : List Origin) (units : List ℕ) → AreTyped typed first → AreTyped typed second
    → map (named_unit first.patch second.patch) found ≡ map Some units → map typed (map (mark_from first.marks second.marks) found) ≡ units
typed_all typed first second [] [] firsts seconds named = refl
typed_all typed first second [] (unit ∷ units) firsts seconds named = cc
typed_all typed first second (origin ∷ found) [] firsts seconds named = cc
typed_all typed first second (origin ∷ found) (unit ∷ units) firsts seconds named =
    let here : named_unit first.patch second.patch origin ≡ Some unit = cc in
    let rest : map (named_unit first.patch second.patch) found ≡ map Some units = cc in
    ap (λ u. u ∷ map typed (map (mark_from first.marks second.marks) found)) (typed_origin typed first second origin unit firsts seconds here)
    ∙ ap (λ us. unit ∷ us) (typed_all typed first second found units firsts seconds rest)

pub turn_typed : TurnTyped
turn_typed first second size typed counted_first counted_second firsts seconds =
    ap (map typed) (in_turn_marks first second size)
    ∙ typed_all typed first second (origins first.patch second.patch size) (inserted (merged first.patch second.patch size)) firsts seconds (named_all first.patch second.patch size)
    ∙ ap inserted (sym (in_turn_patch first second size))

pub carried_typed : CarriedTyped
carried_typed work by after typed is = ap (map typed) (carried_marks work by after) ∙ is ∙ sym (carried_inserted work by after)

-- the units that stay, and the marks that stay
staying_typed : (typed : Mark → ℕ) (gone marks : List Mark) → map typed (filter (stays gone) marks) ≡ staying gone (map typed marks) marks
staying_typed typed gone [] = refl
staying_typed typed gone (mark ∷ marks) = by_test (filter (stays gone) marks) (staying gone (map typed marks) marks) (stays gone mark) (staying_typed typed gone marks)
  where
    by_test : (ms : List Mark) (us : List ℕ) (test : Bool) → map typed ms ≡ us → map typed (cond test (mark ∷ ms) ms) ≡ cond test (typed mark ∷ us) us
    by_test ms us true same = ap (λ xs. typed mark ∷ xs) same
    by_test ms us false same = same

pub stripped_typed : StrippedTyped
stripped_typed work of typed counted is =
    ap (map typed) (stripped_is_filter work of)
    ∙ staying_typed typed of.marks work.marks
    ∙ ap (λ us. staying of.marks us work.marks) is
    ∙ sym (stripped_inserted work of counted)

-- The copy that a patch makes of a text, from a place on.
use Rattle.std.proofs.Common.{◌≡◌, ℕ, suc, ◌+◌, ◌-◌, ◌<◌, ◌≤◌, List, [], ◌∷◌, ◌++◌, length, take, drop, refl, sym, ◌∙◌, ap, subst, arith, append_assoc, inl, inr, slice_index_or, drop-cons}
use Rattle.std.specs.Prelude.{Some, All, slice_get}
use Rattle.std.specs.List.{flat_map, sum_by}
use Rattle.std.proofs.Math.Seq.{take-add}
use Rattle.std.proofs.lemmas.List.{take-append-drop, drop-drop, take_all, take_at, drop_at, length-take-le, append-nil, length-append, length-drop}
use Rattle.std.proofs.lemmas.Option.{slice_get_read, slice_get_within, get_or_from_slice_get}
use Rattle.pad_text.specs.Text.{IsText, CutsPair}
use Rattle.pad_text.proofs.CallerLemmas.{IsText-nil, IsText-take, IsText-append, IsText-between, end-cuts_none}
use Rattle.pad_patch.specs.declared.operation.Operation.{Operation}
use Rattle.pad_patch.specs.declared.patch.Patch.{Patch}
use Rattle.std.proofs.lemmas.List.Sums.{sum_by-cons}
use Rattle.std.proofs.lemmas.Bool.{cases_lt}
use Rattle.pad_patch.specs.Piece.{keep, new_units, end_of, pieces_from, size_of_piece, length_after, text_after}
use Rattle.pad_patch.specs.Misfit.{EndsAfter, CutsPairAt, CanApply, Fits}
use Rattle.pad_patch.specs.declared.misfit.Misfit.TheVariants.{Order, Range, Pair}
use Rattle.pad_patch.specs.UnitStore.{IsRange, between, replaced}
use Rattle.pad_patch.proofs.Patched.{units_of_piece, patched-units}
use Rattle.pad_patch.proofs.Laid.{IsLaid, Inside, inside_of, laid, IsLaid-at, IsLaid-before, ordered_laid, inside_laid}

-- the rest of the copy, from a place of the text on
abbrev pub copy_from : List ℕ → ℕ → List Operation → List ℕ
copy_from text place operations = flat_map (units_of_piece text) (pieces_from place (length text) operations)

-- the text after a patch is the whole copy
pub text_after-copy : (patch : Patch) (text : List ℕ) → text_after patch text ≡ copy_from text 0 patch.ops
unfolding text_after
text_after-copy patch text = patched-units text 0 (length text) patch.ops

-- all units of a text are a range of it
pub IsRange-whole : (text : List ℕ) (size : ℕ) → size ≡ length text → IsRange text 0 size
IsRange-whole text size is = record {
  ordered = omega arith;
  inside = omega arith;
  starts_whole = λ cut. let within = cut.after_start in absurd (omega arith);
  ends_whole = λ cut. let within = cut.before_end in absurd (omega arith);
}

-- two ranges that continue each other are one
pub between-append : (low middle high : ℕ) (xs : List ℕ) → low ≤ middle → middle ≤ high → between low middle xs ++ between middle high xs ≡ between low high xs
between-append low middle high xs first second =
    let size : (middle - low) + (high - middle) ≡ high - low = omega arith in
    let there : low + (middle - low) ≡ middle = omega arith in
    let rest : drop middle xs ≡ drop (middle - low) (drop low xs) =
    ap (λ n. drop n xs) (sym there) ∙ sym (drop-drop (middle - low) low xs) in
    ap (λ ys. take (middle - low) (drop low xs) ++ take (high - middle) ys) rest
    ∙ sym (take-add (middle - low) (high - middle) (drop low xs)) ∙ ap (λ n. take n (drop low xs)) size

-- the copy from a place on begins with the units up to any place that no operation has touched yet
pub copy_from-split : (text : List ℕ) (low high : ℕ) (operations : List Operation) → low ≤ high → IsLaid high (length text) operations
    → copy_from text low operations ≡ between low high text ++ copy_from text high operations
copy_from-split text low high [] order laid_out =
    ap (λ xs. xs ++ []) (sym (between-append low high (length text) text order laid_out))
    ∙ append_assoc (between low high text) (between high (length text) text) []
copy_from-split text low high (operation ∷ operations) order (start, _, _) =
    let rest = operation.insert ++ copy_from text (end_of operation) operations in
    ap (λ xs. xs ++ rest) (sym (between-append low high operation.offset text order start))
    ∙ append_assoc (between low high text) (between high operation.offset text) rest

sub_zero : (n : ℕ) → n - 0 ≡ n
sub_zero n = omega arith

-- the copy begins with the units up to any place that no operation has touched yet
pub copy_from-zero : (text : List ℕ) (place : ℕ) (operations : List Operation) → IsLaid place (length text) operations
    → copy_from text 0 operations ≡ take place text ++ copy_from text place operations
copy_from-zero text place operations laid_out =
    copy_from-split text 0 place operations (omega arith) laid_out
    ∙ ap (λ n. take n text ++ copy_from text place operations) (sub_zero place)

-- the copy without operations is the text
pub copy_from-none : (text : List ℕ) → copy_from text 0 [] ≡ text
copy_from-none text = append-nil (between 0 (length text) text) ∙ take_all (length text - 0) text (omega arith)

-- an operation in front of others, which stand in order behind it
pub record IsNext (text : List ℕ) (operation : Operation) (later : List Operation) : Type 0 where
  pub inside : end_of operation ≤ length text
  pub laid_out : IsLaid (end_of operation) (length text) later
  pub starts_whole : ¬ (CutsPair text operation.offset)
  pub ends_whole : ¬ (CutsPair text (end_of operation))

laid_start : (text : List ℕ) (operation : Operation) (later : List Operation) → IsNext text operation later → IsLaid operation.offset (length text) later
laid_start text operation later next =
    let order : operation.offset ≤ end_of operation = omega arith in
    IsLaid-before operation.offset (end_of operation) (length text) later order next.laid_out

-- one more operation replaces its range in the copy that the later ones make
pub copy_from-replaced : (text : List ℕ) (operation : Operation) (later : List Operation) → IsNext text operation later
    → copy_from text 0 (operation ∷ later) ≡ replaced operation.offset (end_of operation) operation.insert (copy_from text 0 later)
copy_from-replaced text operation later next =
    let start = operation.offset in
    let end = end_of operation in
    let rest = copy_from text end later in
    let order : start ≤ end = omega arith in
    let within : start ≤ length text = omega (arith, next.inside) in
    let head : take start (copy_from text 0 later) ≡ take start text =
    ap (take start) (copy_from-zero text start later (laid_start text operation later next))
    ∙ take_at (take start text) (copy_from text start later) start (length-take-le start text within) in
    let tail : drop end (copy_from text 0 later) ≡ rest =
    ap (drop end) (copy_from-zero text end later next.laid_out)
    ∙ drop_at (take end text) rest end (length-take-le end text next.inside) in
    ap (λ n. take n text ++ (operation.insert ++ rest)) (sub_zero start)
    ∙ ap (λ xs. xs ++ (operation.insert ++ rest)) (sym head)
    ∙ ap (λ xs. take start (copy_from text 0 later) ++ (operation.insert ++ xs)) (sym tail)
    ∙ sym (append_assoc (take start (copy_from text 0 later)) operation.insert (drop end (copy_from text 0 later)))

-- no pair is cut at the end of a text in front of other units
whole_at_seam : (xs ys zs : List ℕ) (place : ℕ) → zs ≡ xs ++ ys → length xs ≡ place → IsText xs → ¬ (CutsPair zs place)
whole_at_seam xs ys zs place is at text cut =
    end-cuts_none xs ys text (subst (CutsPair (xs ++ ys)) (sym at) (subst (λ us. CutsPair us place) is cut))

-- its range is one of that copy too
pub IsRange-copy_from : (text : List ℕ) (operation : Operation) (later : List Operation) → IsText text → IsNext text operation later
    → IsRange (copy_from text 0 later) operation.offset (end_of operation)
IsRange-copy_from text operation later is_text next =
    let start = operation.offset in
    let end = end_of operation in
    let order : start ≤ end = omega arith in
    let within : start ≤ length text = omega (arith, next.inside) in
    let at_start = copy_from-zero text start later (laid_start text operation later next) in
    let at_end = copy_from-zero text end later next.laid_out in
    let start_size = length-take-le start text within in
    let end_size = length-take-le end text next.inside in
    record {
      ordered = order;
      inside = omega (arith, ap length at_end, length-append (take end text) (copy_from text end later), end_size);
      starts_whole = whole_at_seam (take start text) (copy_from text start later) (copy_from text 0 later) start at_start start_size (IsText-take text start is_text next.starts_whole);
      ends_whole = whole_at_seam (take end text) (copy_from text end later) (copy_from text 0 later) end at_end end_size (IsText-take text end is_text next.ends_whole);
    }

-- the operation before a place of the list
pub record IsTurn (text : List ℕ) (operations : List Operation) (index : ℕ) (operation : Operation) : Type 0 where
  pub split : drop (index - 1) operations ≡ operation ∷ drop index operations
  pub next : IsNext text operation (drop index operations)

pub turn : (patch : Patch) (text : List ℕ) (operations : List Operation) (index : ℕ) (operation : Operation) → CanApply patch text → operations ≡ patch.ops
    → 0 < index → index ≤ length operations → operation ≡ slice_index_or operations (index - 1) operation → IsTurn text operations index operation
turn patch text operations index operation can same some within is =
    let last = index - 1 in
    let follows : suc last ≡ index = omega arith in
    let below : last < length operations = omega arith in
    let stands : slice_get operations last ≡ Some operation = slice_get_read operations (length operations) last operation refl below is in
    let member : slice_get patch.ops last ≡ Some operation = ap (λ os. slice_get os last) (sym same) ∙ stands in
    let found = IsLaid-at 0 (length text) last patch.ops operation (laid patch (length text) can.ordered can.inside) member in
    record {
      split = drop-cons operations last operation below ∙ ap (λ o. o ∷ drop (suc last) operations) (sym is) ∙ ap (λ n. operation ∷ drop n operations) follows;
      next = record {
        inside = found.0;
        laid_out = subst (λ os. IsLaid (end_of operation) (length text) os) (ap (drop (suc last)) (sym same) ∙ ap (λ n. drop n operations) follows) found.1;
        starts_whole = λ cut. can.whole last (operation, member, inl cut);
        ends_whole = λ cut. can.whole last (operation, member, inr cut);
      };
    }

-- the units of the copy, where each operation ends within the text
length-copy_from : (text : List ℕ) (place : ℕ) (operations : List Operation) → Inside (length text) operations
    → length (copy_from text place operations) ≡ sum_by size_of_piece (pieces_from place (length text) operations)
length-copy_from text place [] inside =
    omega (arith, length-append (between place (length text) text) [], length-take-le (length text - place) (drop place text) (omega (arith, length-drop place text)))
length-copy_from text place (operation ∷ operations) inside =
    let within : end_of operation ≤ length text = inside 0 operation refl in
    let rest = copy_from text (end_of operation) operations in
    let pieces_left = pieces_from (end_of operation) (length text) operations in
    let kept : length (between place operation.offset text) ≡ operation.offset - place =
    length-take-le (operation.offset - place) (drop place text) (omega (arith, within, length-drop place text)) in
    let later = length-copy_from text (end_of operation) operations (λ index last is_last. inside (suc index) last is_last) in
    length-append (between place operation.offset text) (operation.insert ++ rest)
    ∙ ap (λ n. n + length (operation.insert ++ rest)) kept
    ∙ ap (λ n. (operation.offset - place) + n) (length-append operation.insert rest ∙ ap (λ n. length operation.insert + n) later ∙ sym (sum_by-cons size_of_piece (new_units operation.insert) pieces_left))
    ∙ sym (sum_by-cons size_of_piece (keep place (operation.offset - place)) (new_units operation.insert ∷ pieces_left))

-- the length of the text after a patch whose operations end within the text
pub length-text_after : (patch : Patch) (text : List ℕ) → ((index : ℕ) → ¬ (EndsAfter patch (length text) index))
    → length (text_after patch text) ≡ length_after patch (length text)
length-text_after patch text inside = ap length (text_after-copy patch text) ∙ length-copy_from text 0 patch.ops (inside_of patch (length text) inside)

-- the length that is counted from the length of the text
pub length_after-size : (patch : Patch) (text : List ℕ) (size : ℕ) → size ≡ length text → CanApply patch text → length_after patch size ≡ length (text_after patch text)
length_after-size patch text size same can = ap (length_after patch) same ∙ sym (length-text_after patch text can.inside)

-- a patch without operations leaves the text
pub text_after-none : (patch : Patch) (text : List ℕ) → patch.ops ≡ [] → text_after patch text ≡ text
text_after-none patch text none = text_after-copy patch text ∙ ap (copy_from text 0) none ∙ copy_from-none text

-- no operation cuts a pair
abbrev pub Whole : List ℕ → List Operation → Type 0
Whole text operations =
    (index : ℕ) (operation : Operation) → slice_get operations index ≡ Some operation → (¬ (CutsPair text operation.offset)) × (¬ (CutsPair text (end_of operation)))

-- each insertion is a text
abbrev pub InsertsTexts : List Operation → Type 0
InsertsTexts operations = (index : ℕ) (operation : Operation) → slice_get operations index ≡ Some operation → IsText operation.insert

pub InsertsTexts-all : (operations : List Operation) → All (λ (operation : Operation). IsText operation.insert) operations → InsertsTexts operations
InsertsTexts-all operations inserts index operation is =
    subst (λ (o : Operation). IsText o.insert) (get_or_from_slice_get operations index operation operation is)
    (inserts index operation (slice_get_within operations index operation is))

-- a range of a text is a text, also an empty one
IsText-kept : (text : List ℕ) (low high : ℕ) → IsText text → ¬ (CutsPair text low) → ¬ (CutsPair text high) → IsText (between low high text)
IsText-kept text low high is_text starts ends = elim (cases_lt high low) [
  | inr order ↦ IsText-between text low high is_text order starts ends
  | inl past ↦ let none : high - low ≡ 0 = omega arith in rw none IsText-nil
]

-- the copy is a text
pub IsText-copy_from : (text : List ℕ) (place : ℕ) (operations : List Operation) → IsText text → ¬ (CutsPair text place) → Whole text operations → InsertsTexts operations
    → IsText (copy_from text place operations)
IsText-copy_from text place [] is_text starts whole inserts =
    rw append-nil (IsText-kept text place (length text) is_text starts (λ cut. let within = cut.before_end in absurd (omega arith)))
IsText-copy_from text place (operation ∷ operations) is_text starts whole inserts =
    let rest = copy_from text (end_of operation) operations in
    let ends = whole 0 operation refl in
    let later = IsText-copy_from text (end_of operation) operations is_text ends.1
    (λ index last is_last. whole (suc index) last is_last) (λ index last is_last. inserts (suc index) last is_last) in
    IsText-append (between place operation.offset text) (operation.insert ++ rest) (IsText-kept text place operation.offset is_text starts ends.0)
    (IsText-append operation.insert rest (inserts 0 operation refl) later)

-- the text after a patch that cuts no pair is a text
pub IsText-text_after : (patch : Patch) (text : List ℕ) → IsText text → All (λ (operation : Operation). IsText operation.insert) patch.ops → ((index : ℕ) → ¬ (CutsPairAt patch text index))
    → IsText (text_after patch text)
IsText-text_after patch text is_text inserts whole =
    subst IsText (sym (text_after-copy patch text))
    (IsText-copy_from text 0 patch.ops is_text (λ cut. let within = cut.after_start in absurd (omega arith))
    (λ index operation is. (λ cut. whole index (operation, is, inl cut), λ cut. whole index (operation, is, inr cut)))
    (InsertsTexts-all patch.ops inserts))

-- a patch that fits can be applied
pub CanApply-Fits : (patch : Patch) (text : List ℕ) → Fits patch text → CanApply patch text
unfolding Fits
CanApply-Fits patch text fitting = record {
  ordered = λ index. fitting (Order index);
  inside = λ index. fitting (Range index);
  whole = λ index. fitting (Pair index);
}

-- a patch that stands in order and cuts no pair can be applied
pub CanApply-laid : (patch : Patch) (text : List ℕ) → IsLaid 0 (length text) patch.ops → Whole text patch.ops → CanApply patch text
CanApply-laid patch text laid_out whole = record {
  ordered = ordered_laid patch (length text) laid_out;
  inside = inside_laid patch (length text) laid_out;
  whole = λ index (operation, is, cut). elim cut [
    | inl start ↦ (whole index operation is).0 start
    | inr end ↦ (whole index operation is).1 end
  ];
}

-- what stands behind a place is a range and what stands behind it
pub between-drop : (low high : ℕ) (xs : List ℕ) → low ≤ high → between low high xs ++ drop high xs ≡ drop low xs
between-drop low high xs order =
    let there : low + (high - low) ≡ high = omega arith in
    ap (λ ys. between low high xs ++ ys) (ap (λ n. drop n xs) (sym there) ∙ sym (drop-drop (high - low) low xs))
    ∙ take-append-drop (high - low) (drop low xs)

-- the range of an operation of a patch that can be applied
pub IsRange-operation : (patch : Patch) (text : List ℕ) (index : ℕ) (operation : Operation) → CanApply patch text → slice_get patch.ops index ≡ Some operation
    → IsRange text operation.offset (end_of operation)
IsRange-operation patch text index operation can is = record {
  ordered = omega arith;
  inside = inside_of patch (length text) can.inside index operation is;
  starts_whole = λ cut. can.whole index (operation, is, inl cut);
  ends_whole = λ cut. can.whole index (operation, is, inr cut);
}

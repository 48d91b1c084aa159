-- What stays of texts are texts, where each pair stays or goes as a whole.
use Rattle.std.proofs.Common.{◌≡◌, ℕ, suc, ◌+◌, ◌-◌, ◌/◌, ◌%◌, ◌<◌, ◌≤◌, inl, inr, Bool, true, false, cond, ◌&&◌, IsTrue, List, [], ◌∷◌, ◌++◌, length, drop, slice_index_or, refl, sym, ◌∙◌, ap, subst, arith}
use Rattle.std.specs.Prelude.{All, slice_index}
use Rattle.std.specs.List.{flat_map}
use Rattle.std.specs.Str.{all_scalars}
use Rattle.std.specs.Char.Escape.{encode_utf16}
use Rattle.std.specs.Char.Utf16.{is_high_surrogate, is_low_surrogate}
use Rattle.std.proofs.str.Utf16.{one_unit, two_units}
use Rattle.std.proofs.Math.Utf8.{scalar, scalar_cases}
use Rattle.std.proofs.lemmas.Bool.{cases_lt}
use borrow.Author.Tests.{lt-ltb, le-leb}
use Rattle.std.proofs.lemmas.List.{append-nil, length-append, length-drop, get_or-append-add, get_or_append_left, get_or-drop}
use Rattle.std.proofs.lemmas.List.Elements.{All-nil, All-cons, All-head, All-tail}
use Rattle.pad_text.specs.Text.{IsText, CutsPair}
use Rattle.pad_text.proofs.CallerLemmas.{IsText-nil, IsText-append, IsText-chars, spelled}
use Rattle.pad_patch.specs.declared.operation.Operation.{Operation}
use Rattle.pad_stroke.specs.declared.mark.Mark.{Mark}
use Rattle.pad_stroke.specs.InTurn.{no_mark}
use Rattle.pad_patch.specs.Piece.{insertions}
use Rattle.pad_stroke.specs.Strip.{stays, staying, thinned, KeepsPairs}
use Rattle.pad_stroke.specs.Laws.{PairsStayWhole}

-- the same, with the place of the first unit of each pair
abbrev Keeps : List Mark → List ℕ → List Mark → Type 0
Keeps gone units marks =
    (place : ℕ) → CutsPair units (suc place) → stays gone (slice_index_or marks place no_mark) ≡ stays gone (slice_index_or marks (suc place) no_mark)

keeps_from : (gone : List Mark) (units : List ℕ) (marks : List Mark) → KeepsPairs gone units marks → Keeps gone units marks
keeps_from gone units marks keeps place cut =
    let next : place + 1 ≡ suc place = omega arith in
    keeps place (subst (CutsPair units) (sym next) cut) ∙ ap (λ n. stays gone (slice_index_or marks n no_mark)) next

-- a pair in a part of the units is a pair of all
pair_in_back : (front back : List ℕ) (place : ℕ) → CutsPair back (suc place) → CutsPair (front ++ back) (suc (length front + place))
pair_in_back front back place cut =
    let whole = front ++ back in
    let first : suc (length front + place) - 1 ≡ length front + place = omega arith in
    let behind : suc (length front + place) ≡ length front + suc place = omega arith in
    let here : suc place - 1 ≡ place = omega arith in
    record {
      after_start = omega arith;
      before_end = omega (arith, length-append front back, cut.before_end);
      high = subst (λ u. IsTrue (is_high_surrogate u)) (sym (ap (slice_index whole) first ∙ get_or-append-add front back place 0 ∙ ap (slice_index back) (sym here))) cut.high;
      low = subst (λ u. IsTrue (is_low_surrogate u)) (sym (ap (slice_index whole) behind ∙ get_or-append-add front back (suc place) 0)) cut.low;
    }

pair_in_front : (front back : List ℕ) (place : ℕ) → CutsPair front (suc place) → CutsPair (front ++ back) (suc place)
pair_in_front front back place cut =
    let end : suc place < length front = cut.before_end in
    record {
      after_start = omega arith;
      before_end = omega (arith, length-append front back, end);
      high = subst (λ u. IsTrue (is_high_surrogate u)) (sym (get_or_append_left front back 0 (suc place - 1) (omega arith))) cut.high;
      low = subst (λ u. IsTrue (is_low_surrogate u)) (sym (get_or_append_left front back 0 (suc place) end)) cut.low;
    }

-- what stays of the units of a character in front of others
abbrev Stays : List Mark → List ℕ → List ℕ → Type 0
Stays gone us units = IsText units → (marks : List Mark) → length (units ++ us) ≤ length marks → Keeps gone (units ++ us) marks → IsText (staying gone (units ++ us) marks)

-- what stays of others is a text
abbrev RestStays : List Mark → List ℕ → Type 0
RestStays gone us = (marks : List Mark) → length us ≤ length marks → Keeps gone us marks → IsText (staying gone us marks)

one_by : (unit : ℕ) (rest : List ℕ) (test : Bool) → IsText (unit ∷ []) → IsText rest → IsText (cond test (unit ∷ rest) rest)
one_by unit rest true text later = IsText-append (unit ∷ []) rest text later
one_by unit rest false text later = later

two_by : (high low : ℕ) (rest : List ℕ) (first second : Bool) → first ≡ second → IsText (high ∷ low ∷ []) → IsText rest
    → IsText (cond first (high ∷ cond second (low ∷ rest) rest) (cond second (low ∷ rest) rest))
two_by high low rest true true same text later = IsText-append (high ∷ low ∷ []) rest text later
two_by high low rest true false same text later = cc
two_by high low rest false true same text later = cc
two_by high low rest false false same text later = later

one_stays : (gone : List Mark) (unit : ℕ) (us : List ℕ) → RestStays gone us → Stays gone us (unit ∷ [])
one_stays gone unit us rest text [] enough keeps = absurd (omega arith)
one_stays gone unit us rest text (mark ∷ marks) enough keeps =
    one_by unit (staying gone us marks) (stays gone mark) text
    (rest marks (omega arith) (λ place cut.
    let behind : suc (length (unit ∷ []) + place) ≡ suc (suc place) = omega arith in
    keeps (suc place) (subst (CutsPair (unit ∷ us)) behind (pair_in_back (unit ∷ []) us place cut))))

two_stay : (gone : List Mark) (high low : ℕ) (us : List ℕ) → IsTrue (is_high_surrogate high) → IsTrue (is_low_surrogate low) → RestStays gone us → Stays gone us (high ∷ low ∷ [])
two_stay gone high low us is_high is_low rest text [] enough keeps = absurd (omega arith)
two_stay gone high low us is_high is_low rest text (first ∷ []) enough keeps = absurd (omega arith)
two_stay gone high low us is_high is_low rest text (first ∷ second ∷ marks) enough keeps =
    let pair : CutsPair (high ∷ low ∷ us) 1 = record { after_start = omega arith; before_end = omega arith; high = is_high; low = is_low } in
    two_by high low (staying gone us marks) (stays gone first) (stays gone second) (keeps 0 pair) text
    (rest marks (omega arith) (λ place cut.
    let behind : suc (length (high ∷ low ∷ []) + place) ≡ suc (suc (suc place)) = omega arith in
    keeps (suc (suc place)) (subst (CutsPair (high ∷ low ∷ us)) behind (pair_in_back (high ∷ low ∷ []) us place cut))))

text_of : (c : ℕ) → scalar c ≡ true → IsText (encode_utf16 c)
text_of c is = subst IsText (append-nil (encode_utf16 c)) (IsText-chars (c ∷ []) (ap (λ t. t && true) is))

both : (a b : Bool) → (a && b) ≡ true → (a ≡ true) × (b ≡ true)
both true b is = (refl, is)
both false b is = cc

-- the units of a character behind U+FFFF
high_is : (c : ℕ) → 0x1_0000 ≤ c → c < 0x11_0000 → IsTrue (is_high_surrogate (0xD800 + (c - 0x1_0000) / 0x400))
high_is c from below = rw (le-leb 0xD800 (0xD800 + (c - 0x1_0000) / 0x400) (omega arith), lt-ltb (0xD800 + (c - 0x1_0000) / 0x400) 0xDC00 (omega arith))

low_is : (c : ℕ) → 0x1_0000 ≤ c → IsTrue (is_low_surrogate (0xDC00 + (c - 0x1_0000) % 0x400))
low_is c from = rw (le-leb 0xDC00 (0xDC00 + (c - 0x1_0000) % 0x400) (omega arith), lt-ltb (0xDC00 + (c - 0x1_0000) % 0x400) 0xE000 (omega arith))

character_stays : (gone : List Mark) (c : ℕ) (us : List ℕ) → scalar c ≡ true → RestStays gone us → Stays gone us (encode_utf16 c)
character_stays gone c us is rest = elim (cases_lt c 0x1_0000) [
  | inl small ↦ subst (Stays gone us) (sym (one_unit c small)) (one_stays gone c us rest)
  | inr large ↦ elim (scalar_cases c is) [
    | inl low ↦ absurd (omega arith)
    | inr high ↦
        let below : c < 0x11_0000 = high.1 in
        subst (Stays gone us) (sym (two_units c large))
        (two_stay gone (0xD800 + (c - 0x1_0000) / 0x400) (0xDC00 + (c - 0x1_0000) % 0x400) us (high_is c large below) (low_is c large) rest)
  ]
]

characters_stay : (gone : List Mark) (cs : List ℕ) → all_scalars cs ≡ true → RestStays gone (flat_map encode_utf16 cs)
characters_stay gone [] is = λ marks enough keeps. IsText-nil
characters_stay gone (c ∷ cs) is =
    let parts = both (scalar c) (all_scalars cs) is in
    character_stays gone c (flat_map encode_utf16 cs) parts.0 (characters_stay gone cs parts.1) (text_of c parts.0)

-- what stays of a text is a text
text_stays : (gone : List Mark) (units : List ℕ) → IsText units → RestStays gone units
text_stays gone units text =
    let s = spelled units text in
    subst (RestStays gone) s.is (characters_stay gone s.spelling s.scalars)

abbrev InsertsText : Operation → Type 0
InsertsText operation = IsText operation.insert

insertions_stay : (gone : List Mark) (operations : List Operation) (marks : List Mark) → length (insertions operations) ≤ length marks → All InsertsText operations
    → Keeps gone (insertions operations) marks → All InsertsText (thinned gone operations marks)
insertions_stay gone [] marks enough texts keeps = All-nil InsertsText
insertions_stay gone (operation ∷ operations) marks enough texts keeps =
    let front = operation.insert in
    let back = insertions operations in
    let size = length-append front back in
    let left = length-drop (length front) marks in
    All-cons InsertsText (record operation { insert = staying gone front marks }) (thinned gone operations (drop (length front) marks))
    (text_stays gone front (All-head InsertsText operation operations texts) marks (omega arith) (λ place cut. keeps place (pair_in_front front back place cut)))
    (insertions_stay gone operations (drop (length front) marks) (omega arith) (All-tail InsertsText operation operations texts) (λ place cut. keeps_behind place cut))
  where
    keeps_behind : (place : ℕ) → CutsPair (insertions operations) (suc place)
        → stays gone (slice_index_or (drop (length operation.insert) marks) place no_mark) ≡ stays gone (slice_index_or (drop (length operation.insert) marks) (suc place) no_mark)
    keeps_behind place cut =
        let n = length operation.insert in
        let behind : suc (n + place) ≡ n + suc place = omega arith in
        ap (stays gone) (get_or-drop n marks place no_mark)
        ∙ keeps (n + place) (pair_in_back operation.insert (insertions operations) place cut)
        ∙ ap (λ k. stays gone (slice_index_or marks k no_mark)) behind
        ∙ ap (stays gone) (sym (get_or-drop n marks (suc place) no_mark))

pub pairs_stay_whole : PairsStayWhole
pairs_stay_whole work of counted texts keeps =
    insertions_stay of.marks work.patch.ops work.marks (omega arith) texts (keeps_from of.marks (insertions work.patch.ops) work.marks keeps)

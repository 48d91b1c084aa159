-- Ranges of a text that stands in two parts.
use Rattle.std.proofs.Common.{◌≡◌, ℕ, ◌+◌, ◌-◌, ◌<◌, ◌≤◌, true, List, [], ◌++◌, length, take, drop, refl, sym, ◌∙◌, ap, subst, append_assoc, arith, length-append, length-drop}
use Rattle.std.specs.Char.Utf16.{is_high_surrogate, is_low_surrogate}
use Rattle.std.proofs.lemmas.List.{append-nil, take-append-le, drop-append-le, drop_at, take_all, get_or_append_left, drop-drop}
use Rattle.std.proofs.Math.Seq.{take-append-add, drop-append-add, drop-length, take-add}
use Rattle.pad_text.specs.Text.{IsText, CutsPair, utf8}
use Rattle.pad_text.proofs.CallerLemmas.{CutsPair-drop, IsText-between}
use Rattle.pad_text.proofs.CallerLemmas.{utf8-append}
use Rattle.pad_patch.specs.UnitStore.{IsRange, between, replaced}

-- the units behind the first part
drop-past : (xs ys : List ℕ) (place : ℕ) → length xs ≤ place → drop place (xs ++ ys) ≡ drop (place - length xs) ys
drop-past xs ys place past =
    let same : length xs + (place - length xs) ≡ place = omega arith in
    ap (λ n. drop n (xs ++ ys)) (sym same) ∙ drop-append-add xs ys (place - length xs)

take-past : (xs ys : List ℕ) (place : ℕ) → length xs ≤ place → take place (xs ++ ys) ≡ xs ++ take (place - length xs) ys
take-past xs ys place past =
    let same : length xs + (place - length xs) ≡ place = omega arith in
    ap (λ n. take n (xs ++ ys)) (sym same) ∙ take-append-add xs ys (place - length xs)

-- no pair is cut in a part where none is cut in the whole
cuts-front : (xs ys : List ℕ) (place : ℕ) → ¬ (CutsPair (xs ++ ys) place) → ¬ (CutsPair xs place)
cuts-front xs ys place whole cut =
    let before : place < length xs = cut.before_end in
    let after : 0 < place = cut.after_start in
    whole (record {
      after_start = after;
      before_end = omega (arith, length-append xs ys);
      high = subst (λ u. is_high_surrogate u ≡ true) (sym (get_or_append_left xs ys 0 (place - 1) (omega arith))) cut.high;
      low = subst (λ u. is_low_surrogate u ≡ true) (sym (get_or_append_left xs ys 0 place before)) cut.low;
    })

cuts-back : (xs ys : List ℕ) (place : ℕ) → length xs ≤ place → ¬ (CutsPair (xs ++ ys) place) → ¬ (CutsPair ys (place - length xs))
cuts-back xs ys place past whole cut =
    let same : length xs + (place - length xs) ≡ place = omega arith in
    let alone : drop (length xs) (xs ++ ys) ≡ ys = drop_at xs ys (length xs) refl in
    whole (subst (CutsPair (xs ++ ys)) same (CutsPair-drop (xs ++ ys) (length xs) (place - length xs) (subst (λ us. CutsPair us (place - length xs)) (sym alone) cut)))

cuts-start : (xs : List ℕ) → ¬ (CutsPair xs 0)
cuts-start xs cut = let after : 0 < 0 = cut.after_start in absurd (omega arith)

cuts-end : (xs : List ℕ) → ¬ (CutsPair xs (length xs))
cuts-end xs cut = let before : length xs < length xs = cut.before_end in absurd (omega arith)

pub IsRange-left : (xs ys : List ℕ) (from to : ℕ) → IsRange (xs ++ ys) from to → to ≤ length xs → IsRange xs from to
IsRange-left xs ys from to range low = record {
  ordered = range.ordered;
  inside = low;
  starts_whole = cuts-front xs ys from range.starts_whole;
  ends_whole = cuts-front xs ys to range.ends_whole;
}

pub IsRange-right : (xs ys : List ℕ) (from to : ℕ) → IsRange (xs ++ ys) from to → length xs ≤ from → IsRange ys (from - length xs) (to - length xs)
IsRange-right xs ys from to range high = record {
  ordered = omega (arith, range.ordered);
  inside = omega (arith, length-append xs ys, range.inside);
  starts_whole = cuts-back xs ys from high range.starts_whole;
  ends_whole = cuts-back xs ys to (omega (arith, range.ordered)) range.ends_whole;
}

pub IsRange-front : (xs ys : List ℕ) (from to : ℕ) → IsRange (xs ++ ys) from to → from ≤ length xs → IsRange xs from (length xs)
IsRange-front xs ys from to range low = record {
  ordered = low;
  inside = omega arith;
  starts_whole = cuts-front xs ys from range.starts_whole;
  ends_whole = cuts-end xs;
}

pub IsRange-back : (xs ys : List ℕ) (from to : ℕ) → IsRange (xs ++ ys) from to → length xs ≤ to → IsRange ys 0 (to - length xs)
IsRange-back xs ys from to range high = record {
  ordered = omega arith;
  inside = omega (arith, length-append xs ys, range.inside);
  starts_whole = cuts-start ys;
  ends_whole = cuts-back xs ys to high range.ends_whole;
}

-- two ranges that continue each other are one
pub between-append : (low middle high : ℕ) (xs : List ℕ) → low ≤ middle → middle ≤ high → between low middle xs ++ between middle high xs ≡ between low high xs
between-append low middle high xs first second =
    let size : (middle - low) + (high - middle) ≡ high - low = omega arith in
    let there : low + (middle - low) ≡ middle = omega arith in
    let rest : drop middle xs ≡ drop (middle - low) (drop low xs) =
    ap (λ n. drop n xs) (sym there) ∙ sym (drop-drop (middle - low) low xs) in
    ap (λ ys. take (middle - low) (drop low xs) ++ take (high - middle) ys) rest
    ∙ sym (take-add (middle - low) (high - middle) (drop low xs)) ∙ ap (λ n. take n (drop low xs)) size

pub between-left : (xs ys : List ℕ) (from to : ℕ) → from ≤ to → to ≤ length xs → between from to (xs ++ ys) ≡ between from to xs
between-left xs ys from to order low =
    ap (take (to - from)) (drop-append-le from xs ys (omega arith))
    ∙ take-append-le (to - from) (drop from xs) ys (omega (arith, length-drop from xs))

pub between-right : (xs ys : List ℕ) (from to : ℕ) → length xs ≤ from → from ≤ to → between from to (xs ++ ys) ≡ between (from - length xs) (to - length xs) ys
between-right xs ys from to high order =
    let same : to - from ≡ to - length xs - (from - length xs) = omega arith in
    ap (take (to - from)) (drop-past xs ys from high) ∙ ap (λ n. take n (drop (from - length xs) ys)) same

pub between-across : (xs ys : List ℕ) (from to : ℕ) → from ≤ length xs → length xs ≤ to
    → between from to (xs ++ ys) ≡ between from (length xs) xs ++ between 0 (to - length xs) ys
between-across xs ys from to low high =
    let size : length (drop from xs) ≡ length xs - from = length-drop from xs in
    let rest : to - from - length (drop from xs) ≡ to - length xs - 0 = omega arith in
    let whole : take (length xs - from) (drop from xs) ≡ drop from xs = take_all (length xs - from) (drop from xs) (omega arith) in
    ap (take (to - from)) (drop-append-le from xs ys low)
    ∙ (take-past (drop from xs) ys (to - from) (omega arith)
    ∙ (ap (λ n. drop from xs ++ take n ys) rest ∙ ap (λ us. us ++ take (to - length xs - 0) ys) (sym whole)))

pub replaced-left : (xs ys insert : List ℕ) (from to : ℕ) → from ≤ to → to ≤ length xs → replaced from to insert xs ++ ys ≡ replaced from to insert (xs ++ ys)
replaced-left xs ys insert from to order low =
    append_assoc (take from xs ++ insert) (drop to xs) ys
    ∙ (ap (λ us. take from xs ++ insert ++ us) (sym (drop-append-le to xs ys low))
    ∙ ap (λ us. us ++ insert ++ drop to (xs ++ ys)) (sym (take-append-le from xs ys (omega arith))))

pub replaced-right : (xs ys insert : List ℕ) (from to : ℕ) → length xs ≤ from → from ≤ to
    → xs ++ replaced (from - length xs) (to - length xs) insert ys ≡ replaced from to insert (xs ++ ys)
replaced-right xs ys insert from to high order =
    let n = from - length xs in
    let m = to - length xs in
    sym (append_assoc xs (take n ys ++ insert) (drop m ys))
    ∙ (ap (λ us. us ++ drop m ys) (sym (append_assoc xs (take n ys) insert))
    ∙ (ap (λ us. us ++ insert ++ drop m ys) (sym (take-past xs ys from high))
    ∙ ap (λ us. take from (xs ++ ys) ++ insert ++ us) (sym (drop-past xs ys to (omega arith)))))

pub replaced-across : (xs ys insert : List ℕ) (from to : ℕ) → from ≤ length xs → length xs ≤ to
    → replaced from (length xs) insert xs ++ replaced 0 (to - length xs) [] ys ≡ replaced from to insert (xs ++ ys)
replaced-across xs ys insert from to low high =
    let front : replaced from (length xs) insert xs ≡ take from xs ++ insert =
    ap (λ us. take from xs ++ insert ++ us) (drop-length xs) ∙ append-nil (take from xs ++ insert) in
    ap (λ us. us ++ drop (to - length xs) ys) front
    ∙ (ap (λ us. us ++ insert ++ drop (to - length xs) ys) (sym (take-append-le from xs ys low))
    ∙ ap (λ us. take from (xs ++ ys) ++ insert ++ us) (sym (drop-past xs ys to high)))

-- the same where the whole and the seam have names
pub between-right-at : (whole xs ys : List ℕ) (from to seam : ℕ) → whole ≡ xs ++ ys → seam ≡ length xs → seam ≤ from → from ≤ to
    → between (from - seam) (to - seam) ys ≡ between from to whole
between-right-at whole xs ys from to seam is at high order =
    rw (is, at) (sym (between-right xs ys from to (subst (λ n. n ≤ from) at high) order))

pub between-across-at : (whole xs ys : List ℕ) (from to seam : ℕ) → whole ≡ xs ++ ys → seam ≡ length xs → from ≤ seam → seam ≤ to
    → between from seam xs ++ between 0 (to - seam) ys ≡ between from to whole
between-across-at whole xs ys from to seam is at low high =
    rw (is, at) (sym (between-across xs ys from to (subst (λ n. from ≤ n) at low) (subst (λ n. n ≤ to) at high)))

pub utf8-across-at : (whole xs ys : List ℕ) (from to seam : ℕ) → IsText xs → IsText ys → IsRange whole from to
    → whole ≡ xs ++ ys → seam ≡ length xs → from ≤ seam → seam ≤ to
    → utf8 (between from seam xs) ++ utf8 (between 0 (to - seam) ys) ≡ utf8 (between from to whole)
utf8-across-at whole xs ys from to seam first second range is at low high =
    let parts : IsRange (xs ++ ys) from to = subst (λ us. IsRange us from to) is range in
    let front : IsRange xs from (length xs) = IsRange-front xs ys from to parts (subst (λ n. from ≤ n) at low) in
    let back : IsRange ys 0 (to - length xs) = IsRange-back xs ys from to parts (subst (λ n. n ≤ to) at high) in
    let one : IsText (between from (length xs) xs) = IsText-between xs from (length xs) first front.ordered front.starts_whole front.ends_whole in
    let two : IsText (between 0 (to - length xs) ys) = IsText-between ys 0 (to - length xs) second back.ordered back.starts_whole back.ends_whole in
    let joined = sym (utf8-append (between from (length xs) xs) (between 0 (to - length xs) ys) one two) in
    let whole_is = ap utf8 (between-across-at (xs ++ ys) xs ys from to (length xs) refl refl (subst (λ n. from ≤ n) at low) (subst (λ n. n ≤ to) at high)) in
    subst (λ us. utf8 (between from seam xs) ++ utf8 (between 0 (to - seam) ys) ≡ utf8 (between from to us)) (sym is)
    (subst (λ n. utf8 (between from n xs) ++ utf8 (between 0 (to - n) ys) ≡ utf8 (between from to (xs ++ ys))) (sym at) (joined ∙ whole_is))

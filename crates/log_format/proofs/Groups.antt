-- How the bytes of a group are made.
use Rattle.std.proofs.Common.{◌≡◌, ℕ, suc, ◌+◌, ◌-◌, ◌≤◌, ◌<◌, ◌^◌, List, [], ◌∷◌, ◌++◌, length, take, drop, get_or, refl, ◌∙◌, sym, ap, arith}
use Rattle.std.proofs.lemmas.List.{append-nil, append_assoc, length-append, take_at, map-append, get_or_default}
use Rattle.std.proofs.Math.Seq.{take-suc}
use Rattle.std.specs.Prelude.{All}
use Rattle.log_format.specs.File.{record_of, entries, payloads_from}
use Rattle.log_format.specs.Frames.{sizes_of, payloads_behind}
use Rattle.log_format.proofs.CallerLemmas.{IsEntries-entries, length-entries, payloads_from-entries, payloads_from-shut}

entries-push : (payloads : List (List ℕ)) (payload : List ℕ) → entries (payloads ++ payload ∷ []) ≡ entries payloads ++ 1 ∷ record_of payload
entries-push [] payload = ap (λ (l : List ℕ). 1 ∷ l) (append-nil (record_of payload))
entries-push (first ∷ payloads) payload =
    ap (λ (l : List ℕ). 1 ∷ l) (ap (λ (l : List ℕ). record_of first ++ l) (entries-push payloads payload) ∙ sym (append_assoc (record_of first) (entries payloads) (1 ∷ record_of payload)))

-- one payload more
take_more : (all : List (List ℕ)) (at : ℕ) → at < length all → take (at + 1) all ≡ take at all ++ get_or all at [] ∷ []
take_more all at within = let next : at + 1 ≡ suc at = omega arith in ap (λ n. take n all) next ∙ take-suc all at [] within

pub bytes_on : (all : List (List ℕ)) (at : ℕ) (bytes next : List ℕ) → at < length all → 1 ∷ bytes ≡ entries (take at all) ++ 1 ∷ []
    → next ≡ bytes ++ (record_of (get_or all at []) ++ 1 ∷ []) → 1 ∷ next ≡ entries (take (at + 1) all) ++ 1 ∷ []
bytes_on all at bytes next within so_far is =
    let record_is = record_of (get_or all at []) in
    let before = entries (take at all) in
    ap (λ (l : List ℕ). 1 ∷ l) is
    ∙ ap (λ (l : List ℕ). l ++ (record_is ++ 1 ∷ [])) so_far
    ∙ append_assoc before (1 ∷ []) (record_is ++ 1 ∷ [])
    ∙ sym (append_assoc before (1 ∷ record_is) (1 ∷ []))
    ∙ ap (λ (l : List ℕ). l ++ 1 ∷ []) (sym (entries-push (take at all) (get_or all at [])))
    ∙ ap (λ (l : List (List ℕ)). entries l ++ 1 ∷ []) (sym (take_more all at within))

pub sizes_on : (all : List (List ℕ)) (at : ℕ) (sizes next : List ℕ) → at < length all → sizes ≡ sizes_of (take at all)
    → next ≡ sizes ++ length (get_or all at []) ∷ [] → next ≡ sizes_of (take (at + 1) all)
sizes_on all at sizes next within so_far is =
    is ∙ ap (λ (l : List ℕ). l ++ length (get_or all at []) ∷ []) so_far
    ∙ sym (map-append (λ (payload : List ℕ). length payload) (take at all) (get_or all at [] ∷ []))
    ∙ ap sizes_of (sym (take_more all at within))

-- the last gate is closed
pub bytes_closed : (payloads : List (List ℕ)) (bytes next : List ℕ) → 1 ≤ length payloads → 1 ∷ bytes ≡ entries payloads ++ 1 ∷ []
    → next ≡ take (length bytes - 1) bytes ++ 0 ∷ [] → 1 ∷ next ≡ entries payloads ++ 0 ∷ []
bytes_closed [] bytes next some shown is = absurd (omega arith)
bytes_closed (first ∷ payloads) bytes next some shown is =
    let inner = record_of first ++ entries payloads in
    let same : bytes ≡ inner ++ 1 ∷ [] = ap (drop 1) shown in
    let size : length bytes - 1 ≡ length inner = omega (arith, ap (λ (l : List ℕ). length l) same, length-append inner (1 ∷ [])) in
    ap (λ (l : List ℕ). 1 ∷ l) (is ∙ ap (λ (l : List ℕ). l ++ 0 ∷ []) (ap (λ n. take n bytes) size ∙ ap (take (length inner)) same ∙ take_at inner (1 ∷ []) (length inner) refl))

-- and the payloads stand behind the gate in front
pub payloads_are : (bytes : List ℕ) (payloads : List (List ℕ)) → 1 ∷ bytes ≡ entries payloads ++ 0 ∷ [] → All (λ payload. length payload < 2 ^ 32) payloads → payloads_behind bytes ≡ payloads
payloads_are bytes payloads are small =
    let is = IsEntries-entries payloads small in
    let size : length bytes ≡ length (entries payloads) = omega (arith, ap (λ (l : List ℕ). length l) are, length-append (entries payloads) (0 ∷ [])) in
    ap (payloads_from (length bytes)) are
    ∙ payloads_from-entries (entries payloads) (0 ∷ []) payloads (length bytes - length payloads) (length bytes) is (omega arith) (omega (arith, size, length-entries (entries payloads) payloads is))
    ∙ ap (λ (l : List (List ℕ)). payloads ++ l) (payloads_from-shut (length bytes - length payloads) (0 ∷ []) refl) ∙ append-nil payloads

-- an element of a list, whatever stands for those that are not there
pub element : (all : List (List ℕ)) (at : ℕ) (payload : List ℕ) → at < length all → payload ≡ get_or all at payload → payload ≡ get_or all at []
element all at payload within is = is ∙ get_or_default all at payload [] within

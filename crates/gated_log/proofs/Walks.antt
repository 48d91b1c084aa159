-- How a walk over the entries of a file begins and goes on.
use Rattle.std.proofs.Common.{◌≡◌, inl, inr, ℕ, ◌+◌, ◌-◌, ◌≤◌, ◌<◌, true, List, [], ◌∷◌, ◌++◌, length, take, drop, get_or, refl, ◌∙◌, sym, ap, subst, arith}
use Rattle.std.proofs.lemmas.List.{append-nil, append_assoc, length-append, length-drop, length-take-le, take-append-drop, drop-drop, drop-take, take_rest, get_or-take, get_or-drop}
use Rattle.std.proofs.lemmas.Bool.{cases_lt, eqb-true, and_parts}
use Rattle.log_format.specs.File.{is_entry, size_at, IsEntries}
use Rattle.log_format.proofs.CallerLemmas.{entries-append, one_entry, length-entry, length-entries}
use Rattle.gated_log.specs.declared.extent.Extent.{Extent}
use Rattle.gated_log.specs.declared.gate.Gate.{Gate}
use Rattle.gated_log.specs.declared.walk.Walk.{Walk}
use Rattle.gated_log.specs.declared.walk.Step.{Step}
use Rattle.gated_log.specs.declared.walk.Step.TheVariants.{On, Last}
use Rattle.gated_log.specs.Extents.{extents}
use Rattle.gated_log.specs.Inside.Walked.{Walked, IsOver, Ends, IsStep, IsAhead, IsGoing, IsLast}

pub walk_begins : (bytes : List ℕ) (from : ℕ) → from < length bytes → Walked bytes from from []
walk_begins bytes from within = record { front = []; is = refl; reaches = omega arith; bytes_are = refl; inside = within }

-- one walk after another
pub walk_then : (bytes : List ℕ) (from mid to : ℕ) (payloads added : List (List ℕ)) → Walked bytes from mid payloads → Walked bytes mid to added → Walked bytes from to (payloads ++ added)
walk_then bytes from mid to payloads added first second = record {
  front = first.front ++ second.front;
  is = entries-append first.front second.front payloads added first.is second.is;
  reaches = omega (arith, first.reaches, second.reaches, length-append first.front second.front);
  bytes_are = first.bytes_are ∙ ap (λ (l : List ℕ). first.front ++ l) second.bytes_are ∙ sym (append_assoc first.front second.front (drop to bytes));
  inside = second.inside;
}

-- an open gate, a length, so many bytes more, and the rest
gate_split : (gate : List ℕ) (size : ℕ) → get_or gate 0 0 ≡ 1 → gate ≡ (1 ∷ (take 4 (drop 1 gate) ++ take size (drop 5 gate))) ++ drop size (drop 5 gate)
gate_split [] size one = absurd (omega arith)
gate_split (byte ∷ rest) size one =
    ap (λ (b : ℕ). b ∷ rest) one
    ∙ ap (λ (l : List ℕ). 1 ∷ l) (sym (take-append-drop 4 rest) ∙ ap (λ (l : List ℕ). take 4 rest ++ l) (sym (take-append-drop size (drop 4 rest)))
    ∙ sym (append_assoc (take 4 rest) (take size (drop 4 rest)) (drop size (drop 4 rest))))

-- over one entry
pub walk_one : (bytes : List ℕ) (gate size : ℕ) → is_entry (drop gate bytes) ≡ true → size ≡ size_at (drop gate bytes)
    → Walked bytes gate (gate + 5 + size) (take size (drop 5 (drop gate bytes)) ∷ [])
walk_one bytes gate size is sized =
    let here = drop gate bytes in
    let payload = take size (drop 5 here) in
    let four = take 4 (drop 1 here) in
    let long : 6 + size_at here ≤ length here = length-entry here is in
    let left : length here ≡ length bytes - gate = length-drop gate bytes in
    let whole : length payload ≡ size = length-take-le size (drop 5 here) (omega (arith, length-drop 5 here)) in
    let head : length four ≡ 4 = length-take-le 4 (drop 1 here) (omega (arith, length-drop 1 here)) in
    record {
      front = 1 ∷ (four ++ payload);
      is = one_entry four payload head (sym sized ∙ sym whole);
      reaches = omega (arith, length-append four payload);
      bytes_are = gate_split here size (eqb-true (get_or here 0 0) 1 (and_parts _ _ is).0)
          ∙ ap (λ (l : List ℕ). (1 ∷ (four ++ payload)) ++ l) (drop-drop size 5 here ∙ drop-drop (5 + size) gate bytes ∙ ap (λ n. drop n bytes) (omega arith));
      inside = omega arith;
    }

-- the index of payloads one after another
pub extents-append : (gate to : ℕ) (front : List ℕ) (payloads added : List (List ℕ)) → IsEntries front payloads → to ≡ gate + length front
    → extents gate (payloads ++ added) ≡ extents gate payloads ++ extents to added
extents-append gate to front [] added is reaches =
    ap (λ n. extents n added) (sym (reaches ∙ omega (arith, ap (λ (l : List ℕ). length l) is)))
extents-append gate to front (payload ∷ payloads) added is reaches =
    ap (λ (l : List Extent). record { place = gate + 5; size = length payload } ∷ l)
    (extents-append (gate + 5 + length payload) to is.1 payloads added is.5
    (omega (arith, reaches, ap length is.4, length-append is.0 (payload ++ is.1), length-append payload is.1, is.2)))

-- over nothing
pub over_begins : (bytes : List ℕ) (from : ℕ) (index : List Extent) → from < length bytes → IsOver bytes from from index index
over_begins bytes from index within = record { payloads = []; walked = walk_begins bytes from within; indexed = sym (append-nil index) }

-- and then over an entry more
pub over_on : (bytes : List ℕ) (from gate size : ℕ) (before after : List Extent) → IsOver bytes from gate before after → is_entry (drop gate bytes) ≡ true
    → size ≡ size_at (drop gate bytes) → IsOver bytes from (gate + (5 + size)) before (after ++ record { place = gate + 5; size = size } ∷ [])
over_on bytes from gate size before after over is sized =
    let payload = take size (drop 5 (drop gate bytes)) in
    let one = walk_one bytes gate size is sized in
    let on : gate + 5 + size ≡ gate + (5 + size) = omega arith in
    let P : ℕ → Type 0 = λ to. Walked bytes from to (over.payloads ++ payload ∷ []) in
    let whole : length payload ≡ size = omega (arith, one.reaches, length-entries one.front (payload ∷ []) one.is) in
    record {
      payloads = over.payloads ++ payload ∷ [];
      walked = subst P on (walk_then bytes from gate (gate + 5 + size) over.payloads (payload ∷ []) over.walked one);
      indexed = ap (λ (l : List Extent). l ++ record { place = gate + 5; size = size } ∷ []) over.indexed
          ∙ append_assoc before (extents from over.payloads) (record { place = gate + 5; size = size } ∷ [])
          ∙ ap (λ (l : List Extent). before ++ l)
          (ap (λ n. extents from over.payloads ++ record { place = gate + 5; size = n } ∷ []) (sym whole)
          ∙ sym (extents-append from gate over.walked.front over.payloads (payload ∷ []) over.walked.is over.walked.reaches));
    }

-- A walk that goes over a piece of a file, which begins at a gate: where it stands.
pub record IsWithin (piece : List ℕ) (from end gate : ℕ) (before after : List Extent) : Type 0 where
  pub inside : gate < end
  pub forward : from ≤ gate
  pub over : (bytes : List ℕ) → length bytes ≡ end → piece ≡ take (length piece) (drop from bytes) → IsOver bytes from gate before after

-- what the piece shows from a gate on
pub shown_is : (piece bytes : List ℕ) (from gate : ℕ) → piece ≡ take (length piece) (drop from bytes) → from ≤ gate → gate - from ≤ length piece
    → take (length piece - (gate - from)) (drop (gate - from) piece) ≡ take (length (take (length piece - (gate - from)) (drop (gate - from) piece))) (drop gate bytes)
shown_is piece bytes from gate is forward within =
    let at = gate - from in
    let more = length piece - at in
    let size : length piece ≡ at + more = omega arith in
    let there : drop at piece ≡ take more (drop gate bytes) =
    ap (drop at) (is ∙ ap (λ n. take n (drop from bytes)) size) ∙ drop-take at more (drop from bytes)
    ∙ ap (take more) (drop-drop at from bytes ∙ ap (λ n. drop n bytes) (omega arith)) in
    rw (take_rest piece at) (there ∙ ap (λ n. take n (drop gate bytes)) (sym (length-drop at piece)))

-- and the byte there
pub byte_shown : (piece bytes : List ℕ) (from gate : ℕ) → piece ≡ take (length piece) (drop from bytes) → from ≤ gate → gate - from < length piece
    → get_or piece (gate - from) 0 ≡ get_or bytes gate 0
byte_shown piece bytes from gate is forward within =
    let back : from + (gate - from) ≡ gate = omega arith in
    ap (λ (l : List ℕ). get_or l (gate - from) 0) is
    ∙ get_or-take (length piece) (drop from bytes) (gate - from) 0 within
    ∙ get_or-drop from bytes (gate - from) 0 ∙ ap (λ n. get_or bytes n 0) back

-- it goes over one entry more
pub within_on : (piece : List ℕ) (from end gate size : ℕ) (before after : List Extent) → IsWithin piece from end gate before after → gate - from ≤ length piece
    → size + 6 ≤ end - gate
    → ((bytes : List ℕ) → take (length piece - (gate - from)) (drop (gate - from) piece) ≡ take (length (take (length piece - (gate - from)) (drop (gate - from) piece))) bytes → end - gate ≡ length bytes → (is_entry bytes ≡ true) × (size ≡ size_at bytes))
    → IsWithin piece from end (gate + (5 + size)) before (after ++ record { place = gate + 5; size = size } ∷ [])
within_on piece from end gate size before after so_far shown fits entry = record {
  inside = omega (arith, so_far.inside);
  forward = omega (arith, so_far.forward);
  over = λ bytes long is.
      let here = entry (drop gate bytes) (shown_is piece bytes from gate is so_far.forward shown) (omega (arith, length-drop gate bytes)) in
      over_on bytes from gate size before after (so_far.over bytes long is) here.0 here.1;
}

-- a walk from the first gate goes on
pub going_on : (bytes now : List ℕ) (most end : ℕ) (walk next : Walk) (before after : List Extent) → IsGoing bytes end walk before → now ≡ bytes
    → IsStep now walk most before after (On next) → IsGoing bytes end next after
going_on bytes now most end walk next before after going same step =
    let over = step.1 in
    let P : List ℕ → Type 0 = λ file. Walked file walk.gate next.gate over.payloads in
    record {
      payloads = going.payloads ++ over.payloads;
      walked = walk_then bytes 8 walk.gate next.gate going.payloads over.payloads going.walked (subst P same over.walked);
      indexed = over.indexed ∙ ap (λ (l : List Extent). l ++ extents walk.gate over.payloads) going.indexed
          ∙ sym (extents-append 8 walk.gate going.walked.front going.payloads over.payloads going.walked.is going.walked.reaches);
      same_end = step.0 ∙ going.same_end;
    }

-- and ends
pub going_ends : (bytes now : List ℕ) (most end : ℕ) (walk : Walk) (gate : Gate) (before after : List Extent) → IsGoing bytes end walk before → now ≡ bytes
    → IsStep now walk most before after (Last gate) → IsLast bytes most after gate
going_ends bytes now most end walk gate before after going same step =
    let over = step.0 in
    let P : List ℕ → Type 0 = λ file. Walked file walk.gate gate.place over.payloads in
    let Q : List ℕ → Type 0 = λ file. Ends file most after gate in
    record {
      payloads = going.payloads ++ over.payloads;
      walked = walk_then bytes 8 walk.gate gate.place going.payloads over.payloads going.walked (subst P same over.walked);
      indexed = over.indexed ∙ ap (λ (l : List Extent). l ++ extents walk.gate over.payloads) going.indexed
          ∙ sym (extents-append 8 walk.gate going.walked.front going.payloads over.payloads going.walked.is going.walked.reaches);
      ends = subst Q same step.1;
    }

-- where it begins
pub going_begins : (bytes : List ℕ) (walk : Walk) (index : List Extent) → walk.gate ≡ 8 → walk.end ≡ length bytes → 8 < length bytes → index ≡ [] → IsGoing bytes (length bytes) walk index
going_begins bytes walk index at ends long fresh =
    let P : ℕ → Type 0 = λ gate. Walked bytes 8 gate [] in
    record { payloads = []; walked = subst P (sym at) (walk_begins bytes 8 long); indexed = fresh; same_end = ends }

-- what a file shows behind its magic, by a piece from its beginning on
pub shown_behind : (piece bytes : List ℕ) (count : ℕ) → 8 ≤ count → count ≤ length piece → take count piece ≡ take count bytes
    → take (count - 8) (drop 8 piece) ≡ take (length (take (count - 8) (drop 8 piece))) (drop 8 bytes)
shown_behind piece bytes count long within same =
    let size : count ≡ 8 + (count - 8) = omega arith in
    let whole : length (take (count - 8) (drop 8 piece)) ≡ count - 8 = length-take-le (count - 8) (drop 8 piece) (omega (arith, length-drop 8 piece)) in
    sym (drop-take 8 (count - 8) piece) ∙ ap (λ n. drop 8 (take n piece)) (sym size) ∙ ap (drop 8) same ∙ ap (λ n. drop 8 (take n bytes)) size
    ∙ drop-take 8 (count - 8) bytes ∙ ap (λ n. take n (drop 8 bytes)) (sym whole)

-- a step over a piece that is shorter than the buffer where the file ends there
pub ahead_on : (walk inner : Walk) (size buffer : ℕ) (step : Step) → inner.gate ≡ walk.gate → inner.end ≤ walk.end → size ≤ buffer → 5 ≤ buffer
    → (size < buffer → inner.end ≡ walk.gate + size) → IsAhead inner size step → IsAhead walk buffer step
ahead_on walk inner size buffer (On next) same shorter few five ends ahead = elim (cases_lt size buffer) [
  | inl less ↦ absurd (elim ahead.4 [
    | inl more ↦ omega (arith, ends less, more, ahead.1, ahead.2, same)
    | inr past ↦ omega (arith, ends less, past, ahead.0.inside, ahead.2, same)
  ])
  | inr full ↦ (
    ahead.0,
    omega (arith, ahead.1, same),
    omega (arith, ahead.2),
    five,
    elim ahead.4 [
      | inl more ↦ inl more
      | inr past ↦ inr (omega (arith, past, same))
    ],
  )
]
ahead_on walk inner size buffer (Last gate) same shorter few five ends ahead = tt

-- Lemmas on entries one after another, and on what a file of them opens as: what the proofs of the layers above cite.
use Rattle.std.proofs.Common.{◌≡◌, ◌≢◌, ◌⊎◌, inl, inr, ℕ, zero, suc, ◌+◌, ◌-◌, ◌*◌, ◌≤◌, ◌<◌, ◌^◌, List, [], ◌∷◌, ◌++◌, length, take, drop, true, false, Some, None, if◌then◌else◌, bytes_eq, get_or, min, refl, ◌∙◌, sym, ap, subst, arith}
use Rattle.std.proofs.lemmas.List.{append-nil, append_assoc, length-append, length-drop, length-take, length-take-le, drop-take, take-take, get_or-take, take_at, drop_at, nil_from_length}
use Rattle.std.proofs.lemmas.List.Sums.{sum_by-cons}
use Rattle.std.proofs.lemmas.Bool.{cases_Bool, cases_lt, eqb-true, and_left, and_parts, ne_eqb, leb-true, le-leb, lt-leb, cond-true, cond-false}
use Rattle.std.proofs.lemmas.Bool.Decides.{nat_tests}
use Rattle.std.proofs.lemmas.Slice.Eq.{bytes_eq-Decides}
use Rattle.std.proofs.lemmas.Nat.{from_be_bytes-to_be_bytes_4}
use Rattle.std.specs.Int.{w32, to_be_bytes, from_be_bytes}
use Rattle.std.specs.Prelude.{All, nat_le, sum_by, slice_get}
use Rattle.log_format.specs.File.{is_entry, payloads_from, last_from, size_at, IsEntries, opens, doubt_of, file, record_of, entries}
use Rattle.log_format.specs.declared.frame.TheConstants.{LONGEST_PAYLOAD}
use Rattle.log_format.specs.Frame.{IsFrame}
use Rattle.log_format.specs.Frames.{size_of, IsGroup}
use Rattle.log_format.specs.Form.{magic_of, most_bytes_of}
use Rattle.log_format.specs.declared.form.TheConstants.{MOST_BYTES_TWO}
use Rattle.log_format.specs.declared.form.Form.{Form}
use Rattle.log_format.specs.declared.form.Form.TheVariants.{One, Two}

-- what stands from an open gate on, where one more byte follows
size_at-entry : (size payload rest : List ℕ) → length size ≡ 4 → from_be_bytes w32 size ≡ length payload → size_at (1 ∷ (size ++ (payload ++ rest))) ≡ length payload
size_at-entry size payload rest four is = ap (from_be_bytes w32) (take_at size (payload ++ rest) 4 four) ∙ is

drop-entry : (size payload rest : List ℕ) → length size ≡ 4 → drop (5 + length payload) (1 ∷ (size ++ (payload ++ rest))) ≡ rest
drop-entry size payload rest four =
    ap (drop (5 + length payload)) (sym (ap (λ (l : List ℕ). 1 ∷ l) (append_assoc size payload rest)))
    ∙ drop_at (1 ∷ (size ++ payload)) rest (5 + length payload) (omega (arith, length-append size payload))

take-entry : (size payload rest : List ℕ) → length size ≡ 4 → take (length payload) (drop 5 (1 ∷ (size ++ (payload ++ rest)))) ≡ payload
take-entry size payload rest four =
    ap (take (length payload)) (drop_at size (payload ++ rest) 4 four) ∙ take_at payload rest (length payload) refl

pub is_entry-entry : (size payload rest : List ℕ) → length size ≡ 4 → from_be_bytes w32 size ≡ length payload → 1 ≤ length rest → is_entry (1 ∷ (size ++ (payload ++ rest))) ≡ true
is_entry-entry size payload rest four is more = rw (size_at-entry size payload rest four is) (grind (arith, nat_tests, length-append {A = ℕ}))

pub payloads_from-entry : (size payload rest : List ℕ) (most : ℕ) → length size ≡ 4 → from_be_bytes w32 size ≡ length payload → 1 ≤ length rest
    → payloads_from (suc most) (1 ∷ (size ++ (payload ++ rest))) ≡ payload ∷ payloads_from most rest
payloads_from-entry size payload rest most four is more =
    rw (is_entry-entry size payload rest four is more, size_at-entry size payload rest four is, take-entry size payload rest four, drop-entry size payload rest four) refl

last_from-entry : (size payload rest : List ℕ) (most : ℕ) → length size ≡ 4 → from_be_bytes w32 size ≡ length payload → 1 ≤ length rest
    → last_from (suc most) (1 ∷ (size ++ (payload ++ rest))) ≡ last_from most rest
last_from-entry size payload rest most four is more =
    rw (is_entry-entry size payload rest four is more, size_at-entry size payload rest four is, drop-entry size payload rest four) refl

-- the first of these entries, with all that stands behind it
pub front-first : (front size payload behind rest : List ℕ) → front ≡ 1 ∷ (size ++ (payload ++ behind)) → front ++ rest ≡ 1 ∷ (size ++ (payload ++ (behind ++ rest)))
front-first front size payload behind rest is =
    ap (λ (l : List ℕ). l ++ rest) is ∙ ap (λ (l : List ℕ). 1 ∷ l) (append_assoc size (payload ++ behind) rest ∙ ap (λ (l : List ℕ). size ++ l) (append_assoc payload behind rest))

-- entries one after another, and then what stands behind them
pub payloads_from-entries : (front rest : List ℕ) (payloads : List (List ℕ)) (most turns : ℕ) → IsEntries front payloads → 1 ≤ length rest
    → turns ≡ length payloads + most → payloads_from turns (front ++ rest) ≡ payloads ++ payloads_from most rest
payloads_from-entries front rest [] most turns is more count = let same : turns ≡ most = omega arith in rw (is, same) refl
payloads_from-entries front rest (payload ∷ payloads) most zero is more count = absurd (omega arith)
payloads_from-entries front rest (payload ∷ payloads) most (suc turns) is more count =
    let fewer : turns ≡ length payloads + most = omega arith in
    ap (payloads_from (suc turns)) (front-first front is.0 payload is.1 rest is.4)
    ∙ payloads_from-entry is.0 payload (is.1 ++ rest) turns is.2 is.3 (omega (arith, length-append is.1 rest))
    ∙ ap (λ (l : List (List ℕ)). payload ∷ l) (payloads_from-entries is.1 rest payloads most turns is.5 more fewer)

pub last_from-entries : (front rest : List ℕ) (payloads : List (List ℕ)) (most turns : ℕ) → IsEntries front payloads → 1 ≤ length rest
    → turns ≡ length payloads + most → last_from turns (front ++ rest) ≡ last_from most rest
last_from-entries front rest [] most turns is more count = let same : turns ≡ most = omega arith in rw (is, same) refl
last_from-entries front rest (payload ∷ payloads) most zero is more count = absurd (omega arith)
last_from-entries front rest (payload ∷ payloads) most (suc turns) is more count =
    let fewer : turns ≡ length payloads + most = omega arith in
    ap (last_from (suc turns)) (front-first front is.0 payload is.1 rest is.4)
    ∙ last_from-entry is.0 payload (is.1 ++ rest) turns is.2 is.3 (omega (arith, length-append is.1 rest))
    ∙ last_from-entries is.1 rest payloads most turns is.5 more fewer

-- each entry has five bytes and its payload
pub length-entries : (front : List ℕ) (payloads : List (List ℕ)) → IsEntries front payloads → length front ≡ 5 * length payloads + sum_by (λ (payload : List ℕ). length payload) payloads
length-entries front [] is = rw is refl
length-entries front (payload ∷ payloads) is =
    omega (
      arith,
      ap length is.4,
      length-append is.0 (payload ++ is.1),
      length-append payload is.1,
      length-entries is.1 payloads is.5,
      sum_by-cons (λ (payload : List ℕ). length payload) payload payloads,
    )

-- entries and then entries
pub entries-append : (front more : List ℕ) (payloads added : List (List ℕ)) → IsEntries front payloads → IsEntries more added → IsEntries (front ++ more) (payloads ++ added)
entries-append front more [] added is and = let P : List ℕ → Type 0 = λ f. IsEntries (f ++ more) added in subst P (sym is) and
entries-append front more (payload ∷ payloads) added is and =
    (is.0, is.1 ++ more, is.2, is.3, front-first front is.0 payload is.1 more is.4, entries-append is.1 more payloads added is.5 and)

-- one entry
pub one_entry : (size payload : List ℕ) → length size ≡ 4 → from_be_bytes w32 size ≡ length payload → IsEntries (1 ∷ (size ++ payload)) (payload ∷ [])
one_entry size payload four is = (size, [], four, is, ap (λ (l : List ℕ). 1 ∷ (size ++ l)) (sym (append-nil payload)), refl)

-- the entry of an index, with those before it and those behind
pub record IsSplit (front : List ℕ) (payloads : List (List ℕ)) (index : ℕ) : Type 0 where
  pub before : List ℕ
  pub size : List ℕ
  pub payload : List ℕ
  pub behind : List ℕ
  pub is : IsEntries before (take index payloads)
  pub found : slice_get payloads index ≡ Some payload
  pub four : length size ≡ 4
  pub sized : from_be_bytes w32 size ≡ length payload
  pub front_is : front ≡ before ++ 1 ∷ (size ++ (payload ++ behind))

pub entries_split : (front : List ℕ) (payloads : List (List ℕ)) (index : ℕ) → IsEntries front payloads → index < length payloads → IsSplit front payloads index
entries_split front [] index is within = absurd (omega arith)
entries_split front (payload ∷ payloads) zero is within =
    record { before = []; size = is.0; payload = payload; behind = is.1; is = refl; found = refl; four = is.2; sized = is.3; front_is = is.4 }
entries_split front (payload ∷ payloads) (suc index) is within =
    let later = entries_split is.1 payloads index is.5 (omega arith) in
    record {
      before = 1 ∷ (is.0 ++ (payload ++ later.before));
      size = later.size;
      payload = later.payload;
      behind = later.behind;
      is = (is.0, later.before, is.2, is.3, refl, later.is);
      found = later.found;
      four = later.four;
      sized = later.sized;
      front_is = is.4 ∙ ap (λ (l : List ℕ). 1 ∷ (is.0 ++ (payload ++ l))) later.front_is
          ∙ sym (front-first (1 ∷ (is.0 ++ (payload ++ later.before))) is.0 payload later.before (1 ∷ (later.size ++ (later.payload ++ later.behind))) refl);
    }

-- nothing opens behind a gate that is no entry's
pub payloads_from-shut : (most : ℕ) (gate : List ℕ) → is_entry gate ≡ false → payloads_from most gate ≡ []
payloads_from-shut zero gate shut = refl
payloads_from-shut (suc most) gate shut = rw shut refl

pub last_from-shut : (most : ℕ) (gate : List ℕ) → is_entry gate ≡ false → last_from most gate ≡ gate
last_from-shut zero gate shut = refl
last_from-shut (suc most) gate shut = rw shut refl

-- an entry has six bytes at least
pub length-entry : (gate : List ℕ) → is_entry gate ≡ true → 6 + size_at gate ≤ length gate
length-entry gate is = leb-true _ _ (and_parts _ _ is).1

-- an empty list has no entry
no_entry : (gate : List ℕ) → length gate ≤ 0 → is_entry gate ≡ false
no_entry [] short = refl
no_entry (byte ∷ rest) short = absurd (omega arith)

-- once there are as many turns as bytes, more change nothing
pub turns_enough : (most more : ℕ) (gate : List ℕ) → length gate ≤ most → length gate ≤ more → payloads_from most gate ≡ payloads_from more gate
turns_enough zero more gate h k = sym (payloads_from-shut more gate (no_entry gate h))
turns_enough (suc most) zero gate h k = payloads_from-shut (suc most) gate (no_entry gate k)
turns_enough (suc most) (suc more) gate h k = elim (cases_Bool (is_entry gate)) [
  | inl is ↦
      let long : 6 + size_at gate ≤ length gate = length-entry gate is in
      let left : length (drop (5 + size_at gate) gate) ≡ length gate - (5 + size_at gate) = length-drop (5 + size_at gate) gate in
      rw is (ap (λ (l : List (List ℕ)). take (size_at gate) (drop 5 gate) ∷ l) (turns_enough most more (drop (5 + size_at gate) gate) (omega arith) (omega arith)))
  | inr shut ↦ payloads_from-shut (suc most) gate shut ∙ sym (payloads_from-shut (suc more) gate shut)
]

-- a gate that is not open is no entry's
pub shut_gate : (byte : ℕ) (rest : List ℕ) → byte ≢ 1 → is_entry (byte ∷ rest) ≡ false
shut_gate byte rest other = and_left _ _ (ne_eqb byte 1 other)

-- a file of ten bytes or more that begins with the magic
pub opens-long : (magic rest : List ℕ) → length magic ≡ 8 → 2 ≤ length rest → opens magic (magic ++ rest) ≡ Some (payloads_from (8 + length rest) rest)
opens-long magic rest eight long =
    let size : length (magic ++ rest) ≡ 8 + length rest = omega (arith, length-append magic rest) in
    cond-false _ _ _ (lt-leb (length (magic ++ rest)) 9 (omega arith))
    ∙ cond-true _ _ _ ((bytes_eq-Decides (take 8 (magic ++ rest)) magic).1 (take_at magic rest 8 eight))
    ∙ rw (size, drop_at magic rest 8 eight) refl

-- a file of entries, and then what stands behind them
pub opens-entries : (magic front rest : List ℕ) (payloads : List (List ℕ)) → length magic ≡ 8 → IsEntries front payloads → 1 ≤ length rest
    → 2 ≤ length front + length rest → opens magic (magic ++ (front ++ rest)) ≡ Some (payloads ++ payloads_from (length rest) rest)
opens-entries magic front rest payloads eight is more long =
    let size : length (front ++ rest) ≡ length front + length rest = length-append front rest in
    let few : 5 * length payloads ≤ length front = omega (arith, length-entries front payloads is) in
    let turns = 8 + length (front ++ rest) in
    opens-long magic (front ++ rest) eight (omega arith)
    ∙ ap Some (payloads_from-entries front rest payloads (turns - length payloads) turns is more (omega arith)
    ∙ ap (λ (l : List (List ℕ)). payloads ++ l) (turns_enough (turns - length payloads) (length rest) rest (omega arith) (omega arith)))

-- entries behind open gates, and then a gate that is no entry's
pub opens-shut : (magic front rest : List ℕ) (payloads : List (List ℕ)) → length magic ≡ 8 → IsEntries front payloads → 1 ≤ length rest
    → is_entry rest ≡ false → opens magic (magic ++ (front ++ rest)) ≡ Some payloads
opens-shut magic front rest payloads eight is more shut = elim (cases_lt 1 (length front + length rest)) [
  | inl long ↦
      opens-entries magic front rest payloads eight is more long
      ∙ ap Some (ap (λ (l : List (List ℕ)). payloads ++ l) (payloads_from-shut (length rest) rest shut) ∙ append-nil payloads)
  | inr short ↦
      let size : length (magic ++ (front ++ rest)) ≡ length magic + (length front + length rest) =
      length-append magic (front ++ rest) ∙ ap (λ n. length magic + n) (length-append front rest) in
      let few : 5 * length payloads ≤ length front = omega (arith, length-entries front payloads is) in
      let none : payloads ≡ [] = nil_from_length payloads (omega arith) in
      cond-true _ _ _ (le-leb (length (magic ++ (front ++ rest))) 9 (omega arith)) ∙ ap Some (sym none)
]

-- what would follow, were the gate in front of these bytes open
abbrev pub behind : List ℕ → List (List ℕ)
behind rest = payloads_from (suc (length rest)) (1 ∷ rest)

-- whatever the byte of the last gate is, the file opens as the entries before it, or as what stands behind it too
pub opens_either : (magic front : List ℕ) (byte : ℕ) (rest : List ℕ) (payloads : List (List ℕ)) → length magic ≡ 8 → IsEntries front payloads
    → (opens magic (magic ++ (front ++ byte ∷ rest)) ≡ Some payloads) ⊎ (opens magic (magic ++ (front ++ byte ∷ rest)) ≡ Some (payloads ++ behind rest))
opens_either magic front byte rest payloads eight is = elim (cases_Bool (is_entry (byte ∷ rest))) [
  | inl entry ↦
      let long : 6 + size_at (byte ∷ rest) ≤ length (byte ∷ rest) = length-entry (byte ∷ rest) entry in
      let one : byte ≡ 1 = eqb-true byte 1 (and_parts _ _ entry).0 in
      inr (opens-entries magic front (byte ∷ rest) payloads eight is (omega arith) (omega arith)
      ∙ ap (λ (b : ℕ). Some (payloads ++ payloads_from (suc (length rest)) (b ∷ rest))) one)
  | inr shut ↦ inl (opens-shut magic front (byte ∷ rest) payloads eight is (omega arith) shut)
]

-- the last gate
pub last_is : (magic front : List ℕ) (byte : ℕ) (rest : List ℕ) (payloads : List (List ℕ)) (turns : ℕ) → length magic ≡ 8 → IsEntries front payloads
    → is_entry (byte ∷ rest) ≡ false → length front ≤ turns → last_from turns (drop 8 (magic ++ (front ++ byte ∷ rest))) ≡ byte ∷ rest
last_is magic front byte rest payloads turns eight is shut enough =
    let few : 5 * length payloads ≤ length front = omega (arith, length-entries front payloads is) in
    ap (last_from turns) (drop_at magic (front ++ byte ∷ rest) 8 eight)
    ∙ last_from-entries front (byte ∷ rest) payloads (turns - length payloads) turns is (omega arith) (omega arith)
    ∙ last_from-shut (turns - length payloads) (byte ∷ rest) shut

length-file : (magic front : List ℕ) (byte : ℕ) (rest : List ℕ) → length (magic ++ (front ++ byte ∷ rest)) ≡ length magic + length front + suc (length rest)
length-file magic front byte rest =
    length-append magic (front ++ byte ∷ rest) ∙ ap (λ n. length magic + n) (length-append front (byte ∷ rest)) ∙ omega arith

-- nothing is doubtful behind a closed gate
pub doubt_of-closed : (magic front rest : List ℕ) (payloads : List (List ℕ)) → length magic ≡ 8 → IsEntries front payloads
    → doubt_of (magic ++ (front ++ 0 ∷ rest)) ≡ []
doubt_of-closed magic front rest payloads eight is =
    let size = length-file magic front 0 rest in
    let bytes = magic ++ (front ++ 0 ∷ rest) in
    let last : last_from (length bytes) (drop 8 bytes) ≡ 0 ∷ rest = last_is magic front 0 rest payloads (length bytes) eight is refl (omega arith) in
    elim (cases_Bool (nat_le (length bytes) 9)) [
      | inl short ↦ cond-true _ _ _ short
      | inr long ↦ cond-false _ _ _ long ∙ rw last refl
    ]

-- behind a last gate that is neither closed nor an entry's stands what is doubtful
pub doubt_of-torn : (magic front : List ℕ) (byte : ℕ) (rest : List ℕ) (payloads : List (List ℕ)) → length magic ≡ 8 → IsEntries front payloads
    → is_entry (byte ∷ rest) ≡ false → byte ≢ 0 → doubt_of (magic ++ (front ++ byte ∷ rest)) ≡ behind rest
doubt_of-torn magic front byte rest payloads eight is shut torn =
    let size = length-file magic front byte rest in
    let bytes = magic ++ (front ++ byte ∷ rest) in
    let last : last_from (length bytes) (drop 8 bytes) ≡ byte ∷ rest = last_is magic front byte rest payloads (length bytes) eight is shut (omega arith) in
    elim (cases_Bool (nat_le (length bytes) 9)) [
      | inl short ↦
          let nine : length bytes ≤ 9 = leb-true _ _ short in
          let none : rest ≡ [] = nil_from_length rest (omega arith) in
          cond-true _ _ _ short ∙ rw none refl
      | inr long ↦ cond-false _ _ _ long ∙ rw last (cond-false _ _ _ (ne_eqb byte 0 torn) ∙ turns_enough (length bytes) (suc (length rest)) (1 ∷ rest) (omega arith) (omega arith))
    ]

-- the entries of a list
pub IsEntries-entries : (payloads : List (List ℕ)) → All (λ payload. length payload < 2 ^ 32) payloads → IsEntries (entries payloads) payloads
IsEntries-entries [] small = refl
IsEntries-entries (payload ∷ payloads) small = (
  to_be_bytes w32 (length payload),
  entries payloads,
  refl,
  from_be_bytes-to_be_bytes_4 (length payload) (small 0 payload (omega arith)),
  ap (λ (l : List ℕ). 1 ∷ l) (append_assoc (to_be_bytes w32 (length payload)) payload (entries payloads)),
  IsEntries-entries payloads (λ k d h. small (suc k) d (omega arith)),
)

-- the file of a list opens as that list
pub opens-file : (magic : List ℕ) (payloads : List (List ℕ)) → length magic ≡ 8 → All (λ payload. length payload < 2 ^ 32) payloads
    → opens magic (file magic payloads) ≡ Some payloads
opens-file magic payloads eight small = opens-shut magic (entries payloads) (0 ∷ []) payloads eight (IsEntries-entries payloads small) (omega arith) refl

-- with its last gate open, a file opens as what it opened as and its doubt
pub doubt_of-opens : (magic front rest : List ℕ) (byte : ℕ) (payloads : List (List ℕ)) → length magic ≡ 8 → IsEntries front payloads
    → is_entry (byte ∷ rest) ≡ false → byte ≢ 0 → 1 ≤ length front + length rest
    → opens magic (magic ++ (front ++ 1 ∷ rest)) ≡ Some (payloads ++ doubt_of (magic ++ (front ++ byte ∷ rest)))
doubt_of-opens magic front rest byte payloads eight is shut torn long =
    opens-entries magic front (1 ∷ rest) payloads eight is (omega arith) (omega arith)
    ∙ ap (λ (added : List (List ℕ)). Some (payloads ++ added)) (sym (doubt_of-torn magic front byte rest payloads eight is shut torn))

-- a magic has eight bytes
pub length-magic : (form : Form) → length (magic_of form) ≡ 8
length-magic One = refl
length-magic Two = refl

-- form Two allows the longest files
pub most_bytes_two : (form : Form) → most_bytes_of form ≤ MOST_BYTES_TWO
most_bytes_two One = omega arith
most_bytes_two Two = omega arith

-- a list of one payload within the bound
one_small : (payload : List ℕ) → length payload ≤ LONGEST_PAYLOAD → All (λ payload. length payload ≤ LONGEST_PAYLOAD) (payload ∷ [])
one_small payload small zero d within = small
one_small payload small (suc k) d within = absurd (omega arith)

-- a group behind an open gate is the entries of its payloads, and a closed gate
pub group_small : (bytes : List ℕ) (payloads : List (List ℕ)) → IsGroup bytes payloads → All (λ payload. length payload < 2 ^ 32) payloads
group_small bytes payloads group = λ k d within. omega (arith, group.few.small k d within)

pub group_entries : (bytes : List ℕ) (payloads : List (List ℕ)) → IsGroup bytes payloads → IsEntries (entries payloads) payloads
group_entries bytes payloads group = IsEntries-entries payloads (group_small bytes payloads group)

pub group_size : (bytes : List ℕ) (payloads : List (List ℕ)) → IsGroup bytes payloads → length bytes ≡ length (entries payloads)
group_size bytes payloads group = omega (arith, ap (λ (l : List ℕ). length l) group.bytes_are, length-append (entries payloads) (0 ∷ []))

-- so it is as long as they are
pub length-group : (bytes : List ℕ) (payloads : List (List ℕ)) → IsGroup bytes payloads → length bytes ≡ 5 * length payloads + size_of payloads
length-group bytes payloads group =
    omega (arith, ap (λ (l : List ℕ). length l) group.bytes_are, length-append (entries payloads) (0 ∷ []), length-entries (entries payloads) payloads (group_entries bytes payloads group))

-- a frame is a group of one
pub frame_group : (bytes payload : List ℕ) → IsFrame bytes payload → IsGroup bytes (payload ∷ [])
frame_group bytes payload frame = record {
  bytes_are = ap (λ (l : List ℕ). 1 ∷ l) (frame.bytes_are ∙ ap (λ (l : List ℕ). l ++ 0 ∷ []) (sym (append-nil (record_of payload))));
  few = record { some = omega arith; few = omega arith; small = one_small payload frame.small };
}

-- the front of an entry that is one
front_entry : (gate : List ℕ) (size : ℕ) → is_entry (take size gate) ≡ true
    → (size_at (take size gate) ≡ size_at gate) × (6 + size_at gate ≤ size) × (is_entry gate ≡ true)
front_entry gate size is =
    let cut = take size gate in
    let long : 6 + size_at cut ≤ length cut = length-entry cut is in
    let short : length cut ≡ min size (length gate) = length-take size gate in
    let split : size ≡ 1 + (size - 1) = omega arith in
    let head : drop 1 cut ≡ take (size - 1) (drop 1 gate) = ap (λ n. drop 1 (take n gate)) split ∙ drop-take 1 (size - 1) gate in
    let same : size_at cut ≡ size_at gate = ap (λ (l : List ℕ). from_be_bytes w32 (take 4 l)) head ∙ ap (from_be_bytes w32) (take-take 4 (size - 1) (drop 1 gate) (omega arith)) in
    let opened : get_or gate 0 0 ≡ 1 = sym (get_or-take size gate 0 0 (omega arith)) ∙ eqb-true (get_or cut 0 0) 1 (and_parts _ _ is).0 in (
      same,
      omega arith,
      rw (opened, le-leb (6 + size_at gate) (length gate) (omega arith)) refl,
    )

-- the front of a file of entries opens as the first of them
payloads_from-front : (most more : ℕ) (gate : List ℕ) (size : ℕ) → length gate ≤ most → (count : ℕ) × (payloads_from more (take size gate) ≡ take count (payloads_from most gate))
payloads_from-front most zero gate size enough = (0, refl)
payloads_from-front zero (suc more) gate size enough =
    (0, payloads_from-shut (suc more) (take size gate) (no_entry (take size gate) (omega (arith, length-take size gate))))
payloads_from-front (suc most) (suc more) gate size enough = elim (cases_Bool (is_entry (take size gate))) [
  | inl is ↦
      let front = front_entry gate size is in
      let n = size_at gate in
      let long : 6 + n ≤ length gate = length-entry gate front.2 in
      let five : size ≡ 5 + (size - 5) = omega (arith, front.1) in
      let next : size ≡ (5 + n) + (size - (5 + n)) = omega (arith, front.1) in
      let payload : take n (drop 5 (take size gate)) ≡ take n (drop 5 gate) =
      ap (take n) (ap (λ m. drop 5 (take m gate)) five ∙ drop-take 5 (size - 5) gate) ∙ take-take n (size - 5) (drop 5 gate) (omega (arith, front.1)) in
      let rest : drop (5 + n) (take size gate) ≡ take (size - (5 + n)) (drop (5 + n) gate) = ap (λ m. drop (5 + n) (take m gate)) next ∙ drop-take (5 + n) (size - (5 + n)) gate in
      let later = payloads_from-front most more (drop (5 + n) gate) (size - (5 + n)) (omega (arith, length-drop (5 + n) gate)) in (
        suc later.0,
        rw (is, front.0, front.2) (ap (λ (l : List ℕ). l ∷ payloads_from more (drop (5 + n) (take size gate))) payload
            ∙ ap (λ (l : List ℕ). take n (drop 5 gate) ∷ payloads_from more l) rest ∙ ap (λ (l : List (List ℕ)). take n (drop 5 gate) ∷ l) later.1),
      )
  | inr shut ↦ (0, payloads_from-shut (suc more) (take size gate) shut)
]

-- a file of ten bytes or more that opens
opens_parts : (magic bytes : List ℕ) (payloads : List (List ℕ)) → 9 < length bytes → opens magic bytes ≡ Some payloads
    → (take 8 bytes ≡ magic) × (payloads_from (length bytes) (drop 8 bytes) ≡ payloads)
opens_parts magic bytes payloads long opened =
    let all = payloads_from (length bytes) (drop 8 bytes) in
    let begins : (if bytes_eq (take 8 bytes) magic then Some all else None) ≡ Some payloads = sym (cond-false _ _ _ (lt-leb (length bytes) 9 long)) ∙ opened in
    elim (cases_Bool (bytes_eq (take 8 bytes) magic)) [
      | inl same ↦ let are : Some all ≡ Some payloads = sym (cond-true _ _ _ same) ∙ begins in ((bytes_eq-Decides (take 8 bytes) magic).0 same, cc)
      | inr other ↦ let none : None ≡ Some payloads = sym (cond-false _ _ _ other) ∙ begins in absurd (cc)
    ]

-- the front of a file opens as the first of its payloads
pub opens-front : (magic bytes : List ℕ) (payloads : List (List ℕ)) (size : ℕ) → length magic ≡ 8 → opens magic bytes ≡ Some payloads
    → (count : ℕ) × (opens magic (take size bytes) ≡ Some (take count payloads))
opens-front magic bytes payloads size eight opened = elim (cases_lt 9 (length (take size bytes))) [
  | inl long ↦
      let short : length (take size bytes) ≡ min size (length bytes) = length-take size bytes in
      let parts = opens_parts magic bytes payloads (omega arith) opened in
      let split : size ≡ 8 + (size - 8) = omega arith in
      let rest : drop 8 (take size bytes) ≡ take (size - 8) (drop 8 bytes) = ap (λ n. drop 8 (take n bytes)) split ∙ drop-take 8 (size - 8) bytes in
      let front = payloads_from-front (length bytes) (length (take size bytes)) (drop 8 bytes) (size - 8) (omega (arith, length-drop 8 bytes)) in (
        front.0,
        cond-false _ _ _ (lt-leb (length (take size bytes)) 9 long)
            ∙ cond-true _ _ _ ((bytes_eq-Decides (take 8 (take size bytes)) magic).1 (take-take 8 size bytes (omega arith) ∙ parts.0))
            ∙ ap Some (ap (payloads_from (length (take size bytes))) rest ∙ front.1 ∙ ap (take front.0) parts.1),
      )
  | inr few ↦ (0, cond-true _ _ _ (le-leb (length (take size bytes)) 9 (omega arith)))
]

-- what opens from a gate on has no more bytes than stand there, the last gate apart
payloads_from-size : (most : ℕ) (gate : List ℕ) → 1 ≤ length gate → 1 + 5 * length (payloads_from most gate) + size_of (payloads_from most gate) ≤ length gate
payloads_from-size zero gate some = some
payloads_from-size (suc most) gate some = elim (cases_Bool (is_entry gate)) [
  | inl is ↦
      let long : 6 + size_at gate ≤ length gate = length-entry gate is in
      let next = drop (5 + size_at gate) gate in
      let left : length next ≡ length gate - (5 + size_at gate) = length-drop (5 + size_at gate) gate in
      let payload = take (size_at gate) (drop 5 gate) in
      let size : length payload ≡ size_at gate = length-take-le (size_at gate) (drop 5 gate) (omega (arith, long, length-drop 5 gate)) in
      let behind = payloads_from-size most next (omega (arith, long, left)) in
      rw is (omega (arith, long, left, size, behind, sum_by-cons (λ (payload : List ℕ). length payload) payload (payloads_from most next)))
  | inr shut ↦ rw (payloads_from-shut (suc most) gate shut) some
]

-- the file of a list has no more bytes than one that opens as it, or has the nine of a log without entries
pub opens-size : (magic bytes : List ℕ) (payloads : List (List ℕ)) → opens magic bytes ≡ Some payloads
    → 9 + 5 * length payloads + size_of payloads ≤ 9 + (length bytes - 9)
opens-size magic bytes payloads opened = elim (cases_lt 9 (length bytes)) [
  | inl long ↦
      let parts = opens_parts magic bytes payloads long opened in
      let size = payloads_from-size (length bytes) (drop 8 bytes) (omega (arith, long, length-drop 8 bytes)) in
      omega (arith, long, length-drop 8 bytes, size, ap (λ (l : List (List ℕ)). length l) parts.1, ap size_of parts.1)
  | inr few ↦
      let none : Some [] ≡ Some payloads = sym (cond-true _ _ _ (le-leb (length bytes) 9 few)) ∙ opened in
      let same : [] ≡ payloads = cc in
      omega (arith, ap (λ (l : List (List ℕ)). length l) same, ap size_of same)
]

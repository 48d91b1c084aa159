-- What a load finds in a file, and its damage.
use Rattle.std.proofs.Common.{◌≡◌, ◌≢◌, ℕ, ◌+◌, ◌≤◌, ◌<◌, Bool, true, false, List, [], ◌∷◌, ◌++◌, length, take, drop, Option, Some, None, bytes_eq, refl, ◌∙◌, sym, ap, subst, arith}
use Rattle.std.proofs.lemmas.List.{length-append, length-drop, take-append-drop, take-take, take_all, drop_more}
use Rattle.std.proofs.lemmas.Bool.{and_right, cond-true, cond-false, le-leb, lt-leb}
use Rattle.std.specs.Prelude.{◌==◌, ◌&&◌, not, slice_index, string_bytes}
use Rattle.disk_volume.specs.Disk.{Disk, File, file_at, at_rest, reads, AtRest}
use Rattle.log_format.specs.declared.damage.Damage.TheVariants.{Magic, Many}
use Rattle.log_format.specs.declared.form.Form.{Form}
use Rattle.log_format.specs.declared.form.Form.TheVariants.{One, Two}
use Rattle.log_format.specs.Damages.{damage_opened, damage_of}
use Rattle.log_format.specs.File.{is_entry, size_at, opens, payloads_from, last_from, IsEntries}
use Rattle.log_format.specs.Form.{magic_of, most_entries_of, most_bytes_of}
use Rattle.log_format.proofs.CallerLemmas.{length-entries, length-magic, last_from-shut, last_is, opens-entries, opens-shut}
use Rattle.gated_log.specs.declared.extent.Extent.{Extent}
use Rattle.gated_log.specs.declared.gate.Gate.{Gate}
use Rattle.gated_log.specs.declared.loading.Found.{Found}
use Rattle.gated_log.specs.declared.log.Log.{Log}
use Rattle.gated_log.specs.Extents.{extents}
use Rattle.gated_log.specs.Inside.Found.{IsFound}
use Rattle.gated_log.specs.Lemmas.Laws.{length-extents}
use Rattle.gated_log.specs.Log.{HoldsFile, Stands, IsClosed}
use Rattle.gated_log.specs.Inside.Walked.{IsLast}

-- what a file with nothing pending reads as
pub reads_rest : (name bytes : List ℕ) (disk : Disk) → file_at disk name ≡ at_rest bytes → reads disk name ≡ bytes
reads_rest name bytes disk rests = ap (λ (f : File). f.now) rests

pub rests_at : (name bytes : List ℕ) (disk : Disk) → file_at disk name ≡ at_rest bytes → AtRest disk name
rests_at name bytes disk rests = rests ∙ ap at_rest (sym (reads_rest name bytes disk rests))

-- a file of at most nine bytes opens as no payload
pub opens_short : (form : Form) (bytes : List ℕ) → length bytes ≤ 9 → opens (magic_of form) bytes ≡ Some []
opens_short form bytes short = cond-true _ _ _ (le-leb (length bytes) 9 short)

-- the damage of a file that is not too long
pub damage_within : (form : Form) (bytes : List ℕ) (found : Option (List (List ℕ))) → length bytes ≤ most_bytes_of form → opens (magic_of form) bytes ≡ found → damage_of form bytes ≡ damage_opened form bytes found
damage_within form bytes found small opened = cond-true _ _ _ (le-leb (length bytes) (most_bytes_of form) small) ∙ ap (damage_opened form bytes) opened

-- a file may have this many bytes at least
most_bytes : (form : Form) → 9 ≤ most_bytes_of form
most_bytes One = omega arith
most_bytes Two = omega arith

-- how a file of at most nine bytes stands
short_held : (form : Form) (name bytes : List ℕ) (disk : Disk) (short : Bool) → length bytes ≤ 9 → (short ≡ false → bytes ≡ (magic_of form) ++ 0 ∷ []) → file_at disk name ≡ at_rest bytes
    → HoldsFile form short name 8 0 [] disk
short_held form name bytes disk true small nine rests =
    (record { rests = rests_at name bytes disk rests; short = omega (arith, ap (λ (l : List ℕ). length l) (reads_rest name bytes disk rests)) }, refl, refl)
short_held form name bytes disk false small nine rests =
    record { front = []; rest = []; is = refl; placed = refl; bytes_are = rests ∙ ap at_rest (nine refl); shut = refl }

pub short_found : (form : Form) (name bytes : List ℕ) (disk : Disk) (found : Found) → length bytes ≤ 9 → (found.short ≡ false → bytes ≡ magic_of form ++ 0 ∷ [])
    → (found.short ≡ true → bytes ≢ magic_of form ++ 0 ∷ []) → found.gate.place ≡ 8 → found.gate.byte ≡ 0 → file_at disk name ≡ at_rest bytes → IsFound form name disk [] found
short_found form name bytes disk found small nine other place byte rests =
    let same = reads_rest name bytes disk rests in
    let opened = ap (opens (magic_of form)) same ∙ opens_short form bytes small in
    record {
      payloads = [];
      opened = opened;
      undamaged = damage_within form (reads disk name) (Some []) (omega (arith, ap (λ (l : List ℕ). length l) same, most_bytes form)) opened ∙ cond-true _ _ _ (le-leb 0 (most_entries_of form) (omega arith));
      indexed = refl;
      held = rw (place, byte) (short_held form name bytes disk found.short small nine rests);
      needed = λ short. λ is. other short (sym same ∙ is);
    }

-- one byte is no entry
one_byte : (bytes : List ℕ) → length bytes ≡ 1 → bytes ≡ slice_index bytes 0 ∷ []
one_byte [] is = absurd (omega arith)
one_byte (byte ∷ []) is = refl
one_byte (byte ∷ (more ∷ rest)) is = absurd (omega arith)

lone_gate : (byte : ℕ) → is_entry (byte ∷ []) ≡ false
lone_gate byte = and_right _ _ (lt-leb (6 + size_at (byte ∷ [])) 1 (omega arith))

-- how a longer file stands, by its last gate
pub record IsAtGate (form : Form) (bytes : List ℕ) (index : List Extent) (gate : Gate) : Type 0 where
  pub front : List ℕ
  pub rest : List ℕ
  pub payloads : List (List ℕ)
  pub is : IsEntries front payloads
  pub indexed : index ≡ extents 8 payloads
  pub placed : gate.place ≡ 8 + length front
  pub bytes_are : bytes ≡ magic_of form ++ (front ++ gate.byte ∷ rest)
  pub shut : is_entry (gate.byte ∷ rest) ≡ false

at_gate : (form : Form) (bytes : List ℕ) (most : ℕ) (index : List Extent) (gate : Gate) → take 8 bytes ≡ magic_of form → length index < most
    → IsLast bytes most index gate → IsAtGate form bytes index gate
at_gate form bytes most index gate magic few last =
    let walked = last.walked in
    let here : drop gate.place bytes ≡ gate.byte ∷ drop (gate.place + 1) bytes =
    drop_more bytes gate.place 0 walked.inside ∙ ap (λ (b : ℕ). b ∷ drop (gate.place + 1) bytes) (sym last.ends.byte_is) in
    record {
      front = walked.front;
      rest = drop (gate.place + 1) bytes;
      payloads = last.payloads;
      is = walked.is;
      indexed = last.indexed;
      placed = walked.reaches;
      bytes_are = sym (take-append-drop 8 bytes) ∙ rw (magic, walked.bytes_are, here) refl;
      shut = ap is_entry (sym here) ∙ last.ends.ends few;
    }

opens_gate : (form : Form) (bytes : List ℕ) (index : List Extent) (gate : Gate) (at : IsAtGate form bytes index gate) → opens (magic_of form) bytes ≡ Some at.payloads
opens_gate form bytes index gate at = ap (opens (magic_of form)) at.bytes_are ∙ opens-shut (magic_of form) at.front (gate.byte ∷ at.rest) at.payloads (length-magic form) at.is (omega arith) at.shut

pub gate_found : (form : Form) (name bytes : List ℕ) (disk : Disk) (index : List Extent) (gate : Gate) → length bytes ≤ most_bytes_of form → take 8 bytes ≡ magic_of form
    → IsLast bytes (most_entries_of form + 1) index gate → length index ≤ most_entries_of form → file_at disk name ≡ at_rest bytes
    → IsFound form name disk index (record { short = false; gate = gate })
gate_found form name bytes disk index gate small magic last few rests =
    let at = at_gate form bytes (most_entries_of form + 1) index gate magic (omega arith) last in
    let same = reads_rest name bytes disk rests in
    let opened = ap (opens (magic_of form)) same ∙ opens_gate form bytes index gate at in
    let count : length index ≡ length at.payloads = ap (λ (l : List Extent). length l) at.indexed ∙ length-extents 8 at.payloads in
    record {
      payloads = at.payloads;
      opened = opened;
      undamaged = damage_within form (reads disk name) (Some at.payloads) (omega (arith, ap (λ (l : List ℕ). length l) same)) opened
          ∙ cond-true _ _ _ (le-leb (length at.payloads) (most_entries_of form) (omega (arith, count)));
      indexed = at.indexed;
      held = record { front = at.front; rest = at.rest; is = at.is; placed = at.placed; bytes_are = rests ∙ ap at_rest at.bytes_are; shut = at.shut };
      needed = λ short. cc;
    }

-- more entries than a log may have, however many more there are
pub many_found : (form : Form) (bytes : List ℕ) (most : ℕ) (index : List Extent) (gate : Gate) → length bytes ≤ most_bytes_of form → take 8 bytes ≡ magic_of form
    → IsLast bytes most index gate → most_entries_of form < length index → damage_of form bytes ≡ Some Many
many_found form bytes most index gate small magic last many =
    let walked = last.walked in
    let rest = drop gate.place bytes in
    let all = last.payloads ++ payloads_from (length rest) rest in
    let count : length index ≡ length last.payloads = ap (λ (l : List Extent). length l) last.indexed ∙ length-extents 8 last.payloads in
    let opened : opens (magic_of form) bytes ≡ Some all =
    ap (opens (magic_of form)) (sym (take-append-drop 8 bytes) ∙ rw (magic, walked.bytes_are) refl)
    ∙ opens-entries (magic_of form) walked.front rest last.payloads (length-magic form) walked.is (omega (arith, length-drop gate.place bytes, walked.inside))
    (omega (arith, length-drop gate.place bytes, walked.inside, length-entries walked.front last.payloads walked.is)) in
    damage_within form bytes (Some all) small opened
    ∙ cond-false _ _ _ (lt-leb (length all) (most_entries_of form) (omega (arith, count, length-append last.payloads (payloads_from (length rest) rest))))

-- the first bytes of a file, by a piece that was read from its beginning
pub head_read : (piece bytes : List ℕ) (count size : ℕ) → take count piece ≡ take count (drop 0 (take size bytes)) → 8 ≤ count → size ≡ length bytes → take 8 piece ≡ take 8 bytes
head_read piece bytes count size is long whole =
    let all : take size bytes ≡ bytes = take_all size bytes (omega arith) in
    sym (take-take 8 count piece long) ∙ ap (take 8) (is ∙ ap (take count) all) ∙ take-take 8 count bytes long

-- a file that does not begin with the magic
pub magic_found : (form : Form) (bytes head : List ℕ) → length bytes ≤ most_bytes_of form → 9 < length bytes → head ≡ take 8 bytes → bytes_eq head (magic_of form) ≡ false
    → damage_of form bytes ≡ Some (Magic head)
magic_found form bytes head small long is other =
    damage_within form bytes None small
    (cond-false _ _ _ (lt-leb (length bytes) 9 long) ∙ cond-false _ _ _ (ap (λ (l : List ℕ). bytes_eq l (magic_of form)) (sym is) ∙ other))
    ∙ ap (λ (l : List ℕ). Some (Magic l)) (sym is)

-- the log that stands for what was found
pub found_stands : (log : Log) (form : Form) (name : List ℕ) (old new : Disk) (index : List Extent) (found : Found) → IsFound form name new index found → log.form ≡ form
    → string_bytes log.file ≡ name → log.short ≡ found.short → log.gate ≡ found.gate → log.index.items ≡ index → reads new name ≡ reads old name
    → (payloads : List (List ℕ)) × (opens (magic_of form) (reads old name) ≡ Some payloads) × Stands log payloads new
found_stands log form name old new index found is formed named short gate indexed same = (
  is.payloads,
  ap (opens (magic_of form)) (sym same) ∙ is.opened,
  record { indexed = indexed ∙ is.indexed; file = rw (formed, named, short, gate) is.held },
)

-- it is primed where the file ends with a closed gate
short_open : (form : Form) (bytes : List ℕ) → length bytes ≤ 9 → IsClosed form bytes → bytes ≡ magic_of form ++ 0 ∷ []
short_open form bytes short closed =
    let behind : drop 8 bytes ≡ slice_index (drop 8 bytes) 0 ∷ [] = one_byte (drop 8 bytes) (omega (arith, length-drop 8 bytes, closed.has_gate)) in
    let shut : is_entry (drop 8 bytes) ≡ false = ap is_entry behind ∙ lone_gate (slice_index (drop 8 bytes) 0) in
    let zero_at : slice_index (drop 8 bytes) 0 ≡ 0 = ap (λ (l : List ℕ). slice_index l 0) (sym (last_from-shut (length bytes) (drop 8 bytes) shut)) ∙ closed.closed in
    sym (take-append-drop 8 bytes) ∙ rw (closed.begins, behind, zero_at) refl

found_closed : (form : Form) (name : List ℕ) (disk : Disk) (short : Bool) (place byte : ℕ) (payloads : List (List ℕ)) → HoldsFile form short name place byte payloads disk
    → (short ≡ true → reads disk name ≢ magic_of form ++ 0 ∷ []) → IsClosed form (reads disk name) → (short ≡ false) × (byte ≡ 0)
found_closed form name disk true place byte payloads held needed closed = absurd (needed refl (short_open form (reads disk name) held.0.short closed))
found_closed form name disk false place byte payloads held needed closed =
    let bytes = reads disk name in
    let is : bytes ≡ magic_of form ++ (held.front ++ byte ∷ held.rest) = ap (λ (f : File). f.now) held.bytes_are in
    let size : length bytes ≡ 8 + (length held.front + (1 + length held.rest)) =
    omega (arith, ap (λ (l : List ℕ). length l) is, length-append (magic_of form) (held.front ++ byte ∷ held.rest), length-append held.front (byte ∷ held.rest), length-magic form) in
    let last : last_from (length bytes) (drop 8 bytes) ≡ byte ∷ held.rest =
    ap (λ (l : List ℕ). last_from (length bytes) (drop 8 l)) is
    ∙ last_is (magic_of form) held.front byte held.rest payloads (length bytes) (length-magic form) held.is held.shut (omega arith) in
    (refl, ap (λ (l : List ℕ). slice_index l 0) (sym last) ∙ closed.closed)

pub found_primed : (form : Form) (name : List ℕ) (old new : Disk) (index : List Extent) (found : Found) → IsFound form name new index found
    → reads new name ≡ reads old name → IsClosed form (reads old name) → (not found.short && (found.gate.byte == 0)) ≡ true
found_primed form name old new index found is same closed =
    let P : List ℕ → Type 0 = λ bytes. IsClosed form bytes in
    let parts = found_closed form name new found.short found.gate.place found.gate.byte is.payloads is.held is.needed (subst P (sym same) closed) in
    rw (parts.0, parts.1) refl

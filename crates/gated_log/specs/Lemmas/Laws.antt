-- The laws of a ledger, of a log in one file.
use Rattle.std.proofs.Common.{◌≡◌, inl, inr, ℕ, ◌+◌, ◌*◌, ◌≤◌, Bool, true, false, List, [], ◌∷◌, length, take, Option, Some, None, refl, ◌∙◌, sym, ap, subst, arith}
use Rattle.std.proofs.lemmas.Bool.{cases_Bool, cond-true, cond-false, le-leb, leb-true, and_parts, eqb-true, not-true}
use Rattle.std.proofs.Math.Seq.{take-length}
use Rattle.std.specs.Prelude.{nat_le, string_bytes, vec_len}
use Rattle.disk_volume.specs.Disk.{Disk, File, file_at, at_rest, reads, IsImage, AtRest, MayLeave}
use Rattle.disk_volume.specs.Moments.{EachNow, JustSyncs}
use Rattle.disk_volume.specs.Lemmas.Images.{rest_leaves}
use Rattle.disk_volume.specs.Lemmas.Others.{syncs_rest}
use Rattle.log_format.specs.declared.damage.Damage.TheVariants.{Long, Many}
use Rattle.log_format.specs.declared.form.Form.{Form}
use Rattle.log_format.specs.declared.form.Form.TheVariants.{One, Two}
use Rattle.log_format.specs.Damages.{damage_opened, damage_of}
use Rattle.log_format.specs.File.{opens, doubt_of}
use Rattle.log_format.specs.Form.{magic_of, most_entries_of, most_bytes_of}
use Rattle.log_format.specs.Frames.{size_of}
use Rattle.log_format.proofs.CallerLemmas.{length-entries, length-magic, opens-size, opens-shut, doubt_of-closed}
use Rattle.gated_log.specs.declared.extent.Extent.{Extent}
use Rattle.gated_log.specs.declared.log.Log.{Log}
use Rattle.gated_log.specs.Extents.{extents}
use Rattle.gated_log.specs.Holds.{Holds}
use Rattle.gated_log.specs.Ledger.{has_room}
use Rattle.gated_log.specs.Log.{HoldsFile, Stands, is_primed, fits}

-- what a read of it gives opens as its payloads
file_reads : (form : Form) (short : Bool) (name : List ℕ) (gate byte : ℕ) (payloads : List (List ℕ)) (disk : Disk) → HoldsFile form short name gate byte payloads disk
    → opens (magic_of form) (reads disk name) ≡ Some payloads
file_reads form true name gate byte payloads disk held = cond-true _ _ _ (le-leb _ 9 held.0.short) ∙ ap Some (sym held.1)
file_reads form false name gate byte payloads disk held =
    ap (opens (magic_of form)) (ap (λ (f : File). f.now) held.bytes_are) ∙ opens-shut (magic_of form) held.front (byte ∷ held.rest) payloads (length-magic form) held.is (omega arith) held.shut

pub holds_reads : (log : Log) (payloads : List (List ℕ)) (disk : Disk) → Stands log payloads disk → opens (magic_of log.form) (reads disk (string_bytes log.file)) ≡ Some payloads
holds_reads log payloads disk stands = file_reads log.form log.short (string_bytes log.file) log.gate.place log.gate.byte payloads disk stands.file

-- nothing is pending on it
file_rests : (form : Form) (short : Bool) (name : List ℕ) (gate byte : ℕ) (payloads : List (List ℕ)) (disk : Disk) → HoldsFile form short name gate byte payloads disk → AtRest disk name
file_rests form true name gate byte payloads disk held = held.0.rests
file_rests form false name gate byte payloads disk held = held.bytes_are ∙ ap (λ (f : File). at_rest f.now) (sym held.bytes_are)

pub holds_rests : (log : Log) (payloads : List (List ℕ)) (disk : Disk) → Stands log payloads disk → AtRest disk (string_bytes log.file)
holds_rests log payloads disk stands = file_rests log.form log.short (string_bytes log.file) log.gate.place log.gate.byte payloads disk stands.file

-- nor is it while its file stays
pub rests_on : (name : List ℕ) (old new : Disk) → AtRest old name → file_at new name ≡ file_at old name → AtRest new name
rests_on name old new rests same = let P : File → Type 0 = λ f. f ≡ at_rest f.now in subst P (sym same) rests

-- nor while there are only syncs
pub rests_synced : (name : List ℕ) (old new : Disk) → AtRest old name → JustSyncs old new → AtRest new name
rests_synced name old new rests syncs = rests_on name old new rests (syncs_rest new name syncs rests)

-- of a file on which nothing is pending a crash leaves what a read gives
pub rest_alone : (name : List ℕ) (disk : Disk) (image : List ℕ → List ℕ) → AtRest disk name → IsImage disk image → image name ≡ reads disk name
rest_alone name disk image rests left = let P : File → Type 0 = λ f. MayLeave f (image name) in rest_leaves (reads disk name) (image name) (subst P rests (left name))

pub file_now : (form : Form) (short : Bool) (name : List ℕ) (gate byte : ℕ) (payloads : List (List ℕ)) (disk : Disk) → HoldsFile form short name gate byte payloads disk
    → EachNow disk (λ image. opens (magic_of form) (image name) ≡ Some payloads)
file_now form short name gate byte payloads disk held image left =
    ap (opens (magic_of form)) (rest_alone name disk image (file_rests form short name gate byte payloads disk held) left) ∙ file_reads form short name gate byte payloads disk held

pub holds_now : (log : Log) (payloads : List (List ℕ)) (disk : Disk) → Stands log payloads disk → EachNow disk (λ image. opens (magic_of log.form) (image (string_bytes log.file)) ≡ Some payloads)
holds_now log payloads disk stands = file_now log.form log.short (string_bytes log.file) log.gate.place log.gate.byte payloads disk stands.file

-- it holds the same while its file stays
file_on : (form : Form) (short : Bool) (name : List ℕ) (gate byte : ℕ) (payloads : List (List ℕ)) (old new : Disk) → file_at new name ≡ file_at old name
    → HoldsFile form short name gate byte payloads old → HoldsFile form short name gate byte payloads new
file_on form true name gate byte payloads old new same held =
    (record { rests = rests_on name old new held.0.rests same; short = omega (arith, held.0.short, ap (λ (f : File). length f.now) same) }, held.1, held.2)
file_on form false name gate byte payloads old new same held =
    record { front = held.front; rest = held.rest; is = held.is; placed = held.placed; bytes_are = same ∙ held.bytes_are; shut = held.shut }

pub holds_on : (log : Log) (payloads : List (List ℕ)) (old new : Disk) → Stands log payloads old
    → ((file : List ℕ) → file ≡ string_bytes log.file → file_at new file ≡ file_at old file) → Stands log payloads new
holds_on log payloads old new stands same =
    record { indexed = stands.indexed; file = file_on log.form log.short (string_bytes log.file) log.gate.place log.gate.byte payloads old new (same (string_bytes log.file) refl) stands.file }

-- its index has an entry for each of its payloads
pub length-extents : (gate : ℕ) (payloads : List (List ℕ)) → length (extents gate payloads) ≡ length payloads
length-extents gate [] = refl
length-extents gate (payload ∷ payloads) = omega (arith, length-extents (gate + 5 + length payload) payloads)

pub holds_count : (log : Log) (payloads : List (List ℕ)) (disk : Disk) → Stands log payloads disk → vec_len log.index ≡ length payloads
holds_count log payloads disk stands = log.index.ok.0 ∙ ap (λ (l : List Extent). length l) stands.indexed ∙ length-extents 8 payloads

-- the place of the last gate, by the payloads
file_gate : (form : Form) (short : Bool) (name : List ℕ) (gate byte : ℕ) (payloads : List (List ℕ)) (disk : Disk) → HoldsFile form short name gate byte payloads disk
    → gate ≡ 8 + 5 * length payloads + size_of payloads
file_gate form true name gate byte payloads disk held = held.2 ∙ ap (λ (l : List (List ℕ)). 8 + 5 * length l + size_of l) (sym held.1)
file_gate form false name gate byte payloads disk held = omega (arith, held.placed, length-entries held.front payloads held.is)

pub holds_room : (log : Log) (payloads : List (List ℕ)) (disk : Disk) (entries bytes : ℕ) → Stands log payloads disk → fits log entries bytes ≡ has_room log.form payloads entries bytes
holds_room log payloads disk entries bytes stands =
    let gate = file_gate log.form log.short (string_bytes log.file) log.gate.place log.gate.byte payloads disk stands.file in
    let size : log.gate.place + 1 + 5 * entries + bytes ≡ 9 + 5 * (length payloads + entries) + size_of payloads + bytes = omega arith in
    rw (holds_count log payloads disk stands, size) refl

-- a log that is primed has its last gate, and it is closed
pub is_primed-parts : (log : Log) → is_primed log ≡ true → (log.short ≡ false) × (log.gate.byte ≡ 0)
is_primed-parts log primed = let parts = and_parts _ _ primed in (not-true log.short parts.0, eqb-true log.gate.byte 0 parts.1)

pub primed_holds : (log : Log) (payloads : List (List ℕ)) (disk : Disk) → is_primed log ≡ true → Stands log payloads disk → Holds (magic_of log.form) (string_bytes log.file) log.gate.place 0 payloads disk
primed_holds log payloads disk primed stands =
    let parts = is_primed-parts log primed in
    let P : Bool → ℕ → Type 0 = λ short byte. HoldsFile log.form short (string_bytes log.file) log.gate.place byte payloads disk in
    subst (P false) parts.1 (subst (λ (short : Bool). P short log.gate.byte) parts.0 stands.file)

-- nothing is doubtful then
pub no_doubt : (log : Log) (payloads : List (List ℕ)) (disk : Disk) → is_primed log ≡ true → Stands log payloads disk → doubt_of (reads disk (string_bytes log.file)) ≡ []
no_doubt log payloads disk primed stands =
    let held = primed_holds log payloads disk primed stands in
    ap doubt_of (ap (λ (f : File). f.now) held.bytes_are) ∙ doubt_of-closed (magic_of log.form) held.front held.rest payloads (length-magic log.form) held.is

-- a file that is not damaged opens as a list
opened : (form : Form) (bytes : List ℕ) (found : Option (List (List ℕ))) → damage_opened form bytes found ≡ None → (payloads : List (List ℕ)) × (found ≡ Some payloads)
opened form bytes None none = cc
opened form bytes (Some payloads) none = (payloads, refl)

-- a file that is not damaged is not too long, and its damage is by what it opens as
not_long : (form : Form) (bytes : List ℕ) → damage_of form bytes ≡ None → (length bytes ≤ most_bytes_of form) × (damage_opened form bytes (opens (magic_of form) bytes) ≡ None)
not_long form bytes none = elim (cases_Bool (nat_le (length bytes) (most_bytes_of form))) [
  | inl short ↦ (leb-true _ _ short, sym (cond-true _ _ _ short) ∙ none)
  | inr long ↦ let damaged : Some (Long (length bytes)) ≡ None = sym (cond-false _ _ _ long) ∙ none in absurd (cc)
]

pub opens_undamaged : (form : Form) (bytes : List ℕ) → damage_of form bytes ≡ None → (payloads : List (List ℕ)) × (opens (magic_of form) bytes ≡ Some payloads)
opens_undamaged form bytes none = opened form bytes (opens (magic_of form) bytes) (not_long form bytes none).1

-- and its list is within the limits
few_opened : (form : Form) (bytes : List ℕ) (payloads : List (List ℕ)) → damage_opened form bytes (Some payloads) ≡ None → length payloads ≤ most_entries_of form
few_opened form bytes payloads none = elim (cases_Bool (nat_le (length payloads) (most_entries_of form))) [
  | inl few ↦ leb-true _ _ few
  | inr many ↦ let damaged : Some Many ≡ None = sym (cond-false _ _ _ many) ∙ none in absurd (cc)
]

pub undamaged_few : (form : Form) (bytes : List ℕ) (payloads : List (List ℕ)) → damage_of form bytes ≡ None → opens (magic_of form) bytes ≡ Some payloads
    → length payloads ≤ most_entries_of form
undamaged_few form bytes payloads none opened = few_opened form bytes payloads (ap (damage_opened form bytes) (sym opened) ∙ (not_long form bytes none).1)

-- a file may have nine bytes
nine_small : (form : Form) → 9 ≤ most_bytes_of form
nine_small One = omega arith
nine_small Two = omega arith

pub undamaged_small : (form : Form) (bytes : List ℕ) (payloads : List (List ℕ)) → damage_of form bytes ≡ None → opens (magic_of form) bytes ≡ Some payloads
    → 9 + 5 * length payloads + size_of payloads ≤ most_bytes_of form
undamaged_small form bytes payloads none opened = omega (arith, opens-size (magic_of form) bytes payloads opened, (not_long form bytes none).0, nine_small form)

-- it opens as one list at most
pub same_payloads : (one other : List (List ℕ)) → Some one ≡ Some other → one ≡ other
same_payloads one other same = cc

-- its file has its name
pub owned_named : (name file : List ℕ) → file ≡ name → take (length name) file ≡ name
owned_named name file same = ap (take (length name)) same ∙ take-length name

-- The payload of an index in a file.
use Rattle.std.proofs.Common.{◌≡◌, ℕ, zero, suc, ◌+◌, ◌≤◌, ◌<◌, List, [], ◌∷◌, ◌++◌, length, take, drop, Option, Some, Result, IfOk, refl, ◌∙◌, sym, ap, subst, arith}
use Rattle.std.proofs.lemmas.List.{append_assoc, length-append, take_at, drop_at}
use Rattle.std.proofs.lemmas.Result.{IfOk-weaker}
use Rattle.std.specs.Prelude.{Bool, true, false, slice_get, slice_index_or, string_bytes, vec_len}
use Rattle.disk_volume.specs.Disk.{Disk, File, reads}
use Rattle.log_format.specs.declared.form.Form.{Form}
use Rattle.log_format.specs.File.{IsEntries}
use Rattle.log_format.specs.Form.{magic_of}
use Rattle.log_format.proofs.CallerLemmas.{length-magic, front-first}
use Rattle.gated_log.specs.declared.extent.Extent.{Extent}
use Rattle.gated_log.specs.declared.log.Log.{Log}
use Rattle.gated_log.specs.Extents.{extents}
use Rattle.gated_log.specs.Lemmas.Laws.{holds_count}
use Rattle.gated_log.specs.Log.{HoldsFile, Stands}

-- it is where the payload that was found stands in a file
pub record IsPayloadAt (bytes : List ℕ) (found : Option (List ℕ)) (extent : Extent) : Type 0 where
  pub payload : List ℕ
  pub is : found ≡ Some payload
  pub within : extent.place + extent.size ≤ length bytes
  pub stands : take extent.size (drop extent.place bytes) ≡ payload

-- the extent of an index, in a file with entries behind some head
payload_at : (bytes head front tail : List ℕ) (payloads : List (List ℕ)) (gate index : ℕ) (other : Extent) → bytes ≡ head ++ (front ++ tail) → gate ≡ length head
    → IsEntries front payloads → index < length payloads → IsPayloadAt bytes (slice_get payloads index) (slice_index_or (extents gate payloads) index other)
payload_at bytes head front tail [] gate index other bytes_are at is within = absurd (omega arith)
payload_at bytes head front tail (payload ∷ payloads) gate zero other bytes_are at is within =
    let behind = is.1 ++ tail in
    let opening = head ++ 1 ∷ is.0 in
    let split : bytes ≡ opening ++ (payload ++ behind) =
    bytes_are ∙ ap (λ (l : List ℕ). head ++ l) (front-first front is.0 payload is.1 tail is.4) ∙ sym (append_assoc head (1 ∷ is.0) (payload ++ behind)) in
    let size : length opening ≡ gate + 5 = omega (arith, length-append head (1 ∷ is.0), is.2) in
    record {
      payload = payload;
      is = refl;
      within = omega (arith, ap (λ (l : List ℕ). length l) split, length-append opening (payload ++ behind), length-append payload behind, size);
      stands = ap (λ (l : List ℕ). take (length payload) (drop (gate + 5) l)) split ∙ ap (take (length payload)) (drop_at opening (payload ++ behind) (gate + 5) size)
          ∙ take_at payload behind (length payload) refl;
    }
payload_at bytes head front tail (payload ∷ payloads) gate (suc index) other bytes_are at is within =
    let entry = 1 ∷ (is.0 ++ payload) in
    let split : bytes ≡ (head ++ entry) ++ (is.1 ++ tail) =
    bytes_are ∙ ap (λ (l : List ℕ). head ++ l) (front-first front is.0 payload is.1 tail is.4 ∙ ap (λ (l : List ℕ). 1 ∷ l) (sym (append_assoc is.0 payload (is.1 ++ tail))))
    ∙ sym (append_assoc head entry (is.1 ++ tail)) in
    payload_at bytes (head ++ entry) is.1 tail payloads (gate + 5 + length payload) index other split
    (omega (arith, length-append head entry, length-append is.0 payload, is.2)) is.5 (omega arith)

-- in the file of a log
file_payload_at : (form : Form) (short : Bool) (name : List ℕ) (place byte : ℕ) (payloads : List (List ℕ)) (disk : Disk) (index : ℕ) (other : Extent)
    → HoldsFile form short name place byte payloads disk → index < length payloads
    → IsPayloadAt (reads disk name) (slice_get payloads index) (slice_index_or (extents 8 payloads) index other)
file_payload_at form true name place byte payloads disk index other held within = absurd (omega (arith, ap (λ (l : List (List ℕ)). length l) held.1))
file_payload_at form false name place byte payloads disk index other held within =
    payload_at (reads disk name) (magic_of form) held.front (byte ∷ held.rest) payloads 8 index other (ap (λ (f : File). f.now) held.bytes_are) (sym (length-magic form)) held.is within

-- a payload that was read there
pub payload_read : {E : Type 0} (result : Result (List ℕ) E) (bytes : List ℕ) (found : Option (List ℕ)) (extent : Extent) → IsPayloadAt bytes found extent
    → (extent.place + extent.size ≤ length bytes → IfOk result (λ read. read ≡ take extent.size (drop extent.place bytes)))
    → IfOk result (λ read. found ≡ Some read)
payload_read result bytes found extent at read =
    IfOk-weaker result (λ read. read ≡ take extent.size (drop extent.place bytes)) (λ read. found ≡ Some read)
    (λ read same. at.is ∙ ap Some (sym (same ∙ at.stands))) (read at.within)

-- the extent that a log has of an index
pub log_payload_at : (log : Log) (payloads : List (List ℕ)) (disk : Disk) (index : ℕ) (extent : Extent) → Stands log payloads disk → index < vec_len log.index
    → extent ≡ slice_index_or log.index.items index extent → IsPayloadAt (reads disk (string_bytes log.file)) (slice_get payloads index) extent
log_payload_at log payloads disk index extent stands within is =
    let P : Extent → Type 0 = λ e. IsPayloadAt (reads disk (string_bytes log.file)) (slice_get payloads index) e in
    subst P (ap (λ (l : List Extent). slice_index_or l index extent) (sym stands.indexed) ∙ sym is)
    (file_payload_at log.form log.short (string_bytes log.file) log.gate.place log.gate.byte payloads disk index extent stands.file
    (omega (arith, holds_count log payloads disk stands)))

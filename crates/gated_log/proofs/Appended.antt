-- A log with more payloads.
use Rattle.std.proofs.Common.{◌≡◌, ℕ, ◌+◌, ◌*◌, ◌≤◌, ◌<◌, true, List, ◌++◌, length, ◌∙◌, ap, sym, arith}
use Rattle.std.proofs.lemmas.Bool.{and_parts, leb-true}
use Rattle.std.specs.Prelude.{string_bytes, sum_by}
use Rattle.disk_volume.specs.Disk.{Disk}
use Rattle.log_format.specs.declared.form.TheConstants.{MOST_BYTES_TWO}
use Rattle.log_format.specs.Form.{magic_of, most_bytes_of}
use Rattle.log_format.specs.Frames.{IsGroup, sizes_of, size_of}
use Rattle.log_format.proofs.CallerLemmas.{length-group, most_bytes_two}
use Rattle.gated_log.specs.declared.extent.Extent.{Extent}
use Rattle.gated_log.specs.declared.log.Log.{Log}
use Rattle.gated_log.specs.Extents.{extents}
use Rattle.gated_log.specs.Holds.{Holds}
use Rattle.gated_log.specs.Lemmas.Laws.{is_primed-parts, primed_holds}
use Rattle.gated_log.specs.Log.{Stands, is_primed, fits}
use Rattle.gated_log.proofs.Indexes.{sizes_together}
use Rattle.gated_log.proofs.Walks.{extents-append}

-- they are in the file and in the index
pub appended : (log next : Log) (place : ℕ) (payloads added : List (List ℕ)) (old new : Disk) → is_primed log ≡ true → Stands log payloads old
    → next.form ≡ log.form → next.file ≡ log.file → next.short ≡ log.short → next.gate.byte ≡ log.gate.byte → next.gate.place ≡ place
    → next.index.items ≡ log.index.items ++ extents log.gate.place added
    → Holds (magic_of log.form) (string_bytes log.file) place 0 (payloads ++ added) new → Stands next (payloads ++ added) new
appended log next place payloads added old new primed stands form file short byte at index held =
    let parts = is_primed-parts log primed in
    let before = primed_holds log payloads old primed stands in
    record {
      indexed = index ∙ ap (λ (l : List Extent). l ++ extents log.gate.place added) stands.indexed
          ∙ sym (extents-append 8 log.gate.place before.front payloads added before.is before.placed);
      file = rw (form, file, short, byte, parts.0, parts.1, at) held;
    }

-- a group that fits ends within the longest file
pub group_within : (log : Log) (bytes : List ℕ) (added : List (List ℕ)) → IsGroup bytes added → fits log (length added) (size_of added) ≡ true
    → log.gate.place + length bytes < MOST_BYTES_TWO
group_within log bytes added group fit =
    let within : log.gate.place + 1 + 5 * length added + size_of added ≤ most_bytes_of log.form = leb-true _ _ (and_parts _ _ fit).1 in
    omega (arith, within, most_bytes_two log.form, length-group bytes added group)

pub sizes_within : (log : Log) (bytes sizes : List ℕ) (added : List (List ℕ)) → IsGroup bytes added → sizes ≡ sizes_of added → fits log (length added) (size_of added) ≡ true
    → log.gate.place + sum_by (λ (size : ℕ). 5 + size) sizes ≤ MOST_BYTES_TWO
sizes_within log bytes sizes added group same fit =
    let together : sum_by (λ (size : ℕ). 5 + size) sizes ≡ 5 * length added + size_of added = ap (sum_by (λ (size : ℕ). 5 + size)) same ∙ sizes_together added in
    omega (arith, together, group_within log bytes added group fit, length-group bytes added group)

-- What a crash may leave of a log in each step of an append and of a priming.
use Rattle.std.proofs.Common.{◌≡◌, ◌≢◌, inl, ℕ, suc, ◌+◌, ◌-◌, ◌*◌, ◌≤◌, List, [], ◌∷◌, ◌++◌, length, drop, Some, refl, ◌∙◌, sym, ap, subst, arith}
use Rattle.std.proofs.lemmas.List.{append-nil, append_assoc, length-append, drop_all}
use Rattle.std.proofs.lemmas.Bool.{cond-true, le-leb}
use Rattle.disk_volume.specs.Disk.{Disk, File, file_at, at_rest, reads, Partly, put}
use Rattle.disk_volume.specs.Moments.{Grew, EachSince}
use Rattle.disk_volume.specs.Lemmas.Since.{each_then}
use Rattle.log_format.specs.File.{opens, doubt_of, entries, payloads_from, IsEntries}
use Rattle.log_format.specs.Frames.{IsGroup}
use Rattle.log_format.proofs.CallerLemmas.{entries-append, length-entries, payloads_from-entries, payloads_from-shut, opens-shut, opens_either, behind, doubt_of-torn, group_entries}
use Rattle.gated_log.specs.Holds.{Holds, IsShort, OpensWithin}
use Rattle.gated_log.proofs.Places.{put_gate, partly_gate, put_behind, partly_behind}

-- the bytes of a log that stands
pub reads_held : {magic name : List ℕ} {place byte : ℕ} {payloads : List (List ℕ)} {disk : Disk} (held : Holds magic name place byte payloads disk)
    → reads disk name ≡ (magic ++ held.front) ++ byte ∷ held.rest
reads_held {magic} {byte = byte} held = ap (λ (f : File). f.now) held.bytes_are ∙ sym (append_assoc magic held.front (byte ∷ held.rest))

at_place : {magic name : List ℕ} {place byte : ℕ} {payloads : List (List ℕ)} {disk : Disk} (held : Holds magic name place byte payloads disk)
    → length magic ≡ 8 → place ≡ length (magic ++ held.front)
at_place {magic} held eight = omega (arith, length-append magic held.front, held.placed)

-- whatever stands behind the closed gate, nothing of it counts
pub behind_each : (magic name : List ℕ) (place size : ℕ) (payloads : List (List ℕ)) (disk : Disk) (bytes : List ℕ) → length magic ≡ 8
    → Holds magic name place 0 payloads disk → Partly (place + 1) size (reads disk name) bytes → opens magic bytes ≡ Some payloads
behind_each magic name place size payloads disk bytes eight held partly =
    let P : List ℕ → Type 0 = λ old. Partly (place + 1) size old bytes in
    let left = partly_behind (magic ++ held.front) 0 held.rest place size bytes (at_place held eight) (subst P (reads_held held) partly) in
    ap (opens magic) (left.1 ∙ append_assoc magic held.front (0 ∷ left.0))
    ∙ opens-shut magic held.front (0 ∷ left.0) payloads eight held.is (omega arith) refl

-- whatever byte stands at the gate, what it leads to counts or it does not
pub gate_each : (magic name : List ℕ) (place byte : ℕ) (payloads : List (List ℕ)) (disk : Disk) (bytes : List ℕ) → length magic ≡ 8
    → (held : Holds magic name place byte payloads disk) → Partly place 1 (reads disk name) bytes → OpensWithin magic payloads (behind held.rest) bytes
gate_each magic name place byte payloads disk bytes eight held partly =
    let P : List ℕ → Type 0 = λ old. Partly place 1 old bytes in
    let left = partly_gate (magic ++ held.front) byte held.rest place bytes (at_place held eight) (subst P (reads_held held) partly) in
    let Q : List ℕ → Type 0 = λ file. OpensWithin magic payloads (behind held.rest) file in
    subst Q (sym (left.1 ∙ append_assoc magic held.front (left.0 ∷ held.rest))) (opens_either magic held.front left.0 held.rest payloads eight held.is)

-- a byte was written over the gate
pub gate_written : (magic name : List ℕ) (place byte written : ℕ) (payloads : List (List ℕ)) (old new : Disk) → length magic ≡ 8
    → (held : Holds magic name place byte payloads old) → file_at new name ≡ at_rest (put (reads old name) place (written ∷ []))
    → file_at new name ≡ at_rest (magic ++ (held.front ++ written ∷ held.rest))
gate_written magic name place byte written payloads old new eight held now =
    now ∙ ap at_rest (ap (λ (l : List ℕ). put l place (written ∷ [])) (reads_held held)
    ∙ put_gate (magic ++ held.front) byte held.rest place written (at_place held eight)
    ∙ append_assoc magic held.front (written ∷ held.rest))

-- On this disk the entries of these payloads stand behind the gate, but that it is closed, and another closed gate behind them.
pub record IsFramed (magic name : List ℕ) (place : ℕ) (payloads added : List (List ℕ)) (disk : Disk) : Type 0 where
  pub held : Holds magic name place 0 payloads disk
  pub more : List ℕ
  pub rest_is : 1 ∷ held.rest ≡ entries added ++ 0 ∷ more
  pub are : IsEntries (entries added) added

-- the group was written
pub framed : (magic name : List ℕ) (place : ℕ) (bytes : List ℕ) (payloads added : List (List ℕ)) (old new : Disk) → length magic ≡ 8
    → Holds magic name place 0 payloads old → IsGroup bytes added → file_at new name ≡ at_rest (put (reads old name) (place + 1) bytes)
    → IsFramed magic name place payloads added new
framed magic name place bytes payloads added old new eight held group written =
    let behind_it = drop (length bytes) held.rest in
    let now : put (reads old name) (place + 1) bytes ≡ magic ++ (held.front ++ 0 ∷ (bytes ++ behind_it)) =
    ap (λ (l : List ℕ). put l (place + 1) bytes) (reads_held held)
    ∙ put_behind (magic ++ held.front) 0 held.rest place bytes (at_place held eight)
    ∙ append_assoc magic held.front (0 ∷ (bytes ++ behind_it)) in
    record {
      held = record { front = held.front; rest = bytes ++ behind_it; is = held.is; placed = held.placed; bytes_are = written ∙ ap at_rest now; shut = refl };
      more = behind_it;
      rest_is = ap (λ (l : List ℕ). l ++ behind_it) group.bytes_are ∙ append_assoc (entries added) (0 ∷ []) behind_it;
      are = group_entries bytes added group;
    }

-- what stands behind the gate then is the payloads
behind_framed : (rest more : List ℕ) (added : List (List ℕ)) → 1 ∷ rest ≡ entries added ++ 0 ∷ more → IsEntries (entries added) added → behind rest ≡ added
behind_framed rest more added is are =
    let few : 5 * length added ≤ length (entries added) = omega (arith, length-entries (entries added) added are) in
    let size : suc (length rest) ≡ length (entries added) + suc (length more) = omega (arith, ap (λ (l : List ℕ). length l) is, length-append (entries added) (0 ∷ more)) in
    let most = suc (length rest) - length added in
    ap (payloads_from (suc (length rest))) is
    ∙ payloads_from-entries (entries added) (0 ∷ more) added most (suc (length rest)) are (omega arith) (omega arith)
    ∙ ap (λ (l : List (List ℕ)). added ++ l) (payloads_from-shut most (0 ∷ more) refl) ∙ append-nil added

-- while the gate is opened, the group counts or it does not
pub opened_each : (magic name : List ℕ) (place : ℕ) (payloads added : List (List ℕ)) (disk : Disk) (bytes : List ℕ) → length magic ≡ 8
    → IsFramed magic name place payloads added disk → Partly place 1 (reads disk name) bytes → OpensWithin magic payloads added bytes
opened_each magic name place payloads added disk bytes eight stands partly =
    let P : List (List ℕ) → Type 0 = λ all. OpensWithin magic payloads all bytes in
    subst P (behind_framed stands.held.rest stands.more added stands.rest_is stands.are) (gate_each magic name place 0 payloads disk bytes eight stands.held partly)

-- and once the gate is open, it does
pub opened_holds : (magic name : List ℕ) (place size : ℕ) (payloads added : List (List ℕ)) (old new : Disk) → length magic ≡ 8
    → IsFramed magic name place payloads added old → size ≡ length (entries added) → file_at new name ≡ at_rest (put (reads old name) place (1 ∷ []))
    → Holds magic name (place + size) 0 (payloads ++ added) new
opened_holds magic name place size payloads added old new eight stands long written =
    let front = stands.held.front in
    record {
      front = front ++ entries added;
      rest = stands.more;
      is = entries-append front (entries added) payloads added stands.held.is stands.are;
      placed = omega (arith, length-append front (entries added), stands.held.placed, long);
      bytes_are = gate_written magic name place 0 1 payloads old new eight stands.held written
          ∙ ap (λ (l : List ℕ). at_rest (magic ++ l)) (ap (λ (l : List ℕ). front ++ l) stands.rest_is ∙ sym (append_assoc front (entries added) (0 ∷ stands.more)));
      shut = refl;
    }

-- the first write of an append
pub before_entry : (magic name : List ℕ) (place size : ℕ) (added payloads : List (List ℕ)) (old mid : Disk) → length magic ≡ 8
    → Holds magic name place 0 payloads old → EachSince old mid (λ image. Partly (place + 1) size (reads old name) (image name))
    → EachSince old mid (λ image. OpensWithin magic payloads added (image name))
before_entry magic name place size added payloads old mid eight held written image left =
    inl (behind_each magic name place size payloads old (image name) eight held (written image left))

-- both writes of an append
pub through_entries : (magic name : List ℕ) (place : ℕ) (bytes : List ℕ) (payloads added : List (List ℕ)) (old mid new : Disk) → length magic ≡ 8
    → Holds magic name place 0 payloads old → IsGroup bytes added → Grew (λ file. file ≡ name) mid new
    → EachSince old mid (λ image. Partly (place + 1) (length bytes) (reads old name) (image name))
    → file_at mid name ≡ at_rest (put (reads old name) (place + 1) bytes)
    → EachSince mid new (λ image. Partly place 1 (reads mid name) (image name))
    → EachSince old new (λ image. OpensWithin magic payloads added (image name))
through_entries magic name place bytes payloads added old mid new eight held group grew first written second =
    let stands = framed magic name place bytes payloads added old mid eight held group written in
    each_then old mid new (λ image. OpensWithin magic payloads added (image name)) grew
    (before_entry magic name place (length bytes) added payloads old mid eight held first)
    (λ image left. opened_each magic name place payloads added mid (image name) eight stands (second image left))

-- closing a gate that is no entry's leaves the list, or the list and what was doubtful
pub closed_each : (magic name : List ℕ) (place byte : ℕ) (payloads : List (List ℕ)) (disk : Disk) (bytes : List ℕ) → length magic ≡ 8 → byte ≢ 0
    → Holds magic name place byte payloads disk → Partly place 1 (reads disk name) bytes → OpensWithin magic payloads (doubt_of (reads disk name)) bytes
closed_each magic name place byte payloads disk bytes eight torn held partly =
    let P : List (List ℕ) → Type 0 = λ added. OpensWithin magic payloads added bytes in
    let doubtful : doubt_of (reads disk name) ≡ behind held.rest =
    ap doubt_of (ap (λ (f : File). f.now) held.bytes_are) ∙ doubt_of-torn magic held.front byte held.rest payloads eight held.is held.shut torn in
    subst P (sym doubtful) (gate_each magic name place byte payloads disk bytes eight held partly)

-- and once it is closed, the list
pub closed_holds : (magic name : List ℕ) (place byte : ℕ) (payloads : List (List ℕ)) (old new : Disk) → length magic ≡ 8
    → Holds magic name place byte payloads old → file_at new name ≡ at_rest (put (reads old name) place (0 ∷ [])) → Holds magic name place 0 payloads new
closed_holds magic name place byte payloads old new eight held written = record {
  front = held.front;
  rest = held.rest;
  is = held.is;
  placed = held.placed;
  bytes_are = gate_written magic name place byte 0 payloads old new eight held written;
  shut = refl;
}

-- a file of at most nine bytes has nothing to lose
pub nine_each : (magic name : List ℕ) (disk : Disk) (bytes : List ℕ) → IsShort name disk → Partly 0 9 (reads disk name) bytes → opens magic bytes ≡ Some []
nine_each magic name disk bytes short partly = cond-true _ _ _ (le-leb (length bytes) 9 (omega (arith, short.short, partly.no_longer)))

-- and becomes an empty log
pub nine_holds : (magic name : List ℕ) (old new : Disk) → length magic ≡ 8 → IsShort name old → file_at new name ≡ at_rest (put (reads old name) 0 (magic ++ 0 ∷ []))
    → Holds magic name 8 0 [] new
nine_holds magic name old new eight short written =
    let size : length (magic ++ 0 ∷ []) ≡ 9 = omega (arith, length-append magic (0 ∷ [])) in
    record {
      front = [];
      rest = [];
      is = refl;
      placed = refl;
      bytes_are = written ∙ ap at_rest (ap (λ (l : List ℕ). (magic ++ 0 ∷ []) ++ l) (drop_all (0 + length (magic ++ 0 ∷ [])) (reads old name) (omega (arith, short.short))) ∙ append-nil (magic ++ 0 ∷ []));
      shut = refl;
    }

-- What private functions say of a log to which something is added.
use Rattle.std.specs.Prelude.{◌≡◌, ◌⊎◌, ℕ, false, List, [], ◌++◌, take, length, Result, MatchResult, IsErrOf}
use Rattle.disk_volume.specs.Disk.{Disk, reads}
use Rattle.disk_volume.specs.Moments.{EachNow, EachSince, Grew}
use Rattle.log_format.specs.Frames.{size_of}
use Rattle.log_format.specs.declared.damage.Damage.{Damage}
use Rattle.gated_log.specs.Ledger.{Within}
use Rattle.keeper_channel.specs.Entries.{AreEntries}
use Rattle.keeper_channel.specs.Chan.{moved, channel_room, IsList, IsWithin}
use Rattle.keeper_channel.specs.Logs.{IsLive}
use Rattle.keeper_channel.specs.declared.logs.Added.{Added}
use Rattle.keeper_channel.specs.declared.refused.KeeperRefused.{KeeperRefused}
use Rattle.keeper_channel.specs.declared.refused.KeeperRefused.TheVariants.{Full, Store, Damaged}

-- it opens as these payloads, with what was doubtful or without, or with what is added or without
abbrev pub IsAdding : (List (List ℕ) → Type 0) → (payloads doubt added : List (List ℕ)) → Type 0
IsAdding opens payloads doubt added = Within opens payloads doubt ⊎ Within opens payloads added

-- So many entries of form One were moved: the log of form Two has them and nothing is doubtful, that of form One is as it was, and
-- since `start` each crash left the channel's list.
pub record IsMoving {O G : Type 0} (opens_one opens_two : (List ℕ → List ℕ) → List (List ℕ) → Type 0) (doubt : (List ℕ → List ℕ) → List (List ℕ))
    (holds_one : O → List (List ℕ) → Disk → Type 0) (holds_two : G → List (List ℕ) → Disk → Type 0) (owns : List ℕ → Type 0)
    (one : O) (log : G) (old : List (List ℕ)) (index : ℕ) (start disk : Disk) : Type 0 where
  pub holds_old : holds_one one old disk
  pub holds_new : holds_two log (moved (take index old)) disk
  pub sure : doubt (reads disk) ≡ []
  pub each : EachSince start disk (λ image. IsList opens_one opens_two image (moved old))
  pub files : Grew owns start disk

-- What a store into loaded logs did. Since it began each crash leaves the list, with what was in suspense or with what is added, or
-- without. At `Ok` the list has what is added. At a refusal each crash since it began leaves the list, with what was in suspense or
-- without, or, where the volume failed, each crash now leaves it with what is added or without. `Full` comes only where the list has no
-- room, and `Damaged` only where some payload of the list holds no entry.
pub record IsAdded {O G : Type 0} (opens_one opens_two : (List ℕ → List ℕ) → List (List ℕ) → Type 0) (doubt : (List ℕ → List ℕ) → List (List ℕ))
    (holds_one : O → List (List ℕ) → Disk → Type 0) (holds_two : G → List (List ℕ) → Disk → Type 0)
    (held suspense group : List (List ℕ)) (answer : Result (Added O G) KeeperRefused) (old new : Disk) : Type 0 where
  pub each : EachSince old new (λ image. IsWithin (IsList opens_one opens_two image) held suspense ⊎ IsWithin (IsList opens_one opens_two image) held group)
  pub left : MatchResult answer (λ added. IsLive holds_one holds_two doubt added.logs (held ++ group) [] new × (added.index ≡ length held))
      (λ refused. EachSince old new (λ image. IsWithin (IsList opens_one opens_two image) held suspense)
      ⊎ ((refused ≡ Store) × EachNow new (λ image. IsWithin (IsList opens_one opens_two image) held group)))
  pub full : IsErrOf answer Full → channel_room held (length group) (size_of group) ≡ false
  pub sound : (damage : Damage) → IsErrOf answer (Damaged damage) → AreEntries held → ⊥

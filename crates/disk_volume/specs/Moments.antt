-- The moments of a disk: one at its beginning, and one after each act.
use Rattle.std.specs.Prelude.{◌≡◌, ◌⊎◌, ℕ, zero, suc, ◌≤◌, List}
use Rattle.disk_volume.specs.Disk.{Act, Disk, began, did, synced, IsImage}

-- the moment that it is now
abbrev pub moment : Disk → ℕ
moment (began files) = zero
moment (did act name disk) = suc (moment disk)

-- a crash at some moment from this one on may have left these files
abbrev pub LeftSince : ℕ → Disk → (List ℕ → List ℕ) → Type 0
LeftSince time (began files) image = IsImage (began files) image
LeftSince time (did act name disk) image = IsImage (did act name disk) image ⊎ ((time ≤ moment disk) × LeftSince time disk image)

-- The later disk came from the earlier one by acts on these files alone.
pub data Grew (own : List ℕ → Type 0) (old : Disk) : Disk → Type 0 where
  still : Grew own old old
  more : {act : Act} {name : List ℕ} {new : Disk} → own name → Grew own old new → Grew own old (did act name new)

-- The later disk came from the earlier one by syncs of these files alone.
pub data OnlySyncs (own : List ℕ → Type 0) (old : Disk) : Disk → Type 0 where
  no_sync : OnlySyncs own old old
  one_sync : {name : List ℕ} {new : Disk} → own name → OnlySyncs own old new → OnlySyncs own old (did synced name new)

-- The later disk came from the earlier one by syncs alone, of whatever files.
abbrev pub JustSyncs : (old new : Disk) → Type 0
JustSyncs old new = OnlySyncs (λ (name : List ℕ). Unit {0}) old new

-- Files of which a crash on that disk may have left all that are not these.
pub record LeftBefore (own : List ℕ → Type 0) (old : Disk) (image : List ℕ → List ℕ) : Type 0 where
  -- what it left
  pub earlier : List ℕ → List ℕ
  pub is : IsImage old earlier
  pub others : (name : List ℕ) → (own name → ⊥) → earlier name ≡ image name

-- each crash from the earlier disk on leaves files with P
abbrev pub EachSince : Disk → Disk → ((List ℕ → List ℕ) → Type 0) → Type 0
EachSince old new P = (image : List ℕ → List ℕ) → LeftSince (moment old) new image → P image

-- each crash now leaves files with P
abbrev pub EachNow : Disk → ((List ℕ → List ℕ) → Type 0) → Type 0
EachNow disk P = (image : List ℕ → List ℕ) → IsImage disk image → P image

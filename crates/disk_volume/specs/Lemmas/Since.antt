-- How moments go on: what a crash may have left, call after call.
use Rattle.std.proofs.Common.{◌≡◌, ◌≤◌, ℕ, List, inl, inr, arith, refl, ◌∙◌, subst}
use Rattle.disk_volume.specs.Disk.{Act, Disk, began, did, file_at, IsImage, MayLeave}
use Rattle.disk_volume.specs.Moments.{moment, LeftSince, Grew, still, more, EachSince, EachNow}
use Rattle.disk_volume.specs.Lemmas.Names.{file_at-elsewhere}

-- an image now is one since each moment
pub since_now : (time : ℕ) (disk : Disk) (image : List ℕ → List ℕ) → IsImage disk image → LeftSince time disk image
since_now time (began files) image now = now
since_now time (did act name disk) image now = inl now

-- since this moment there is no other
pub now_alone : (disk : Disk) (image : List ℕ → List ℕ) → LeftSince (moment disk) disk image → IsImage disk image
now_alone (began files) image left = left
now_alone (did act name disk) image (inl now) = now
now_alone (did act name disk) image (inr earlier) = absurd (omega (arith, earlier.0))

-- a run of calls begins
pub each_start : (disk : Disk) (P : (List ℕ → List ℕ) → Type 0) → EachNow disk P → EachSince disk disk P
each_start disk P each image left = each image (now_alone disk image left)

-- and goes on by an act
pub each_more : (old new : Disk) (act : Act) (name : List ℕ) (P : (List ℕ → List ℕ) → Type 0) → EachSince old new P → EachNow (did act name new) P → EachSince old (did act name new) P
each_more old new act name P so_far each image (inl now) = each image now
each_more old new act name P so_far each image (inr earlier) = so_far image earlier.1

-- time goes on
pub later : {own : List ℕ → Type 0} {old : Disk} (new : Disk) → Grew own old new → moment old ≤ moment new
later {own} {old} new still = omega arith
later {own} {old} new (more {act = act} {name = name} {new = mid} mine grew) = let so_far : moment old ≤ moment mid = later mid grew in omega (arith, so_far)

-- one run after another
pub grew_then : {own : List ℕ → Type 0} {old mid : Disk} (new : Disk) → Grew own old mid → Grew own mid new → Grew own old new
grew_then new first still = first
grew_then new first (more {act = act} {name = name} {new = before} mine grew) = more mine (grew_then before first grew)

-- acts on these files are acts on those
pub grew_within : {own theirs : List ℕ → Type 0} {old : Disk} (new : Disk) → ((name : List ℕ) → own name → theirs name) → Grew own old new → Grew theirs old new
grew_within new within still = still
grew_within new within (more {act = act} {name = name} {new = before} mine grew) = more (within name mine) (grew_within before within grew)

-- what holds since the first moment of each of two runs, holds since the first of both
pub each_then : {own : List ℕ → Type 0} (old mid new : Disk) (P : (List ℕ → List ℕ) → Type 0) → Grew own mid new → EachSince old mid P → EachSince mid new P → EachSince old new P
each_then old mid new P still first second image left = first image left
each_then old mid new P (more {act = act} {name = name} {new = before} mine grew) first second image (inl now) = second image (inl now)
each_then old mid new P (more {act = act} {name = name} {new = before} mine grew) first second image (inr earlier) =
    each_then old mid before P grew first (λ files left. second files (inr (later before grew, left))) image earlier.1

-- each other file stays as it was
pub elsewhere : {own : List ℕ → Type 0} {old : Disk} (new : Disk) (name : List ℕ) → Grew own old new → (own name → ⊥) → file_at new name ≡ file_at old name
elsewhere new name still other = refl
elsewhere {own} {old} new name (more {act = act} {name = file} {new = mid} mine grew) other =
    file_at-elsewhere act file name mid (λ same. other (subst own same mine)) ∙ elsewhere mid name grew other

-- and in each image since
pub since_elsewhere : {own : List ℕ → Type 0} (old new : Disk) (name : List ℕ) → Grew own old new → (own name → ⊥) → EachSince old new (λ image. MayLeave (file_at old name) (image name))
since_elsewhere old new name still other image left = now_alone old image left name
since_elsewhere old new name (more {act = act} {name = file} {new = before} mine grew) other image (inl now) =
    subst (λ file. MayLeave file (image name)) (elsewhere (did act file before) name (more mine grew) other) (now name)
since_elsewhere old new name (more {act = act} {name = file} {new = before} mine grew) other image (inr earlier) =
    since_elsewhere old before name grew other image earlier.1

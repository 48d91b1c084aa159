-- Acts on a channel's files, parted by which of them is the older one.
use Rattle.std.proofs.Common.{◌≡◌, ◌⊎◌, inl, inr, ℕ, List}
use Rattle.disk_volume.specs.Disk.{Disk}
use Rattle.disk_volume.specs.Moments.{Grew, OnlySyncs, no_sync, one_sync}
use Rattle.disk_volume.specs.Lemmas.Since.{grew_within}
use Rattle.keeper_channel.specs.Disks.{Either, SyncsThenActs}

-- syncs of these files are syncs of those
syncs_within : {own theirs : List ℕ → Type 0} {old : Disk} (new : Disk) → ((name : List ℕ) → own name → theirs name) → OnlySyncs own old new → OnlySyncs theirs old new
syncs_within new within no_sync = no_sync
syncs_within new within (one_sync {name = name} {new = before} mine syncs) = one_sync (within name mine) (syncs_within before within syncs)

-- the files of the other are those of both that are not the one's
pub newer : (one two : List ℕ → Type 0) (old new : Disk) → ((file : List ℕ) → two file → one file → ⊥)
    → SyncsThenActs one two old new → SyncsThenActs one (λ file. (one file ⊎ two file) × (one file → ⊥)) old new
newer one two old new apart acts =
    let of_two : (file : List ℕ) → two file → (one file ⊎ two file) × (one file → ⊥) = λ file is. (inr is, apart file is) in record {
      mid = acts.mid;
      syncs = syncs_within acts.mid (either of_two) acts.syncs;
      acts = grew_within new of_two acts.acts;
    }
  where
    either : ((file : List ℕ) → two file → (one file ⊎ two file) × (one file → ⊥)) → (file : List ℕ) → Either one two file → Either one (λ f. (one f ⊎ two f) × (one f → ⊥)) file
    either of_two file (inl is) = inl is
    either of_two file (inr is) = inr (of_two file is)

-- What reading an entry of one channel does to all of them, by what the keeper says of that one.
use Rattle.std.proofs.Common.{◌≡◌, ◌∙◌, ◌⊎◌, inl, inr, ap, ℕ, ◌+◌, arith, false, List, Option, Some, None, Result, Ok, Err, IfOk, OnOk, IsErrOf, refl, sym, subst, bytes_eq}
use Rattle.std.specs.Prelude.{slice_get}
use Rattle.disk_volume.specs.Disk.{Disk}
use Rattle.log_format.specs.declared.damage.Damage.{Damage}
use Rattle.log_format.specs.declared.form.Form.{Form}
use Rattle.keeper_channel.specs.declared.refused.KeeperRefused.{KeeperRefused}
use Rattle.keeper_channel.specs.declared.refused.KeeperRefused.TheVariants.{Full, Store, Damaged, NoMemory}
use Rattle.keeper_channel.specs.declared.slot.Slot.{Slot}
use Rattle.keeper_state.specs.State.{State, live, again, Opens, Doubts}
use Rattle.keeper_log.specs.Keeper.{HasEntry}
use Rattle.keeper_log.specs.declared.keeper.Keeper.{Keeper}
use Rattle.keeper_table.specs.Entry.{entry_in}
use Rattle.keeper_table.specs.Table.{channel_in, size_of, newly}
use Rattle.keeper_table.specs.declared.entry.Entry.{Entry}
use Rattle.keeper_table.specs.declared.table.Table.{Table}
use Rattle.netflux_core.specs.Channels.{Channels, IsNow, Gets}
use Rattle.pad_text.specs.Digits.{IsDigits}
use Rattle.hub_keeper.specs.Keeping.{KeepsAll}
use Rattle.hub_keeper.proofs.AllChannels.{Stands, keeps_next, live_found, stands_live}

-- a channel that is there is none more, whatever it becomes
none_more : {S : Type 0} (found new : Option (Option S)) (slot : Option S) → found ≡ Some slot → newly found new ≡ 0
none_more {S} found new slot is = ap (λ (f : Option (Option S)). newly f new) is

-- a keeper that is the same has the same table
pub tables : {O G F : Type 0} (now before : Keeper O G) → F ⊎ (now ≡ before) → F ⊎ (now.table ≡ before.table)
tables now before (inl failed) = inl failed
tables {O} {G} now before (inr same) = inr (ap (λ (k : Keeper O G). k.table) same)

-- and the same entries
pub entries_stay : {O G T E : Type 0} (now before : Keeper O G) (channel : List ℕ) (result : Result T E) → OnOk result (now ≡ before)
    → OnOk result ((other : ℕ) → HasEntry before.table channel other → HasEntry now.table channel other)
entries_stay {O} {G} now before channel (Ok value) same = λ other has. subst (λ (k : Keeper O G). HasEntry k.table channel other) (sym same) has
entries_stay now before channel (Err why) same = tt

module _ {O G : Type 0} (rests_one rests_two : Form → List ℕ → Disk → Type 0) (opens_one opens_two : Opens) (doubt : Doubts)
    (holds_one : O → List (List ℕ) → Disk → Type 0) (holds_two : G → List (List ℕ) → Disk → Type 0)
    (before now : Table (Slot O G)) (channels : Channels) (channel : List ℕ) (digits : IsDigits 32 channel) (old new : Disk)
    (held suspense : List (List ℕ)) (index : ℕ) where
  -- what the keeper says of a read that gave this
  pub record Reads (result : Result Entry KeeperRefused) : Type 0 where
    pub kept : KeepsAll rests_one rests_two opens_one opens_two doubt holds_one holds_two before channels old
    pub is_live : channels.at channel ≡ live held suspense
    pub disk : new ≡ old
    pub entry : IfOk result (λ entry. (payload : List ℕ) × (slice_get held index ≡ Some payload) × (entry ≡ entry_in index payload))
    pub stands : IsErrOf result Store → Stands rests_one rests_two opens_one opens_two doubt holds_one holds_two channel (channel_in now channel) (again held suspense) new
    pub same : IsErrOf result Store ⊎ (now ≡ before)
    pub full : IsErrOf result Full → ⊥
    pub sound : (damage : Damage) → IsErrOf result (Damaged damage) → ⊥
    pub others : (other : List ℕ) → bytes_eq channel other ≡ false → channel_in now other ≡ channel_in before other
    pub size : size_of now ≡ size_of before

  abbrev pub Becomes : State → Type 0
  Becomes next = IsNow (λ all disk. KeepsAll rests_one rests_two opens_one opens_two doubt holds_one holds_two now all disk) channels channel next new

  becomes : (result : Result Entry KeeperRefused) (next : State) → Reads result
      → Stands rests_one rests_two opens_one opens_two doubt holds_one holds_two channel (channel_in now channel) next new → Becomes next
  becomes result next reads stands =
      let slot = live_found rests_one rests_two opens_one opens_two doubt holds_one holds_two channel (channel_in before channel) held suspense old (stands_live rests_one rests_two opens_one opens_two doubt holds_one holds_two before channels channel digits old held suspense reads.kept reads.is_live) in
      let none : newly (channel_in before channel) (channel_in now channel) ≡ 0 = none_more (channel_in before channel) (channel_in now channel) (Some slot.0) slot.1 in
      keeps_next rests_one rests_two opens_one opens_two doubt holds_one holds_two before now channels channel next old new digits reads.kept stands reads.others
      (λ other theirs apart. subst (λ (d : Disk). Stands rests_one rests_two opens_one opens_two doubt holds_one holds_two other (channel_in before other) (channels.at other) d) (sym reads.disk)
      (reads.kept.each other theirs))
      (let size = reads.size in omega (arith, size, none))

  stays : (result : Result Entry KeeperRefused) → Reads result → now ≡ before → Becomes (live held suspense)
  stays result reads same =
      becomes result (live held suspense) reads
      (subst (λ (d : Disk). Stands rests_one rests_two opens_one opens_two doubt holds_one holds_two channel (channel_in now channel) (live held suspense) d) (sym reads.disk)
      (subst (λ (t : Table (Slot O G)). Stands rests_one rests_two opens_one opens_two doubt holds_one holds_two channel (channel_in t channel) (live held suspense) old) (sym same)
      (stands_live rests_one rests_two opens_one opens_two doubt holds_one holds_two before channels channel digits old held suspense reads.kept reads.is_live)))

  unless : (result : Result Entry KeeperRefused) → Reads result → (IsErrOf result Store → ⊥) → now ≡ before
  unless result reads other = by reads.same
    where
      by : IsErrOf result Store ⊎ (now ≡ before) → now ≡ before
      by (inl is) = absurd (other is)
      by (inr same) = same

  pub gets : (result : Result Entry KeeperRefused) → Reads result → (next : State) × Gets held suspense index result next × Becomes next
  gets (Ok entry) reads =
      (live held suspense, (reads.entry.0, reads.entry.1, reads.entry.2, refl), stays (Ok entry) reads (unless (Ok entry) reads (λ is. absurd (cc))))
  gets (Err Full) reads = absurd (reads.full refl)
  gets (Err Store) reads = (again held suspense, refl, becomes (Err Store) (again held suspense) reads (reads.stands refl))
  gets (Err (Damaged damage)) reads = absurd (reads.sound damage refl)
  gets (Err (NoMemory memory)) reads = (live held suspense, refl, stays (Err (NoMemory memory)) reads (unless (Err (NoMemory memory)) reads (λ is. absurd (cc))))

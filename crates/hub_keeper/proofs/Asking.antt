-- What requests to one channel do to all of them, by what the keeper says of that one.
use Rattle.std.proofs.Common.{◌≡◌, ◌∙◌, ◌⊎◌, inl, inr, ap, ℕ, ◌+◌, arith, Bool, false, List, [], ◌∷◌, ◌++◌, Option, Some, None, Result, Ok, Err, IfOk, IsErrOf, refl, sym, subst, bytes_eq}
use Rattle.std.specs.Prelude.{slice_get}
use Rattle.disk_volume.specs.Disk.{Disk, reads}
use Rattle.disk_volume.specs.Moments.{EachNow, Grew, OnlySyncs}
use Rattle.log_format.specs.declared.damage.Damage.{Damage}
use Rattle.log_format.specs.declared.form.Form.{Form}
use Rattle.log_format.specs.declared.form.Form.TheVariants.{One, Two}
use Rattle.keeper_channel.specs.Disks.{SyncsThenActs}
use Rattle.keeper_channel.specs.declared.refused.KeeperRefused.{KeeperRefused}
use Rattle.keeper_channel.specs.declared.refused.KeeperRefused.TheVariants.{Full, Store, Damaged, NoMemory}
use Rattle.keeper_channel.specs.declared.slot.Slot.{Slot}
use Rattle.keeper_state.specs.State.{State, unseen, live, again, Opens, Doubts, Damages, Found, Finds, Has, HoldsWithin, Answers, Stores, FromList, LeavesList, LeavesStored}
use Rattle.keeper_state.specs.Crashes.{StoresAndLeaves}
use Rattle.keeper_log.specs.Calls.{ActsOn, Asks, StoresIn}
use Rattle.keeper_table.specs.Entry.{entry_in}
use Rattle.keeper_table.specs.Files.{file_one, file_two, OfChannel}
use Rattle.keeper_table.specs.Table.{channel_in, size_of, newly}
use Rattle.keeper_table.specs.declared.entry.Entry.{Entry}
use Rattle.keeper_table.specs.declared.table.Table.{Table}
use Rattle.netflux_core.specs.Channels.{Channels, IsNow, Gets}
use Rattle.netflux_core.specs.Crashes.{LeavesThis, LeavesMore, LeavesHeld, LeavesAsked, LeavesStored as LeavesAll}
use Rattle.pad_text.specs.Digits.{IsDigits}
use Rattle.hub_keeper.specs.Keeping.{KeepsAll, logs_of}
use Rattle.hub_keeper.proofs.AllChannels.{Stands, keeps_next, none_found, live_found}
use Rattle.hub_keeper.proofs.Leaving.{IsSeen, seen, refused_seen, leaves_more, holds_now, each_held, stored_was, asked_was}
use Rattle.hub_keeper.proofs.Parting.{newer}

-- a store's result, without what a crash leaves beside it
stores_of : (opens_one opens_two : Opens) (channel : List ℕ) (finds : Found → Type 0) (loaded : ℕ) (state next : State) (added : List (List ℕ)) (old new : Disk) (result : Result ℕ KeeperRefused)
    → StoresAndLeaves opens_one opens_two channel finds loaded state added result next old new → Stores finds loaded state added result next
stores_of opens_one opens_two channel finds loaded state next added old new (Ok index) got = got.0
stores_of opens_one opens_two channel finds loaded state next added old new (Err why) (inl got) = inl (got.0, got.1)
stores_of opens_one opens_two channel finds loaded state next added old new (Err why) (inr got) = inr got.0

-- of a channel that is not loaded then a crash leaves what was held before
spared_of : (opens_one opens_two : Opens) (channel : List ℕ) (finds : Found → Type 0) (loaded : ℕ) (state next : State) (added : List (List ℕ)) (old new : Disk) (result : Result ℕ KeeperRefused)
    → StoresAndLeaves opens_one opens_two channel finds loaded state added result next old new → next ≡ unseen → LeavesList opens_one opens_two channel finds state old new
spared_of opens_one opens_two channel finds loaded state next added old new (Ok index) got none = absurd (seen next (live (got.0.1 ++ added) []) got.0.4.2 tt none)
spared_of opens_one opens_two channel finds loaded state next added old new (Err why) (inl got) none = got.2
spared_of opens_one opens_two channel finds loaded state next added old new (Err why) (inr got) none = absurd (refused_seen next got.0.1 got.0.2 added why got.0.4 none)

module _ {O G : Type 0} (rests_one rests_two : Form → List ℕ → Disk → Type 0) (opens_one opens_two : Opens) (doubt : Doubts) (damage_one damage_two : Damages)
    (holds_one : O → List (List ℕ) → Disk → Type 0) (holds_two : G → List (List ℕ) → Disk → Type 0) (owns_one owns_two : (name file : List ℕ) → Type 0)
    (before now : Table (Slot O G)) (channels : Channels) (channel : List ℕ) (digits : IsDigits 32 channel) (old new : Disk) where
  -- what is known of all channels around a call: they were kept, each other one stands as it did, and what the keeper's law says of this one
  pub record Around : Type 0 where
    pub kept : KeepsAll rests_one rests_two opens_one opens_two doubt holds_one holds_two before channels old
    pub table : ActsOn channel before now
    pub others : (other : List ℕ) → IsDigits 32 other → bytes_eq channel other ≡ false
        → Stands rests_one rests_two opens_one opens_two doubt holds_one holds_two other (channel_in before other) (channels.at other) new
        × LeavesList opens_one opens_two other (Finds opens_one opens_two doubt damage_one damage_two other (reads old)) (channels.at other) old new
    pub law : (next : State) (held suspense : List (List ℕ)) → Stands rests_one rests_two opens_one opens_two doubt holds_one holds_two channel (channel_in now channel) next new
        → Has (Finds opens_one opens_two doubt damage_one damage_two channel (reads new)) next held suspense
        → EachNow new (HoldsWithin opens_one opens_two channel held suspense)

  next_is : (next : State) → Around → Stands rests_one rests_two opens_one opens_two doubt holds_one holds_two channel (channel_in now channel) next new
      → IsNow (λ all disk. KeepsAll rests_one rests_two opens_one opens_two doubt holds_one holds_two now all disk) channels channel next new
  next_is next around stands =
      keeps_next rests_one rests_two opens_one opens_two doubt holds_one holds_two before now channels channel next old new digits around.kept stands around.table.others
      (λ other theirs apart. (around.others other theirs apart).0) around.table.grew

  -- a question
  pub asked : {T : Type 0} (Is : List (List ℕ) → T → Type 0) (result : Result T KeeperRefused) → Around
      → Asks rests_one rests_two opens_one opens_two doubt damage_one damage_two holds_one holds_two owns_one owns_two channel (λ finds loaded state next. Answers finds loaded state Is result next) before now old new
      → (next : State) × Answers (Finds opens_one opens_two doubt damage_one damage_two channel (reads old)) channels.loaded (channels.at channel) Is result next
      × IsNow (λ all disk. KeepsAll rests_one rests_two opens_one opens_two doubt holds_one holds_two now all disk) channels channel next new
      × LeavesAsked (logs_of opens_one opens_two doubt damage_one damage_two owns_one owns_two) channels channel next old new
  asked Is result around asks =
      let mine = around.kept.each channel digits in
      let told = asks.told (channels.at channel) mine in
      let leaves = asks.leaves (channels.at channel) mine in
      let logs = logs_of opens_one opens_two doubt damage_one damage_two owns_one owns_two in (
        told.0,
        subst (λ (n : ℕ). Answers (Finds opens_one opens_two doubt damage_one damage_two channel (reads old)) n (channels.at channel) Is result told.0) (sym around.kept.loaded) told.1,
        next_is told.0 around told.2,
        record {
          digits = digits;
          syncs = asks.syncs;
          each = each_held logs old new channels.at channel leaves (λ other theirs apart. (around.others other theirs apart).1);
          after = holds_now logs old new channel (channels.at channel) told.0 (asked_was (Finds opens_one opens_two doubt damage_one damage_two channel (reads old)) (size_of before) (channels.at channel) told.0 Is result told.1)
              (λ held suspense has. around.law told.0 held suspense told.2 has) (λ none. leaves);
        },
      )

  -- a store came to a list, or left what was held
  this_of : (next : State) (added : List (List ℕ)) (result : Result ℕ KeeperRefused)
      → StoresAndLeaves opens_one opens_two channel (Finds opens_one opens_two doubt damage_one damage_two channel (reads old)) channels.loaded (channels.at channel) added result next old new
      → LeavesThis (logs_of opens_one opens_two doubt damage_one damage_two owns_one owns_two) channels channel added result next old new
  this_of next added (Ok index) got = inr (
    (got.0.0, got.0.1, got.0.2, got.0.3, (tt, got.0.1, got.0.2, (refl, refl), got.0.4)),
    leaves_more (logs_of opens_one opens_two doubt damage_one damage_two owns_one owns_two) old new channel (channels.at channel) next got.1,
  )
  this_of next added (Err why) (inl got) = inl got.2
  this_of next added (Err why) (inr got) = inr (
    (got.0.0, got.0.1, got.0.2, got.0.3, inr (tt, got.0.1, got.0.2, (refl, refl), got.0.4)),
    leaves_more (logs_of opens_one opens_two doubt damage_one damage_two owns_one owns_two) old new channel (channels.at channel) next got.1,
  )

  -- a store
  pub stored : (added : List (List ℕ)) (result : Result ℕ KeeperRefused) → Around
      → ((file : List ℕ) → owns_two (file_two channel) file → owns_one (file_one channel) file → ⊥)
      → StoresIn rests_one rests_two opens_one opens_two doubt damage_one damage_two holds_one holds_two owns_one owns_two channel added before now result old new
      → (next : State) × Stores (Finds opens_one opens_two doubt damage_one damage_two channel (reads old)) channels.loaded (channels.at channel) added result next
      × IsNow (λ all disk. KeepsAll rests_one rests_two opens_one opens_two doubt holds_one holds_two now all disk) channels channel next new
      × LeavesAll (logs_of opens_one opens_two doubt damage_one damage_two owns_one owns_two) channels channel added result next old new
  stored added result around apart stores =
      let finds = Finds opens_one opens_two doubt damage_one damage_two channel (reads old) in
      let got = stores.stored (channels.at channel) (around.kept.each channel digits) in
      let both = subst (λ (n : ℕ). StoresAndLeaves opens_one opens_two channel finds n (channels.at channel) added result got.0 old new) (sym around.kept.loaded) got.1 in
      let is = stores_of opens_one opens_two channel finds channels.loaded (channels.at channel) got.0 added old new result both in
      let logs = logs_of opens_one opens_two doubt damage_one damage_two owns_one owns_two in (
        got.0,
        is,
        next_is got.0 around got.2,
        record {
          digits = digits;
          acts = stores.files;
          spares_old = newer (owns_one (file_one channel)) (owns_two (file_two channel)) old new apart stores.acts;
          spared = stores.nothing;
          unloaded = λ none. stores.unseen (none_found rests_one rests_two opens_one opens_two doubt holds_one holds_two channel (channel_in now channel) got.0 new none got.2);
          this = this_of got.0 added result both;
          others = λ other theirs apart_is. (around.others other theirs apart_is).1;
          after = holds_now logs old new channel (channels.at channel) got.0 (stored_was finds channels.loaded (channels.at channel) got.0 added result is)
              (λ held suspense has. around.law got.0 held suspense got.2 has)
              (λ none. spared_of opens_one opens_two channel finds channels.loaded (channels.at channel) got.0 added old new result both none);
        },
      )

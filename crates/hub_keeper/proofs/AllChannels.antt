-- What a request to one channel does to all of them, for a keeper over logs.
use Rattle.std.proofs.Common.{◌≡◌, ◌≢◌, ◌∙◌, Some, None, IfSome, true≢false, ℕ, ◌+◌, Bool, true, false, List, refl, sym, ap, subst, Option, bytes_eq}
use Rattle.std.proofs.lemmas.Slice.Eq.{bytes_eq-Decides}
use Rattle.disk_volume.specs.Disk.{Disk}
use Rattle.keeper_channel.specs.declared.slot.Slot.{Slot}
use Rattle.keeper_table.specs.Files.{file_one, file_two}
use Rattle.keeper_state.specs.State.{State, unseen, live, again, Opens, Doubts, StandsFor}
use Rattle.keeper_table.specs.Table.{channel_in, joined, size_of, newly}
use Rattle.keeper_table.specs.declared.table.Table.{Table}
use Rattle.log_format.specs.declared.form.Form.{Form}
use Rattle.log_format.specs.declared.form.Form.TheVariants.{One, Two}
use Rattle.pad_text.specs.Digits.{IsDigits}
use Rattle.netflux_core.specs.Channels.{Channels, IsNow}
use Rattle.hub_keeper.specs.Keeping.{KeepsAll}
use Rattle.hub_keeper.proofs.Putting.{put_state, put_here, put_other, FoundAs, counted}

-- channels of other digits are other channels
pub differ : (channel other : List ℕ) → bytes_eq channel other ≡ false → channel ≢ other
differ channel other apart same = let is : bytes_eq channel other ≡ true = (bytes_eq-Decides channel other).1 same in absurd (true≢false (sym is ∙ apart))

-- what holds of each slot that is there holds of the one that is there, if any
pub if_slot : {S : Type 0} (found : Option (Option S)) (Is : S → Type 0) → ((slot : S) → joined found ≡ Some slot → Is slot) → IfSome (joined found) Is
if_slot None Is each = tt
if_slot (Some None) Is each = tt
if_slot (Some (Some slot)) Is each = each slot refl

module _ {O G : Type 0} (rests_one rests_two : Form → List ℕ → Disk → Type 0) (opens_one opens_two : Opens) (doubt : Doubts)
    (holds_one : O → List (List ℕ) → Disk → Type 0) (holds_two : G → List (List ℕ) → Disk → Type 0) where
  abbrev pub Stands : (channel : List ℕ) → Option (Option (Slot O G)) → State → Disk → Type 0
  Stands channel found state disk = StandsFor rests_one rests_two opens_one opens_two doubt holds_one holds_two channel found state disk

  found_as : (channel : List ℕ) (found : Option (Option (Slot O G))) (state : State) (disk : Disk) → Stands channel found state disk → FoundAs found state
  found_as channel found unseen disk stands = stands.0
  found_as channel found (live held suspense) disk stands = (stands.0, stands.1)
  found_as channel found (again held suspense) disk stands = stands.0

  -- the table has nothing of a channel that is not loaded
  pub none_found : (channel : List ℕ) (found : Option (Option (Slot O G))) (state : State) (disk : Disk) → state ≡ unseen → Stands channel found state disk → found ≡ None
  none_found channel found unseen disk is stands = stands.0
  none_found channel found (live held suspense) disk is stands = absurd (cc)
  none_found channel found (again held suspense) disk is stands = absurd (cc)

  -- of one that is loaded it has a slot
  pub live_found : (channel : List ℕ) (found : Option (Option (Slot O G))) (held suspense : List (List ℕ)) (disk : Disk) → Stands channel found (live held suspense) disk
      → (slot : Slot O G) × (found ≡ Some (Some slot))
  live_found channel found held suspense disk stands = (stands.0, stands.1)

  -- a channel that is loaded in these channels
  pub stands_live : (table : Table (Slot O G)) (channels : Channels) (channel : List ℕ) → IsDigits 32 channel → (disk : Disk) (held suspense : List (List ℕ))
      → KeepsAll rests_one rests_two opens_one opens_two doubt holds_one holds_two table channels disk → channels.at channel ≡ live held suspense
      → Stands channel (channel_in table channel) (live held suspense) disk
  stands_live table channels channel digits disk held suspense kept is = subst (λ (s : State). Stands channel (channel_in table channel) s disk) is (kept.each channel digits)

  -- The channel that was asked is in its next state, and each other one stands as it did: so all are kept.
  pub keeps_next : (before now : Table (Slot O G)) (channels : Channels) (channel : List ℕ) (next : State) (old new : Disk) → IsDigits 32 channel
      → KeepsAll rests_one rests_two opens_one opens_two doubt holds_one holds_two before channels old
      → Stands channel (channel_in now channel) next new
      → ((other : List ℕ) → bytes_eq channel other ≡ false → channel_in now other ≡ channel_in before other)
      → ((other : List ℕ) → IsDigits 32 other → bytes_eq channel other ≡ false → Stands other (channel_in before other) (channels.at other) new)
      → size_of now ≡ size_of before + newly (channel_in before channel) (channel_in now channel)
      → IsNow (λ all disk. KeepsAll rests_one rests_two opens_one opens_two doubt holds_one holds_two now all disk) channels channel next new
  keeps_next before now channels channel next old new digits kept stands same on grew = record {
    now = record { at = put_state channel next channels.at; loaded = size_of now };
    changes = record {
      this = put_here channel next channels.at;
      others = λ other apart. put_other channel next channels.at other apart;
      loaded = grew ∙ ap (λ (n : ℕ). n + newly (channel_in before channel) (channel_in now channel)) (sym kept.loaded)
          ∙ counted channels.loaded (channel_in before channel) (channel_in now channel) (channels.at channel) next
          (found_as channel (channel_in before channel) (channels.at channel) old (kept.each channel digits)) (found_as channel (channel_in now channel) next new stands);
    };
    kept = record {
      each = λ other theirs. by other theirs (bytes_eq channel other) refl;
      loaded = refl;
    };
  }
    where
      by : (other : List ℕ) → IsDigits 32 other → (b : Bool) → bytes_eq channel other ≡ b → Stands other (channel_in now other) (put_state channel next channels.at other) new
      by other theirs true e =
          subst (λ (o : List ℕ). Stands o (channel_in now o) (put_state channel next channels.at o) new) ((bytes_eq-Decides channel other).0 e)
          (subst (λ (s : State). Stands channel (channel_in now channel) s new) (sym (put_here channel next channels.at)) stands)
      by other theirs false e =
          subst (λ (s : State). Stands other (channel_in now other) s new) (sym (put_other channel next channels.at other e))
          (subst (λ (f : Option (Option (Slot O G))). Stands other f (channels.at other) new) (sym (same other e)) (on other theirs e))

-- One channel that becomes another, once or twice.
use Rattle.std.proofs.Common.{◌≡◌, ◌∙◌, ℕ, List, refl, sym, ap, subst}
use Rattle.disk_volume.specs.Disk.{Disk}
use Rattle.keeper_channel.specs.declared.refused.KeeperRefused.{KeeperRefused}
use Rattle.keeper_channel.specs.declared.refused.KeeperRefused.TheVariants.{Full, Store, Damaged, NoMemory}
use Rattle.keeper_state.specs.State.{State, unseen, live, again, ReadRefused}
use Rattle.netflux_core.specs.Channels.{Channels, loaded_after, Changes, IsNow}

-- a loaded channel that becomes what it is changes nothing
pub none_changes : (channels : Channels) (channel : List ℕ) (held suspense : List (List ℕ)) → channels.at channel ≡ live held suspense
    → Changes channels channel (live held suspense) channels
none_changes channels channel held suspense is = record {
  this = is;
  others = λ other apart. refl;
  loaded = sym (ap (λ (s : State). loaded_after channels.loaded s (live held suspense)) is);
}

-- the count after two changes is that after one, if the first loaded the channel
count_twice : (loaded : ℕ) (before : State) (held suspense : List (List ℕ)) (next : State)
    → loaded_after (loaded_after loaded before (live held suspense)) (live held suspense) next ≡ loaded_after loaded before (live held suspense)
count_twice loaded unseen held suspense next = refl
count_twice loaded (live list doubtful) held suspense next = refl
count_twice loaded (again list doubtful) held suspense next = refl

-- an entry that is read leaves a channel loaded, or to be loaded again, with the list and what is in suspense
pub data IsSeenAs (held suspense : List (List ℕ)) : State → Type 0 where
  seen_live : IsSeenAs held suspense (live held suspense)
  seen_again : IsSeenAs held suspense (again held suspense)

count_seen : (loaded : ℕ) (before : State) (held suspense : List (List ℕ)) (next : State) → IsSeenAs held suspense next
    → loaded_after loaded before (live held suspense) ≡ loaded_after loaded before next
count_seen loaded unseen held suspense (live h s) seen_live = refl
count_seen loaded unseen held suspense (again h s) seen_again = refl
count_seen loaded unseen held suspense unseen seen = elim seen [ ]
count_seen loaded (live list doubtful) held suspense next seen = refl
count_seen loaded (again list doubtful) held suspense next seen = refl

-- A channel that is loaded and then becomes another becomes that.
pub changes_then : (before mid after : Channels) (channel : List ℕ) (held suspense : List (List ℕ)) (next : State) → IsSeenAs held suspense next
    → Changes before channel (live held suspense) mid → Changes mid channel next after → Changes before channel next after
changes_then before mid after channel held suspense next seen first second = record {
  this = second.this;
  others = λ other apart. second.others other apart ∙ first.others other apart;
  loaded = second.loaded ∙ ap (λ (s : State). loaded_after mid.loaded s next) first.this
      ∙ ap (λ (n : ℕ). loaded_after n (live held suspense) next) first.loaded
      ∙ count_twice before.loaded (before.at channel) held suspense next
      ∙ count_seen before.loaded (before.at channel) held suspense next seen;
}

-- the same for a keeper: after a change to a loaded channel another one is one change
pub now_then : (keeps : Channels → Disk → Type 0) (before mid : Channels) (channel : List ℕ) (held suspense : List (List ℕ)) (next : State) (disk : Disk) → IsSeenAs held suspense next
    → Changes before channel (live held suspense) mid → IsNow keeps mid channel next disk → IsNow keeps before channel next disk
now_then keeps before mid channel held suspense next disk seen first second = record {
  now = second.now;
  changes = changes_then before mid second.now channel held suspense next seen first second.changes;
  kept = second.kept;
}

-- a read that was refused leaves a channel loaded, or to be loaded again
pub seen_refused : (held suspense : List (List ℕ)) (why : KeeperRefused) (next : State) → ReadRefused held suspense why next → IsSeenAs held suspense next
seen_refused held suspense Full next left = absurd left
seen_refused held suspense Store next left = subst (λ (s : State). IsSeenAs held suspense s) (sym left) seen_again
seen_refused held suspense (Damaged damage) next left = absurd left
seen_refused held suspense (NoMemory memory) next left = subst (λ (s : State). IsSeenAs held suspense s) (sym left) seen_live

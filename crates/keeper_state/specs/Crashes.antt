-- What a store made of a channel, with what each crash since it began leaves of the channel's list.
use Rattle.std.specs.Prelude.{◌≡◌, ◌⊎◌, ℕ, List, Result, Ok, Err}
use Rattle.disk_volume.specs.Disk.{Disk}
use Rattle.keeper_channel.specs.declared.refused.KeeperRefused.{KeeperRefused}
use Rattle.keeper_state.specs.State.{State, Found, Opens, NotReached, FromList, StoreRefused, Stores, LeavesList, LeavesStored}

-- A store of these payloads that was refused before it came to the channel's list left the channel as it was, and each crash leaves what
-- was held before. One that came to a list made of the channel what it tells, and each crash leaves what was held before, that list, or
-- what is held after it.
abbrev pub StoresAndLeaves : (opens_one opens_two : Opens) (channel : List ℕ) (finds : Found → Type 0) (loaded : ℕ) → (state : State) → (added : List (List ℕ)) → Result ℕ KeeperRefused
    → (next : State) → (old new : Disk) → Type 0
StoresAndLeaves opens_one opens_two channel finds loaded state added (Ok index) next old new =
    Stores finds loaded state added (Ok index) next × LeavesStored opens_one opens_two channel finds state next old new
StoresAndLeaves opens_one opens_two channel finds loaded state added (Err refused) next old new =
    (NotReached finds loaded state refused × (next ≡ state) × LeavesList opens_one opens_two channel finds state old new)
    ⊎ (FromList finds loaded state (λ held suspense. StoreRefused held suspense added refused next) × LeavesStored opens_one opens_two channel finds state next old new)

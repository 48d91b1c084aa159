-- Lemmas: what a store made of a channel, and what a crash leaves of it, each by itself.
use Rattle.std.proofs.Common.{inl, inr, ℕ, List, Result, Ok, Err}
use Rattle.disk_volume.specs.Disk.{Disk}
use Rattle.keeper_channel.specs.declared.refused.KeeperRefused.{KeeperRefused}
use Rattle.keeper_state.specs.State.{State, Found, Opens, Stores, LeavesStored}
use Rattle.keeper_state.specs.Crashes.{StoresAndLeaves}

pub stores_of : (opens_one opens_two : Opens) (channel : List ℕ) (finds : Found → Type 0) (loaded : ℕ) (state : State) (added : List (List ℕ)) (result : Result ℕ KeeperRefused)
    (next : State) (old new : Disk) → StoresAndLeaves opens_one opens_two channel finds loaded state added result next old new → Stores finds loaded state added result next
stores_of opens_one opens_two channel finds loaded state added (Ok index) next old new is = is.0
stores_of opens_one opens_two channel finds loaded state added (Err refused) next old new (inl before) = inl (before.0, before.1)
stores_of opens_one opens_two channel finds loaded state added (Err refused) next old new (inr after) = inr after.0

pub leaves_of : (opens_one opens_two : Opens) (channel : List ℕ) (finds : Found → Type 0) (loaded : ℕ) (state : State) (added : List (List ℕ)) (result : Result ℕ KeeperRefused)
    (next : State) (old new : Disk) → StoresAndLeaves opens_one opens_two channel finds loaded state added result next old new
    → LeavesStored opens_one opens_two channel finds state next old new
leaves_of opens_one opens_two channel finds loaded state added (Ok index) next old new is = is.1
leaves_of opens_one opens_two channel finds loaded state added (Err refused) next old new (inl before) = λ held suspense has image left. inl (before.2 held suspense has image left)
leaves_of opens_one opens_two channel finds loaded state added (Err refused) next old new (inr after) = after.1

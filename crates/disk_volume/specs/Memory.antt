-- A volume in memory.
use Rattle.std.specs.Prelude.{◌≡◌, ◌⊎◌, ◌↔◌, ℕ, ◌≤◌, ◌==◌, Bool, false, ◌||◌, List, [], ◌∷◌, ◌++◌, MatchBool, MatchResult, Result, Ok, Err, IsOk, IsErr, IsTrue}
use Rattle.std.specs.List.{list_any}
use Rattle.pad_edge.specs.Count.{Rose}
use Rattle.disk_volume.specs.Clock.{Ticked}
use Rattle.disk_volume.specs.Disk.{Disk, began}
use Rattle.disk_volume.specs.Folder.{bytes_in}
use Rattle.disk_volume.specs.Step.{Step, replay}
use Rattle.disk_volume.specs.Stop.{stops_in, has_stopped, stop_after, stop_later}
use Rattle.disk_volume.specs.declared.stop.Stop.{Stop}
use Rattle.disk_volume.specs.declared.stop.Stop.TheVariants.{Unset}

pub record Memory : Type 0 where
  -- the files that it began with
  pub first : List (List ℕ × List ℕ)
  -- its record: the calls that changed a file, in their order
  pub done : List (List ℕ × Step)
  -- how many calls it had, how many growths were refused to it, and how many calls failed
  pub calls : ℕ
  pub starved : ℕ
  pub faults : ℕ
  -- the numbers of the calls that are to fail
  pub failing : List ℕ
  pub stop : Stop

-- one that begins with these files
abbrev pub fresh : List (List ℕ × List ℕ) → List ℕ → Memory
fresh files numbers = record { first = files; done = []; calls = 0; starved = 0; faults = 0; failing = numbers; stop = Unset }

-- its disk is the model's over its record
abbrev pub disk_of : Memory → Disk
disk_of memory = replay (began (bytes_in memory.first)) memory.done

-- a number is one of these
abbrev pub lists : List ℕ → ℕ → Bool
lists numbers number = list_any (λ listed. listed == number) numbers

-- the number of the call that comes is listed
abbrev pub is_listed : Memory → Bool
is_listed memory = lists memory.failing memory.calls

-- that call is to fail: it is listed, or the volume stops in it or stopped before
abbrev pub must_fail : Memory → Bool
must_fail memory = is_listed memory || stops_in memory.stop memory.calls || has_stopped memory.stop

-- a call fails exactly if it is to fail or a growth was refused in it
pub record FailsExactly {T E : Type 0} (result : Result T E) (old new : Memory) : Type 0 where
  pub failed : IsErr result → IsTrue (must_fail old) ⊎ Ticked old.starved new.starved
  pub ok : IsOk result → (must_fail old ≡ false) × (new.starved ≡ old.starved)

-- and one that takes no memory fails exactly if it is to fail
pub record TakesNoMemory {T E : Type 0} (result : Result T E) (old new : Memory) : Type 0 where
  pub starved : new.starved ≡ old.starved
  pub fails : IsErr result ↔ IsTrue (must_fail old)

-- what each call leaves beside its record
pub record GoesOn {T E : Type 0} (result : Result T E) (old new : Memory) : Type 0 where
  pub first : new.first ≡ old.first
  pub failing : new.failing ≡ old.failing
  pub stop : new.stop ≡ stop_after old.stop old.calls
  -- no count falls
  pub calls : old.calls ≤ new.calls
  pub refused : old.starved ≤ new.starved
  pub later : old.faults ≤ new.faults
  -- a call meets one refused growth at most, and is one fault if it fails
  pub starved : (new.starved ≡ old.starved) ⊎ Ticked old.starved new.starved
  pub faults : MatchResult result (λ done. new.faults ≡ old.faults) (λ failed. Ticked old.faults new.faults)

-- A call is in the record if it answered Ok. One in which the volume stops is there too, unless a growth was
-- refused in it. One that failed otherwise did nothing.
abbrev pub Records : {T E : Type 0} → Result T E → List ℕ × Step → (old new : Memory) → Type 0
Records (Ok done) call old new = new.done ≡ old.done ++ call ∷ []
Records (Err failed) call old new = MatchBool (stops_in old.stop old.calls)
    ((new.done ≡ old.done ++ call ∷ []) ⊎ ((new.done ≡ old.done) × Ticked old.starved new.starved))
    (new.done ≡ old.done)

-- a reason for which calls failed between an earlier and a later state
pub data MayFail (old new : Memory) : Type 0 where
  -- a call whose number is listed was made in between
  listed : (number : ℕ) → IsTrue (lists old.failing number) → old.calls ≤ number → Rose number new.calls → MayFail old new
  -- the volume has stopped
  stopped : IsTrue (has_stopped new.stop) → MayFail old new
  -- a growth was refused in between
  starved : Rose old.starved new.starved → MayFail old new

-- What calls, however many, leave of a volume in memory: the files that it began with and the numbers of the calls that
-- are to fail stay, no count falls, the stop is still set or came, and a call failed only for a reason.
pub record Follows (old new : Memory) : Type 0 where
  pub first : new.first ≡ old.first
  pub failing : new.failing ≡ old.failing
  pub calls : old.calls ≤ new.calls
  pub refused : old.starved ≤ new.starved
  pub later : old.faults ≤ new.faults
  pub stop : new.stop ≡ stop_later old.calls old.stop new.calls
  pub faults : (new.faults ≡ old.faults) ⊎ MayFail old new

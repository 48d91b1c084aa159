-- Why a replay has no report, and the status that it ends with then.
use Rattle.std.specs.Prelude.{⊤, ℕ, ◌<◌, List, length, Option, IfSome}
use Rattle.pad_chain.specs.declared.receive_refused.ReceiveRefused.{ReceiveRefused}
use Rattle.pad_chain.specs.declared.receive_refused.ReceiveRefused.TheVariants as receive
use Rattle.pad_top.specs.declared.refused.ReplayRefused.{ReplayRefused}
use Rattle.pad_top.specs.declared.refused.ReplayRefused.TheVariants as refused
use Rattle.pad_top.specs.declared.status.Status.{Status}
use Rattle.pad_top.specs.declared.status.Status.TheVariants as status
use Rattle.pad_top.specs.Input.{most_bytes}
use Rattle.pad_top.specs.Received.{MeetsOneTooMany}
use Rattle.pad_top.specs.Replay.{IsPastLimit}

-- why the input was not read to its end
abbrev pub IsReadRefusal : Option (List ℕ) → Type 0 → ReplayRefused → Type 0
IsReadRefusal input read_failed refused.ReadFault = read_failed
IsReadRefusal input read_failed refused.Limit = IfSome input (λ bytes. most_bytes < length bytes)
IsReadRefusal input read_failed (refused.NoMemory error) = ⊤

-- why a replay has no report; `read_failed` says that a read failed, and what is said of the input holds where it is told
abbrev pub IsReplayRefusal : Option (List ℕ) → Type 0 → ReplayRefused → Type 0
IsReplayRefusal input read_failed refused.ReadFault = read_failed
IsReplayRefusal input read_failed refused.Limit = IfSome input IsPastLimit
IsReplayRefusal input read_failed (refused.NoMemory error) = ⊤

-- the status of a replay without a report
abbrev pub status_of : ReplayRefused → Status
status_of refused.ReadFault = status.ReadFault
status_of refused.Limit = status.Limit
status_of (refused.NoMemory error) = status.NoMemory

-- why a chain did not receive a message
abbrev pub refusal_of : ReceiveRefused → ReplayRefused
refusal_of receive.Full = refused.Limit
refusal_of (receive.NoMemory error) = refused.NoMemory error

-- why the lines were not received to their end
abbrev pub IsLinesRefusal : List (List ℕ) → ReplayRefused → Type 0
IsLinesRefusal lines refused.ReadFault = ⊥
IsLinesRefusal lines refused.Limit = MeetsOneTooMany lines
IsLinesRefusal lines (refused.NoMemory error) = ⊤

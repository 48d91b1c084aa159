-- The lines that make requests.
use Rattle.std.specs.Prelude.{ℕ, ◌+◌, ◌*◌, ◌/◌, ◌<◌, ◌≤◌, ◌^◌, Bool, true, false, List, length, count_by}
use Rattle.pad_script.specs.declared.act.Act.{Act}
use Rattle.pad_script.specs.declared.act.Act.TheVariants as act
use Rattle.pad_script.specs.declared.session_act.SessionAct.{SessionAct}
use Rattle.pad_script.specs.declared.session_act.SessionAct.TheVariants as session
use Rattle.pad_script.specs.declared.command.Command.{Command}
use Rattle.pad_script.specs.declared.requests.TheConstants.{LEAST_BYTES, MOST_EACH, MOST_REQUESTS}

-- a command that makes a client send requests
abbrev pub makes_requests : Act → Bool
makes_requests (act.Join channel) = true
makes_requests act.Leave = true
makes_requests (act.History from) = true
makes_requests (act.Edit operation) = false
makes_requests act.Sync = true
makes_requests act.Resend = true
makes_requests act.Settle = false
makes_requests (act.Hear count) = false
makes_requests act.Repair = true
makes_requests (act.Interval messages) = false
makes_requests act.Show = false

-- and in a session
abbrev pub session_makes_requests : SessionAct → Bool
session_makes_requests (session.Join client channel) = true
session_makes_requests (session.Leave client) = true
session_makes_requests (session.History client from) = true
session_makes_requests (session.Sync client) = true
session_makes_requests (session.Resend client) = true
session_makes_requests (session.Repair client) = true
session_makes_requests _ = false

-- how many commands make requests
abbrev pub request_lines : {A : Type 0} → (A → Bool) → List (Command A) → ℕ
request_lines makes commands = count_by (λ command. makes command.act) commands

-- So few commands of a script make requests: each takes so many bytes with the end of its line, which the last line may lack.
abbrev pub AreFew : {A : Type 0} → (A → Bool) → List ℕ → List (Command A) → Type 0
AreFew makes bytes commands = LEAST_BYTES * request_lines makes commands ≤ length bytes + 1

-- a script of at most 2^28 bytes makes fewer requests than a client may
abbrev pub RequestsAreBounded : Type 0
RequestsAreBounded = (lines bytes : ℕ) → LEAST_BYTES * lines ≤ bytes + 1 → bytes ≤ 2 ^ 28 → MOST_EACH * lines < MOST_REQUESTS

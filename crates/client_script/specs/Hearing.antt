-- What a line still has to hear.
use Rattle.std.specs.Prelude.{◌-◌, ◌<◌, ◌==◌, ℕ, Bool, true, false, if◌then◌else◌, nat_lt}
use Rattle.pad_client.specs.declared.heard.Heard.{Heard}
use Rattle.pad_client.specs.declared.heard.Heard.TheVariants as heard
use Rattle.client_script.specs.declared.hearing.Hearing.{Hearing}
use Rattle.client_script.specs.declared.hearing.Hearing.TheVariants as hearing

-- an error of this number was heard
abbrev pub is_error_of : ℕ → Heard → Bool
is_error_of number (heard.Error other word) = other == number
is_error_of number _ = false

-- the answer that a line waits for, or the error of its number
abbrev pub is_answer : Hearing → Heard → Bool
is_answer (hearing.Join number) heard.Joined = true
is_answer (hearing.Join number) told = is_error_of number told
is_answer (hearing.Leave number) (heard.Acked other) = other == number
is_answer (hearing.Leave number) told = is_error_of number told
is_answer (hearing.History number) (heard.End total) = true
is_answer (hearing.History number) heard.Unknown = true
is_answer (hearing.History number) told = is_error_of number told
is_answer (hearing.Repair number) (heard.Repaired found) = true
is_answer (hearing.Repair number) told = is_error_of number told
is_answer hearing.Nothing told = false
is_answer hearing.Settle told = false
is_answer (hearing.Texts count) told = false

-- what is still to be heard after this was
abbrev pub hearing_after : Hearing → Heard → Hearing
hearing_after (hearing.Texts count) told = hearing.Texts (count - 1)
hearing_after before told = if is_answer before told then hearing.Nothing else before

-- a text is still to be heard, if this says whether a message of the outbox awaits its answer
abbrev pub is_waiting : Hearing → (awaits : Bool) → Bool
is_waiting hearing.Nothing awaits = false
is_waiting (hearing.Join number) awaits = true
is_waiting (hearing.Leave number) awaits = true
is_waiting (hearing.History number) awaits = true
is_waiting (hearing.Repair number) awaits = true
is_waiting hearing.Settle awaits = awaits
is_waiting (hearing.Texts count) awaits = nat_lt 0 count

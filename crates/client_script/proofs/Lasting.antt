-- A script of at most 2^28 bytes asks for no more than a client has numbers for.
use Rattle.std.proofs.Common.{◌≡◌, ℕ, ◌+◌, ◌*◌, ◌^◌, ◌-◌, ◌<◌, ◌≤◌, Bool, true, false, ◌==◌, if◌then◌else◌, List, [], ◌∷◌, length, Option, None, Some, refl, arith}
use Rattle.netflux_codec.specs.declared.since.Since.TheVariants as since
use Rattle.pad_lines.specs.Line.{before_lines, lines_of, newline}
use Rattle.pad_script.specs.declared.act.Act.{Act}
use Rattle.pad_script.specs.declared.act.Act.TheVariants as act
use Rattle.pad_script.specs.declared.command.Command.{Command}
use Rattle.pad_script.specs.Act.{Says, SpellsAct}
use Rattle.pad_script.specs.Script.{AreSaid, IsScript, commands_from}
use Rattle.client_script.specs.Script.{HasItsInterval, HaveIntervals}

-- a script has no more lines than bytes
before_length : (byte : ℕ) (lines : List (List ℕ)) (count : ℕ) → length lines ≤ count → length (before_lines byte lines) ≤ count + 1
before_length byte [] count few = omega arith
before_length byte (line ∷ lines) count few = omega (arith, few)

lines_length : (bytes : List ℕ) → length (lines_of bytes) ≤ length bytes
lines_length [] = omega arith
lines_length (byte ∷ rest) = go (byte == newline) (lines_length rest)
  where
    go : (ends : Bool) → length (lines_of rest) ≤ length rest → length (if ends then [] ∷ lines_of rest else before_lines byte (lines_of rest)) ≤ length (byte ∷ rest)
    go true few = omega (arith, few)
    go false few = let more = before_length byte (lines_of rest) (length rest) few in omega (arith, more)

-- nor more commands than lines
commands_length : (number : ℕ) (lines : List (List ℕ)) (acts : List (Option Act)) → AreSaid Says lines acts → length (commands_from number acts) ≤ length lines
commands_length number [] [] said = omega arith
commands_length number [] (does ∷ acts) said = absurd said
commands_length number (line ∷ lines) [] said = absurd said
commands_length number (line ∷ lines) (None ∷ acts) said = let rest = commands_length (number + 1) lines acts said.1 in omega (arith, rest)
commands_length number (line ∷ lines) (Some does ∷ acts) said = let rest = commands_length (number + 1) lines acts said.1 in omega (arith, rest)

pub fewer_commands : (bytes : List ℕ) (commands : List (Command Act)) → IsScript Says bytes commands → length commands ≤ length bytes
fewer_commands bytes commands is =
    let few = commands_length 1 (lines_of bytes) is.acts is.said in
    let all = lines_length bytes in
    rw is.numbered (omega (arith, few, all))

-- a line that sets an interval sets one that a checkpoint may have
has_interval : (line : List ℕ) (does : Act) → SpellsAct line does → HasItsInterval does
has_interval line (act.Join channel) spells = tt
has_interval line act.Leave spells = tt
has_interval line (act.History from) spells = tt
has_interval line (act.Edit operation) spells = tt
has_interval line act.Sync spells = tt
has_interval line act.Resend spells = tt
has_interval line act.Settle spells = tt
has_interval line (act.Hear count) spells = tt
has_interval line act.Repair spells = tt
has_interval line (act.Interval messages) spells = spells.1
has_interval line act.Show spells = tt

intervals_from : (number : ℕ) (lines : List (List ℕ)) (acts : List (Option Act)) → AreSaid Says lines acts → HaveIntervals (commands_from number acts)
intervals_from number [] [] said = tt
intervals_from number [] (does ∷ acts) said = absurd said
intervals_from number (line ∷ lines) [] said = absurd said
intervals_from number (line ∷ lines) (None ∷ acts) said = intervals_from (number + 1) lines acts said.1
intervals_from number (line ∷ lines) (Some does ∷ acts) said = (has_interval line does said.0.1, intervals_from (number + 1) lines acts said.1)

pub have_intervals : (bytes : List ℕ) (commands : List (Command Act)) → IsScript Says bytes commands → HaveIntervals commands
have_intervals bytes commands is = rw is.numbered (intervals_from 1 (lines_of bytes) is.acts is.said)

-- The lines of client scripts.
use Rattle.std.specs.Prelude.{◌≡◌, ℕ, ◌^◌, ◌<◌, List, [], ◌∷◌, Option, None, Some, codes, decimal}
use Rattle.std.specs.Str.{IsUtf8}
use Rattle.pad_text.specs.Digits.{IsDigits}
use Rattle.pad_message.specs.Kind.{IsInterval}
use Rattle.netflux_codec.specs.Ask.{IsSince}
use Rattle.pad_script.specs.declared.act.Act.{Act}
use Rattle.pad_script.specs.declared.act.Act.TheVariants as act
use Rattle.pad_script.specs.Parts.{DoesNothing, SpellsOperation, since_words, spaced}

-- a line spells a command
abbrev pub SpellsAct : List ℕ → Act → Type 0
SpellsAct line (act.Join channel) = (line ≡ spaced (codes "join" ∷ channel ∷ [])) × IsDigits 32 channel
SpellsAct line act.Leave = line ≡ codes "leave"
SpellsAct line (act.History from) = (line ≡ spaced (codes "history" ∷ since_words from)) × IsSince from
SpellsAct line (act.Edit operation) = (text : List ℕ) × (line ≡ spaced (codes "edit" ∷ text ∷ [])) × SpellsOperation text operation
SpellsAct line act.Sync = line ≡ codes "sync"
SpellsAct line act.Resend = line ≡ codes "resend"
SpellsAct line act.Settle = line ≡ codes "settle"
SpellsAct line (act.Hear count) = (line ≡ spaced (codes "hear" ∷ decimal count ∷ [])) × (count < 2 ^ 32)
SpellsAct line act.Repair = line ≡ codes "repair"
SpellsAct line (act.Interval messages) = (line ≡ spaced (codes "interval" ∷ decimal messages ∷ [])) × IsInterval messages
SpellsAct line act.Show = line ≡ codes "show"

-- what a line in UTF-8 says: nothing, or a command
abbrev pub Says : List ℕ → Option Act → Type 0
Says line None = IsUtf8 line × DoesNothing line
Says line (Some act) = IsUtf8 line × SpellsAct line act

-- a line says at most one thing
abbrev pub LinesSayOneAct : Type 0
LinesSayOneAct = (line : List ℕ) (first second : Option Act) → Says line first → Says line second → first ≡ second

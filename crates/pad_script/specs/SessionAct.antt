-- The lines of session scripts.
use Rattle.std.specs.Prelude.{◌≡◌, ℕ, ◌^◌, ◌<◌, List, [], ◌∷◌, Option, None, Some, codes, decimal}
use Rattle.std.specs.Str.{IsUtf8}
use Rattle.pad_text.specs.Digits.{IsDigits}
use Rattle.pad_message.specs.Kind.{IsInterval}
use Rattle.netflux_codec.specs.Ask.{IsSince}
use Rattle.disk_volume.specs.declared.pick.Pick.{Pick}
use Rattle.disk_volume.specs.declared.pick.Pick.TheVariants as pick
use Rattle.pad_script.specs.declared.session_act.SessionAct.{SessionAct}
use Rattle.pad_script.specs.declared.session_act.SessionAct.TheVariants as act
use Rattle.pad_script.specs.declared.session_act.TheConstants.{MOST_CLIENTS}
use Rattle.pad_script.specs.Parts.{DoesNothing, SpellsOperation, since_words, spaced}

-- the words that say what a stop leaves
abbrev pub pick_words : Pick → List (List ℕ)
pick_words pick.Old = codes "old" ∷ []
pick_words pick.New = codes "new" ∷ []
pick_words (pick.Torn byte) = codes "torn" ∷ decimal byte ∷ []

-- the byte of a torn range is one
abbrev pub IsPick : Pick → Type 0
IsPick pick.Old = Unit {0}
IsPick pick.New = Unit {0}
IsPick (pick.Torn byte) = byte < 2 ^ 8

-- the line is these words and then a client's number
abbrev pub IsOfClient : List ℕ → List ℕ → ℕ → Type 0
IsOfClient line word client = (line ≡ spaced (word ∷ decimal client ∷ [])) × (client < MOST_CLIENTS)

-- a line spells a command
abbrev pub SpellsSessionAct : List ℕ → SessionAct → Type 0
SpellsSessionAct line (act.Dial client) = IsOfClient line (codes "dial") client
SpellsSessionAct line (act.Hang client) = IsOfClient line (codes "hang") client
SpellsSessionAct line (act.Join client channel) = (line ≡ spaced (codes "join" ∷ decimal client ∷ channel ∷ [])) × (client < MOST_CLIENTS) × IsDigits 32 channel
SpellsSessionAct line (act.Leave client) = IsOfClient line (codes "leave") client
SpellsSessionAct line (act.Sync client) = IsOfClient line (codes "sync") client
SpellsSessionAct line (act.Resend client) = IsOfClient line (codes "resend") client
SpellsSessionAct line (act.Repair client) = IsOfClient line (codes "repair") client
SpellsSessionAct line (act.History client from) = (line ≡ spaced (codes "history" ∷ decimal client ∷ since_words from)) × (client < MOST_CLIENTS) × IsSince from
SpellsSessionAct line (act.Edit client operation) =
    (text : List ℕ) × (line ≡ spaced (codes "edit" ∷ decimal client ∷ text ∷ [])) × (client < MOST_CLIENTS) × SpellsOperation text operation
SpellsSessionAct line (act.Interval client messages) =
    (line ≡ spaced (codes "interval" ∷ decimal client ∷ decimal messages ∷ [])) × (client < MOST_CLIENTS) × IsInterval messages
SpellsSessionAct line (act.Up client) = IsOfClient line (codes "up") client
SpellsSessionAct line (act.Down client) = IsOfClient line (codes "down") client
SpellsSessionAct line (act.RepeatUp client) = IsOfClient line (codes "repeatup") client
SpellsSessionAct line (act.RepeatDown client) = IsOfClient line (codes "repeatdown") client
SpellsSessionAct line (act.LoseUp client) = IsOfClient line (codes "loseup") client
SpellsSessionAct line (act.LoseDown client) = IsOfClient line (codes "losedown") client
SpellsSessionAct line act.Run = line ≡ codes "run"
SpellsSessionAct line (act.Stop call pick) = (line ≡ spaced (codes "stop" ∷ decimal call ∷ pick_words pick)) × (0 < call) × (call < 2 ^ 32) × IsPick pick
SpellsSessionAct line act.Reopen = line ≡ codes "reopen"
SpellsSessionAct line (act.Show client) = IsOfClient line (codes "show") client
SpellsSessionAct line (act.Log channel) = (line ≡ spaced (codes "log" ∷ channel ∷ [])) × IsDigits 32 channel

-- what a line in UTF-8 says: nothing, or a command
abbrev pub SaysInSession : List ℕ → Option SessionAct → Type 0
SaysInSession line None = IsUtf8 line × DoesNothing line
SaysInSession line (Some act) = IsUtf8 line × SpellsSessionAct line act

-- a line says at most one thing
abbrev pub LinesSayOneSessionAct : Type 0
LinesSayOneSessionAct = (line : List ℕ) (first second : Option SessionAct) → SaysInSession line first → SaysInSession line second → first ≡ second

-- Lines that private functions read.
use Rattle.std.specs.Prelude.{◌≢◌, ℕ, Bool, not, List, [], ◌∷◌, codes, ◌==◌}
use Rattle.std.specs.List.{list_all}
use Rattle.netflux_codec.specs.declared.since.Since.TheVariants as since
use Rattle.pad_script.specs.declared.act.Act.{Act}
use Rattle.pad_script.specs.declared.act.Act.TheVariants as act
use Rattle.pad_script.specs.declared.session_act.SessionAct.{SessionAct}
use Rattle.pad_script.specs.declared.session_act.SessionAct.TheVariants as session
use Rattle.pad_script.specs.Parts.{space}

-- no space stands in a word
abbrev pub has_no_space : List ℕ → Bool
has_no_space word = list_all (λ byte. not (byte == space)) word

-- the text begins with no sign, and with a zero only where that is all of it
abbrev pub BeginsAsNumber : List ℕ → Type 0
BeginsAsNumber [] = Unit {0}
BeginsAsNumber (byte ∷ []) = byte ≢ 43
BeginsAsNumber (byte ∷ next ∷ rest) = (byte ≢ 43) × (byte ≢ 48)

-- commands of a client script whose line is always the same
abbrev pub IsOneWord : Act → Type 0
IsOneWord act.Leave = Unit {0}
IsOneWord (act.History since.Default) = Unit {0}
IsOneWord (act.History since.All) = Unit {0}
IsOneWord act.Sync = Unit {0}
IsOneWord act.Resend = Unit {0}
IsOneWord act.Settle = Unit {0}
IsOneWord act.Repair = Unit {0}
IsOneWord act.Show = Unit {0}
IsOneWord _ = ⊥

-- commands of a session whose line is a word and a client's number
abbrev pub IsWordAndClient : SessionAct → Type 0
IsWordAndClient (session.Dial client) = Unit {0}
IsWordAndClient (session.Hang client) = Unit {0}
IsWordAndClient (session.Leave client) = Unit {0}
IsWordAndClient (session.Sync client) = Unit {0}
IsWordAndClient (session.Resend client) = Unit {0}
IsWordAndClient (session.Repair client) = Unit {0}
IsWordAndClient (session.History client since.Default) = Unit {0}
IsWordAndClient (session.Up client) = Unit {0}
IsWordAndClient (session.Down client) = Unit {0}
IsWordAndClient (session.RepeatUp client) = Unit {0}
IsWordAndClient (session.RepeatDown client) = Unit {0}
IsWordAndClient (session.LoseUp client) = Unit {0}
IsWordAndClient (session.LoseDown client) = Unit {0}
IsWordAndClient (session.Show client) = Unit {0}
IsWordAndClient _ = ⊥

-- that word
abbrev pub word_of : SessionAct → List ℕ
word_of (session.Dial client) = codes "dial"
word_of (session.Hang client) = codes "hang"
word_of (session.Leave client) = codes "leave"
word_of (session.Sync client) = codes "sync"
word_of (session.Resend client) = codes "resend"
word_of (session.Repair client) = codes "repair"
word_of (session.History client from) = codes "history"
word_of (session.Up client) = codes "up"
word_of (session.Down client) = codes "down"
word_of (session.RepeatUp client) = codes "repeatup"
word_of (session.RepeatDown client) = codes "repeatdown"
word_of (session.LoseUp client) = codes "loseup"
word_of (session.LoseDown client) = codes "losedown"
word_of (session.Show client) = codes "show"
word_of _ = []

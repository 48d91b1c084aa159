-- Lines of a word and a client's number.
use Rattle.std.proofs.Common.{◌≡◌, ◌≢◌, ℕ, ◌^◌, ◌<◌, Bool, true, List, [], ◌∷◌, ◌++◌, refl, sym, ap, ◌∙◌, arith}
use Rattle.std.specs.Prelude.{codes, decimal}
use Rattle.netflux_codec.specs.declared.since.Since.TheVariants as since
use Rattle.pad_script.specs.declared.session_act.SessionAct.{SessionAct}
use Rattle.pad_script.specs.declared.session_act.SessionAct.TheVariants as session
use Rattle.pad_script.specs.declared.session_act.TheConstants.{MOST_CLIENTS}
use Rattle.pad_script.specs.Parts.{space}
use Rattle.pad_script.specs.SessionAct.{SpellsSessionAct}
use Rattle.pad_script.specs.Inside.Words.{IsWordAndClient, has_no_space, word_of}

-- such a line, and its parts
pub record HasWord (line : List ℕ) (act : SessionAct) : Type 0 where
  pub client : ℕ
  pub small : client < MOST_CLIENTS
  pub word : has_no_space (word_of act) ≡ true
  pub written : line ≡ word_of act ++ space ∷ decimal client

pub has_word : (line : List ℕ) (act : SessionAct) → IsWordAndClient act → SpellsSessionAct line act → HasWord line act
has_word line (session.Dial client) is spells = record { client = client; small = spells.1; word = refl; written = spells.0 }
has_word line (session.Hang client) is spells = record { client = client; small = spells.1; word = refl; written = spells.0 }
has_word line (session.Leave client) is spells = record { client = client; small = spells.1; word = refl; written = spells.0 }
has_word line (session.Sync client) is spells = record { client = client; small = spells.1; word = refl; written = spells.0 }
has_word line (session.Resend client) is spells = record { client = client; small = spells.1; word = refl; written = spells.0 }
has_word line (session.Repair client) is spells = record { client = client; small = spells.1; word = refl; written = spells.0 }
has_word line (session.History client since.Default) is spells = record { client = client; small = spells.1; word = refl; written = spells.0 }
has_word line (session.Up client) is spells = record { client = client; small = spells.1; word = refl; written = spells.0 }
has_word line (session.Down client) is spells = record { client = client; small = spells.1; word = refl; written = spells.0 }
has_word line (session.RepeatUp client) is spells = record { client = client; small = spells.1; word = refl; written = spells.0 }
has_word line (session.RepeatDown client) is spells = record { client = client; small = spells.1; word = refl; written = spells.0 }
has_word line (session.LoseUp client) is spells = record { client = client; small = spells.1; word = refl; written = spells.0 }
has_word line (session.LoseDown client) is spells = record { client = client; small = spells.1; word = refl; written = spells.0 }
has_word line (session.Show client) is spells = record { client = client; small = spells.1; word = refl; written = spells.0 }
has_word line _ is spells = elim is [ ]

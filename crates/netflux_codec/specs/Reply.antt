-- Replies: what the hub says to a client.
use Rattle.std.specs.Prelude.{◌≡◌, ℕ, ◌^◌, ◌<◌, ◌≤◌, List, [], ◌∷◌, codes}
use Rattle.serde_json.specs.Data.{Data, string}
use Rattle.serde_json.specs.Written.{compact_text}
use Rattle.pad_text.specs.Digits.{IsDigits}
use Rattle.pad_json.specs.Data.{array_of, whole}
use Rattle.pad_json.specs.Name.{IsName, name_data}
use Rattle.pad_json.specs.Spells.{Spells}
use Rattle.netflux_codec.specs.Who.{IsWho, who_digits}
use Rattle.netflux_codec.specs.Word.{word_text}
use Rattle.netflux_codec.specs.declared.reply.Reply.{Reply}
use Rattle.netflux_codec.specs.declared.reply.Reply.TheVariants as reply
use Rattle.netflux_codec.specs.declared.reply.TheConstants.{MOST_ENTRIES}

-- the elements of a reply
abbrev pub reply_elements : Reply → List Data
reply_elements (reply.Ident id) = whole 0 ∷ string [] ∷ string (codes "IDENT") ∷ string id ∷ []
reply_elements (reply.Joined seq channel) = whole seq ∷ string (codes "JACK") ∷ string channel ∷ []
reply_elements (reply.Member who channel) = whole 0 ∷ string (who_digits who) ∷ string (codes "JOIN") ∷ string channel ∷ []
reply_elements (reply.Gone id channel reason) = whole 0 ∷ string id ∷ string (codes "LEAVE") ∷ string channel ∷ string reason ∷ []
reply_elements (reply.Msg id target content) = whole 0 ∷ string id ∷ string (codes "MSG") ∷ string target ∷ string content ∷ []
reply_elements (reply.Ack seq) = whole seq ∷ string (codes "ACK") ∷ []
reply_elements (reply.Error seq word about) = whole seq ∷ string (codes "ERROR") ∷ string (word_text word) ∷ string about ∷ []
reply_elements (reply.History keeper channel index sender content) =
    whole 0 ∷ string keeper ∷ string (codes "HISTORY") ∷ string channel ∷ whole index ∷ string sender ∷ string content ∷ []
reply_elements (reply.Entry keeper channel index moment sender content) =
    whole 0 ∷ string keeper ∷ string (codes "ENTRY") ∷ string channel ∷ whole index ∷ whole moment ∷ string sender ∷ string content ∷ []
reply_elements (reply.HistoryEnd keeper channel total) = whole 0 ∷ string keeper ∷ string (codes "HISTORY_END") ∷ string channel ∷ whole total ∷ []
reply_elements (reply.HistoryUnknown keeper channel key) =
    whole 0 ∷ string keeper ∷ string (codes "HISTORY_UNKNOWN") ∷ string channel ∷ name_data key ∷ []

-- identities and channels have their digits, numbers 32 bits, a moment 64, and an index or a total is not too great
abbrev pub IsReply : Reply → Type 0
IsReply (reply.Ident id) = IsDigits 32 id
IsReply (reply.Joined seq channel) = (seq < 2 ^ 32) × IsDigits 32 channel
IsReply (reply.Member who channel) = IsWho who × IsDigits 32 channel
IsReply (reply.Gone id channel reason) = IsDigits 32 id × IsDigits 32 channel
IsReply (reply.Msg id target content) = IsDigits 32 id
IsReply (reply.Ack seq) = seq < 2 ^ 32
IsReply (reply.Error seq word about) = seq < 2 ^ 32
IsReply (reply.History keeper channel index sender content) = IsDigits 16 keeper × IsDigits 32 channel × (index ≤ MOST_ENTRIES) × IsDigits 32 sender
IsReply (reply.Entry keeper channel index moment sender content) =
    IsDigits 16 keeper × IsDigits 32 channel × (index ≤ MOST_ENTRIES) × (moment < 2 ^ 64) × IsDigits 32 sender
IsReply (reply.HistoryEnd keeper channel total) = IsDigits 16 keeper × IsDigits 32 channel × (total ≤ MOST_ENTRIES)
IsReply (reply.HistoryUnknown keeper channel key) = IsDigits 16 keeper × IsDigits 32 channel × IsName key

-- an index or a total in the reply is not too great
abbrev pub HasSmallCounts : Reply → Type 0
HasSmallCounts (reply.History keeper channel index sender content) = index ≤ MOST_ENTRIES
HasSmallCounts (reply.Entry keeper channel index moment sender content) = index ≤ MOST_ENTRIES
HasSmallCounts (reply.HistoryEnd keeper channel total) = total ≤ MOST_ENTRIES
HasSmallCounts _ = Unit {0}

-- a text spells a reply
pub record Replies (text : List ℕ) (reply : Reply) : Type 0 where
  pub spells : Spells text (array_of (reply_elements reply))
  pub typed : IsReply reply

-- the text of a reply
unfoldable pub reply_text : Reply → List ℕ
reply_text reply = compact_text (array_of (reply_elements reply))

-- a text spells at most one reply
abbrev pub TextsSpellOneReply : Type 0
TextsSpellOneReply = (text : List ℕ) (first second : Reply) → Replies text first → Replies text second → first ≡ second

-- what is written for a reply spells it
abbrev pub ReplyTextsSpell : Type 0
ReplyTextsSpell = (reply : Reply) → IsReply reply → Replies (reply_text reply) reply

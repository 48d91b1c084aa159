-- What befalls a client, one event after another, and what that adds to its past.
use Rattle.std.specs.Prelude.{◌≡◌, ℕ, Bool, true, false, Option, Some, List, [], ◌∷◌, ◌++◌, map, reverse, drop, length}
use Rattle.pad_patch.specs.declared.operation.Operation.{Operation}
use Rattle.netflux_codec.specs.declared.since.Since.{Since}
use Rattle.netflux_codec.specs.declared.reply.Reply.{Reply}
use Rattle.netflux_codec.specs.Reply.{Replies}
use Rattle.client_copy.specs.Pad.{committed}
use Rattle.client_outbox.specs.Outbox.{Unacknowledged}
use Rattle.client_requests.specs.State as requested
use Rattle.client_requests.specs.State.{repairs}
use Rattle.client_requests.specs.Calls.{Joins, Leaves, Asks, Resends, without_connection}
use Rattle.pad_client.specs.declared.heard.Heard.{Heard}
use Rattle.pad_client.specs.declared.heard.Heard.TheVariants as heard
use Rattle.pad_client.specs.State.{ClientState, new_client, with_requests}
use Rattle.pad_client.specs.Calls.{Edits, with_interval}
use Rattle.pad_client.specs.Sync.{Syncs, own_messages}
use Rattle.pad_client.specs.Repair.{BeginsRepair, with_answered}
use Rattle.pad_client.specs.Hear.{HearsReply, Addressed, content_of}
use Rattle.client_laws.specs.Past.{Past, took, made, left, repair_begins, repair_ends, repair_given_up}

-- ---- hearing

-- the answer tells the end of a repair
abbrev pub is_end : Heard → Bool
is_end (heard.Repaired found) = true
is_end heard.Strange = false
is_end heard.Ident = false
is_end (heard.Error number word) = false
is_end heard.Joined = false
is_end (heard.Acked number) = false
is_end heard.Adopted = false
is_end heard.Unreadable = false
is_end (heard.Content moved) = false
is_end (heard.End total) = false
is_end heard.Unknown = false
is_end heard.Ignored = false

-- the reply brings a content for the client's channel, or none
pub data Takes (client : ClientState) (said : Reply) (past : List Past) : (now : List Past) → Type 0 where
  brings : (addressed : Addressed) → content_of said ≡ Some addressed → client.requests.channel ≡ Some addressed.target → Takes client said past (took addressed.content ∷ past)
  brings_none : ((addressed : Addressed) → content_of said ≡ Some addressed → ¬ (client.requests.channel ≡ Some addressed.target)) → Takes client said past past

-- own messages that left the outbox; one that stays may await its answer no more
pub data Lefts : (old new : List Unacknowledged) → (past now : List Past) → Type 0 where
  no_more : (past : List Past) → Lefts [] [] past past
  stays : (number : Option ℕ) (own : Unacknowledged) (old new : List Unacknowledged) (past now : List Past) → Lefts old new past now
      → Lefts (own ∷ old) (record own { number = number } ∷ new) past now
  leaves : (own : Unacknowledged) (old new : List Unacknowledged) (past now : List Past) → Lefts old new past now → Lefts (own ∷ old) new past (left own.message ∷ now)

-- a repair that ran before the text and does not run after it has ended, or an error gave it up
abbrev pub repair_told : (ran runs ends : Bool) → List Past → List Past
repair_told false runs ends past = past
repair_told true true ends past = past
repair_told true false true past = repair_ends ∷ past
repair_told true false false past = repair_given_up ∷ past

-- what a reply adds that a client heard with this answer
pub record Adds (before : ClientState) (said : Reply) (answer : Heard) (after : ClientState) (past now : List Past) : Type 0 where
  pub with_content : List Past
  pub takes : Takes before said past with_content
  pub with_lefts : List Past
  pub lefts : Lefts before.requests.outbox after.requests.outbox with_content with_lefts
  pub is_now : now ≡ repair_told (repairs before.requests.asked) (repairs after.requests.asked) (is_end answer) with_lefts

-- ---- all events

-- the messages that were made by a call which made the one outbox of the other
abbrev pub made_since : (old new : List Unacknowledged) → List Past → List Past
made_since old new past = reverse (map (λ (own : Unacknowledged). made own.message) (drop (length old) new)) ++ past

-- a repair that ran is given up where the connection is lost
abbrev pub past_lost : (ran : Bool) → List Past → List Past
past_lost true past = repair_given_up ∷ past
past_lost false past = past

-- one event: a text that is heard, or a call that is not refused
pub data Befalls (past : List Past) (before : ClientState) : (now : List Past) → (after : ClientState) → Type 0 where
  hears_strange : (text : List ℕ) → ((said : Reply) → ¬ (Replies text said)) → Befalls past before past before
  hears : (text : List ℕ) (said : Reply) (answer : Heard) (after : ClientState) (now : List Past) → Replies text said → HearsReply before said answer after
      → Adds before said answer after past now → Befalls past before now after
  syncs : (texts : List (List ℕ)) (after : ClientState) → Syncs before texts after → Befalls past before (made_since before.requests.outbox after.requests.outbox past) after
  begins_repair : (text : List ℕ) (after : ClientState) → BeginsRepair before text after → Befalls past before (repair_begins (own_messages before.requests.outbox) ∷ past) after
  loses : Befalls past before (past_lost (repairs before.requests.asked) past) (with_answered (without_connection before.requests) before)
  joins : (channel text : List ℕ) (next : requested.State) → Joins before.requests channel text next → Befalls past before past (with_requests next before)
  leaves_channel : (text : List ℕ) (next : requested.State) → Leaves before.requests text next → Befalls past before past (with_requests next before)
  asks : (from : Since) (text : List ℕ) (next : requested.State) → Asks before.requests from text next → Befalls past before past (with_requests next before)
  resends : (texts : List (List ℕ)) (next : requested.State) → Resends before.requests texts next → Befalls past before past (with_requests next before)
  edits : (operation : Operation) (after : ClientState) → Edits (committed before.copy.pad) before operation after → Befalls past before past after
  sets_interval : (interval : ℕ) → Befalls past before past (with_interval interval before)

-- all that befell a client since it was new
pub data Lives : List Past → ClientState → Type 0 where
  begins : Lives [] new_client
  goes_on : (past now : List Past) (before after : ClientState) → Lives past before → Befalls past before now after → Lives now after

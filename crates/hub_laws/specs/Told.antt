-- What a hub tells its connections, and which contents that brings.
use Rattle.std.specs.Prelude.{◌≡◌, ◌⊎◌, ℕ, List, [], ◌∷◌, Contains}
use Rattle.keeper_entry.specs.Entry.{content_in}
use Rattle.keeper_state.specs.State.{State, unseen, live, again}
use Rattle.netflux_codec.specs.declared.reply.Reply.{Reply}
use Rattle.netflux_codec.specs.declared.reply.Reply.TheVariants as reply
use Rattle.netflux_codec.specs.Reply.{reply_text}
use Rattle.netflux_core.specs.Channels.{Channels}
use Rattle.netflux_rooms.specs.Rooms.{Identities}
use Rattle.pad_text.specs.Digits.{IsDigits}
use Rattle.serve_loop.specs.declared.out.Out.{Out}
use Rattle.serve_loop.specs.declared.out.Out.TheVariants.{Send, HangUp}

-- each text among outputs is that of a reply of which P holds
abbrev pub AreTold : (P : Reply → Type 0) → List Out → Type 0
AreTold P [] = Unit {0}
AreTold P (Send number text ∷ outs) = ((said : Reply) × (text ≡ reply_text said) × P said) × AreTold P outs
AreTold P (HangUp number ∷ outs) = AreTold P outs

-- so it is with the outputs of each step
abbrev pub AllAreTold : (P : Reply → Type 0) → List (List Out) → Type 0
AllAreTold P [] = Unit {0}
AllAreTold P (outs ∷ outputs) = AreTold P outs × AllAreTold P outputs

-- the reply brings this content for a channel or a connection: a message, or an entry of a history
abbrev pub Brings : Reply → (target content : List ℕ) → Type 0
Brings (reply.Msg id to text) target content = (to ≡ target) × (text ≡ content)
Brings (reply.History keeper channel index sender text) target content = (channel ≡ target) × (text ≡ content)
Brings (reply.Entry keeper channel index moment sender text) target content = (channel ≡ target) × (text ≡ content)
Brings (reply.Ident id) target content = ⊥
Brings (reply.Joined number channel) target content = ⊥
Brings (reply.Member who channel) target content = ⊥
Brings (reply.Gone id channel reason) target content = ⊥
Brings (reply.Ack number) target content = ⊥
Brings (reply.Error number word about) target content = ⊥
Brings (reply.HistoryEnd keeper channel total) target content = ⊥
Brings (reply.HistoryUnknown keeper channel key) target content = ⊥

-- what is held of a channel that was loaded
abbrev pub IsHeld : State → List (List ℕ) → Type 0
IsHeld unseen held = ⊥
IsHeld (live list suspense) held = held ≡ list
IsHeld (again list suspense) held = held ≡ list

-- an entry that a channel holds has this content
pub record IsHeldContent (channels : Channels) (channel content : List ℕ) : Type 0 where
  pub held : List (List ℕ)
  pub is_held : IsHeld (channels.at channel) held
  pub payload : List ℕ
  pub has : Contains held payload
  pub same : content_in payload ≡ content

-- the digits of a connection
abbrev pub IsConnection : Identities → List ℕ → Type 0
IsConnection identities target = (serial : ℕ) × (identities.connection serial ≡ target)

-- a content that the reply brings is an entry of what the channel holds, or it is for a connection
abbrev pub IsFounded : Identities → Channels → Reply → Type 0
IsFounded identities channels said = (target content : List ℕ) → Brings said target content → IsHeldContent channels target content ⊎ IsConnection identities target

-- connections have 32 digits
abbrev pub HaveDigits : Identities → Type 0
HaveDigits identities = (serial : ℕ) → IsDigits 32 (identities.connection serial)

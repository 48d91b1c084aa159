-- Why a conversation ended early.
use Rattle.std.specs.Prelude.{Bool, true, false, Result, Ok, Err}
use Rattle.pad_conversation.specs.declared.refused.SpeakerRefused.{SpeakerRefused}
use Rattle.pad_conversation.specs.declared.refused.SpeakerRefused.TheVariants as speaker
use Rattle.pad_conversation.specs.declared.refused.ConversationRefused.{ConversationRefused}
use Rattle.pad_conversation.specs.declared.refused.ConversationRefused.TheVariants as refused

-- a refusal of the speaker ends the conversation for the same cause
abbrev pub refusal_of : SpeakerRefused → ConversationRefused
refusal_of speaker.Full = refused.Full
refusal_of speaker.NoMemory = refused.NoMemory

-- a call of the link failed
abbrev pub is_link : {T : Type 0} → Result T ConversationRefused → Bool
is_link (Ok value) = false
is_link (Err refused.Link) = true
is_link (Err refused.Ended) = false
is_link (Err refused.Write) = false
is_link (Err refused.Full) = false
is_link (Err refused.NoMemory) = false

-- the link ended
abbrev pub is_ended : {T : Type 0} → Result T ConversationRefused → Bool
is_ended (Ok value) = false
is_ended (Err refused.Link) = false
is_ended (Err refused.Ended) = true
is_ended (Err refused.Write) = false
is_ended (Err refused.Full) = false
is_ended (Err refused.NoMemory) = false

-- a write failed
abbrev pub is_write : {T : Type 0} → Result T ConversationRefused → Bool
is_write (Ok value) = false
is_write (Err refused.Link) = false
is_write (Err refused.Ended) = false
is_write (Err refused.Write) = true
is_write (Err refused.Full) = false
is_write (Err refused.NoMemory) = false

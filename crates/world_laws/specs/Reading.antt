-- That a client hears what the hub said.
use Rattle.std.specs.Prelude.{◌≡◌, ℕ}
use Rattle.netflux_codec.specs.declared.reply.Reply.{Reply}
use Rattle.netflux_codec.specs.declared.reply.Reply.TheVariants as reply
use Rattle.netflux_codec.specs.Reply.{Replies, reply_text}
use Rattle.pad_client.specs.Hear.{content_of}
use Rattle.hub_laws.specs.Small.{HasSmallNumbers}

-- what is heard of the text of a reply brings the content that the reply brings
abbrev pub ContentsReadBack : Type 0
ContentsReadBack = (said heard : Reply) → HasSmallNumbers said → Replies (reply_text said) heard → content_of heard ≡ content_of said

-- what is heard as an acknowledgement was said as one
abbrev pub AcksReadBack : Type 0
AcksReadBack = (said : Reply) (number : ℕ) → HasSmallNumbers said → Replies (reply_text said) (reply.Ack number) → said ≡ reply.Ack number

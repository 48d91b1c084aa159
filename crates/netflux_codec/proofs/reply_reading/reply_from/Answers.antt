-- The elements are those of no reply.
use Rattle.netflux_codec.specs.declared.reply.Reply.TheVariants as reply
use Rattle.netflux_codec.proofs.reply_reading.reply_from.Goals as goal

pub returns : goal.returns
returns c (reply.Ident id) = c.in_default.ensures.none id
returns c (reply.Joined seq channel) = c.in_default-joined_from.ensures.none seq channel
returns c (reply.Member who channel) = c.in_default-member_from.ensures.none who channel
returns c (reply.Gone id channel reason) = let none = rw c.in_default-2.is at c.in_ok-reply.ensures in none id channel reason
returns c (reply.Msg id target content) = let none = rw c.in_default-3.is at c.in_ok-reply-2.ensures in none id target content
returns c (reply.Ack seq) = c.in_default-ack_from.ensures.none seq
returns c (reply.Error seq word about) = let none = rw c.in_default-4.is at c.in_ok-reply-3.ensures in none seq word about
returns c (reply.History keeper channel index sender content) = let none = rw c.in_default-5.is at c.in_ok-reply-4.ensures in none keeper channel index sender content
returns c (reply.Entry keeper channel index moment sender content) =
    let none = rw c.in_default-6.is at c.in_ok-reply-5.ensures in none keeper channel index moment sender content
returns c (reply.HistoryEnd keeper channel total) = c.in_default-history_end_from.ensures.none keeper channel total
returns c (reply.HistoryUnknown keeper channel key) = c.in_default-history_unknown_from.ensures.none keeper channel key

use Rattle.std.proofs.Common.{refl}
use Rattle.netflux_codec.proofs.Elements.{eight}
use Rattle.netflux_codec.proofs.reply_reading.entry_from.Goals as goal

pub returns : goal.returns
returns c =
    let m = c.in-Some-Some-Some-Some-Some in
    let keeper = m.ensures.some in
    let channel = m.ensures'.some in
    let index = m.ensures''.some in
    let moment = m.ensures'''.some in
    let sender = m.ensures''''.some in
    let content = rw c.in-Some.is at c.in_ok-content.ensures in (
      eight c.args.elements.now _ _ _ _ _ _ _ _ _ _ _ _ _ _ _ _ c.in-len8.len_at_least c.in-len8.len_below
          c.zero-item.is c.keeper-item.is c.word-item.is c.channel-item.is c.index-item.is c.moment-item.is c.sender-item.is c.content-item.is
          (c.if-not-is_zero.ensures.0 refl) keeper.0 (c.if-not-is_string.ensures.0 refl) channel.0 index.0 moment.0 sender.0 content,
      (keeper.1, channel.1, index.1, moment.1, sender.1),
    )

use Rattle.netflux_codec.proofs.Readings.{no_reply}
use Rattle.netflux_codec.proofs.reply_reading.read_reply.Goals as goal

pub returns-clause-strange : goal.returns-clause-strange
returns-clause-strange c _ =
    let elements = rw c.in-Some.is at c.in_ok-elements.ensures.found in
    let none = rw c.in-None.is at c.in_ok-reply.ensures in
    no_reply c.args.text.now c.in-Some.elements.items c.as_slice.result.now c.as_slice.ensures.value elements none

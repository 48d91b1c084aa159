use Rattle.netflux_codec.proofs.Readings.{no_ask}
use Rattle.netflux_codec.proofs.ask_reading.read_ask.Goals as goal

pub returns-clause-invalid : goal.returns-clause-invalid
returns-clause-invalid c _ =
    let elements = rw c.in-Some.is at c.in_ok-elements.ensures.found in
    no_ask c.args.content.now c.in-Some.elements.items c.as_slice.result.now c.as_slice.ensures.value elements c.in-None.ensures.none

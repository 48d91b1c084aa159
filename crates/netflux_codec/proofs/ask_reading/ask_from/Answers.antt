-- The elements are those of no question.
use Rattle.netflux_codec.specs.declared.ask.Ask.TheVariants.{History, At}
use Rattle.netflux_codec.specs.declared.since.Since.TheVariants as since
use Rattle.netflux_codec.proofs.ask_reading.ask_from.Goals as goal

pub returns-clause-none : goal.returns-clause-none
returns-clause-none c (History channel since.Default) = c.in_default.ensures.none channel
returns-clause-none c (History channel (since.Known key)) = c.in_default-known_from.ensures.none channel key
returns-clause-none c (History channel since.All) = c.in_default-all_from.ensures.none channel
returns-clause-none c (At channel index) = c.in_default-at_from.ensures.none channel index

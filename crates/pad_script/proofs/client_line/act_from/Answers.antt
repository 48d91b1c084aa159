-- The line spells no command.
use Rattle.netflux_codec.specs.declared.since.Since.TheVariants as since
use Rattle.pad_script.specs.declared.act.Act.TheVariants as act
use Rattle.pad_script.proofs.client_line.act_from.Goals as goal

pub returns : goal.returns
returns c (act.Join channel) = c.in_default-join_from.ensures.none channel
returns c act.Leave = c.in_default.ensures.none act.Leave tt
returns c (act.History since.Default) = c.in_default.ensures.none (act.History since.Default) tt
returns c (act.History (since.Known key)) = c.in_default-known_from.ensures.none key
returns c (act.History since.All) = c.in_default.ensures.none (act.History since.All) tt
returns c (act.Edit operation) = let none = rw c.in_default-2.is at c.in_ok-act.ensures in none operation
returns c act.Sync = c.in_default.ensures.none act.Sync tt
returns c act.Resend = c.in_default.ensures.none act.Resend tt
returns c act.Settle = c.in_default.ensures.none act.Settle tt
returns c (act.Hear count) = c.in_default-hear_from.ensures.none count
returns c act.Repair = c.in_default.ensures.none act.Repair tt
returns c (act.Interval messages) = c.in_default-set_interval_from.ensures.none messages
returns c act.Show = c.in_default.ensures.none act.Show tt

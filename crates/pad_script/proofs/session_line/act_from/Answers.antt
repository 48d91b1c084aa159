-- The line spells no command.
use Rattle.netflux_codec.specs.declared.since.Since.TheVariants as since
use Rattle.pad_script.specs.declared.session_act.SessionAct.TheVariants as session
use Rattle.pad_script.proofs.session_line.act_from.Goals as goal

pub returns : goal.returns
returns c (session.Dial client) = c.in_default.ensures.none (session.Dial client) tt
returns c (session.Hang client) = c.in_default.ensures.none (session.Hang client) tt
returns c (session.Leave client) = c.in_default.ensures.none (session.Leave client) tt
returns c (session.Sync client) = c.in_default.ensures.none (session.Sync client) tt
returns c (session.Resend client) = c.in_default.ensures.none (session.Resend client) tt
returns c (session.Repair client) = c.in_default.ensures.none (session.Repair client) tt
returns c (session.Up client) = c.in_default.ensures.none (session.Up client) tt
returns c (session.Down client) = c.in_default.ensures.none (session.Down client) tt
returns c (session.RepeatUp client) = c.in_default.ensures.none (session.RepeatUp client) tt
returns c (session.RepeatDown client) = c.in_default.ensures.none (session.RepeatDown client) tt
returns c (session.LoseUp client) = c.in_default.ensures.none (session.LoseUp client) tt
returns c (session.LoseDown client) = c.in_default.ensures.none (session.LoseDown client) tt
returns c (session.Show client) = c.in_default.ensures.none (session.Show client) tt
returns c (session.History client since.Default) = c.in_default.ensures.none (session.History client since.Default) tt
returns c (session.Join client channel) = c.in_default-join_from.ensures.none client channel
returns c (session.History client (since.Known key)) = c.in_default-history_from.ensures.known client key
returns c (session.History client since.All) = c.in_default-history_from.ensures.all client
returns c (session.Edit client operation) = let none = rw c.in_default-2.is at c.in_ok-act.ensures in none client operation
returns c (session.Interval client messages) = c.in_default-set_interval_from.ensures.none client messages
returns c session.Run = c.in_default-of_keeper_from.ensures.run
returns c session.Reopen = c.in_default-of_keeper_from.ensures.reopen
returns c (session.Stop call pick) = c.in_default-of_keeper_from.ensures.stop call pick
returns c (session.Log channel) = c.in_default-of_keeper_from.ensures.log channel

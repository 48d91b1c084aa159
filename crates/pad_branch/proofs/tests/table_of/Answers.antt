use Rattle.std.proofs.Common.{false, sym}
use Rattle.pad_branch.proofs.Tables.{holds_more, holds_none}
use Rattle.pad_branch.proofs.tests.table_of.Goals as goal

pub returns-in-Ok : goal.returns-in-Ok
returns-in-Ok c =
    holds_more c.new-messages.result c.insert.new.self c.in_ok-name.name (record { message = c.in_ok-message.message; pathless = false }) c.in-Ok.ensures.updates (record { interval = c.in_ok-message.ensures.interval; named = sym c.in_ok-name.ensures })
    (holds_none c.new-messages.result c.new-messages.ensures.empty)

-- A line that reads as none spells no message.
use Rattle.std.proofs.Common.{rules, ◌≡◌, subst}
use Rattle.pad_message.specs.Content.{Reads}
use Rattle.pad_received.proofs.read_line.read_line.Goals as goal

pub returns-in-Err-Unreadable-clause-read : goal.returns-in-Err-Unreadable-clause-read
returns-in-Err-Unreadable-clause-read c message spelled =
    let same : c.args.line.now ≡ c.in-Ok.content.now = search rules in
    c.in-Err-Unreadable.ensures.unreadable c.in-Err-Unreadable.field-0-is message (subst (λ line. Reads line message) same spelled.1)

use Rattle.std.proofs.Common.{sym}
use Rattle.pad_plain.proofs.Candidates.{known_with_base, known_without_base}
use Rattle.pad_plain.proofs.messages.Messages.known.Goals as goal

pub returns-then-contains_key : goal.returns-then-contains_key
returns-then-contains_key c =
    rw (← c.self.view_is, c.len-names.ensures.len) (known_with_base _ c.self.inside.places c.self.invariant.table c.args.base.now c.len-names.ensures.ordered (sym c.if-contains_key.ensures))

pub returns-else-contains_key : goal.returns-else-contains_key
returns-else-contains_key c =
    rw (← c.self.view_is, c.len-names.ensures.len) (known_without_base _ c.self.inside.places c.self.invariant.table c.args.base.now c.len-names.ensures.ordered (sym c.if-contains_key.ensures))

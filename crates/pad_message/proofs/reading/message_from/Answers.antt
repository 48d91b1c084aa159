use Rattle.std.proofs.Common.{sym, subst, ◌∙◌}
use Rattle.pad_message.specs.Data.{MayFollow}
use Rattle.pad_message.proofs.Intervals.{elements}
use Rattle.pad_message.proofs.reading.message_from.Goals as goal

pub returns-in_default-kind_from-clause-unreadable : goal.returns-in_default-kind_from-clause-unreadable
returns-in_default-kind_from-clause-unreadable c refused message typed few has (after, follows, same) =
    let parts = elements _ _ _ _ after message (sym c.in-Some.ensures.some ∙ same) in
    c.in_default-kind_from.ensures.none message.kind has (subst (MayFollow message.kind) (sym parts.3) follows) parts.0

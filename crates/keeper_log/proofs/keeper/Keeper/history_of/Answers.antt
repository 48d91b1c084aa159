use Rattle.std.proofs.Common.{◌∙◌, refl, ap}
use Rattle.keeper_log.specs.declared.answer.Answer.TheVariants as answer
use Rattle.keeper_log.proofs.Refusals.{refused_again}
use Rattle.keeper_log.proofs.keeper.Keeper.history_of.Goals as goal

-- the entries from the start on: `counts` says that the total is the length of the list
pub returns-in-Ok-clause-answer : goal.returns-in-Ok-clause-answer
returns-in-Ok-clause-answer g c = λ told held suspense stands counts.
    let here = rw c.in-Found.is at counts in
    ap (answer.Entries c.in-Found.total) (c.in-Ok.ensures.entries told held suspense stands here) ∙ rw c.in-Found.is refl

pub returns-in-Unknown-clause-answer : goal.returns-in-Unknown-clause-answer
returns-in-Unknown-clause-answer g c = λ told held suspense stands counts. rw c.in-Unknown.is refl

pub entries_from-requires-clause-loaded : goal.entries_from-requires-clause-loaded
entries_from-requires-clause-loaded g c = rw c.in-Found.is at c.requires.loaded

pub returns-in-Unknown-clause-stands : goal.returns-in-Unknown-clause-stands
returns-in-Unknown-clause-stands g c = λ told held suspense stands. stands

pub returns-in-Unknown-clause-table : goal.returns-in-Unknown-clause-table
returns-in-Unknown-clause-table g c = record { others = λ other differ. refl; known = refl; size = refl }

pub returns-in-Err-clause-full : goal.returns-in-Err-clause-full
returns-in-Err-clause-full g c = λ is. c.in-Err.ensures.full (refused_again _ _ is)

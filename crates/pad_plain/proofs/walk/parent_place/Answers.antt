use Rattle.pad_plain.proofs.Places.{parent_within, parent_behind, name_no}
use Rattle.pad_plain.proofs.walk.parent_place.Goals as goal

pub returns-in-Some : goal.returns-in-Some
returns-in-Some c =
    parent_within c.args.base.now c.args.messages.now c.args.message.now c.args.count c.in-Some.place (name_no c.args.message.now.parent c.args.base.now.name c.if-eq.ensures) c.in-Some.ensures c.if-place-count.true

pub returns-in_default : goal.returns-in_default
returns-in_default c = parent_behind c.args.base.now c.args.messages.now c.args.message.now c.args.count c.in-Some.place c.in-Some.ensures c.if-place-count.false

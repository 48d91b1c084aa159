use Rattle.pad_merge.proofs.checking.can_merge_back.Goals as goal

pub are_turned-requires-clause-ordered : goal.are_turned-requires-clause-ordered
are_turned-requires-clause-ordered c = (c.can_merge.ensures.0 c.if-not-can_merge.false).first_ordered

pub are_turned-requires-clause-inside : goal.are_turned-requires-clause-inside
are_turned-requires-clause-inside c = (c.can_merge.ensures.0 c.if-not-can_merge.false).first_inside

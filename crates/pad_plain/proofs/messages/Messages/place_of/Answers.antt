use Rattle.std.proofs.Common.{◌∙◌}
use Rattle.pad_plain.proofs.messages.Messages.place_of.Goals as goal

pub returns : goal.returns
returns c = rw (c.copied.ensures ∙ c.get.ensures.value, ← c.self.view_is) (c.self.invariant.table c.args.name.now)

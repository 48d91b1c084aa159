use Rattle.std.proofs.Common.{◌∙◌, ap, map, take}
use Rattle.pad_message.specs.Message.{name_of}
use Rattle.pad_plain.proofs.Places.{map_take}
use Rattle.pad_plain.proofs.messages.Messages.names.Goals as goal

pub returns : goal.returns
returns c =
    ap (take c.args.count) (c.as_slice.ensures.value ∙ c.self.invariant.named) ∙ map_take name_of c.args.count c.self.inside.items.items ∙ ap (λ l. map name_of (take c.args.count l)) c.self.view_is

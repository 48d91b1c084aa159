use Rattle.std.proofs.Common.{◌≡◌, ◌++◌, ◌∙◌, ap}
use Rattle.pad_text.proofs.CallerLemmas.{IsText-between}
use Rattle.pad_patch.specs.UnitStore.{between}
use Rattle.pad_rope.proofs.rope.RopeUnitStore.read.Goals as goal

pub from_units-requires : goal.from_units-requires
from_units-requires c =
    let us = c.args.self.now.kept.units in
    let is : c.read_into.new.units.items ≡ between c.args.from c.args.to us = c.in_ok-read_into.ensures ∙ ap (λ xs. xs ++ between c.args.from c.args.to us) c.in_ok-units.ensures.items in
    rw is (IsText-between us c.args.from c.args.to c.args.self.now.is_text c.requires.ordered c.requires.starts_whole c.requires.ends_whole)

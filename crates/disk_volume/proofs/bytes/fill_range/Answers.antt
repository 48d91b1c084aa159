use Rattle.std.proofs.Common.{◌∙◌, arith, rules}
use Rattle.std.proofs.lemmas.Grind.{common_steps}
use Rattle.disk_volume.specs.Lemmas.Torn.{torn_one}
use Rattle.disk_volume.proofs.bytes.fill_range.Goals as goal

pub returns : goal.returns
returns c = first_of (search rules, grind (arith, common_steps)) ∙ torn_one c.args.at c.args.size c.args.byte c.args.bytes.now.items

use Rattle.std.proofs.Common.{◌≡◌, ◌∙◌, sym}
use Rattle.std.specs.BTreeMap.{get}
use Rattle.keeper_entry.specs.Index.{key_cmp}
use Rattle.keeper_entry.proofs.Keys.{noted, no_value}
use Rattle.keeper_entry.proofs.index.add_key.Goals as goal

pub returns-in-Ok : goal.returns-in-Ok
returns-in-Ok c =
    noted c.args.first.now c.insert.new.self c.args.key c.args.index (no_value (get key_cmp c.args.first.now c.args.key) (sym c.contains_key.ensures ∙ c.if-contains_key.false)) c.in-Ok.ensures.updates

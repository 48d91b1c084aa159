use Rattle.std.proofs.Common.{◌≤◌, ℕ, subst}
use Rattle.keeper_table.specs.declared.table.TheConstants.{MOST_CHANNELS}
use Rattle.keeper_table.proofs.Channels.{absent}
use Rattle.keeper_table.proofs.table.Table.is_full_for.Goals as goal

pub returns-then-len-ge-MOST_CHANNELS : goal.returns-then-len-ge-MOST_CHANNELS
returns-then-len-ge-MOST_CHANNELS g c =
    let found = absent c.args.self.now.slots c.key_of.result c.args.channel.now c.contains_key.result c.key_of.ensures c.contains_key.ensures in
    let many = subst (λ (n : ℕ). MOST_CHANNELS ≤ n) c.len.ensures.len c.if-len-ge-MOST_CHANNELS.true in
    (λ t. (many, found.0 t), λ is. found.1 is.1)

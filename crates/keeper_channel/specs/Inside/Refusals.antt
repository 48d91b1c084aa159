-- What a store is refused with.
use Rattle.log_format.specs.declared.damage.Damage.TheVariants.{Entry}
use Rattle.gated_log.specs.declared.refused.LoadRefused.{LoadRefused}
use Rattle.gated_log.specs.declared.refused.LoadRefused.TheVariants.{Store as LoadStore, Damaged as LoadDamaged, NoMemory as LoadNoMemory}
use Rattle.keeper_channel.specs.declared.refused.KeeperRefused.{KeeperRefused}
use Rattle.keeper_channel.specs.declared.refused.KeeperRefused.TheVariants.{Full, Store, Damaged, NoMemory}

-- where the load before it was refused
abbrev pub refused_by : LoadRefused → KeeperRefused
refused_by LoadStore = Store
refused_by (LoadDamaged damage) = Damaged damage
refused_by (LoadNoMemory error) = NoMemory error

-- Where it had room, and made a call: that a log has none then shows that the files changed since they were loaded.
abbrev pub once_begun : KeeperRefused → KeeperRefused
once_begun Full = Damaged (Entry 0)
once_begun Store = Store
once_begun (Damaged damage) = Damaged damage
once_begun (NoMemory error) = NoMemory error

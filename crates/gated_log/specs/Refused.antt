-- Why a log may not be loaded.
use Rattle.std.specs.Prelude.{◌≡◌, Option, Some}
use Rattle.log_format.specs.declared.damage.Damage.{Damage}
use Rattle.gated_log.specs.declared.refused.LoadRefused.{LoadRefused}
use Rattle.gated_log.specs.declared.refused.LoadRefused.TheVariants.{Store, Damaged, NoMemory}

-- a refusal to load files with this damage, or none: it names the damage, or speaks of the volume or of memory
abbrev pub MayRefuse : Option Damage → LoadRefused → Type 0
MayRefuse found Store = Unit {0}
MayRefuse found (Damaged damage) = found ≡ Some damage
MayRefuse found (NoMemory error) = Unit {0}

-- the origins so far, and those of the rest
use Rattle.std.proofs.Common.{◌≡◌, ◌++◌, map, drop}
use Rattle.std.specs.List.{filter_map}
use Rattle.pad_merge.specs.CopiedUnit.{origin_of}
use Rattle.pad_merge.proofs.merging.origins_of.Given as goal

abbrev pub invariant-loop-unit : goal.invariant-loop-unit
invariant-loop-unit l =
    l.from.items ++ filter_map (λ origin. origin) (map origin_of (drop l.unit-index l.units)) ≡ filter_map (λ origin. origin) (map origin_of l.units)

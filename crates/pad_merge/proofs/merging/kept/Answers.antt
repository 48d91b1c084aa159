use Rattle.std.proofs.Common.{◌-◌, ◌+◌, None, ◌∙◌, replicate}
use Rattle.pad_merge.specs.declared.copied_unit.CopiedUnit.TheVariants.{Kept}
use Rattle.pad_merge.specs.UnitSource.{kept_from}
use Rattle.pad_merge.specs.CopiedUnit.{source_of, origin_of}
use Rattle.pad_merge.proofs.Sources.{kept_from-next}
use Rattle.pad_merge.proofs.Units.{grown_by, none-next}
use Rattle.pad_merge.proofs.merging.kept.Goals as goal

pub loop-place-preserved : goal.loop-place-preserved
loop-place-preserved c =
    let place = c.loop-place.place in
    let size = c.args.len in
    let before = c.loop-place.units.items in
    let after = c.push.new.self.items in
    record {
      sources = grown_by source_of before after (Kept place) (kept_from (place + 1) (size - (place + 1))) (kept_from place (size - place))
          c.in_ok-push.ensures.items (kept_from-next place size c.loop-place-test.true)
          ∙ c.loop-place.invariant.sources;
      origins = grown_by origin_of before after (Kept place) (replicate (size - (place + 1)) None) (replicate (size - place) None)
          c.in_ok-push.ensures.items (none-next place size c.loop-place-test.true)
          ∙ c.loop-place.invariant.origins;
    }

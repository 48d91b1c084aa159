use Rattle.std.proofs.Common.{◌+◌, ◌-◌, ◌∷◌, Some, drop, map, length, sym, ◌∙◌, ap, add-one, drop-cons, get_or}
use Rattle.pad_merge.specs.declared.copied_unit.CopiedUnit.TheVariants.{New}
use Rattle.pad_merge.specs.UnitSource.{new_unit}
use Rattle.pad_merge.specs.Origin.{numbered}
use Rattle.pad_merge.specs.CopiedUnit.{source_of, origin_of, origin_in}
use Rattle.pad_merge.proofs.Units.{grown_by, numbered-next}
use Rattle.pad_merge.proofs.merging.push_new.Goals as goal

pub loop-index-preserved : goal.loop-index-preserved
loop-index-preserved c =
    let units = c.args.units.now in
    let index = c.loop-index.index in
    let unit = New (get_or units index 0) c.origin-origin.result in
    let number = origin_in c.args.side in
    let before = c.loop-index.copy.items in
    let after = c.push.new.self.items in
    let rest = numbered number (c.args.inserted + (index + 1)) (length units - (index + 1)) in
    record {
      sources = grown_by source_of before after unit (map new_unit (drop (index + 1) units)) (map new_unit (drop index units))
          c.in_ok-push.ensures.items
          (ap (map new_unit) (drop-cons units index 0 c.loop-index-test.true ∙ ap (λ n. get_or units index 0 ∷ drop n units) (sym (add-one index))))
          ∙ c.loop-index.invariant.sources;
      origins = grown_by origin_of before after unit rest (numbered number (c.args.inserted + index) (length units - index))
          c.in_ok-push.ensures.items
          (numbered-next number c.args.inserted index (length units) c.loop-index-test.true ∙ ap (λ origin. Some origin ∷ rest) (sym c.origin-origin.ensures))
          ∙ c.loop-index.invariant.origins;
    }

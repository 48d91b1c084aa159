use Rattle.std.proofs.Common.{◌+◌, ◌++◌, map, drop, sym, ◌∙◌, ap, subst, add-one}
use Rattle.pad_text.specs.Text.{IsText}
use Rattle.pad_merge.specs.UnitSource.{IsAscending}
use Rattle.pad_merge.specs.declared.copied_unit.CopiedUnit.TheVariants.{Kept, New}
use Rattle.pad_merge.specs.CopiedUnit.{source_of, new_or_letter}
use Rattle.pad_merge.proofs.Sources.{drop-read}
use Rattle.pad_merge.proofs.Reading.{kept_next, read_kept, read_new, text_new}
use Rattle.pad_merge.proofs.merging.patch_of.Goals as goal
use Rattle.pad_merge.proofs.merging.patch_of.Goals.{in-Kept+in_ok-close-in-Kept, in-New+in_ok-push-in-New}

pub close-requires-clause-text : goal.close-requires-clause-text
close-requires-clause-text c =
    let units = c.args.units.now in
    let index = c.loop-unit.unit-index in
    let all = ap (map source_of) (drop-read units index (Kept 0) (Kept c.in-Kept.place) c.loop-unit-test.true c.in-Kept.is) in
    let known = kept_next c.loop-unit.gaps.inserted.items c.loop-unit.gaps.place c.args.len c.in-Kept.place (map source_of (drop (index + 1) units)) (map source_of (drop index units)) all c.loop-unit.invariant.rising c.loop-unit.invariant.text in
    known.text

pub loop-unit-preserved : goal.loop-unit-preserved
loop-unit-preserved c =
    let units = c.args.units.now in
    let index = c.loop-unit.unit-index in
    let left = map source_of (drop (index + 1) units) in
    let inserted = c.loop-unit.gaps.inserted.items in
    let place = c.loop-unit.gaps.place in
    elim c.match-unit.branch [
      | in-Kept+in_ok-close-in-Kept w ↦
          let at = w.in-Kept.place in
          let all = ap (map source_of) (drop-read units index (Kept 0) (Kept at) c.loop-unit-test.true w.in-Kept.is) in
          let known = kept_next inserted place c.args.len at left (map source_of (drop index units)) all c.loop-unit.invariant.rising c.loop-unit.invariant.text in
          let closed = w.in_ok-close-in-Kept.ensures in
          rw w.gaps-is (record {
            read = read_kept c.loop-unit.gaps.ops.items w.close.new.self.ops.items inserted w.close.new.self.inserted.items place c.args.len at left (map source_of (drop index units)) all closed.ops closed.inserted
                ∙ c.loop-unit.invariant.read;
            rising = subst (λ n. IsAscending n c.args.len left) (sym (add-one at)) known.rising;
            text = subst (λ us. IsText (us ++ map new_or_letter left)) (sym closed.inserted) known.later;
          })
      | in-New+in_ok-push-in-New w ↦
          let unit = w.in-New.unit in
          let all = ap (map source_of) (drop-read units index (Kept 0) (New unit w.in-New.field-1) c.loop-unit-test.true w.in-New.is) in
          let grown = w.in_ok-push-in-New.ensures.items in
          rw w.gaps-is (record {
            read = read_new c.loop-unit.gaps.ops.items inserted w.push.new.self.items place c.args.len unit left (map source_of (drop index units)) all grown ∙ c.loop-unit.invariant.read;
            rising = subst (IsAscending place c.args.len) all c.loop-unit.invariant.rising;
            text = text_new inserted w.push.new.self.items unit left (map source_of (drop index units)) all grown c.loop-unit.invariant.text;
          })
    ]

use Rattle.std.proofs.Common.{◌≡◌, ◌<◌, ◌≤◌, ◌+◌, ◌++◌, take, drop, length, set, slice_index_or, true, false, sym, ◌∙◌, ap, arith}
use Rattle.std.proofs.lemmas.List.{length-set, get_or_default}
use Rattle.pad_stroke.specs.declared.mark.Mark.{Mark}
use Rattle.pad_stroke.specs.Strip.{stays, staying}
use Rattle.pad_stroke.proofs.Stripped.{staying_kept, staying_gone}
use Rattle.pad_stroke.proofs.stripping.staying_units.Goals as goal
use Rattle.pad_stroke.proofs.stripping.staying_units.Goals.{then-mark_stays, else-mark_stays}

pub loop-index-preserved : goal.loop-index-preserved
loop-index-preserved c =
    let units = c.loop-index.units.items in
    let marks = c.args.marks.now in
    let gone = c.args.gone.now in
    let index = c.loop-index.index in
    let kept = c.loop-index.kept in
    let past : Mark = record { stroke = 0; index = 0 } in
    let mark = slice_index_or marks index past in
    let within : index < length units = omega arith in
    let marked : index < length marks = omega arith in
    let behind : kept ≤ index = c.loop-index.invariant.behind in
    let is_mark = get_or_default marks index past mark marked in
    elim c.if-mark_stays.branch [
      | then-mark_stays w ↦
          let unit = w.index.result.now in
          let items : c.if-mark_stays.units.items ≡ set units kept unit = ap (λ v. v.items) w.units-is in
          let stay : stays gone mark ≡ true = sym c.mark_stays.ensures ∙ w.if-mark_stays.true in
          record {
            whole = ap (λ us. take c.if-mark_stays.kept us ++ staying gone (drop (index + 1) us) (drop (index + 1) marks)) items
                ∙ ap (λ n. take n (set units kept unit) ++ staying gone (drop (index + 1) (set units kept unit)) (drop (index + 1) marks)) w.kept-is
                ∙ staying_kept gone units marks kept index unit mark within marked behind w.index.ensures is_mark stay
                ∙ c.loop-index.invariant.whole;
            size = ap length items ∙ length-set units kept unit ∙ c.loop-index.invariant.size;
            behind = omega (arith, w.kept-is);
          }
      | else-mark_stays w ↦
          let items : c.if-mark_stays.units.items ≡ units = ap (λ v. v.items) w.units-is in
          let gone_too : stays gone mark ≡ false = sym c.mark_stays.ensures ∙ w.if-mark_stays.false in
          record {
            whole = ap (λ us. take c.if-mark_stays.kept us ++ staying gone (drop (index + 1) us) (drop (index + 1) marks)) items
                ∙ ap (λ n. take n units ++ staying gone (drop (index + 1) units) (drop (index + 1) marks)) w.kept-is
                ∙ staying_gone gone units marks kept index mark within marked is_mark gone_too
                ∙ c.loop-index.invariant.whole;
            size = ap length items ∙ c.loop-index.invariant.size;
            behind = omega (arith, w.kept-is);
          }
    ]

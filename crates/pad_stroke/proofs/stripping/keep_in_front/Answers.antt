use Rattle.std.proofs.Common.{◌≡◌, ◌<◌, ◌≤◌, ◌+◌, ◌++◌, take, drop, length, set, slice_index_or, true, false, sym, ◌∙◌, ap, arith}
use Rattle.std.specs.Prelude.{filter}
use Rattle.std.proofs.lemmas.List.{get_or_default}
use Rattle.pad_stroke.specs.declared.mark.Mark.{Mark}
use Rattle.pad_stroke.specs.Strip.{stays}
use Rattle.pad_stroke.proofs.Stripped.{filter_kept, filter_gone}
use Rattle.pad_stroke.proofs.stripping.keep_in_front.Goals as goal
use Rattle.pad_stroke.proofs.stripping.keep_in_front.Goals.{then-mark_stays, else-mark_stays}

pub loop-index-preserved : goal.loop-index-preserved
loop-index-preserved c =
    let marks = c.loop-index.marks in
    let gone = c.args.gone.now in
    let index = c.loop-index.index in
    let kept = c.loop-index.kept in
    let past : Mark = record { stroke = 0; index = 0 } in
    let mark = slice_index_or marks index past in
    let within : index < length marks = omega arith in
    let behind : kept ≤ index = c.loop-index.invariant.behind in
    let is_mark = get_or_default marks index past mark within in
    elim c.if-mark_stays.branch [
      | then-mark_stays w ↦
          let items : c.if-mark_stays.marks ≡ set marks kept mark = w.marks-is in
          let stay : stays gone mark ≡ true = sym c.mark_stays.ensures ∙ w.if-mark_stays.true in
          record {
            whole = ap (λ ms. take c.if-mark_stays.kept ms ++ filter (stays gone) (drop (index + 1) ms)) items
                ∙ ap (λ n. take n (set marks kept mark) ++ filter (stays gone) (drop (index + 1) (set marks kept mark))) w.kept-is
                ∙ filter_kept (stays gone) marks kept index mark within behind is_mark stay
                ∙ c.loop-index.invariant.whole;
            behind = omega (arith, w.kept-is);
          }
      | else-mark_stays w ↦
          let items : c.if-mark_stays.marks ≡ marks = w.marks-is in
          let gone_too : stays gone mark ≡ false = sym c.mark_stays.ensures ∙ w.if-mark_stays.false in
          record {
            whole = ap (λ ms. take c.if-mark_stays.kept ms ++ filter (stays gone) (drop (index + 1) ms)) items
                ∙ ap (λ n. take n marks ++ filter (stays gone) (drop (index + 1) marks)) w.kept-is
                ∙ filter_gone (stays gone) marks kept index mark within is_mark gone_too
                ∙ c.loop-index.invariant.whole;
            behind = omega (arith, w.kept-is);
          }
    ]

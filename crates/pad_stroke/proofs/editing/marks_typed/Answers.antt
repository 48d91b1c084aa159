use Rattle.std.proofs.Common.{◌∙◌, sym, ap, ◌++◌, ◌∷◌, [], arith}
use Rattle.std.proofs.lemmas.List.FromFn.{map-range_with_len_more}
use Rattle.pad_stroke.specs.declared.mark.Mark.{Mark}
use Rattle.pad_stroke.proofs.editing.marks_typed.Goals as goal

pub loop-index-preserved : goal.loop-index-preserved
loop-index-preserved c =
    let index = c.loop-index.index in
    let mark : Mark = record { stroke = c.args.stroke; index = index } in
    c.in_ok-push.ensures.items ∙ ap (λ ms. ms ++ mark ∷ []) c.loop-index.invariant
    ∙ sym (map-range_with_len_more (λ i. record { stroke = c.args.stroke; index = i }) 0 index index (omega arith))

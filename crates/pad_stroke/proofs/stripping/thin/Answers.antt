use Rattle.std.proofs.Common.{◌≡◌, ◌<◌, ◌+◌, ◌++◌, ◌∷◌, [], take, drop, length, set, sym, ◌∙◌, ap, subst, arith, append_assoc}
use Rattle.std.specs.List.{All}
use Rattle.std.proofs.lemmas.List.{take_more_set, drop-set-lt, length-drop, length-append}
use Rattle.std.proofs.lemmas.List.Elements.{All-head, All-tail}
use Rattle.pad_text.specs.Text.{IsText}
use Rattle.pad_patch.specs.declared.operation.Operation.{Operation}
use Rattle.pad_patch.specs.Piece.{insertions}
use Rattle.pad_stroke.specs.Strip.{staying, thinned}
use Rattle.pad_stroke.proofs.Stripped.{next_of}
use Rattle.pad_stroke.proofs.stripping.thin.Goals as goal

pub thin_operation-requires-clause-text : goal.thin_operation-requires-clause-text
thin_operation-requires-clause-text c =
    let ops = c.loop-op.ops in
    let index = c.loop-op.op-index in
    let op = c.op-item.result in
    let left = c.loop-op.left.now in
    let gone = c.args.gone.now in
    let within : index < length ops = omega arith in
    let rest = next_of ops index op within c.op-item.is in
    let texts = subst (λ os. All (λ (o : Operation). IsText o.insert) (thinned gone os left)) rest c.loop-op.invariant.texts in
    subst (λ (o : Operation). IsText (staying gone o.insert left)) c.op-item.is
    (All-head (λ (o : Operation). IsText o.insert) _ _ texts)

pub loop-op-preserved : goal.loop-op-preserved
loop-op-preserved c =
    let ops = c.loop-op.ops in
    let index = c.loop-op.op-index in
    let op = c.op-item.result in
    let left = c.loop-op.left.now in
    let gone = c.args.gone.now in
    let new = c.thin_operation.new.op in
    let later = c.split_at.result.1.now in
    let within : index < length ops = omega arith in
    let rest = next_of ops index op within c.op-item.is in
    let thin : Operation = record op { insert = staying gone op.insert left } in
    let new_is : new ≡ thin =
    c.thin_operation.ensures ∙ ap (λ (o : Operation). record o { insert = staying gone o.insert left }) (sym c.op-item.is) in
    let behind = drop-set-lt (index + 1) ops index new (omega arith) in
    let count : c.len-count.result ≡ length op.insert = c.len-count.ensures ∙ ap (λ (o : Operation). length o.insert) (sym c.op-item.is) in
    let later_is : later ≡ drop (length op.insert) left = c.split_at.ensures.back ∙ ap (λ n. drop n left) count in
    let left_over = thinned gone (drop (index + 1) ops) (drop (length op.insert) left) in
    let step : thinned gone (drop (index + 1) (set ops index new)) later ≡ left_over =
    ap (λ os. thinned gone os later) behind ∙ ap (thinned gone (drop (index + 1) ops)) later_is in
    let whole : thinned gone (drop index ops) left ≡ thin ∷ left_over = ap (λ os. thinned gone os left) rest in
    let sizes = ap (λ os. length (insertions os)) rest in
    let marked = c.loop-op.invariant.marked in
    record {
      whole = ap (λ os. os ++ thinned gone (drop (index + 1) (set ops index new)) later) (take_more_set ops index new within)
          ∙ ap (λ os. (take index ops ++ new ∷ []) ++ os) step
          ∙ append_assoc (take index ops) (new ∷ []) left_over
          ∙ ap (λ o. take index ops ++ o ∷ left_over) new_is
          ∙ ap (λ os. take index ops ++ os) (sym whole)
          ∙ c.loop-op.invariant.whole;
      marked = omega (arith, ap (λ os. length (insertions os)) behind, sizes, length-append op.insert (insertions (drop (index + 1) ops)), ap length later_is, length-drop (length op.insert) left, marked);
      texts = subst (All (λ (o : Operation). IsText o.insert)) (sym step)
          (All-tail (λ (o : Operation). IsText o.insert) thin left_over (subst (All (λ (o : Operation). IsText o.insert)) whole c.loop-op.invariant.texts));
    }

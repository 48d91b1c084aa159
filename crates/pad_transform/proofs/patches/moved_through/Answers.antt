use Rattle.std.proofs.Common.{◌∙◌, sym}
use Rattle.pad_text.specs.Text.{IsText}
use Rattle.pad_patch.specs.declared.operation.Operation.{Operation}
use Rattle.pad_transform.proofs.Steps.{through-none, through-next, SumsFit-next, All-next}
use Rattle.pad_transform.proofs.patches.moved_through.Goals as goal

pub transform_op-requires : goal.transform_op-requires
transform_op-requires c = record {
  sums = SumsFit-next c.args.by.now c.loop-index.index c.index-by-index.result c.loop-index-test.true c.loop-index.auto.index c.index-by-index.is
      c.args.operation c.loop-index.moved c.loop-index.invariant.done c.requires;
}

pub returns-in_err-moved-clause-moved : goal.returns-in_err-moved-clause-moved
returns-in_err-moved-clause-moved c =
    c.from_residual.ensures ∙ sym (through-none c.args.by.now _ c.args.operation
    (through-next c.args.by.now c.loop-index.index c.index-by-index.result c.loop-index-test.true c.loop-index.auto.index c.index-by-index.is
    c.args.operation c.loop-index.moved c.loop-index.invariant.done ∙ (sym c.transform_op.ensures.table ∙ c.in_err-moved.was)))

pub loop-index-preserved : goal.loop-index-preserved
loop-index-preserved c = record {
  done = through-next c.args.by.now c.loop-index.index c.index-by-index.result c.loop-index-test.true c.loop-index.auto.index c.index-by-index.is
      c.args.operation c.loop-index.moved c.loop-index.invariant.done ∙ (sym c.transform_op.ensures.table ∙ c.in_ok-moved.was);
  texts = All-next c.args.by.now c.loop-index.index c.index-by-index.result c.loop-index-test.true c.loop-index.auto.index c.index-by-index.is
      (λ (other : Operation). IsText other.insert) c.loop-index.invariant.texts c.transform_op.ensures.by_text;
}

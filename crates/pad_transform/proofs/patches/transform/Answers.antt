use Rattle.std.proofs.Common.{◌≡◌, ◌<◌, ◌≤◌, length, slice_index_or, ◌∙◌, sym, ap, subst}
use Rattle.std.specs.Prelude.{IfSome}
use Rattle.std.specs.List.{filter_map}
use Rattle.std.proofs.lemmas.List.{take_all}
use Rattle.pad_patch.specs.declared.patch.Patch.{Patch}
use Rattle.pad_transform.specs.Table.{through, transformed_all}
use Rattle.pad_transform.proofs.Steps.{through-more_some, through-more_none}
use Rattle.pad_transform.proofs.Order.{ordered-through}
use Rattle.pad_transform.proofs.Law.{AllTexts, CanApply-moved, FitsButLength-applies, inserted-moved, RemovesOnlyKept-moved}
use Rattle.pad_transform.proofs.patches.transform.Goals as goal
use Rattle.pad_transform.proofs.patches.transform.Goals.{in-Some+in_ok-push, in_default, After-new}

pub loop-op-preserved : goal.loop-op-preserved
loop-op-preserved c =
    let item : c.op-item.result ≡ slice_index_or c.args.patch.now.ops c.loop-op.op-index c.op-item.result =
    c.op-item.is ∙ ap (λ xs. slice_index_or xs c.loop-op.op-index c.op-item.result) c.as_slice-op-items.ensures in
    let below : c.loop-op.op-index < length c.args.patch.now.ops = subst (λ xs. c.loop-op.op-index < length xs) c.as_slice-op-items.ensures c.loop-op-test.true in
    let image : through c.args.by.now.ops c.op-item.result ≡ c.moved_through.result =
    sym (c.moved_through.ensures.moved ∙ ap (λ xs. through xs c.in_ok-copy.field-0) c.as_slice.ensures ∙ ap (through c.args.by.now.ops) c.in_ok-copy.ensures.copy) in
    elim c.match-moved_through.branch [
      | in-Some+in_ok-push w ↦
          let pushed : c.match-moved_through.ops.items ≡ w.push.new.self.items = ap (λ v. v.items) w.ops-is in
          let texts = subst (λ o. IfSome o (λ _. AllTexts c.as_slice.result.now)) w.in-Some.is c.moved_through.ensures.by_texts in
          record {
            done = through-more_some c.args.by.now.ops c.args.patch.now.ops c.loop-op.op-index c.op-item.result c.loop-op.ops.items below item c.loop-op.invariant.done
                w.in-Some.moved c.match-moved_through.ops.items (image ∙ w.in-Some.is) (pushed ∙ w.in_ok-push.ensures.items);
            texts = λ _. subst AllTexts c.as_slice.ensures texts;
          }
      | in_default w ↦
          let same : c.match-moved_through.ops.items ≡ c.loop-op.ops.items = ap (λ v. v.items) w.ops-is in
          record {
            done = through-more_none c.args.by.now.ops c.args.patch.now.ops c.loop-op.op-index c.op-item.result c.loop-op.ops.items below item c.loop-op.invariant.done
                c.match-moved_through.ops.items (image ∙ w.in_default.is) same;
            texts = subst (λ xs. 0 < length xs → AllTexts c.args.by.now.ops) (sym same) c.loop-op.invariant.texts;
          }
    ]

-- the operations of the result are those of the patch, each by the other's
all_done : (c : After-new) → c.new.result ≡ transformed_all c.args.patch.now c.args.by.now
all_done c =
    let most : length c.args.patch.now.ops ≤ c.loop-op.op-index = subst (λ xs. length xs ≤ c.loop-op.op-index) c.as_slice-op-items.ensures c.loop-op-test.false in
    c.new.ensures ∙ c.loop-op.invariant.done ∙ ap (filter_map (through c.args.by.now.ops)) (take_all c.loop-op.op-index c.args.patch.now.ops most)

texts_of : (c : After-new) → 0 < length c.new.result → AllTexts c.args.by.now.ops
texts_of c some = c.loop-op.invariant.texts (subst (λ xs. 0 < length xs) c.new.ensures some)

abbrev result_of : (c : After-new) → Patch
result_of c = record { ops = c.new.result; before = c.args.after.now }

pub returns-clause-applies : goal.returns-clause-applies
returns-clause-applies c text both =
    let at = (goal.at.returns-clause-applies c).After-new in
    CanApply-moved (result_of at) c.args.patch.now c.args.by.now (all_done at) text (texts_of at) both

pub returns-clause-fits : goal.returns-clause-fits
returns-clause-fits c text both hash =
    let at = (goal.at.returns-clause-fits c).After-new in
    FitsButLength-applies (result_of at) _ (CanApply-moved (result_of at) c.args.patch.now c.args.by.now (all_done at) text (texts_of at) both) hash

pub returns-clause-insertions : goal.returns-clause-insertions
returns-clause-insertions c =
    let at = (goal.at.returns-clause-insertions c).After-new in
    inserted-moved (result_of at) c.args.patch.now c.args.by.now (all_done at)

pub returns-clause-removals : goal.returns-clause-removals
returns-clause-removals c text both =
    let at = (goal.at.returns-clause-removals c).After-new in
    RemovesOnlyKept-moved (result_of at) c.args.patch.now c.args.by.now (all_done at) text both

pub returns-clause-ordered : goal.returns-clause-ordered
returns-clause-ordered c =
    let at = (goal.at.returns-clause-ordered c).After-new in
    ordered-through (result_of at) c.args.patch.now c.args.by.now.ops (all_done at)

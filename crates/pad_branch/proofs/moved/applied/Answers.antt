use Rattle.std.proofs.Common.{◌≡◌, ◌+◌, ◌∷◌, ◌++◌, [], map, take, add-one, Some, None, IfSome, sym, ap, ◌∙◌, subst}
use Rattle.std.specs.Option.{option_copied}
use Rattle.std.specs.BTreeMap.{get}
use Rattle.std.proofs.Math.Seq.{take-suc}
use Rattle.pad_graph.specs.State.{name_cmp}
use Rattle.pad_branch.specs.declared.undo.Undo.{Undo}
use Rattle.pad_branch.specs.declared.moved.Move.{Move}
use Rattle.pad_branch.specs.Undo.{undone_name}
use Rattle.pad_branch.specs.Held.{IsHeldAs, messages_at}
use Rattle.pad_branch.specs.Move.{move_on}
use Rattle.pad_branch.proofs.Growing.{none_if}
use Rattle.pad_branch.proofs.Moves.{moves_push, moves_none}
use Rattle.pad_branch.proofs.moved.applied.Goals as goal

pub loop-undo-preserved-in_default : goal.loop-undo-preserved-in_default
loop-undo-preserved-in_default c =
    let u : Undo = c.undo-item.result in
    let none : get name_cmp c.args.messages.now u.after.name ≡ None = sym c.get.ensures.value ∙ ap option_copied (none_if _ c.in_default.not-Some) in
    let turn : take (c.loop-undo.undo-index + 1) c.args.undos.now ≡ take c.loop-undo.undo-index c.args.undos.now ++ u ∷ [] =
    ap (λ k. take k c.args.undos.now) (add-one c.loop-undo.undo-index) ∙ take-suc c.args.undos.now c.loop-undo.undo-index u c.loop-undo-test.true ∙ ap (λ x. take c.loop-undo.undo-index c.args.undos.now ++ x ∷ []) (sym c.undo-item.is) in
    c.loop-undo.invariant ∙ sym (moves_none (get name_cmp c.args.messages.now) (take c.loop-undo.undo-index c.args.undos.now) u none) ∙ ap (λ us. map move_on (messages_at (get name_cmp c.args.messages.now) (map undone_name us))) (sym turn)

pub loop-undo-preserved : goal.loop-undo-preserved
loop-undo-preserved c =
    let u : Undo = c.undo-item.result in
    let value : Some c.in-Some.held.now ≡ get name_cmp c.args.messages.now u.after.name = c.in-Some.ensures.value in
    let turn : take (c.loop-undo.undo-index + 1) c.args.undos.now ≡ take c.loop-undo.undo-index c.args.undos.now ++ u ∷ [] =
    ap (λ k. take k c.args.undos.now) (add-one c.loop-undo.undo-index) ∙ take-suc c.args.undos.now c.loop-undo.undo-index u c.loop-undo-test.true ∙ ap (λ x. take c.loop-undo.undo-index c.args.undos.now ++ x ∷ []) (sym c.undo-item.is) in
    let kept_as : IsHeldAs u.after.name c.in-Some.held.now = subst (λ o. IfSome o (IsHeldAs u.after.name)) (sym value) (c.requires.held u.after.name) in
    let pushed : Move = record { name = u.after.name; kind = c.in-Some.held.now.message.kind; patch = c.in_ok-copy.field-0 } in
    let same : pushed ≡ move_on c.in-Some.held.now.message = λ i. record { name = sym kept_as.named i; kind = c.in-Some.held.now.message.kind; patch = c.in_ok-copy.ensures.copy i } in
    c.in_ok-push.ensures.items
    ∙ ap (λ ms. ms ++ pushed ∷ []) c.loop-undo.invariant
    ∙ ap (λ x. map move_on (messages_at (get name_cmp c.args.messages.now) (map undone_name (take c.loop-undo.undo-index c.args.undos.now))) ++ x ∷ []) same
    ∙ sym (moves_push (get name_cmp c.args.messages.now) (take c.loop-undo.undo-index c.args.undos.now) u c.in-Some.held.now (sym value))
    ∙ ap (λ us. map move_on (messages_at (get name_cmp c.args.messages.now) (map undone_name us))) (sym turn)

use Rattle.std.proofs.Common.{◌≡◌, sym, ◌∙◌, ap, subst, ◌++◌, [], ◌∷◌, append_assoc}
use Rattle.std.specs.List.{All}
use Rattle.std.specs.Vec.Iter.{into_iter_items}
use Rattle.std.proofs.lemmas.List.Elements.{All-tail}
use Rattle.pad_patch.specs.Piece.{end_of}
use Rattle.pad_stroke.specs.Through.{together, in_front, joined}
use Rattle.pad_stroke.proofs.Joints.{RemovesFew, few_of_first, in_front-together, in_front-next}
use Rattle.pad_stroke.proofs.joining.join_touching.Goals as goal

pub loop-op-init : goal.loop-op-init
loop-op-init c =
    let items = sym c.into_iter-left.ensures.rest ∙ c.in-Some.ensures.items in
    let left = ap into_iter_items c.into_iter-op-iterator.ensures.into_iter_gives in
    let joints = ap (λ os. in_front c.in-Some.last (joined os)) left ∙ ap joined (sym items ∙ c.into_vec.ensures) in
    record {
      whole = ap (λ os. os ++ in_front c.in-Some.last (joined (into_iter_items c.into_iter-op-iterator.result))) c.new-done.ensures.items ∙ joints;
      small = subst (All RemovesFew) (sym joints) c.requires;
    }

pub into_one-requires : goal.into_one-requires
into_one-requires c =
    let left = into_iter_items c.next-in-loop-op.new.self in
    let touching : end_of c.loop-op.last ≡ c.in-Some-op.op.offset = sym c.end.ensures ∙ c.if-end-start.true ∙ c.start.ensures in
    let joints = ap (λ os. in_front c.loop-op.last (joined os)) c.in-Some-op.ensures.steps.0
    ∙ in_front-together c.loop-op.last c.in-Some-op.op (joined left) touching in
    few_of_first (together c.loop-op.last c.in-Some-op.op) (joined left) (subst (All RemovesFew) joints c.loop-op.invariant.small)

pub loop-op-preserved-then-end-start : goal.loop-op-preserved-then-end-start
loop-op-preserved-then-end-start c =
    let left = into_iter_items c.next-in-loop-op.new.self in
    let touching : end_of c.loop-op.last ≡ c.in-Some-op.op.offset = sym c.end.ensures ∙ c.if-end-start.true ∙ c.start.ensures in
    let joints = ap (λ o. in_front o (joined left)) c.in_ok-last.ensures
    ∙ sym (in_front-together c.loop-op.last c.in-Some-op.op (joined left) touching)
    ∙ ap (λ os. in_front c.loop-op.last (joined os)) (sym c.in-Some-op.ensures.steps.0) in
    record {
      whole = ap (λ os. c.loop-op.done.items ++ os) joints ∙ c.loop-op.invariant.whole;
      small = subst (All RemovesFew) (sym joints) c.loop-op.invariant.small;
    }

pub loop-op-preserved : goal.loop-op-preserved
loop-op-preserved c =
    let left = into_iter_items c.next-in-loop-op.new.self in
    let later = in_front c.in-Some-op.op (joined left) in
    let front = ap (λ o. in_front o (joined left)) c.replace.ensures.after in
    let joints = ap (λ os. in_front c.loop-op.last (joined os)) c.in-Some-op.ensures.steps.0
    ∙ in_front-next c.loop-op.last c.in-Some-op.op (joined left) (λ touching. c.if-end-start.false (c.end.ensures ∙ touching ∙ sym c.start.ensures)) in
    record {
      whole = ap (λ os. c.push.new.self.items ++ os) front
          ∙ ap (λ os. os ++ later) (c.in_ok-push.ensures.items ∙ ap (λ o. c.loop-op.done.items ++ o ∷ []) c.replace.ensures.value)
          ∙ append_assoc c.loop-op.done.items (c.loop-op.last ∷ []) later
          ∙ ap (λ os. c.loop-op.done.items ++ os) (sym joints)
          ∙ c.loop-op.invariant.whole;
      small = subst (All RemovesFew) (sym front)
          (All-tail RemovesFew c.loop-op.last later (subst (All RemovesFew) joints c.loop-op.invariant.small));
    }

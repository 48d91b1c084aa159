use Rattle.std.proofs.Common.{◌≡◌, suc, get_or, ◌-◌, ◌∷◌, [], length, slice_get, Some, sym, ap, ◌∙◌, subst, arith, length-append}
use Rattle.std.specs.Option.{option_copied}
use Rattle.std.specs.BTreeMap.{get}
use Rattle.pad_branch.specs.declared.undo.Undo.{Undo}
use Rattle.pad_graph.specs.State.{name_cmp}
use Rattle.pad_branch.proofs.Growing.{none_if, all_push}
use Rattle.pad_branch.proofs.Places.{name_yes, name_no}
use Rattle.std.proofs.lemmas.List.{same_from_push}
use Rattle.std.proofs.lemmas.Option.{get_or_from_slice_get, slice_get_within}
use Rattle.pad_branch.proofs.walk.way_down.Goals.{else-place-undos-via-then-place-undos+else-eq, else-place-undos-via-else-place-undos}
use Rattle.pad_branch.proofs.Way.{Rest, rest_step, rest_meets, rest_end, not_missing}
use Rattle.pad_branch.proofs.walk.way_down.Goals as goal

pub returns-then-eq-clause-path : goal.returns-then-eq-clause-path
returns-then-eq-clause-path c b R root chosen d tree named chosen_linked path linked long last =
    let one : c.loop-place.place ≡ suc (c.loop-place.place - 1) = omega (arith, c.loop-place-test.true) in
    let rest = subst (Rest b root path (get name_cmp c.args.messages.now) c.loop-place.names.items c.loop-place.at) one (c.loop-place.invariant.left b R root tree path linked long last) in
    rest_meets b R root path chosen (get name_cmp c.args.messages.now) d tree linked chosen_linked c.args.undos.now named c.loop-place.names.items c.loop-place.at (c.loop-place.place - 1) c.index-undos-place.result c.if-place-undos.true c.index-undos-place.is (ap (λ (u : Undo). u.after.name) c.index-undos-place.is ∙ name_yes (get_or c.args.undos.now (c.loop-place.place - 1) c.index-undos-place.result).after.name c.loop-place.at c.if-eq.ensures) rest

pub returns-in_default-clause-path : goal.returns-in_default-clause-path
returns-in_default-clause-path c b R root chosen d tree named chosen_linked path linked long last =
    let one : c.loop-place.place ≡ suc (c.loop-place.place - 1) = omega (arith, c.loop-place-test.true) in
    let rest = subst (Rest b root path (get name_cmp c.args.messages.now) c.loop-place.names.items c.loop-place.at) one (c.loop-place.invariant.left b R root tree path linked long last) in
    absurd (not_missing b R root path (get name_cmp c.args.messages.now) tree linked c.loop-place.names.items c.loop-place.at (c.loop-place.place - 1) rest (sym c.get.ensures.value ∙ ap option_copied (none_if _ c.in_default.not-Some)))

pub loop-place-preserved : goal.loop-place-preserved
loop-place-preserved c =
    let value : Some c.in-Some.held.now ≡ get name_cmp c.args.messages.now c.loop-place.at = c.in-Some.ensures.value in
    let one : c.loop-place.place ≡ suc (c.loop-place.place - 1) = omega (arith, c.loop-place-test.true) in
    let items = c.in_ok-push.ensures.items in
    record {
      held = all_push (get name_cmp c.args.messages.now) c.loop-place.names.items c.push.new.self.items c.loop-place.at c.in-Some.held.now items c.loop-place.invariant.held (sym value);
      apart = λ front last undo e here same.
          let m : c.loop-place.at ≡ last = (same_from_push c.loop-place.names.items front c.loop-place.at last (sym items ∙ e)).1 in
          elim c.else-place-undos.branch [
            | else-place-undos-via-then-place-undos+else-eq w ↦ name_no (get_or c.args.undos.now (c.loop-place.place - 1) w.index-undos-place.result).after.name c.loop-place.at w.if-eq.ensures (ap (λ (u : Undo). u.after.name) (get_or_from_slice_get c.args.undos.now (c.loop-place.place - 1) undo w.index-undos-place.result here) ∙ same ∙ sym m)
            | else-place-undos-via-else-place-undos w ↦ absurd (omega (arith, slice_get_within c.args.undos.now (c.loop-place.place - 1) undo here, w.if-place-undos.false))
          ];
      long = omega (arith, c.loop-place-test.true, c.loop-place.invariant.long, ap length items, length-append c.loop-place.names.items (c.loop-place.at ∷ []));
      left = λ b R root tree path linked long last.
          let rest = subst (Rest b root path (get name_cmp c.args.messages.now) c.loop-place.names.items c.loop-place.at) one (c.loop-place.invariant.left b R root tree path linked long last) in
          subst (λ names. Rest b root path (get name_cmp c.args.messages.now) names c.in-Some.held.now.message.parent (c.loop-place.place - 1)) (sym items)
          (rest_step b R root path (get name_cmp c.args.messages.now) tree linked c.loop-place.names.items c.loop-place.at (c.loop-place.place - 1) c.in-Some.held.now (sym value) rest);
    }

pub returns-clause-path : goal.returns-clause-path
returns-clause-path c b R root chosen d tree named chosen_linked path linked long last =
    let zero_left : c.loop-place.place ≡ 0 = omega (arith, c.loop-place-test.false) in
    rest_end b R root path (get name_cmp c.args.messages.now) tree linked c.loop-place.names.items c.loop-place.at chosen
    (subst (Rest b root path (get name_cmp c.args.messages.now) c.loop-place.names.items c.loop-place.at) zero_left (c.loop-place.invariant.left b R root tree path linked long last))

pub returns-clause-fork : goal.returns-clause-fork
returns-clause-fork c front last undo e here =
    let zero_left : 0 ≡ c.loop-place.place = omega (arith, c.loop-place-test.false) in
    c.loop-place.invariant.apart front last undo e (subst (λ k. slice_get c.args.undos.now k ≡ Some undo) zero_left here)

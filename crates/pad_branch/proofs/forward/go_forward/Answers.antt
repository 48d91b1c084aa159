use Rattle.std.proofs.Common.{◌≡◌, ◌++◌, [], ◌∷◌, length, map, reverse, Some, None, IsSome, IfSome, All, refl, sym, ap, ◌∙◌, subst, arith, length-append}
use Rattle.std.proofs.lemmas.List.{reverse-append}
use Rattle.std.specs.Option.{option_copied}
use Rattle.std.specs.BTreeMap.{get}
use Rattle.pad_text.specs.declared.name.Name.{Name}
use Rattle.pad_graph.specs.State.{name_cmp}
use Rattle.pad_branch.specs.Tip.{tip_after}
use Rattle.pad_branch.specs.Undo.{undone_name}
use Rattle.pad_branch.specs.Held.{IsHeldAs}
use Rattle.pad_branch.specs.Branch.{LeadsTo}
use Rattle.pad_branch.proofs.Growing.{last_of, front_of, stops_here, leads_on, names_on, some_none, none_if, no_value, short_since}
use Rattle.pad_branch.proofs.Rewinding.{rewinds_on}
use Rattle.pad_branch.proofs.forward.go_forward.Goals as goal

pub returns-in_default-get-clause-unsound : goal.returns-in_default-get-clause-unsound
returns-in_default-get-clause-unsound g c b path start =
    let none : get name_cmp c.args.messages.now c.in-Some.name ≡ None = sym c.get.ensures.value ∙ ap option_copied (none_if _ c.in_default-get.not-Some) in
    let all = subst (All (λ (name : Name). IsSome (get name_cmp c.args.messages.now name))) c.in-Some.ensures.items c.loop-name.invariant.held in
    absurd (some_none _ (last_of (λ (name : Name). IsSome (get name_cmp c.args.messages.now name)) _ _ all) none)

pub grow-requires-clause-timed : goal.grow-requires-clause-timed
grow-requires-clause-timed g c =
    let value : Some c.in-Some-get.held.now ≡ get name_cmp c.args.messages.now c.in-Some.name = c.in-Some-get.ensures.value in
    (subst (λ o. IfSome o (IsHeldAs c.in-Some.name)) (sym value) (c.requires.kept c.in-Some.name)).interval

pub grow-requires-clause-named : goal.grow-requires-clause-named
grow-requires-clause-named g c =
    let value : Some c.in-Some-get.held.now ≡ get name_cmp c.args.messages.now c.in-Some.name = c.in-Some-get.ensures.value in
    (subst (λ o. IfSome o (IsHeldAs c.in-Some.name)) (sym value) (c.requires.kept c.in-Some.name)).named

pub returns-in_default-2-clause-unsound : goal.returns-in_default-2-clause-unsound
returns-in_default-2-clause-unsound g c b path start =
    let value : Some c.in-Some-get.held.now ≡ get name_cmp c.args.messages.now c.in-Some.name = c.in-Some-get.ensures.value in
    stops_here (get name_cmp c.args.messages.now) c.args.names.items c.loop-name.names.items c.pop.new.self.items c.in-Some.name c.in-Some-get.held.now (reverse c.loop-name.undos.items) c.in-Some.ensures.items (sym value) c.loop-name.invariant.names
    _ c.args.start.tip _ c.loop-name.position.tip c.loop-name.invariant.leads c.loop-name.invariant.tip
    (subst (λ o. IfSome o (IsHeldAs c.in-Some.name)) (sym value) (c.requires.kept c.in-Some.name)).named
    (c.in_ok-next.ensures.none (no_value _ c.in_default-2.not-Some)) b path start

pub loop-name-preserved : goal.loop-name-preserved
loop-name-preserved g c =
    let value : Some c.in-Some-get.held.now ≡ get name_cmp c.args.messages.now c.in-Some.name = c.in-Some-get.ensures.value in
    let grows = rw c.in-Some-2.is at c.in_ok-next.ensures.some in
    let tip_is = rw c.in-Some-2.is at c.in_ok-next.ensures.tip in
    let items = c.in-Some.ensures.items in
    let all = subst (All (λ (name : Name). IsSome (get name_cmp c.args.messages.now name))) items c.loop-name.invariant.held in
    let two = c.in_ok-next.ensures.two (subst IsSome (sym c.in-Some-2.is) refl) in
    let count = ap length items in
    let since = short_since c.in-Some-get.held.now.message.kind c.loop-name.position.tip.since in
    let kept_as = subst (λ o. IfSome o (IsHeldAs c.in-Some.name)) (sym value) (c.requires.kept c.in-Some.name) in
    let named : c.in-Some-2.next.undo.after.name ≡ c.in-Some.name = grows.name ∙ kept_as.named in
    let newest : reverse c.push.new.self.items ≡ c.in-Some-2.next.undo ∷ reverse c.loop-name.undos.items = ap reverse c.in_ok-push.ensures.items ∙ reverse-append c.loop-name.undos.items (c.in-Some-2.next.undo ∷ []) in
    record {
      held = front_of (λ (name : Name). IsSome (get name_cmp c.args.messages.now name)) _ _ all;
      leads = subst (λ us. LeadsTo (get name_cmp c.args.messages.now) (g.S.UnitStore.units c.args.start.text) c.args.start.tip us (g.S.UnitStore.units c.in-Some-2.next.position.text)) (sym newest)
          (leads_on (get name_cmp c.args.messages.now) (g.S.UnitStore.units c.args.start.text) c.args.start.tip (reverse c.loop-name.undos.items) (g.S.UnitStore.units c.loop-name.position.text) c.loop-name.position.tip c.in-Some-get.held.now c.in-Some.name c.in-Some-2.next.undo (g.S.UnitStore.units c.in-Some-2.next.position.text)
          c.loop-name.invariant.leads c.loop-name.invariant.tip (sym value) named grows);
      tip = sym tip_is ∙ ap (tip_after c.args.start.tip) (sym newest);
      names = names_on (get name_cmp c.args.messages.now) c.args.names.items c.loop-name.names.items c.pop.new.self.items c.in-Some.name c.in-Some-get.held.now (reverse c.loop-name.undos.items) items (sym value) c.loop-name.invariant.names c.in-Some-2.next.undo named
          ∙ ap (λ us. c.pop.new.self.items ++ map undone_name us) (sym newest);
      room = omega (arith, ap (λ t. t.since) tip_is, grows.since, since, count, length-append c.pop.new.self.items (c.in-Some.name ∷ []), c.loop-name.invariant.room);
      count = omega (arith, count, length-append c.pop.new.self.items (c.in-Some.name ∷ []), ap length c.in_ok-push.ensures.items, length-append c.loop-name.undos.items (c.in-Some-2.next.undo ∷ []), c.loop-name.invariant.count);
      taken = omega (arith, two, count, length-append c.pop.new.self.items (c.in-Some.name ∷ []), c.loop-name.invariant.taken);
    }

pub returns-clause-rewinds : goal.returns-clause-rewinds
returns-clause-rewinds g c root low under tip_is stands =
    rewinds_on (get name_cmp c.args.messages.now) c.requires.kept root c.args.start.tip low under (g.S.UnitStore.units c.args.start.text) tip_is stands (reverse c.loop-name.undos.items) (g.S.UnitStore.units c.loop-name.position.text) c.loop-name.invariant.leads

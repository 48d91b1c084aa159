use Rattle.std.proofs.Common.{◌≡◌, ◌+◌, ◌≤◌, ◌∷◌, length, sym, ap, ◌∙◌, subst, All}
use Rattle.std.specs.BTreeMap.{get}
use Rattle.pad_graph.specs.State.{name_cmp, state_of}
use Rattle.pad_graph.specs.declared.linking.Linking.{Linking}
use Rattle.pad_branch.specs.Branch.{IsWon, State, state}
use Rattle.pad_branch.proofs.Ready.{ready_at, heights_of, on_ok, on_some}
use Rattle.pad_branch.proofs.branch.Branch.choose.Goals as goal

pub returns-clause-won : goal.returns-clause-won
returns-clause-won g c =
    let here : State = state c.self.inside.root c.self.inside.low c.as_slice.result.now (g.S.UnitStore.units c.self.inside.text) in
    let here_is : here ≡ c.args.self.now.branch = ap (λ us. state c.self.inside.root c.self.inside.low us (g.S.UnitStore.units c.self.inside.text)) c.as_slice.ensures.value ∙ ap (λ v. v.branch) c.self.view_is in
    on_ok c.choose_best.result (λ plan. on_some plan.won (λ won h b R m below chosen found ready.
    let w = h b R m below chosen found (ready_at b R m below chosen c.args.self.now.branch here (get name_cmp c.args.messages.now) (state_of c.args.graph.now) found c.args.linkings.now c.tip-tip.result c.height-height.result c.known-longest.result c.in_ok-candidates.candidates.items c.as_slice-2.result.now
    here_is c.tip-tip.ensures.is c.height-height.ensures.is c.known-longest.ensures.is c.as_slice-2.ensures.value c.in_ok-candidates.ensures.each c.in_ok-candidates.ensures.every ready) in
    (w.0, w.1, subst (λ br. IsWon b (m ∷ R) below chosen w.0 br (get name_cmp c.args.messages.now) won.keep won.undos.items (g.S.UnitStore.units won.text)) here_is w.2))) c.choose_best.ensures.won

pub returns-clause-none : goal.returns-clause-none
returns-clause-none g c =
    let here : State = state c.self.inside.root c.self.inside.low c.as_slice.result.now (g.S.UnitStore.units c.self.inside.text) in
    let here_is : here ≡ c.args.self.now.branch = ap (λ us. state c.self.inside.root c.self.inside.low us (g.S.UnitStore.units c.self.inside.text)) c.as_slice.ensures.value ∙ ap (λ v. v.branch) c.self.view_is in
    on_ok c.choose_best.result (λ plan h none b R m below chosen found ready.
    h none b R m below chosen found (ready_at b R m below chosen c.args.self.now.branch here (get name_cmp c.args.messages.now) (state_of c.args.graph.now) found c.args.linkings.now c.tip-tip.result c.height-height.result c.known-longest.result c.in_ok-candidates.candidates.items c.as_slice-2.result.now
    here_is c.tip-tip.ensures.is c.height-height.ensures.is c.known-longest.ensures.is c.as_slice-2.ensures.value c.in_ok-candidates.ensures.each c.in_ok-candidates.ensures.every ready)) c.choose_best.ensures.none

pub returns-clause-known : goal.returns-clause-known
returns-clause-known g c =
    let here : State = state c.self.inside.root c.self.inside.low c.as_slice.result.now (g.S.UnitStore.units c.self.inside.text) in
    let here_is : here ≡ c.args.self.now.branch = ap (λ us. state c.self.inside.root c.self.inside.low us (g.S.UnitStore.units c.self.inside.text)) c.as_slice.ensures.value ∙ ap (λ v. v.branch) c.self.view_is in
    on_ok c.choose_best.result (λ plan h b R m below chosen found ready.
    h b R m below chosen found (ready_at b R m below chosen c.args.self.now.branch here (get name_cmp c.args.messages.now) (state_of c.args.graph.now) found c.args.linkings.now c.tip-tip.result c.height-height.result c.known-longest.result c.in_ok-candidates.candidates.items c.as_slice-2.result.now
    here_is c.tip-tip.ensures.is c.height-height.ensures.is c.known-longest.ensures.is c.as_slice-2.ensures.value c.in_ok-candidates.ensures.each c.in_ok-candidates.ensures.every ready)) c.choose_best.ensures.known

pub returns-clause-cost : goal.returns-clause-cost
returns-clause-cost g c =
    let here_is = ap (λ us. state c.self.inside.root c.self.inside.low us (g.S.UnitStore.units c.self.inside.text)) c.as_slice.ensures.value ∙ ap (λ v. v.branch) c.self.view_is in
    on_ok c.choose_best.result (λ plan h depth long high.
    h depth (subst (λ br. length br.undos ≤ depth) (sym here_is) long)
    (subst (All (λ candidate. candidate.height.0 ≤ c.self.inside.low + depth)) (sym c.as_slice-2.ensures.value)
    (heights_of c.args.linkings.now c.tip-tip.result.name c.height-height.result c.known-longest.result (c.self.inside.low + depth) c.in_ok-candidates.candidates.items c.in_ok-candidates.ensures.each
    (subst (λ low. All (λ (linking : Linking). linking.height ≤ low + depth) c.args.linkings.now) (sym (ap (λ br. br.low) here_is)) high)))) c.choose_best.ensures.cost

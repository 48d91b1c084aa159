use Rattle.std.proofs.Common.{◌≡◌, ◌≤◌, ◌+◌, ◌*◌, length, take, reverse, Result, Ok, Err, IfOk, is_some, refl, sym, ap, subst, arith, length-append}
use Rattle.std.proofs.lemmas.List.{length-reverse}
use Rattle.pad_branch.specs.Tip.{tip_after}
use Rattle.pad_branch.specs.Branch.{LeadsTo}
use Rattle.pad_branch.specs.Branch as branch
use Rattle.pad_chain.specs.State.{View, held_of}
use Rattle.pad_chain.specs.Inside.Receiving.{TakesOn, Stays, Switches, Costs}
use Rattle.pad_chain.proofs.Ground.{at_ok_too, on_ok as told, none_leads}
use Rattle.pad_chain.proofs.Received.{ready}
use Rattle.pad_chain.proofs.chain.Chain.take_on.Goals as goal

on_ok : {A E : Type 0} {P Q : A → Type 0} (r : Result A E) → ((x : A) → P x → Q x) → IfOk r P → IfOk r Q
on_ok (Ok x) f h = f x h
on_ok (Err e) f h = tt

pub returns-in-Some-clause-received : goal.returns-in-Some-clause-received
returns-in-Some-clause-received g c =
    let i = c.self.inside in
    let old : View = record { graph = i.graph; pruning = i.pruning; messages = i.messages.entries; branch = i.branch; found = reverse i.found.items; whole = i.whole } in
    let won = rw c.in-Some.is at c.in_ok-plan.ensures.won in
    on_ok c.switch.result (λ told h. (
      h.0,
      h.1,
      subst (λ (v : View). TakesOn v c.switch.new.self c.args.linkings.now h.0) c.self.view_is
          (λ before b R m choice j free.
          let r = ready before old b R m choice c.args.linkings.now j c.best_through_its_root.ensures c.found_stays.ensures c.trunk_stays.ensures c.stays_known.ensures free in
          let w = won b R m choice.root j.adding.stood.above before.found r in
          let k = c.in_ok-plan.ensures.known b R m choice.root j.adding.stood.above before.found r in
          (subst (λ (v : View). Switches v c.switch.new.self c.in_ok-plan.plan.pathless (reverse c.in_ok-plan.plan.found.items) c.in-Some.won.keep c.in-Some.won.undos.items (g.S.UnitStore.units c.in-Some.won.text) h.0) (sym c.self.view_is) h.2) before b R m choice c.args.linkings.now w.0 (record { joining = j; ready = r; knows = k.0; are = k.1 }) w.1 w.2),
    )) c.switch.ensures.received

pub returns-in-None-clause-received : goal.returns-in-None-clause-received
returns-in-None-clause-received g c =
    let i = c.self.inside in
    let old : View = record { graph = i.graph; pruning = i.pruning; messages = i.messages.entries; branch = i.branch; found = reverse i.found.items; whole = i.whole } in
    on_ok c.stay.result (λ moved h. (
      moved,
      λ _. refl,
      subst (λ (v : View). TakesOn v c.stay.new.self c.args.linkings.now moved) c.self.view_is
          (λ before b R m choice j free.
          let r = ready before old b R m choice c.args.linkings.now j c.best_through_its_root.ensures c.found_stays.ensures c.trunk_stays.ensures c.stays_known.ensures free in
          let k = c.in_ok-plan.ensures.known b R m choice.root j.adding.stood.above before.found r in
          (subst (λ (v : View). Stays v c.stay.new.self c.in_ok-plan.plan.pathless (reverse c.in_ok-plan.plan.found.items) moved) (sym c.self.view_is) h) before b R m choice c.args.linkings.now (record { joining = j; ready = r; knows = k.0; are = k.1 })
          (c.in_ok-plan.ensures.none (ap is_some c.in-None.is) b R m choice.root j.adding.stood.above before.found r)),
    )) c.stay.ensures.received

-- ---- whatever the chain stands for

pub switch-requires-clause-leads : goal.switch-requires-clause-leads
switch-requires-clause-leads g c =
    let won = c.in-Some.won in
    subst (λ (v : View). LeadsTo (held_of v) (branch.text_below v.branch.branch won.keep) (tip_after v.branch.branch.root (reverse (take won.keep v.branch.branch.undos))) (reverse won.undos.items) (g.S.UnitStore.units won.text)) c.self.view_is
    (rw c.in-Some.is at c.in_ok-plan.ensures.leads)

pub returns-in-None-clause-leads : goal.returns-in-None-clause-leads
returns-in-None-clause-leads g c =
    at_ok_too c.stay.result (λ moved none same. (moved, λ _. refl, none_leads moved c.args.self.now.branch.branch.units c.stay.new.self.branch.branch.units none (sym (ap (λ (v : branch.View). v.branch.units) same)))) c.stay.ensures.none c.stay.ensures.branch

pub returns-in-Some-clause-kept : goal.returns-in-Some-clause-kept
returns-in-Some-clause-kept g c = told c.switch.result (λ found. (reverse c.in_ok-plan.plan.found.items, found)) c.switch.ensures.found

pub returns-in-None-clause-kept : goal.returns-in-None-clause-kept
returns-in-None-clause-kept g c = told c.stay.result (λ found. (reverse c.in_ok-plan.plan.found.items, found)) c.stay.ensures.found

pub returns-in-Some-clause-first : goal.returns-in-Some-clause-first
returns-in-Some-clause-first g c =
    let first = rw c.in-Some.is at c.in_ok-plan.ensures.first in
    at_ok_too c.switch.result (λ told many found. (
      many.0,
      many.1,
      λ same.
          let none : length c.in_ok-plan.plan.found.items ≡ 0 = omega (arith, same, ap length found, length-append (reverse c.in_ok-plan.plan.found.items) c.args.self.now.found, length-reverse c.in_ok-plan.plan.found.items) in
          omega (arith, first none, many.2.0, many.2.1, ap (λ (v : View). length v.branch.branch.undos) c.self.view_is),
    )) c.switch.ensures.many c.switch.ensures.found

pub returns-in-None-clause-first : goal.returns-in-None-clause-first
returns-in-None-clause-first g c =
    let first = rw c.in-None.is at c.in_ok-plan.ensures.first in
    at_ok_too c.stay.result (λ moved none found. (
      moved,
      λ _. refl,
      λ same.
          let nothing : length c.in_ok-plan.plan.found.items ≡ 0 = omega (arith, same, ap length found, length-append (reverse c.in_ok-plan.plan.found.items) c.args.self.now.found, length-reverse c.in_ok-plan.plan.found.items) in
          omega (arith, first nothing),
    )) c.stay.ensures.none c.stay.ensures.found

pub returns-in-Some-clause-cost : goal.returns-in-Some-clause-cost
returns-in-Some-clause-cost g c =
    let i = c.self.inside in
    let old : View = record { graph = i.graph; pruning = i.pruning; messages = i.messages.entries; branch = i.branch; found = reverse i.found.items; whole = i.whole } in
    told c.switch.result (λ found. subst (λ (v : View). Costs v c.switch.new.self c.args.linkings.now c.args.steps.now c.choose.new.steps) c.self.view_is
    (λ depth rise long high e.
    let many : length c.in_ok-plan.plan.found.items ≡ rise = omega (arith, e, ap length found, length-append (reverse c.in_ok-plan.plan.found.items) c.args.self.now.found, length-reverse c.in_ok-plan.plan.found.items, ap (λ (v : View). length v.found) c.self.view_is) in
    subst (λ n. c.choose.new.steps ≤ c.args.steps.now + 3 * depth * (n + 1)) many (c.in_ok-plan.ensures.cost depth long high))) c.switch.ensures.found

pub returns-in-None-clause-cost : goal.returns-in-None-clause-cost
returns-in-None-clause-cost g c =
    let i = c.self.inside in
    let old : View = record { graph = i.graph; pruning = i.pruning; messages = i.messages.entries; branch = i.branch; found = reverse i.found.items; whole = i.whole } in
    told c.stay.result (λ found. subst (λ (v : View). Costs v c.stay.new.self c.args.linkings.now c.args.steps.now c.choose.new.steps) c.self.view_is
    (λ depth rise long high e.
    let many : length c.in_ok-plan.plan.found.items ≡ rise = omega (arith, e, ap length found, length-append (reverse c.in_ok-plan.plan.found.items) c.args.self.now.found, length-reverse c.in_ok-plan.plan.found.items, ap (λ (v : View). length v.found) c.self.view_is) in
    subst (λ n. c.choose.new.steps ≤ c.args.steps.now + 3 * depth * (n + 1)) many (c.in_ok-plan.ensures.cost depth long high))) c.stay.ensures.found

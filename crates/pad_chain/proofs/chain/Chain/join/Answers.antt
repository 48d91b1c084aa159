use Rattle.std.proofs.Common.{[], reverse, Some, None, true, false, Result, Ok, Err, OnErr, refl, sym, ap, ◌∙◌, subst, arith}
use Rattle.std.specs.BTreeMap.{get}
use Rattle.pad_graph.specs.declared.added.Added.TheVariants.{Linked}
use Rattle.pad_message.specs.Message.{name_of}
use Rattle.pad_graph.specs.State.{name_cmp}
use Rattle.pad_chain.specs.State.{View, held_of}
use Rattle.pad_chain.specs.Inside.Tables.{IsPut}
use Rattle.pad_chain.specs.Receive.{KeepsFound, KeepsBranch, KeepsHeld}
use Rattle.pad_chain.specs.Inside.Receiving.{IsJoining, Receives, Refuses, KeepsNames, UndoesName, LeadsOn, IsFirst, Costs}
use Rattle.pad_chain.proofs.Ground.{none_leads, held_same, held_again}
use Rattle.pad_chain.proofs.Arms.{put_held, marked_held}
use Rattle.pad_chain.proofs.Adding.{adding_on, same_mark, refused_hold, refused_join}
use Rattle.pad_chain.proofs.Knowing.{keeps_same, keeps_on, undoes_on}
use Rattle.pad_chain.proofs.Received.{marked_received}
use Rattle.pad_chain.proofs.chain.Chain.join.Goals as goal

on_err : {A E : Type 0} {P : Type 0} (r : Result A E) → P → OnErr r P
on_err (Ok x) h = tt
on_err (Err e) h = h

pub invariant_of-self-then-has_mark : goal.invariant_of-self-then-has_mark
invariant_of-self-then-has_mark g c =
    marked_held (get name_cmp c.hold_added.new.messages) (get name_cmp c.mark_all.new.messages) c.args.linkings.now c.mark_all.ensures
    (put_held (get name_cmp c.self.inside.messages) (get name_cmp c.hold_added.new.messages) c.args.name c.args.message c.in_ok-hold_added.ensures.held c.requires.interval c.requires.named c.self.invariant)

pub invariant_of-self-else-has_mark : goal.invariant_of-self-else-has_mark
invariant_of-self-else-has_mark g c = put_held (get name_cmp c.self.inside.messages) (get name_cmp c.hold_added.new.messages) c.args.name c.args.message c.in_ok-hold_added.ensures.held c.requires.interval c.requires.named c.self.invariant

pub returns-in_err-hold_added-clause-refused : goal.returns-in_err-hold_added-clause-refused
returns-in_err-hold_added-clause-refused g c =
    let i = c.self.inside in
    let m = c.args.message in
    let old : View = record { graph = i.graph; pruning = i.pruning; messages = i.messages.entries; branch = i.branch; found = reverse i.found.items; whole = i.whole } in
    let new : View = record old { graph = c.hold_added.new.graph; messages = c.hold_added.new.messages.entries } in
    on_err c.from_residual.result (subst (λ (v : View). Refuses v new m (Linked c.args.linkings.now)) c.self.view_is
    (λ before b R choice a. refused_hold (record old { graph = before }) b R m choice old new (Linked c.args.linkings.now) a refl c.in_err-hold_added.ensures.undone c.in_err-hold_added.ensures.same refl refl refl refl))

pub returns-then-has_mark-clause-received : goal.returns-then-has_mark-clause-received
returns-then-has_mark-clause-received g c =
    let i = c.self.inside in
    let m = c.args.message in
    let ls = c.args.linkings.now in
    let old : View = record { graph = i.graph; pruning = i.pruning; messages = i.messages.entries; branch = i.branch; found = reverse i.found.items; whole = i.whole } in
    let mid : View = record old { graph = c.hold_added.new.graph; messages = c.hold_added.new.messages.entries } in
    let new : View = record mid { messages = c.mark_all.new.messages.entries } in
    let put : IsPut (held_of old) (held_of mid) (name_of m) (Some (record { message = m; pathless = false })) = subst (λ n. IsPut (held_of old) (held_of mid) n (Some (record { message = m; pathless = false }))) c.requires.named c.in_ok-hold_added.ensures.held in (
      c.none.result,
      λ _. refl,
      subst (λ (v : View). Receives v new m (Linked ls) c.none.result) c.self.view_is
          (λ before b R choice d a.
          let j : IsJoining (record old { graph = before }) mid b R m choice ls = record { adding = adding_on (record old { graph = before }) b R m choice old mid (Linked ls) c.in_ok-hold_added.ensures.graph a; differ = d; put = put; pruning = refl; branch = refl; found = refl; whole = refl } in
          marked_received (record old { graph = before }) mid b R m choice ls j c.repeat_changes_no_choice.ensures c.best_through_its_root.ensures c.only_new_paths.ensures c.found_stays.ensures c.trunk_stays.ensures c.marks_pass.ensures
          (same_mark (record old { graph = before }) b R m choice mid ls true j (sym c.if-has_mark.true ∙ c.has_mark.ensures)) new c.none.result c.mark_all.ensures refl refl refl refl refl c.none.ensures.reverted c.none.ensures.applied),
    )

pub returns-in-Ok-clause-received : goal.returns-in-Ok-clause-received
returns-in-Ok-clause-received g c =
    let i = c.self.inside in
    let m = c.args.message in
    let ls = c.args.linkings.now in
    let old : View = record { graph = i.graph; pruning = i.pruning; messages = i.messages.entries; branch = i.branch; found = reverse i.found.items; whole = i.whole } in
    let mid : View = record old { graph = c.hold_added.new.graph; messages = c.hold_added.new.messages.entries } in
    let put : IsPut (held_of old) (held_of mid) (name_of m) (Some (record { message = m; pathless = false })) = subst (λ n. IsPut (held_of old) (held_of mid) n (Some (record { message = m; pathless = false }))) c.requires.named c.in_ok-hold_added.ensures.held in
    let h = c.in-Ok.ensures.received in (
      h.0,
      h.1,
      subst (λ (v : View). Receives v c.take_on.new.self m (Linked ls) h.0) c.self.view_is
          (λ before b R choice d a.
          let j : IsJoining (record old { graph = before }) mid b R m choice ls = record { adding = adding_on (record old { graph = before }) b R m choice old mid (Linked ls) c.in_ok-hold_added.ensures.graph a; differ = d; put = put; pruning = refl; branch = refl; found = refl; whole = refl } in
          h.2 (record old { graph = before }) b R m choice j (same_mark (record old { graph = before }) b R m choice mid ls false j (sym c.if-has_mark.false ∙ c.has_mark.ensures))),
    )

pub returns-in-Err-clause-refused : goal.returns-in-Err-clause-refused
returns-in-Err-clause-refused g c =
    let i = c.self.inside in
    let m = c.args.message in
    let ls = c.args.linkings.now in
    let old : View = record { graph = i.graph; pruning = i.pruning; messages = i.messages.entries; branch = i.branch; found = reverse i.found.items; whole = i.whole } in
    let mid : View = record old { graph = c.hold_added.new.graph; messages = c.hold_added.new.messages.entries } in
    let put : IsPut (held_of old) (held_of mid) (name_of m) (Some (record { message = m; pathless = false })) = subst (λ n. IsPut (held_of old) (held_of mid) n (Some (record { message = m; pathless = false }))) c.requires.named c.in_ok-hold_added.ensures.held in
    let removed = subst (λ n. IsPut (held_of c.take_on.new.self) (held_of c.take_back.new.self) n None) c.requires.named c.take_back.ensures.removed in
    subst (λ (v : View). Refuses v c.take_back.new.self m (Linked ls)) c.self.view_is
    (λ before b R choice a. refused_join (record old { graph = before }) b R m choice old mid c.take_on.new.self c.take_back.new.self ls a (record { message = m; pathless = false }) put c.in_ok-hold_added.ensures.graph c.in-Err.ensures.untouched c.take_back.ensures.undone removed c.take_back.ensures.rest refl refl refl refl)

pub returns-in_err-hold_added-clause-undone : goal.returns-in_err-hold_added-clause-undone
returns-in_err-hold_added-clause-undone g c =
    let i = c.self.inside in
    let old : View = record { graph = i.graph; pruning = i.pruning; messages = i.messages.entries; branch = i.branch; found = reverse i.found.items; whole = i.whole } in
    let new : View = record old { graph = c.hold_added.new.graph; messages = c.hold_added.new.messages.entries } in
    on_err c.from_residual.result (subst (λ (v : View). UndoesName v new) c.self.view_is c.in_err-hold_added.ensures.undone)

pub returns-then-has_mark-clause-links : goal.returns-then-has_mark-clause-links
returns-then-has_mark-clause-links g c =
    let i = c.self.inside in
    let old : View = record { graph = i.graph; pruning = i.pruning; messages = i.messages.entries; branch = i.branch; found = reverse i.found.items; whole = i.whole } in
    let new : View = record old { graph = c.hold_added.new.graph; messages = c.mark_all.new.messages.entries } in
    subst (λ (v : View). KeepsNames v new) c.self.view_is (keeps_same old new c.in_ok-hold_added.ensures.graph)

pub returns-in-Ok-clause-links : goal.returns-in-Ok-clause-links
returns-in-Ok-clause-links g c =
    let i = c.self.inside in
    let old : View = record { graph = i.graph; pruning = i.pruning; messages = i.messages.entries; branch = i.branch; found = reverse i.found.items; whole = i.whole } in
    let mid : View = record old { graph = c.hold_added.new.graph; messages = c.hold_added.new.messages.entries } in
    subst (λ (v : View). KeepsNames v c.take_on.new.self) c.self.view_is (keeps_on old mid c.take_on.new.self c.in_ok-hold_added.ensures.graph c.in-Ok.ensures.links)

pub returns-in-Err-clause-undone : goal.returns-in-Err-clause-undone
returns-in-Err-clause-undone g c =
    let i = c.self.inside in
    let old : View = record { graph = i.graph; pruning = i.pruning; messages = i.messages.entries; branch = i.branch; found = reverse i.found.items; whole = i.whole } in
    let mid : View = record old { graph = c.hold_added.new.graph; messages = c.hold_added.new.messages.entries } in
    subst (λ (v : View). UndoesName v c.take_back.new.self) c.self.view_is
    (undoes_on old mid c.take_on.new.self c.take_back.new.self c.in_ok-hold_added.ensures.graph c.in-Err.ensures.untouched c.take_back.ensures.undone)

-- ---- whatever the chain stands for

pub returns-in_err-hold_added-clause-same : goal.returns-in_err-hold_added-clause-same
returns-in_err-hold_added-clause-same g c =
    let i = c.self.inside in
    let old : View = record { graph = i.graph; pruning = i.pruning; messages = i.messages.entries; branch = i.branch; found = reverse i.found.items; whole = i.whole } in
    let new : View = record old { graph = c.hold_added.new.graph; messages = c.hold_added.new.messages.entries } in
    on_err c.from_residual.result (subst (λ (v : View). KeepsBranch v new) c.self.view_is (record { pruning = refl; branch = refl; found = refl; whole = refl }))

pub returns-then-has_mark-clause-leads : goal.returns-then-has_mark-clause-leads
returns-then-has_mark-clause-leads g c =
    (c.none.result, λ _. refl, none_leads c.none.result c.args.self.now.branch.branch.units c.self.inside.branch.branch.units (record { left = c.none.ensures.reverted; came = c.none.ensures.applied }) (sym (ap (λ (v : View). v.branch.branch.units) c.self.view_is)))

pub returns-then-has_mark-clause-kept : goal.returns-then-has_mark-clause-kept
returns-then-has_mark-clause-kept g c = ([], ap (λ (v : View). v.found) c.self.view_is)

pub returns-then-has_mark-clause-first : goal.returns-then-has_mark-clause-first
returns-then-has_mark-clause-first g c = (c.none.result, λ _. refl, λ same. omega arith)

pub returns-then-has_mark-clause-cost : goal.returns-then-has_mark-clause-cost
returns-then-has_mark-clause-cost g c depth rise long high e = omega arith

pub returns-in-Ok-clause-leads : goal.returns-in-Ok-clause-leads
returns-in-Ok-clause-leads g c = let h = c.in-Ok.ensures.leads in (h.0, h.1, subst (λ (v : View). LeadsOn v c.take_on.new.self h.0) c.self.view_is h.2)

pub returns-in-Ok-clause-kept : goal.returns-in-Ok-clause-kept
returns-in-Ok-clause-kept g c = subst (λ (v : View). KeepsFound v c.take_on.new.self) c.self.view_is c.in-Ok.ensures.kept

pub returns-in-Ok-clause-first : goal.returns-in-Ok-clause-first
returns-in-Ok-clause-first g c = let h = c.in-Ok.ensures.first in (h.0, h.1, subst (λ (v : View). IsFirst v c.take_on.new.self h.0 c.args.steps.now c.take_on.new.steps) c.self.view_is h.2)

pub returns-in-Ok-clause-cost : goal.returns-in-Ok-clause-cost
returns-in-Ok-clause-cost g c = subst (λ (v : View). Costs v c.take_on.new.self c.args.linkings.now c.args.steps.now c.take_on.new.steps) c.self.view_is c.in-Ok.ensures.cost

pub returns-in-Err-clause-same : goal.returns-in-Err-clause-same
returns-in-Err-clause-same g c =
    let i = c.self.inside in
    let old : View = record { graph = i.graph; pruning = i.pruning; messages = i.messages.entries; branch = i.branch; found = reverse i.found.items; whole = i.whole } in
    let mid : View = record old { graph = c.hold_added.new.graph; messages = c.hold_added.new.messages.entries } in
    let same = c.in-Err.ensures.untouched in
    let rest = c.take_back.ensures.rest in
    subst (λ (v : View). KeepsBranch v c.take_back.new.self) c.self.view_is
    (record { pruning = ap (λ (v : View). v.pruning) rest ∙ same.pruning; branch = ap (λ (v : View). v.branch.branch) rest ∙ same.branch; found = ap (λ (v : View). v.found) rest ∙ same.found; whole = ap (λ (v : View). v.whole) rest ∙ same.whole })

pub returns-in_err-hold_added-clause-held : goal.returns-in_err-hold_added-clause-held
returns-in_err-hold_added-clause-held g c =
    let i = c.self.inside in
    let old : View = record { graph = i.graph; pruning = i.pruning; messages = i.messages.entries; branch = i.branch; found = reverse i.found.items; whole = i.whole } in
    let new : View = record old { graph = c.hold_added.new.graph; messages = c.hold_added.new.messages.entries } in
    on_err c.from_residual.result (subst (λ (v : View). KeepsHeld v new c.args.name) c.self.view_is (held_same old new c.args.name c.in_err-hold_added.ensures.same))

pub returns-in-Err-clause-held : goal.returns-in-Err-clause-held
returns-in-Err-clause-held g c =
    let i = c.self.inside in
    let old : View = record { graph = i.graph; pruning = i.pruning; messages = i.messages.entries; branch = i.branch; found = reverse i.found.items; whole = i.whole } in
    let mid : View = record old { graph = c.hold_added.new.graph; messages = c.hold_added.new.messages.entries } in
    subst (λ (v : View). KeepsHeld v c.take_back.new.self c.args.name) c.self.view_is
    (held_again old mid c.take_on.new.self c.take_back.new.self c.args.name (record { message = c.args.message; pathless = false }) c.in_ok-hold_added.ensures.held c.in-Err.ensures.untouched.messages c.take_back.ensures.removed)

use Rattle.std.proofs.Common.{◌≡◌, ◌≤◌, ℕ, ◌+◌, ◌*◌, List, [], ◌∷◌, length, reverse, Result, Ok, Err, OnErr, refl, sym, ap, ◌∙◌, subst, arith}
use Rattle.pad_branch.specs.Branch as branch
use Rattle.pad_graph.specs.declared.added.Added.{Added}
use Rattle.pad_graph.specs.declared.added.Added.TheVariants.{Known, Waiting, Below, Linked}
use Rattle.pad_message.specs.declared.message.Message.{Message}
use Rattle.pad_chain.specs.State.{View}
use Rattle.pad_graph.specs.Graph.{Stands}
use Rattle.pad_model.specs.declared.base.Base.{Base}
use Rattle.pad_model.specs.Path.{NamesDiffer}
use Rattle.pad_model.specs.Choice.{Choice}
use Rattle.pad_checkpoint.specs.Links.{names_of}
use Rattle.pad_chain.specs.Tie.{StandsFor}
use Rattle.pad_chain.specs.Receive.{IsReceived, KeepsFound, KeepsBranch, KeepsHeld, KeepsStands, IsUntouched, IsWithin}
use Rattle.pad_chain.specs.Inside.Receiving.{LeadsOn, IsFirst}
use Rattle.pad_chain.proofs.Ground.{at_err, none_leads, branch_on, held_stays, stands_same, stands_again}
use Rattle.pad_chain.proofs.Depth.{branch_within, linkings_within}
use Rattle.pad_chain.specs.Knows.{Knows}
use Rattle.pad_chain.proofs.Arms.{known_received}
use Rattle.pad_chain.proofs.Adding.{is_adding}
use Rattle.pad_chain.proofs.Alike.{alike}
use Rattle.pad_chain.proofs.Knowing.{Tells, knows_same, knows_more, knows_again, keeps_same}
use Rattle.pad_chain.proofs.chain.Chain.take_in.Goals as goal

on_err : {A E : Type 0} {P : Type 0} (r : Result A E) → P → OnErr r P
on_err (Ok x) h = tt
on_err (Err e) h = h

pub returns-in_err-add-clause-refused : goal.returns-in_err-add-clause-refused
returns-in_err-add-clause-refused g c =
    let i = c.self.inside in
    let m = c.args.message in
    let old : View = record { graph = i.graph; pruning = i.pruning; messages = i.messages.entries; branch = i.branch; found = reverse i.found.items; whole = i.whole } in
    let mid : View = record old { graph = c.add.new.self } in
    on_err c.from_residual.result (subst (λ (v : View). (b : Base) (R : List Message) (choice : Choice) → StandsFor v b R choice → StandsFor mid b R choice) c.self.view_is
    (λ b R choice s. alike old mid b R choice s (λ q. refl) (subst (λ st. Stands st b.name s.links (names_of choice.root)) (sym c.in_err-add.ensures.err) s.stands) refl refl refl refl))

pub returns-in-Known-clause-stands : goal.returns-in-Known-clause-stands
returns-in-Known-clause-stands g c =
    let i = c.self.inside in
    let m = c.args.message in
    let old : View = record { graph = i.graph; pruning = i.pruning; messages = i.messages.entries; branch = i.branch; found = reverse i.found.items; whole = i.whole } in
    let mid : View = record old { graph = c.add.new.self } in (
      c.none.result,
      λ _. refl,
      subst (λ (v : View). (b : Base) (R : List Message) (choice : Choice) → NamesDiffer (m ∷ R) → StandsFor v b R choice → IsReceived v mid b R m choice c.none.result) c.self.view_is
          (λ b R choice d s. known_received old old b R m choice mid c.none.result c.none.ensures.reverted c.none.ensures.applied c.stays_chosen.ensures c.nothing_links.ensures c.found_stays.ensures c.trunk_stays.ensures
          (is_adding old b R m choice mid c.args.name c.in_ok-add.field-0 Known c.requires.named c.in-Known.is s c.in_ok-add.ensures.stands) d (λ q. refl) refl refl refl refl),
    )

pub returns-in_err-moved-in-Waiting-clause-refused : goal.returns-in_err-moved-in-Waiting-clause-refused
returns-in_err-moved-in-Waiting-clause-refused g c =
    let i = c.self.inside in
    let m = c.args.message in
    let old : View = record { graph = i.graph; pruning = i.pruning; messages = i.messages.entries; branch = i.branch; found = reverse i.found.items; whole = i.whole } in
    let mid : View = record old { graph = c.add.new.self } in
    on_err c.from_residual-in_err-moved-in-Waiting.result (subst (λ (v : View). (b : Base) (R : List Message) (choice : Choice) → StandsFor v b R choice → StandsFor c.wait.new.self b R choice) c.self.view_is
    (λ b R choice s. c.in_err-moved-in-Waiting.ensures.refused i.graph b R choice (is_adding old b R m choice mid c.args.name c.in_ok-add.field-0 Waiting c.requires.named c.in-Waiting.is s c.in_ok-add.ensures.stands)))

pub returns-in_ok-moved-in-Waiting-clause-stands : goal.returns-in_ok-moved-in-Waiting-clause-stands
returns-in_ok-moved-in-Waiting-clause-stands g c =
    let i = c.self.inside in
    let m = c.args.message in
    let old : View = record { graph = i.graph; pruning = i.pruning; messages = i.messages.entries; branch = i.branch; found = reverse i.found.items; whole = i.whole } in
    let mid : View = record old { graph = c.add.new.self } in (
      c.in_ok-moved-in-Waiting.moved,
      λ _. refl,
      subst (λ (v : View). (b : Base) (R : List Message) (choice : Choice) → NamesDiffer (m ∷ R) → StandsFor v b R choice → IsReceived v c.wait.new.self b R m choice c.in_ok-moved-in-Waiting.moved) c.self.view_is
          (λ b R choice d s. c.in_ok-moved-in-Waiting.ensures.received i.graph b R choice d (is_adding old b R m choice mid c.args.name c.in_ok-add.field-0 Waiting c.requires.named c.in-Waiting.is s c.in_ok-add.ensures.stands)),
    )

pub returns-in-Below-clause-stands : goal.returns-in-Below-clause-stands
returns-in-Below-clause-stands g c =
    let i = c.self.inside in
    let m = c.args.message in
    let old : View = record { graph = i.graph; pruning = i.pruning; messages = i.messages.entries; branch = i.branch; found = reverse i.found.items; whole = i.whole } in
    let mid : View = record old { graph = c.add.new.self } in (
      c.pass_below.result,
      λ _. refl,
      subst (λ (v : View). (b : Base) (R : List Message) (choice : Choice) → NamesDiffer (m ∷ R) → StandsFor v b R choice → IsReceived v c.pass_below.new.self b R m choice c.pass_below.result) c.self.view_is
          (λ b R choice d s. c.pass_below.ensures.received m i.graph b R choice d (is_adding old b R m choice mid c.args.name c.in_ok-add.field-0 (Below c.in-Below.below) c.requires.named c.in-Below.is s c.in_ok-add.ensures.stands)),
    )

pub returns-in_err-moved-in-Linked-clause-refused : goal.returns-in_err-moved-in-Linked-clause-refused
returns-in_err-moved-in-Linked-clause-refused g c =
    let i = c.self.inside in
    let m = c.args.message in
    let old : View = record { graph = i.graph; pruning = i.pruning; messages = i.messages.entries; branch = i.branch; found = reverse i.found.items; whole = i.whole } in
    let mid : View = record old { graph = c.add.new.self } in
    on_err c.from_residual-in_err-moved-in-Linked.result (subst (λ (v : View). (b : Base) (R : List Message) (choice : Choice) → StandsFor v b R choice → StandsFor c.join.new.self b R choice) c.self.view_is
    (λ b R choice s. c.in_err-moved-in-Linked.ensures.refused i.graph b R choice (is_adding old b R m choice mid c.args.name c.in_ok-add.field-0 (Linked c.as_slice.result.now) c.requires.named (c.in-Linked.is ∙ ap Linked (sym c.as_slice.ensures)) s c.in_ok-add.ensures.stands)))

pub returns-in_ok-moved-in-Linked-clause-stands : goal.returns-in_ok-moved-in-Linked-clause-stands
returns-in_ok-moved-in-Linked-clause-stands g c =
    let i = c.self.inside in
    let m = c.args.message in
    let old : View = record { graph = i.graph; pruning = i.pruning; messages = i.messages.entries; branch = i.branch; found = reverse i.found.items; whole = i.whole } in
    let mid : View = record old { graph = c.add.new.self } in
    let h = c.in_ok-moved-in-Linked.ensures.received in (
      h.0,
      h.1,
      subst (λ (v : View). (b : Base) (R : List Message) (choice : Choice) → NamesDiffer (m ∷ R) → StandsFor v b R choice → IsReceived v c.join.new.self b R m choice h.0) c.self.view_is
          (λ b R choice d s. h.2 i.graph b R choice d (is_adding old b R m choice mid c.args.name c.in_ok-add.field-0 (Linked c.as_slice.result.now) c.requires.named (c.in-Linked.is ∙ ap Linked (sym c.as_slice.ensures)) s c.in_ok-add.ensures.stands)),
    )

-- ---- the names that are known

pub returns-in_err-add-clause-knows_still : goal.returns-in_err-add-clause-knows_still
returns-in_err-add-clause-knows_still g c =
    let i = c.self.inside in
    let m = c.args.message in
    let old : View = record { graph = i.graph; pruning = i.pruning; messages = i.messages.entries; branch = i.branch; found = reverse i.found.items; whole = i.whole } in
    let mid : View = record old { graph = c.add.new.self } in
    on_err c.from_residual.result (subst (λ (v : View). (b : Base) (R : List Message) → Knows v b R → Knows mid b R) c.self.view_is
    (λ b R k. knows_same old mid b R c.in_err-add.ensures.err k))

pub returns-in-Known-clause-knows : goal.returns-in-Known-clause-knows
returns-in-Known-clause-knows g c =
    let i = c.self.inside in
    let m = c.args.message in
    let old : View = record { graph = i.graph; pruning = i.pruning; messages = i.messages.entries; branch = i.branch; found = reverse i.found.items; whole = i.whole } in
    let mid : View = record old { graph = c.add.new.self } in
    subst (λ (v : View). (b : Base) (R : List Message) → Knows v b R → Knows mid b (m ∷ R)) c.self.view_is
    (λ b R k. knows_more old mid b R m c.args.name Known c.requires.named (subst (λ (a : Added). Tells old mid c.args.name m a) c.in-Known.is c.in_ok-add.ensures.stands) k mid (keeps_same mid mid refl))

pub returns-in_err-moved-in-Waiting-clause-knows_still : goal.returns-in_err-moved-in-Waiting-clause-knows_still
returns-in_err-moved-in-Waiting-clause-knows_still g c =
    let i = c.self.inside in
    let m = c.args.message in
    let old : View = record { graph = i.graph; pruning = i.pruning; messages = i.messages.entries; branch = i.branch; found = reverse i.found.items; whole = i.whole } in
    let mid : View = record old { graph = c.add.new.self } in
    on_err c.from_residual-in_err-moved-in-Waiting.result (subst (λ (v : View). (b : Base) (R : List Message) → Knows v b R → Knows c.wait.new.self b R) c.self.view_is
    (λ b R k. knows_again old mid b R m c.args.name Waiting c.requires.named (subst (λ (a : Added). Tells old mid c.args.name m a) c.in-Waiting.is c.in_ok-add.ensures.stands) k c.wait.new.self refl c.in_err-moved-in-Waiting.ensures.undone))

pub returns-in_ok-moved-in-Waiting-clause-knows : goal.returns-in_ok-moved-in-Waiting-clause-knows
returns-in_ok-moved-in-Waiting-clause-knows g c =
    let i = c.self.inside in
    let m = c.args.message in
    let old : View = record { graph = i.graph; pruning = i.pruning; messages = i.messages.entries; branch = i.branch; found = reverse i.found.items; whole = i.whole } in
    let mid : View = record old { graph = c.add.new.self } in
    subst (λ (v : View). (b : Base) (R : List Message) → Knows v b R → Knows c.wait.new.self b (m ∷ R)) c.self.view_is
    (λ b R k. knows_more old mid b R m c.args.name Waiting c.requires.named (subst (λ (a : Added). Tells old mid c.args.name m a) c.in-Waiting.is c.in_ok-add.ensures.stands) k c.wait.new.self c.in_ok-moved-in-Waiting.ensures.links)

pub returns-in-Below-clause-knows : goal.returns-in-Below-clause-knows
returns-in-Below-clause-knows g c =
    let i = c.self.inside in
    let m = c.args.message in
    let old : View = record { graph = i.graph; pruning = i.pruning; messages = i.messages.entries; branch = i.branch; found = reverse i.found.items; whole = i.whole } in
    let mid : View = record old { graph = c.add.new.self } in
    subst (λ (v : View). (b : Base) (R : List Message) → Knows v b R → Knows c.pass_below.new.self b (m ∷ R)) c.self.view_is
    (λ b R k. knows_more old mid b R m c.args.name (Below c.in-Below.below) c.requires.named (subst (λ (a : Added). Tells old mid c.args.name m a) c.in-Below.is c.in_ok-add.ensures.stands) k c.pass_below.new.self c.pass_below.ensures.links)

pub returns-in_err-moved-in-Linked-clause-knows_still : goal.returns-in_err-moved-in-Linked-clause-knows_still
returns-in_err-moved-in-Linked-clause-knows_still g c =
    let i = c.self.inside in
    let m = c.args.message in
    let old : View = record { graph = i.graph; pruning = i.pruning; messages = i.messages.entries; branch = i.branch; found = reverse i.found.items; whole = i.whole } in
    let mid : View = record old { graph = c.add.new.self } in
    let ls = c.as_slice.result.now in
    on_err c.from_residual-in_err-moved-in-Linked.result (subst (λ (v : View). (b : Base) (R : List Message) → Knows v b R → Knows c.join.new.self b R) c.self.view_is
    (λ b R k. knows_again old mid b R m c.args.name (Linked ls) c.requires.named (subst (λ (a : Added). Tells old mid c.args.name m a) (c.in-Linked.is ∙ ap Linked (sym c.as_slice.ensures)) c.in_ok-add.ensures.stands) k c.join.new.self refl c.in_err-moved-in-Linked.ensures.undone))

pub returns-in_ok-moved-in-Linked-clause-knows : goal.returns-in_ok-moved-in-Linked-clause-knows
returns-in_ok-moved-in-Linked-clause-knows g c =
    let i = c.self.inside in
    let m = c.args.message in
    let old : View = record { graph = i.graph; pruning = i.pruning; messages = i.messages.entries; branch = i.branch; found = reverse i.found.items; whole = i.whole } in
    let mid : View = record old { graph = c.add.new.self } in
    let ls = c.as_slice.result.now in
    subst (λ (v : View). (b : Base) (R : List Message) → Knows v b R → Knows c.join.new.self b (m ∷ R)) c.self.view_is
    (λ b R k. knows_more old mid b R m c.args.name (Linked ls) c.requires.named (subst (λ (a : Added). Tells old mid c.args.name m a) (c.in-Linked.is ∙ ap Linked (sym c.as_slice.ensures)) c.in_ok-add.ensures.stands) k c.join.new.self c.in_ok-moved-in-Linked.ensures.links)

-- ---- whatever the chain stands for

pub returns-in_err-add-clause-same : goal.returns-in_err-add-clause-same
returns-in_err-add-clause-same g c =
    let i = c.self.inside in
    let old : View = record { graph = i.graph; pruning = i.pruning; messages = i.messages.entries; branch = i.branch; found = reverse i.found.items; whole = i.whole } in
    let mid : View = record old { graph = c.add.new.self } in
    on_err c.from_residual.result (subst (λ (v : View). KeepsBranch v mid) c.self.view_is (record { pruning = refl; branch = refl; found = refl; whole = refl }))

pub returns-in_err-add-clause-untouched : goal.returns-in_err-add-clause-untouched
returns-in_err-add-clause-untouched g c =
    let i = c.self.inside in
    let old : View = record { graph = i.graph; pruning = i.pruning; messages = i.messages.entries; branch = i.branch; found = reverse i.found.items; whole = i.whole } in
    let mid : View = record old { graph = c.add.new.self } in
    at_err c.from_residual.result (λ refused why. subst (λ (v : View). IsUntouched v mid) c.self.view_is (record { graph_is = c.in_err-add.ensures.err; messages = refl; pruning = refl; branch = refl; found = refl; whole = refl }))

pub returns-in-Known-clause-leads : goal.returns-in-Known-clause-leads
returns-in-Known-clause-leads g c =
    (c.none.result, λ _. refl, none_leads c.none.result c.args.self.now.branch.branch.units c.self.inside.branch.branch.units (record { left = c.none.ensures.reverted; came = c.none.ensures.applied }) (sym (ap (λ (v : View). v.branch.branch.units) c.self.view_is)))

pub returns-in-Known-clause-kept : goal.returns-in-Known-clause-kept
returns-in-Known-clause-kept g c = ([], ap (λ (v : View). v.found) c.self.view_is)

pub returns-in_err-moved-in-Waiting-clause-same : goal.returns-in_err-moved-in-Waiting-clause-same
returns-in_err-moved-in-Waiting-clause-same g c =
    let i = c.self.inside in
    let old : View = record { graph = i.graph; pruning = i.pruning; messages = i.messages.entries; branch = i.branch; found = reverse i.found.items; whole = i.whole } in
    let mid : View = record old { graph = c.add.new.self } in
    on_err c.from_residual-in_err-moved-in-Waiting.result (subst (λ (v : View). KeepsBranch v c.wait.new.self) c.self.view_is (branch_on old mid c.wait.new.self c.wait.ensures.same refl refl refl refl))

pub returns-in_ok-moved-in-Waiting-clause-leads : goal.returns-in_ok-moved-in-Waiting-clause-leads
returns-in_ok-moved-in-Waiting-clause-leads g c =
    let i = c.self.inside in
    let old : View = record { graph = i.graph; pruning = i.pruning; messages = i.messages.entries; branch = i.branch; found = reverse i.found.items; whole = i.whole } in
    let mid : View = record old { graph = c.add.new.self } in (
      c.in_ok-moved-in-Waiting.moved,
      λ _. refl,
      subst (λ (v : View). LeadsOn v c.wait.new.self c.in_ok-moved-in-Waiting.moved) c.self.view_is
          (none_leads c.in_ok-moved-in-Waiting.moved i.branch.branch.units c.wait.new.self.branch.branch.units c.in_ok-moved-in-Waiting.ensures.none (sym (ap (λ (s : branch.State). s.units) c.wait.ensures.same.branch))),
    )

pub returns-in_ok-moved-in-Waiting-clause-kept : goal.returns-in_ok-moved-in-Waiting-clause-kept
returns-in_ok-moved-in-Waiting-clause-kept g c = ([], c.wait.ensures.same.found ∙ ap (λ (v : View). v.found) c.self.view_is)

pub returns-in-Below-clause-leads : goal.returns-in-Below-clause-leads
returns-in-Below-clause-leads g c =
    let i = c.self.inside in
    let old : View = record { graph = i.graph; pruning = i.pruning; messages = i.messages.entries; branch = i.branch; found = reverse i.found.items; whole = i.whole } in
    let mid : View = record old { graph = c.add.new.self } in (
      c.pass_below.result,
      λ _. refl,
      subst (λ (v : View). LeadsOn v c.pass_below.new.self c.pass_below.result) c.self.view_is
          (none_leads c.pass_below.result i.branch.branch.units c.pass_below.new.self.branch.branch.units c.pass_below.ensures.none (sym (ap (λ (v : branch.View). v.branch.units) c.pass_below.ensures.branch))),
    )

pub returns-in-Below-clause-kept : goal.returns-in-Below-clause-kept
returns-in-Below-clause-kept g c = ([], c.pass_below.ensures.found ∙ ap (λ (v : View). v.found) c.self.view_is)

pub returns-in_err-moved-in-Linked-clause-same : goal.returns-in_err-moved-in-Linked-clause-same
returns-in_err-moved-in-Linked-clause-same g c =
    let i = c.self.inside in
    let old : View = record { graph = i.graph; pruning = i.pruning; messages = i.messages.entries; branch = i.branch; found = reverse i.found.items; whole = i.whole } in
    let mid : View = record old { graph = c.add.new.self } in
    on_err c.from_residual-in_err-moved-in-Linked.result (subst (λ (v : View). KeepsBranch v c.join.new.self) c.self.view_is (branch_on old mid c.join.new.self c.in_err-moved-in-Linked.ensures.same refl refl refl refl))

pub returns-in_ok-moved-in-Linked-clause-leads : goal.returns-in_ok-moved-in-Linked-clause-leads
returns-in_ok-moved-in-Linked-clause-leads g c = let h = c.in_ok-moved-in-Linked.ensures.leads in (h.0, h.1, subst (λ (v : View). LeadsOn v c.join.new.self h.0) c.self.view_is h.2)

pub returns-in_ok-moved-in-Linked-clause-kept : goal.returns-in_ok-moved-in-Linked-clause-kept
returns-in_ok-moved-in-Linked-clause-kept g c = subst (λ (v : View). KeepsFound v c.join.new.self) c.self.view_is c.in_ok-moved-in-Linked.ensures.kept

pub returns-in_err-add-clause-held : goal.returns-in_err-add-clause-held
returns-in_err-add-clause-held g c =
    let i = c.self.inside in
    let old : View = record { graph = i.graph; pruning = i.pruning; messages = i.messages.entries; branch = i.branch; found = reverse i.found.items; whole = i.whole } in
    let mid : View = record old { graph = c.add.new.self } in
    on_err c.from_residual.result (subst (λ (v : View). KeepsHeld v mid c.args.name) c.self.view_is (held_stays old c.args.name))

pub returns-in_err-moved-in-Waiting-clause-held : goal.returns-in_err-moved-in-Waiting-clause-held
returns-in_err-moved-in-Waiting-clause-held g c =
    on_err c.from_residual-in_err-moved-in-Waiting.result (subst (λ (v : View). KeepsHeld v c.wait.new.self c.args.name) c.self.view_is c.in_err-moved-in-Waiting.ensures.held)

pub returns-in_err-moved-in-Linked-clause-held : goal.returns-in_err-moved-in-Linked-clause-held
returns-in_err-moved-in-Linked-clause-held g c =
    on_err c.from_residual-in_err-moved-in-Linked.result (subst (λ (v : View). KeepsHeld v c.join.new.self c.args.name) c.self.view_is c.in_err-moved-in-Linked.ensures.held)

pub returns-in_err-add-clause-links : goal.returns-in_err-add-clause-links
returns-in_err-add-clause-links g c =
    let i = c.self.inside in
    let old : View = record { graph = i.graph; pruning = i.pruning; messages = i.messages.entries; branch = i.branch; found = reverse i.found.items; whole = i.whole } in
    let mid : View = record old { graph = c.add.new.self } in
    on_err c.from_residual.result (subst (λ (v : View). KeepsStands v mid) c.self.view_is (stands_same old mid c.in_err-add.ensures.err))

pub returns-in_err-moved-in-Waiting-clause-links : goal.returns-in_err-moved-in-Waiting-clause-links
returns-in_err-moved-in-Waiting-clause-links g c =
    let m = c.args.message in
    let i = c.self.inside in
    let old : View = record { graph = i.graph; pruning = i.pruning; messages = i.messages.entries; branch = i.branch; found = reverse i.found.items; whole = i.whole } in
    let mid : View = record old { graph = c.add.new.self } in
    on_err c.from_residual-in_err-moved-in-Waiting.result (subst (λ (v : View). KeepsStands v c.wait.new.self) c.self.view_is
    (stands_again old mid c.wait.new.self c.args.name m Waiting (λ links. refl) (subst (λ (a : Added). Tells old mid c.args.name m a) c.in-Waiting.is c.in_ok-add.ensures.stands) c.in_err-moved-in-Waiting.ensures.undone))

pub returns-in_err-moved-in-Linked-clause-links : goal.returns-in_err-moved-in-Linked-clause-links
returns-in_err-moved-in-Linked-clause-links g c =
    let m = c.args.message in
    let ls = c.as_slice.result.now in
    let i = c.self.inside in
    let old : View = record { graph = i.graph; pruning = i.pruning; messages = i.messages.entries; branch = i.branch; found = reverse i.found.items; whole = i.whole } in
    let mid : View = record old { graph = c.add.new.self } in
    on_err c.from_residual-in_err-moved-in-Linked.result (subst (λ (v : View). KeepsStands v c.join.new.self) c.self.view_is
    (stands_again old mid c.join.new.self c.args.name m (Linked ls) (λ links. refl) (subst (λ (a : Added). Tells old mid c.args.name m a) (c.in-Linked.is ∙ ap Linked (sym c.as_slice.ensures)) c.in_ok-add.ensures.stands) c.in_err-moved-in-Linked.ensures.undone))

-- ---- in how many steps

pub returns-in_ok-moved-in-Linked-clause-first : goal.returns-in_ok-moved-in-Linked-clause-first
returns-in_ok-moved-in-Linked-clause-first g c = let h = c.in_ok-moved-in-Linked.ensures.first in (h.0, h.1, subst (λ (v : View). IsFirst v c.join.new.self h.0 c.args.steps.now c.join.new.steps) c.self.view_is h.2)

pub returns-in-Known-clause-first : goal.returns-in-Known-clause-first
returns-in-Known-clause-first g c = (c.none.result, λ _. refl, λ same. omega arith)

pub returns-in_ok-moved-in-Waiting-clause-first : goal.returns-in_ok-moved-in-Waiting-clause-first
returns-in_ok-moved-in-Waiting-clause-first g c = (c.in_ok-moved-in-Waiting.moved, λ _. refl, λ same. omega arith)

pub returns-in-Below-clause-first : goal.returns-in-Below-clause-first
returns-in-Below-clause-first g c = (c.pass_below.result, λ _. refl, λ same. omega arith)

pub returns-in_ok-moved-in-Linked-clause-cost : goal.returns-in_ok-moved-in-Linked-clause-cost
returns-in_ok-moved-in-Linked-clause-cost g c =
    let i = c.self.inside in
    let m = c.args.message in
    let old : View = record { graph = i.graph; pruning = i.pruning; messages = i.messages.entries; branch = i.branch; found = reverse i.found.items; whole = i.whole } in
    let mid : View = record old { graph = c.add.new.self } in
    let ls = c.as_slice.result.now in
    subst (λ (v : View). (b : Base) (R : List Message) (choice : Choice) (depth rise : ℕ) → StandsFor v b R choice → IsWithin b (m ∷ R) choice.root depth → length c.join.new.self.found ≡ length v.found + rise → c.join.new.steps ≤ c.args.steps.now + 3 * depth * (rise + 1)) c.self.view_is
    (λ b R choice depth rise s within e.
    let a = is_adding old b R m choice mid c.args.name c.in_ok-add.field-0 (Linked c.as_slice.result.now) c.requires.named (c.in-Linked.is ∙ ap Linked (sym c.as_slice.ensures)) s c.in_ok-add.ensures.stands in
    c.in_ok-moved-in-Linked.ensures.cost depth rise (branch_within b R m choice old a.stood depth within) (linkings_within b R m choice old a.stood depth within ls a.told) e)

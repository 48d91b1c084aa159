use Rattle.std.proofs.Common.{◌<◌, ◌∙◌, inl, inr, reverse, sym, subst}
use Rattle.pad_chain.specs.State.{View}
use Rattle.pad_chain.proofs.Handing.{NoneTo, WonFrom, not_linked, too_low, is_marked, is_stopped, is_won}
use Rattle.pad_chain.proofs.chain.Chain.tested.Goals.{then-height-root_height-via-then-height-root_height, then-height-root_height-via-else-height-root_height+then-height-known}
use Rattle.pad_chain.proofs.chain.Chain.tested.Goals as goal

pub returns-in_default-clause-none : goal.returns-in_default-clause-none
returns-in_default-clause-none g c none =
    let here : View = record { graph = c.self.inside.graph; pruning = c.self.inside.pruning; messages = c.self.inside.messages.entries; branch = c.self.inside.branch; found = reverse c.self.inside.found.items; whole = c.self.inside.whole } in
    subst (λ v. NoneTo v c.args.from.now) c.self.view_is (not_linked here c.args.from.now c.standing.result c.standing.ensures.stands c.in_default.not-Linked)

pub returns-then-height-root_height-clause-none : goal.returns-then-height-root_height-clause-none
returns-then-height-root_height-clause-none g c none =
    let here : View = record { graph = c.self.inside.graph; pruning = c.self.inside.pruning; messages = c.self.inside.messages.entries; branch = c.self.inside.branch; found = reverse c.self.inside.found.items; whole = c.self.inside.whole } in
    subst (λ v. NoneTo v c.args.from.now) c.self.view_is
    (too_low here c.args.from.now c.standing.result c.standing.ensures.stands c.in-Linked.height c.in-Linked.is
    (elim c.then-height-root_height.branch [
      | then-height-root_height-via-then-height-root_height w ↦ inl (subst (λ low. c.in-Linked.height < low) c.root_height.ensures w.if-height-root_height.true)
      | then-height-root_height-via-else-height-root_height+then-height-known w ↦ inr (subst (λ known. known < c.in-Linked.height) w.known.ensures.is w.if-height-known.true)
    ]))

pub returns-then-is_marked-clause-none : goal.returns-then-is_marked-clause-none
returns-then-is_marked-clause-none g c none =
    let here : View = record { graph = c.self.inside.graph; pruning = c.self.inside.pruning; messages = c.self.inside.messages.entries; branch = c.self.inside.branch; found = reverse c.self.inside.found.items; whole = c.self.inside.whole } in
    subst (λ v. NoneTo v c.args.from.now) c.self.view_is
    (is_marked here c.args.from.now c.standing.result c.standing.ensures.stands c.in-Linked.height c.in-Linked.is (sym c.is_marked.ensures ∙ c.if-is_marked.true))

pub returns-in-Ok-clause-won : goal.returns-in-Ok-clause-won
returns-in-Ok-clause-won g c =
    let here : View = record { graph = c.self.inside.graph; pruning = c.self.inside.pruning; messages = c.self.inside.messages.entries; branch = c.self.inside.branch; found = reverse c.self.inside.found.items; whole = c.self.inside.whole } in
    let told = rw c.in-Ok.is at c.in_ok-won.ensures.won in
    subst (λ v. WonFrom v c.args.from.now c.in-Ok.won.keep c.in-Ok.won.undos.items (g.S.UnitStore.units c.in-Ok.won.text)) c.self.view_is
    (is_won here c.args.from.now c.standing.result c.standing.ensures.stands c.in-Linked.height c.in-Linked.is c.in-Ok.won.keep c.in-Ok.won.undos.items (g.S.UnitStore.units c.in-Ok.won.text) told)

pub returns-in-Err-clause-none : goal.returns-in-Err-clause-none
returns-in-Err-clause-none g c none =
    let here : View = record { graph = c.self.inside.graph; pruning = c.self.inside.pruning; messages = c.self.inside.messages.entries; branch = c.self.inside.branch; found = reverse c.self.inside.found.items; whole = c.self.inside.whole } in
    let told = rw c.in-Err.is at c.in_ok-won.ensures.unsound in
    subst (λ v. NoneTo v c.args.from.now) c.self.view_is
    (is_stopped here c.args.from.now c.standing.result c.standing.ensures.stands c.in-Linked.height c.in-Linked.is c.in-Err.field-0 told)

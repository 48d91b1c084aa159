use Rattle.std.proofs.Common.{◌≡◌, ◌-◌, ◌<◌, length, refl, ap, subst, arith}
use Rattle.std.specs.BTreeMap.{get}
use Rattle.pad_graph.specs.State.{name_cmp, state_of}
use Rattle.pad_branch.specs.Branch.{State}
use Rattle.pad_chain.specs.Inside.Tables.{AreLetGo}
use Rattle.pad_chain.proofs.Settled.{rise_within, rise_some}
use Rattle.pad_chain.proofs.Entries.{let_go_fewer}
use Rattle.pad_chain.proofs.settling.rise.Goals as goal

pub returns-then-by-undos-clause-raised : goal.returns-then-by-undos-clause-raised
returns-then-by-undos-clause-raised g c b R root upper joined trunk at =
    let height = c.args.pruning.now.root.height in
    let low = c.args.branch.now.branch.low in
    let within = rise_within b R root upper c.args.branch.now.branch height (get name_cmp c.args.messages.now) joined (height - low) trunk at refl in
    absurd (omega (arith, within, c.if-by-undos.true, ap (λ p. p.height) c.root-height.ensures, c.root_height-low.ensures, ap length c.undos.ensures.are))

pub returns-clause-fewer : goal.returns-clause-fewer
returns-clause-fewer g c = let_go_fewer (get name_cmp c.args.messages.now) (get name_cmp c.let_go.new.messages) c.dropped.result.now c.let_go.ensures

pub returns-clause-raised : goal.returns-clause-raised
returns-clause-raised g c b R root upper joined trunk at =
    let height = c.args.pruning.now.root.height in
    let by = c.root-height.result.height - c.root_height-low.result in
    let is : length joined ≡ by = omega (arith, at, trunk.height, ap (λ p. p.height) c.root-height.ensures, c.root_height-low.ensures) in
    let some : 0 < by = omega (arith, c.if-height-low.false) in
    let gone = subst (AreLetGo (get name_cmp c.args.messages.now) (get name_cmp c.let_go.new.messages)) c.dropped.ensures c.let_go.ensures in
    let both = rise_some b R root upper c.args.branch.now.branch height (get name_cmp c.args.messages.now) joined by (get name_cmp c.let_go.new.messages) (state_of c.args.graph.now).dropped is some gone in
    (c.rise.ensures.stands b R root upper joined trunk is, both.0, both.1)

pub returns-clause-units : goal.returns-clause-units
returns-clause-units g c = ap (λ (s : State). s.units) c.rise.ensures.branch

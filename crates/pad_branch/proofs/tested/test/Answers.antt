use Rattle.std.proofs.Common.{reverse, arith}
use Rattle.std.specs.BTreeMap.{get}
use Rattle.pad_graph.specs.State.{name_cmp}
use Rattle.pad_branch.proofs.Forks.{fork_stands, can_switch, at_fork, won, stopped, leads_from}
use Rattle.pad_branch.proofs.Trunk.{undos_named}
use Rattle.pad_branch.proofs.tested.test.Goals as goal

pub invariant_of-start : goal.invariant_of-start
invariant_of-start g c =
    let stands = fork_stands c.args.root.now c.tip_at-tip.result c.args.low c.in_ok-way.way.keep c.args.undos.now _ c.in_ok-way.ensures.keep c.tip_at-tip.ensures c.in_ok-text.ensures.rewinds in
    record { hashed = stands.hash; short = stands.short; timed = stands.interval }

pub go_forward-requires-clause-room : goal.go_forward-requires-clause-room
go_forward-requires-clause-room g c =
    let stands = fork_stands c.args.root.now c.tip_at-tip.result c.args.low c.in_ok-way.way.keep c.args.undos.now _ c.in_ok-way.ensures.keep c.tip_at-tip.ensures c.in_ok-text.ensures.rewinds in
    omega (arith, stands.few, c.in_ok-way.ensures.long, c.requires.room)

pub returns-in-Ok-clause-won : goal.returns-in-Ok-clause-won
returns-in-Ok-clause-won g c b R below chosen path holds trunk linked long last =
    let whole = c.in_ok-way.ensures.path b R below chosen trunk.differ holds (undos_named b below chosen (reverse c.args.undos.now) trunk.undone) trunk.linked path linked long last in
    let fork = at_fork b R below chosen path (get name_cmp c.args.messages.now) c.args.undos.now c.args.root.now c.args.low _ trunk linked c.in_ok-way.way.keep c.in_ok-way.ensures.keep c.in_ok-way.way.names.items whole _ c.tip_at-tip.result c.in_ok-text.ensures.units c.tip_at-tip.ensures in
    let leads = rw c.in-Ok.is at c.in_ok-trial.ensures.leads in
    let named = rw c.in-Ok.is at c.in_ok-trial.ensures.named in
    won b R below chosen path (get name_cmp c.args.messages.now) c.args.undos.now c.args.root.now c.args.low _ trunk linked c.in_ok-way.way.keep c.in_ok-way.ensures.keep c.in_ok-way.way.names.items whole
    c.requires.kept c.in_ok-way.ensures.held c.in_ok-way.ensures.fork c.in-Ok.trial.undos.items _ _ c.tip_at-tip.result named fork leads

pub returns-in-Ok-clause-switch : goal.returns-in-Ok-clause-switch
returns-in-Ok-clause-switch g c =
    let rewinds = rw c.in-Ok.is at c.in_ok-trial.ensures.rewinds in
    let long = rw c.in-Ok.is at c.in_ok-trial.ensures.long in
    can_switch c.args.root.now c.tip_at-tip.result c.args.low c.args.above c.in_ok-way.way.keep c.args.undos.now _ _ c.in_ok-way.ensures.keep c.tip_at-tip.ensures c.in_ok-text.ensures.rewinds
    c.in-Ok.trial.undos.items _ (rewinds c.args.root.now) (omega (arith, long, c.in_ok-way.ensures.long)) c.requires.room

pub returns-in-Ok-clause-leads : goal.returns-in-Ok-clause-leads
returns-in-Ok-clause-leads g c =
    let leads = rw c.in-Ok.is at c.in_ok-trial.ensures.leads in
    leads_from (get name_cmp c.args.messages.now) (reverse c.in-Ok.trial.undos.items) (g.S.UnitStore.units c.in-Ok.trial.position.text) _ _ _ _ c.in_ok-text.ensures.units c.tip_at-tip.ensures leads

pub returns-in-Ok-clause-all : goal.returns-in-Ok-clause-all
returns-in-Ok-clause-all g c =
    let long = rw c.in-Ok.is at c.in_ok-trial.ensures.long in
    let all = rw c.in-Ok.is at c.in_ok-trial.ensures.all in
    omega (arith, long, all, c.in_ok-text.ensures.steps)

pub returns-in-Err-clause-unsound : goal.returns-in-Err-clause-unsound
returns-in-Err-clause-unsound g c b R below chosen path holds trunk linked long last =
    let whole = c.in_ok-way.ensures.path b R below chosen trunk.differ holds (undos_named b below chosen (reverse c.args.undos.now) trunk.undone) trunk.linked path linked long last in
    let fork = at_fork b R below chosen path (get name_cmp c.args.messages.now) c.args.undos.now c.args.root.now c.args.low _ trunk linked c.in_ok-way.way.keep c.in_ok-way.ensures.keep c.in_ok-way.way.names.items whole _ c.tip_at-tip.result c.in_ok-text.ensures.units c.tip_at-tip.ensures in
    let on = rw c.in-Err.is at c.in_ok-trial.ensures.unsound in
    stopped b R below chosen path (get name_cmp c.args.messages.now) c.args.undos.now c.args.root.now c.args.low _ trunk linked c.in_ok-way.way.keep c.in_ok-way.ensures.keep c.in_ok-way.way.names.items whole c.in-Err.first (on b _ fork)

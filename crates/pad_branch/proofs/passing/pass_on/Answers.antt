use Rattle.std.proofs.Common.{◌≡◌, ◌++◌, ◌∷◌, [], List, length, arith, ap, ◌∙◌, subst}
use Rattle.std.specs.BTreeMap.{get}
use Rattle.pad_text.specs.declared.name.Name.{Name}
use Rattle.pad_graph.specs.State.{name_cmp, state_of}
use Rattle.pad_branch.specs.Inside.Passing.{MarksChildren}
use Rattle.pad_branch.proofs.Levels.{spreads_start, spreads_on, spreads_done, spreads_end, empty_none}
use Rattle.pad_branch.proofs.passing.pass_on.Goals as goal

pub loop-turn-init : goal.loop-turn-init
loop-turn-init c b R below d k kids l =
    let one = c.in_ok-push.ensures.items ∙ ap (λ (ns : List Name). ns ++ c.args.name.now ∷ []) c.new-names.ensures.items in
    spreads_start b R below d c.args.name.now (get name_cmp c.args.messages.now) c.args.pathless k l c.insert.new.self c.push.new.self.items c.in_ok-insert.ensures.updates one

pub loop-turn-preserved : goal.loop-turn-preserved
loop-turn-preserved c b R below d k kids l =
    spreads_on b R below d c.args.name.now (get name_cmp c.args.messages.now) c.args.pathless k l (state_of c.args.graph.now).children kids c.loop-turn.pathless c.in_ok-next.next.pathless c.loop-turn.names.items c.in_ok-next.next.names.items c.loop-turn.turn (c.loop-turn.invariant b R below d k kids l)
    (subst (λ ns. MarksChildren (get name_cmp c.args.messages.now) (state_of c.args.graph.now).children ns c.loop-turn.pathless c.in_ok-next.next.pathless c.in_ok-next.next.names.items) c.as_slice.ensures.value c.in_ok-next.ensures)

pub returns : goal.returns
returns c b R below d k kids l short =
    spreads_end b R below d c.args.name.now (get name_cmp c.args.messages.now) c.args.pathless k l c.loop-turn.pathless c.loop-turn.names.items c.loop-turn.turn c.args.longest c.loop-turn-test.false short (c.loop-turn.invariant b R below d k kids l)

pub returns-then-is_empty : goal.returns-then-is_empty
returns-then-is_empty c b R below d k kids l short =
    let none : 0 ≡ length c.loop-turn.names.items = grind (arith, c.if-is_empty.ensures) in
    spreads_done b R below d c.args.name.now (get name_cmp c.args.messages.now) c.args.pathless k l c.loop-turn.pathless c.loop-turn.names.items c.loop-turn.turn (empty_none c.loop-turn.names.items none) (c.loop-turn.invariant b R below d k kids l)

use Rattle.std.proofs.Common.{◌≡◌, ◌++◌, List, take, sym, ap, ◌∙◌, subst}
use Rattle.pad_graph.specs.State.{State, state_of}
use Rattle.pad_checkpoint.specs.Settled.{IsRooted, KeepsLinks}
use Rattle.pad_branch.specs.declared.undo.Undo.{Undo}
use Rattle.pad_chain.specs.Inside.Marks.{marks_from}
use Rattle.pad_chain.specs.Inside.Receiving.{rising, IsRaised}
use Rattle.pad_chain.proofs.Settled.{raised_none, raised_to}
use Rattle.pad_chain.proofs.settling.settle.Goals as goal

pub returns-then-whole-clause-raised : goal.returns-then-whole-clause-raised
returns-then-whole-clause-raised g c b R root path links r quiet =
    subst (λ w. IsRaised b links root (rising w path) c.args.pruning.now.root (state_of c.args.graph.now)) (sym c.if-whole.true)
    (raised_none b R root path links c.args.pruning.now.root _ (state_of c.args.graph.now) r)

pub returns-then-no_checkpoint-clause-raised : goal.returns-then-no_checkpoint-clause-raised
returns-then-no_checkpoint-clause-raised g c b R root path links r quiet =
    subst (λ q. IsRaised b links root q c.args.pruning.now.root (state_of c.args.graph.now)) (sym (quiet (c.no_checkpoint.ensures c.if-no_checkpoint.true)))
    (raised_none b R root path links c.args.pruning.now.root _ (state_of c.args.graph.now) r)

pub returns-clause-raised : goal.returns-clause-raised
returns-clause-raised g c b R root path links r quiet =
    let low = c.args.branch.now.branch.low in
    let marks_are : c.in_ok-marks.marks ≡ marks_from low (take c.args.keep c.args.branch.now.branch.undos ++ c.args.come.now) =
    c.in_ok-marks.ensures ∙ ap (λ n. marks_from n (take c.args.keep c.undos.result.now ++ c.args.come.now)) c.root_height.ensures ∙ ap (λ (us : List Undo). marks_from low (take c.args.keep us ++ c.args.come.now)) c.undos.ensures.are in
    subst (λ w. IsRaised b links root (rising w path) c.settle.new.self.root (state_of c.settle.new.graph)) (sym c.if-whole.false)
    (raised_to c.roots_rise_to_cuts_above.ensures b links root path c.settle.new.self.root (state_of c.settle.new.graph) c.in_ok-settle.field-0
    (c.in_ok-settle.ensures.settled b R root path links (subst (λ ms. IsRooted b R root path links c.args.pruning.now.root ms (state_of c.args.graph.now)) (sym marks_are) r)))

-- a graph that stays keeps its links
kept : (state : State) → KeepsLinks state state
kept state base links root h = (root, h)

pub returns-then-whole-clause-links : goal.returns-then-whole-clause-links
returns-then-whole-clause-links g c = kept (state_of c.args.graph.now)

pub returns-then-no_checkpoint-clause-links : goal.returns-then-no_checkpoint-clause-links
returns-then-no_checkpoint-clause-links g c = kept (state_of c.args.graph.now)

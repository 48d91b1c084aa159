-- A chain that is full receives nothing that is new.
use Rattle.std.proofs.Common.{◌≡◌, OnErr, sym, subst, arith}
use Rattle.pad_text.specs.declared.name.Name.{Name}
use Rattle.pad_graph.specs.State as graph
use Rattle.pad_graph.specs.declared.standing.Standing.TheVariants.{Unknown}
use Rattle.pad_chain.proofs.Ground.{on_err, branch_stays, held_stays, stands_stay}
use Rattle.pad_message.specs.Message.{name_of}
use Rattle.pad_chain.specs.Receive.{KeepsHeld}
use Rattle.pad_chain.proofs.Knowing.{room_left}
use Rattle.pad_chain.proofs.chain.Chain.receive.Goals as goal

pub returns-clause-elsewhere : goal.returns-clause-elsewhere
returns-clause-elsewhere g c = room_left c.args.self.now c.args.message c.receive_named.result c.receive_named.ensures.exact

pub returns-clause-space : goal.returns-clause-space
returns-clause-space g c unknown most =
    let full = c.receive_named.ensures.room (subst (λ (n : Name). graph.standing (graph.state_of c.args.self.now.graph) n ≡ Unknown) (sym c.in_ok-name.ensures) unknown) most in
    rw full tt

pub returns-in_err-name-clause-same : goal.returns-in_err-name-clause-same
returns-in_err-name-clause-same g c = on_err c.from_residual.result (branch_stays c.args.self.now)

pub returns-in_err-name-clause-grows : goal.returns-in_err-name-clause-grows
returns-in_err-name-clause-grows g c b R k = omega arith

pub returns-in_err-name-clause-held : goal.returns-in_err-name-clause-held
returns-in_err-name-clause-held g c = on_err c.from_residual.result (held_stays c.args.self.now (name_of c.args.message))

pub returns-in_err-name-clause-links : goal.returns-in_err-name-clause-links
returns-in_err-name-clause-links g c = on_err c.from_residual.result (stands_stay c.args.self.now)

pub returns-clause-held : goal.returns-clause-held
returns-clause-held g c = subst (λ (n : Name). OnErr c.receive_named.result (KeepsHeld c.args.self.now c.receive_named.new.self n)) c.in_ok-name.ensures c.receive_named.ensures.held

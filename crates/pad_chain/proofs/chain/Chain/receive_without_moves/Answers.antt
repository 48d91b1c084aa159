-- A message is received as ever, and the moves are not told.
use Rattle.std.proofs.Common.{◌≡◌, subst}
use Rattle.pad_text.specs.declared.name.Name.{Name}
use Rattle.pad_graph.specs.State as graph
use Rattle.pad_graph.specs.declared.standing.Standing.TheVariants.{Unknown}
use Rattle.pad_message.specs.Message.{name_of}
use Rattle.pad_chain.proofs.Ground.{on_err, branch_stays, held_stays, stands_stay}
use Rattle.pad_chain.proofs.Knowing.{is_full}
use Rattle.pad_chain.proofs.chain.Chain.receive_without_moves.Goals.{in-Ok, in-Err}
use Rattle.pad_chain.proofs.chain.Chain.receive_without_moves.Goals as goal

pub returns-in_err-name-clause-same : goal.returns-in_err-name-clause-same
returns-in_err-name-clause-same g c = on_err c.from_residual.result (branch_stays c.args.self.now)

pub returns-in_err-name-clause-held : goal.returns-in_err-name-clause-held
returns-in_err-name-clause-held g c = on_err c.from_residual.result (held_stays c.args.self.now (name_of c.args.message))

pub returns-in_err-name-clause-links : goal.returns-in_err-name-clause-links
returns-in_err-name-clause-links g c = on_err c.from_residual.result (stands_stay c.args.self.now)

pub returns-clause-stands : goal.returns-clause-stands
returns-clause-stands g c =
    elim c.match-take_in.branch [
      | in-Ok w ↦ rw w.result-is (λ b R choice differ stands. let meant = w.in-Ok.ensures.stands in (meant.0, meant.2 b R choice differ stands))
      | in-Err w ↦ rw w.result-is tt
    ]

pub returns-clause-limit : goal.returns-clause-limit
returns-clause-limit g c =
    elim c.match-take_in.branch [
      | in-Ok w ↦ rw w.result-is tt
      | in-Err w ↦ rw w.result-is (λ full b R k.
          let both = w.in-Err.ensures.full full in
          is_full c.args.self.now b R c.args.message (subst (λ (n : Name). graph.standing (graph.state_of c.args.self.now.graph) n ≡ Unknown) c.in_ok-name.ensures both.0) both.1 k)
    ]

-- Where the chain is full, in the words of the messages received.
use Rattle.std.proofs.Common.{◌≡◌, List, ◌∷◌, sym, subst}
use Rattle.std.proofs.lemmas.Result.{IfErr-weaker}
use Rattle.pad_text.specs.declared.name.Name.{Name}
use Rattle.pad_graph.specs.State as graph
use Rattle.pad_graph.specs.declared.standing.Standing.TheVariants.{Unknown}
use Rattle.pad_message.specs.declared.message.Message.{Message}
use Rattle.pad_model.specs.declared.base.Base.{Base}
use Rattle.pad_model.specs.Path.{NamesDiffer}
use Rattle.pad_model.specs.Choice.{Choice}
use Rattle.pad_chain.specs.Tie.{StandsFor}
use Rattle.pad_chain.specs.Receive.{IsReceived}
use Rattle.pad_chain.specs.Inside.Receiving.{LeadsOn, IsFirst}
use Rattle.pad_chain.proofs.Meaning.{when_told}
use Rattle.pad_chain.proofs.Ground.{grows}
use Rattle.pad_chain.proofs.Knowing.{is_full, full_is}
use Rattle.pad_chain.proofs.chain.Chain.receive_named.Goals as goal

pub returns-clause-limit : goal.returns-clause-limit
returns-clause-limit g c =
    IfErr-weaker c.take_in.result _ _ (λ refused why e b R k. let both = why e in
    is_full c.args.self.now b R c.args.message (subst (λ (n : Name). graph.standing (graph.state_of c.args.self.now.graph) n ≡ Unknown) c.requires.named both.0) both.1 k) c.take_in.ensures.full

pub returns-clause-exact : goal.returns-clause-exact
returns-clause-exact g c b R k f =
    let both = full_is c.args.self.now b R c.args.message k f in
    c.take_in.ensures.room (subst (λ (n : Name). graph.standing (graph.state_of c.args.self.now.graph) n ≡ Unknown) (sym c.requires.named) both.0) both.1

pub returns-clause-grows : goal.returns-clause-grows
returns-clause-grows g c = grows c.take_in.result c.args.self.now c.take_in.new.self c.args.message c.take_in.ensures.knows c.take_in.ensures.knows_still

-- ---- the moves are told

pub returns-clause-stands : goal.returns-clause-stands
returns-clause-stands g c =
    when_told (λ moved. (b : Base) (R : List Message) (choice : Choice) → NamesDiffer (c.args.message ∷ R) → StandsFor c.args.self.now b R choice → IsReceived c.args.self.now c.take_in.new.self b R c.args.message choice moved) c.take_in.result
    c.take_in.ensures.stands

pub returns-clause-leads : goal.returns-clause-leads
returns-clause-leads g c = when_told (LeadsOn c.args.self.now c.take_in.new.self) c.take_in.result c.take_in.ensures.leads

pub returns-clause-first : goal.returns-clause-first
returns-clause-first g c = when_told (λ moved. IsFirst c.args.self.now c.take_in.new.self moved c.args.steps.now c.take_in.new.steps) c.take_in.result c.take_in.ensures.first

-- What the counts of a chain count.
use Rattle.std.proofs.Common.{◌≡◌, ℕ, ◌+◌, List}
use Rattle.pad_message.specs.declared.message.Message.{Message}
use Rattle.pad_graph.specs.State as graph
use Rattle.pad_model.specs.declared.base.Base.{Base}
use Rattle.pad_model.specs.Path.{IsLinkedPath}
use Rattle.pad_list.specs.Number.{IsNumberOf}
use Rattle.pad_model.specs.Choice.{Choice}
use Rattle.pad_model.specs.Count.{IsKnown, IsWaiting, IsKept}
use Rattle.pad_model.proofs.CallerLemmas.{linked_below}
use Rattle.pad_chain.specs.State.{View}
use Rattle.pad_chain.specs.Tie.{StandsFor}
use Rattle.pad_chain.proofs.Counts.{known_is, waiting_is, kept_is}

module _ (b : Base) (R : List Message) (chain : View) (choice : Choice) (s : StandsFor chain b R choice) where
  root_linked : IsLinkedPath b R choice.root
  root_linked = linked_below b R s.above choice.root s.trunk.linked

  pub known_of : IsNumberOf (IsKnown b R) chain.graph.known
  known_of = known_is b R s.links s.are_links s.trunk.differ choice.root root_linked (graph.state_of chain.graph) s.stands

  pub waiting_of : IsNumberOf (IsWaiting b R) chain.graph.waiting
  waiting_of = waiting_is b R s.links s.are_links s.trunk.differ choice.root root_linked (graph.state_of chain.graph) s.stands

  pub kept_of : (above : ℕ) × IsNumberOf (IsKept b R choice.root) above × (chain.graph.kept ≡ above + 1)
  kept_of = kept_is b R s.links s.are_links s.trunk.differ choice.root root_linked (graph.state_of chain.graph) s.stands

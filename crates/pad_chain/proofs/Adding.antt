-- A message that the graph has added: what the steps stand on, and how it is taken back.
use Rattle.std.proofs.Common.{◌≡◌, List, ◌∷◌, Some, None, Bool, sym, ap, ◌∙◌, subst}
use Rattle.pad_text.specs.declared.name.Name.{Name}
use Rattle.pad_message.specs.declared.message.Message.{Message}
use Rattle.pad_message.specs.Message.{name_of}
use Rattle.pad_graph.specs.declared.linking.Linking.{Linking}
use Rattle.pad_graph.specs.declared.added.Added.{Added}
use Rattle.pad_graph.specs.declared.added.Added.TheVariants.{Linked}
use Rattle.pad_graph.specs.Added.{IsAdded, links_after}
use Rattle.pad_graph.specs.Chain.{Link}
use Rattle.pad_graph.specs.State as graph
use Rattle.pad_graph.specs.Graph.{Stands}
use Rattle.pad_model.specs.declared.base.Base.{Base}
use Rattle.pad_model.specs.Choice.{Choice}
use Rattle.pad_checkpoint.specs.Links.{link_of, names_of}
use Rattle.pad_branch.specs.declared.held.Held.{Held}
use Rattle.pad_branch.specs.Held.{marks}
use Rattle.pad_chain.specs.State.{View, held_of}
use Rattle.pad_chain.specs.Tie.{StandsFor}
use Rattle.pad_chain.specs.Inside.Tables.{IsPut, IsSame}
use Rattle.pad_chain.specs.Receive.{IsUntouched}
use Rattle.pad_chain.specs.Inside.Receiving.{IsAdding, IsJoining}
use Rattle.pad_chain.proofs.Put.{put_marks}
use Rattle.pad_chain.proofs.Alike.{alike}
use Rattle.pad_chain.proofs.Arms.{taken_back}

module _ (before : View) (b : Base) (R : List Message) (m : Message) (choice : Choice) where
  -- the graph's answer
  pub is_adding : (now : View) (name : Name) (added other : Added) → name ≡ name_of m → added ≡ other → StandsFor before b R choice
      → ((base : Name) (links : List Link) (root : List Name) → Stands (graph.state_of before.graph) base links root → IsAdded base links root (record { name = name; parent = m.parent }) added × Stands (graph.state_of now.graph) base (links_after (record { name = name; parent = m.parent }) links added) root)
      → IsAdding before now b R m choice other
  is_adding now name added other named e s told = record { stood = s; told = both.0; stands = both.1 }
    where
      both : IsAdded b.name s.links (names_of choice.root) (link_of m) other × Stands (graph.state_of now.graph) b.name (links_after (link_of m) s.links other) (names_of choice.root)
      both = subst (λ t. t) (λ i. IsAdded b.name s.links (names_of choice.root) (record { name = named i; parent = m.parent }) (e i) × Stands (graph.state_of now.graph) b.name (links_after (record { name = named i; parent = m.parent }) s.links (e i)) (names_of choice.root)) (told b.name s.links (names_of choice.root) s.stands)

  pub adding_on : (now new : View) (added : Added) → new.graph ≡ now.graph → IsAdding before now b R m choice added → IsAdding before new b R m choice added
  adding_on now new added e a = record {
    stood = a.stood;
    told = a.told;
    stands = subst (λ (g : graph.Tables). Stands (graph.state_of g) b.name (links_after (link_of m) a.stood.links added) (names_of choice.root)) (sym e) a.stands;
  }

  -- the parent's mark is what it was
  pub same_mark : (mid : View) (linkings : List Linking) (t : Bool) → IsJoining before mid b R m choice linkings → t ≡ marks (held_of mid) m.parent → marks (held_of before) m.parent ≡ t
  same_mark mid linkings t j e = put_marks b R m choice before j.adding.stood j.differ j.adding.told.0 mid j.put m.parent ∙ sym e

  -- a message that is held no more stands for nothing
  pub refused_hold : (now new : View) (added : Added) (a : IsAdding before now b R m choice added) → links_after (link_of m) a.stood.links added ≡ link_of m ∷ a.stood.links
      → ((base : Name) (link : Link) (links : List Link) (root : List Name) → Stands (graph.state_of now.graph) base (link ∷ links) root → Stands (graph.state_of new.graph) base links root)
      → IsSame (held_of before) (held_of new) → new.whole ≡ before.whole → new.pruning ≡ before.pruning → new.branch.branch ≡ before.branch.branch → new.found ≡ before.found → StandsFor new b R choice
  refused_hold now new added a one undone same whole pruning branch found =
      alike before new b R choice a.stood same (undone b.name (link_of m) a.stood.links (names_of choice.root) (subst (λ ls. Stands (graph.state_of now.graph) b.name ls (names_of choice.root)) one a.stands)) whole pruning branch found

  pub refused_join : (now mid stopped new : View) (linkings : List Linking) (a : IsAdding before now b R m choice (Linked linkings)) (held : Held) → IsPut (held_of before) (held_of mid) (name_of m) (Some held) → mid.graph ≡ now.graph → IsUntouched mid stopped
      → ((base : Name) (link : Link) (links : List Link) (root : List Name) → Stands (graph.state_of stopped.graph) base (link ∷ links) root → Stands (graph.state_of new.graph) base links root)
      → IsPut (held_of stopped) (held_of new) (name_of m) None → new ≡ record stopped { graph = new.graph; messages = new.messages }
      → mid.whole ≡ before.whole → mid.pruning ≡ before.pruning → mid.branch.branch ≡ before.branch.branch → mid.found ≡ before.found → StandsFor new b R choice
  refused_join now mid stopped new linkings a held put names untouched undone removed rest whole pruning branch found =
      alike before new b R choice a.stood same stands (ap (λ v. v.whole) rest ∙ untouched.whole ∙ whole) (ap (λ v. v.pruning) rest ∙ untouched.pruning ∙ pruning) (ap (λ v. v.branch.branch) rest ∙ untouched.branch ∙ branch) (ap (λ v. v.found) rest ∙ untouched.found ∙ found)
    where
      at_stopped : IsPut (held_of mid) (held_of new) (name_of m) None
      at_stopped = subst (λ es. IsPut (held_of (record mid { messages = es })) (held_of new) (name_of m) None) untouched.messages removed

      same : IsSame (held_of before) (held_of new)
      same = taken_back before b R choice a.stood (name_of m) a.told.0 (held_of mid) (held_of new) held put at_stopped

      stands : Stands (graph.state_of new.graph) b.name a.stood.links (names_of choice.root)
      stands = undone b.name (link_of m) a.stood.links (names_of choice.root) (subst (λ st. Stands st b.name (link_of m ∷ a.stood.links) (names_of choice.root)) (sym (untouched.graph_is ∙ ap graph.state_of names)) a.stands)

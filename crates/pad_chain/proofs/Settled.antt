-- How the root of a chain moves, and its branch with it.
use Rattle.std.proofs.Common.{◌≡◌, ◌≢◌, ℕ, ◌+◌, ◌-◌, ◌≤◌, ◌<◌, List, [], ◌∷◌, ◌++◌, length, take, reverse, Option, refl, sym, ap, ◌∙◌, subst, append-nil, arith, length-append}
use Rattle.std.proofs.lemmas.List.{length-reverse}
use Rattle.pad_text.specs.declared.name.Name.{Name}
use Rattle.pad_message.specs.declared.message.Message.{Message}
use Rattle.pad_graph.specs.declared.linking.Linking.{Linking}
use Rattle.pad_graph.specs.Chain.{Link}
use Rattle.pad_graph.specs.State as graph
use Rattle.pad_graph.specs.Graph.{Stands, AreDropped}
use Rattle.pad_model.specs.declared.base.Base.{Base}
use Rattle.pad_model.specs.Choice.{cut, higher, Choice}
use Rattle.pad_checkpoint.specs.declared.place.Place.{Place}
use Rattle.pad_checkpoint.specs.declared.path_mark.PathMark.{PathMark}
use Rattle.pad_checkpoint.specs.Place.{place_of}
use Rattle.pad_checkpoint.specs.Links.{link_of, names_of}
use Rattle.pad_checkpoint.specs.Laws.{RootsRiseToCutsAbove}
use Rattle.pad_checkpoint.specs.Settled.{IsRooted, IsSettled}
use Rattle.pad_checkpoint.proofs.CallerLemmas.{links_more}
use Rattle.pad_branch.specs.declared.held.Held.{Held}
use Rattle.pad_branch.specs.declared.undo.Undo.{Undo}
use Rattle.pad_branch.specs.Branch.{State, IsTrunk, IsWon}
use Rattle.pad_chain.specs.State.{View}
use Rattle.pad_chain.specs.Inside.Tables.{IsSame, AreLetGo}
use Rattle.pad_chain.specs.Inside.Receiving.{IsJoining, IsRaised}
use Rattle.pad_chain.specs.Inside.Marks.{marks_from}
use Rattle.pad_chain.proofs.Ends.{many_undos}
use Rattle.pad_chain.proofs.PathMarks.{marks_of_path}

pub no_front : (xs root : List Message) → xs ++ root ≡ root → xs ≡ []
no_front [] root e = refl
no_front (x ∷ xs) root e = absurd (omega (arith, ap length e, length-append xs root))

module _ (before mid : View) (b : Base) (R : List Message) (m : Message) (choice : Choice) (linkings : List Linking) (j : IsJoining before mid b R m choice linkings) where
  abbrev now_links : List Link
  now_links = link_of m ∷ j.adding.stood.links

  here : mid.pruning.root ≡ place_of b choice.root
  here = ap (λ p. p.root) j.pruning ∙ j.adding.stood.at_root

  -- the path that won has these marks
  pub rooted : (path : List Message) (keep : ℕ) (come : List Undo) (units : List ℕ) (table : Name → Option Held) → IsWon b (m ∷ R) choice.root j.adding.stood.above path mid.branch.branch table keep come units
      → IsRooted b (m ∷ R) choice.root path now_links mid.pruning.root (marks_from mid.branch.branch.low (take keep mid.branch.branch.undos ++ come)) (graph.state_of mid.graph)
  rooted path keep come units table won = record {
    links_of = links_more b R m j.adding.stood.links j.adding.stood.are_links;
    linked = won.trunk.linked;
    at_root = here;
    are_marks = marks_of_path b choice.root path (take keep mid.branch.branch.undos ++ come) mid.branch.branch.low won.trunk.height won.trunk.undone;
    stands = j.adding.stands;
  }

-- the root stays
pub raised_none : (b : Base) (R root path : List Message) (links : List Link) (place : Place) (marks : List PathMark) (state : graph.State) → IsRooted b R root path links place marks state → IsRaised b links root [] place state
raised_none b R root path links place marks state r = record { at_root = r.at_root; stands = r.stands; lent = λ n. absurd (n refl) }

pub raised_to : RootsRiseToCutsAbove → (b : Base) (links : List Link) (root path : List Message) (place : Place) (state : graph.State) (many : ℕ) → IsSettled b links root (higher root (cut (path ++ root))) place state many → IsRaised b links root (cut path) place state
raised_to law b links root path place state many settled = record {
  at_root = settled.at_root ∙ ap (place_of b) (law root path);
  stands = subst (λ q. Stands state b.name links (names_of q)) (law root path) settled.stands;
  lent = λ n. subst (λ q. AreDropped b.name links (names_of root) (names_of q) state.dropped) (law root path) (settled.lent (λ e. n (no_front (cut path) root (sym (law root path) ∙ e))));
}

-- ---- the branch rises to the root

module _ (b : Base) (R root upper : List Message) (branch : State) (height : ℕ) (old : Name → Option Held) where
  pub rise_none : (joined : List Message) (dropped : List Linking) → IsTrunk b R root (upper ++ joined) branch → height ≡ length joined + length root → height ≤ branch.low
      → IsTrunk b R (joined ++ root) upper branch × ((joined ≡ []) → IsSame old old) × ((joined ≢ []) → AreLetGo old old dropped)
  rise_none [] dropped trunk at low = (subst (λ q. IsTrunk b R root q branch) (append-nil upper) trunk, λ e q. refl, λ n. absurd (n refl))
  rise_none (x ∷ joined) dropped trunk at low = absurd (omega (arith, at, low, trunk.height))

  pub rise_within : (joined : List Message) (by : ℕ) → IsTrunk b R root (upper ++ joined) branch → height ≡ length joined + length root → by ≡ height - branch.low → by ≤ length branch.undos
  rise_within joined by trunk at is =
      omega (arith, at, is, trunk.height, many_undos b root (upper ++ joined) (reverse branch.undos) trunk.undone, length-reverse branch.undos, length-append upper joined)

  pub rise_by : (joined : List Message) (by : ℕ) → IsTrunk b R root (upper ++ joined) branch → height ≡ length joined + length root → by ≡ height - branch.low → length joined ≡ by
  rise_by joined by trunk at is = omega (arith, at, is, trunk.height)

  pub rise_some : (joined : List Message) (by : ℕ) (new : Name → Option Held) (dropped : List Linking) → length joined ≡ by → 0 < by → AreLetGo old new dropped → ((joined ≡ []) → IsSame old new) × ((joined ≢ []) → AreLetGo old new dropped)
  rise_some joined by new dropped is some gone = (λ e. absurd (omega (arith, is, some, ap length e)), λ n. gone)

-- A chain to which no message came stands for its base alone.
use Rattle.std.proofs.Common.{◌≡◌, ℕ, List, [], ◌∷◌, Bool, true, false, Some, None, IfSome, refl, sym, ap, ◌∙◌, subst}
use Rattle.std.specs.Map.{lookup}
use Rattle.std.specs.BTreeMap.{BTreeMap, get, is_at}
use Rattle.pad_text.specs.declared.name.Name.{Name}
use Rattle.pad_text.specs.Hash.{document_hash}
use Rattle.pad_message.specs.declared.message.Message.{Message}
use Rattle.pad_graph.specs.State as graph
use Rattle.pad_graph.specs.Graph.{Stands}
use Rattle.pad_model.specs.declared.base.Base.{Base}
use Rattle.pad_model.specs.Path.{IsPath}
use Rattle.pad_model.specs.Best.{IsBetter, IsBest}
use Rattle.pad_model.specs.Choice.{first_choice}
use Rattle.pad_list.proofs.CallerLemmas.{contains_none}
use Rattle.pad_model.proofs.CallerLemmas.{never_better_itself}
use Rattle.pad_branch.specs.declared.held.Held.{Held}
use Rattle.pad_branch.specs.Held.{IsHeldAs, mark_of, marks}
use Rattle.pad_branch.specs.Pathless.{AreFound}
use Rattle.pad_branch.specs.Branch.{State, IsTrunk}
use Rattle.pad_chain.specs.State.{View, held_of}
use Rattle.pad_chain.specs.Tie.{IsChosen, StandsFor}

best_of_none : (b : Base) → IsBest b [] []
best_of_none b = record { path = (tt, tt); none_better = go }
  where
    go : (q : List Message) → IsPath b [] q → ¬ (IsBetter b q [])
    go [] path better = never_better_itself b [] better
    go (m ∷ q) path better = contains_none m path.0.0.member

chosen_first : (b : Base) (whole : Bool) → IsChosen whole b [] first_choice
chosen_first b true = record { root = refl; best = best_of_none b; none = refl }
chosen_first b false = refl

-- the branch of a base
abbrev pub begun_branch : Name → List ℕ → ℕ → State
begun_branch name units interval = record { root = record { name = name; hash = document_hash units; since = 0; interval = interval }; low = 0; undos = []; units = units }

trunk_first : (b : Base) → IsTrunk b [] [] [] (begun_branch b.name b.text b.interval)
trunk_first b = record {
  differ = λ one other c. absurd (contains_none one c);
  linked = tt;
  undone = refl;
  at_root = record { name = refl; hash = refl; since = refl; interval = refl };
  root_sound = tt;
  height = refl;
  text = refl;
}

module _ (chain : View) (b : Base) (none : chain.messages ≡ []) where
  nothing : (name : Name) → held_of chain name ≡ None
  nothing name = ap (λ (entries : List (Name × Held)). lookup (is_at (graph.name_cmp name)) entries) none

  some_none : (held : Held) → Some held ≡ None → ⊥
  some_none held e = cc

  pub begun_stands : Stands (graph.state_of chain.graph) b.name [] [] → chain.pruning.root ≡ record { name = b.name; height = 0 } → chain.pruning.overtaken ≡ 0 → chain.branch.branch ≡ begun_branch b.name b.text b.interval → chain.found ≡ [] → StandsFor chain b [] first_choice
  begun_stands stands at_root zero_over branch found = record {
    chosen = chosen_first b chain.whole;
    links = [];
    are_links = record { each = λ l c. absurd (contains_none l c); every = λ m c. absurd (contains_none m c) };
    stands = stands;
    at_root = at_root;
    overtook = zero_over;
    above = [];
    through = refl;
    trunk = subst (IsTrunk b [] [] []) (sym branch) (trunk_first b);
    holds = λ m p h. absurd (contains_none m h.0.member);
    waits = λ m w. absurd (contains_none m w.0);
    only = λ name held e. absurd (some_none held (sym e ∙ nothing name));
    knows = record { at_root = ap mark_of (nothing b.name); really = λ m p h. absurd (contains_none m h.0.member); passed = λ m p h. absurd (contains_none m h.0.member) };
    are_found = subst (AreFound b [] [] (marks (held_of chain))) (sym found) (record { once = tt; each = λ n c. absurd (contains_none n c); marked = λ n m p c. absurd (contains_none n c) });
  }

pub same_branch : (b : Base) (name : Name) (units : List ℕ) (interval : ℕ) → b.name ≡ name → b.text ≡ units → b.interval ≡ interval → begun_branch name units interval ≡ begun_branch b.name b.text b.interval
same_branch b name units interval n t i = sym (λ j. begun_branch (n j) (t j) (i j))

-- nothing is held in a table without entries
pub none_held : (table : BTreeMap Name Held) → table.entries ≡ [] → (name : Name) → IfSome (get graph.name_cmp table name) (IsHeldAs name)
none_held table none name = subst (λ o. IfSome o (IsHeldAs name)) (sym (ap (λ (entries : List (Name × Held)). lookup (is_at (graph.name_cmp name)) entries) none)) tt

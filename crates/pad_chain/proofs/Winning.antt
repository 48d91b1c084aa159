-- A path won: what the chain stands for then, before and after its root rises.
use Rattle.std.proofs.Common.{◌≡◌, List, [], ◌∷◌, ◌++◌, Bool, true, false, refl, sym, ap, ◌∙◌, subst, append_assoc, true≢false}
use Rattle.pad_text.specs.declared.name.Name.{Name}
use Rattle.pad_message.specs.declared.message.Message.{Message}
use Rattle.pad_message.specs.Message.{name_of}
use Rattle.pad_list.specs.Number.{IsNumberOf}
use Rattle.pad_model.specs.declared.base.Base.{Base}
use Rattle.pad_model.specs.Path.{last_name, IsLinkedPath}
use Rattle.pad_model.specs.Choice.{RunsThrough, Choice, IsBestThrough, Overtakes}
use Rattle.pad_checkpoint.specs.Laws.{RootsRiseToCutsAbove}
use Rattle.pad_checkpoint.proofs.CallerLemmas.{ends_cut}
use Rattle.pad_branch.specs.Pathless.{KnowsPathless, AreFound}
use Rattle.pad_graph.specs.Chain.{Link}
use Rattle.pad_graph.specs.State as graph
use Rattle.pad_chain.specs.State.{View, held_of}
use Rattle.pad_chain.specs.Tie.{IsChosen, IsChosenNext, StandsFor}
use Rattle.pad_chain.specs.Inside.Receiving.{rising}
use Rattle.pad_chain.proofs.Stays.{chosen_after}
use Rattle.pad_chain.proofs.Keeping.{Keeps, stands_so}
use Rattle.pad_chain.proofs.Chosen.{root_next, choice_next, chosen_next}

-- marks that are fewer, but the same for messages above the root
module _ (b : Base) (R root : List Message) (f g : Name → Bool) (sub : (q : Name) → g q ≡ true → f q ≡ true) (back : (x : Message) (p : List Message) → IsLinkedPath b R (x ∷ p) → RunsThrough root p → f (name_of x) ≡ true → g (name_of x) ≡ true) where
  pub fewer_known : KnowsPathless b R root f → KnowsPathless b R root g
  fewer_known h = record {
    at_root = go (g (last_name b root)) refl;
    really = λ x p linked e. h.really x p linked (sub (name_of x) e);
    passed = λ x p linked t e. back x p linked t (h.passed x p linked t (sub (last_name b p) e));
  }
    where
      go : (t : Bool) → g (last_name b root) ≡ t → g (last_name b root) ≡ false
      go false e = e
      go true e = absurd (true≢false (sym (sub (last_name b root) e) ∙ h.at_root))

  pub fewer_found : (found : List Name) → AreFound b R root f found → AreFound b R root g found
  fewer_found found h = record {
    once = h.once;
    each = h.each;
    marked = λ q x p c is linked t. subst (λ n. g n ≡ true) is (back x p linked t (subst (λ n. f n ≡ true) (sym is) (h.marked q x p c is linked t)));
  }

pub next_root : RootsRiseToCutsAbove → (whole : Bool) (root path : List Message) → root_next whole root (path ++ root) ≡ rising whole path ++ root
next_root law true root path = refl
next_root law false root path = law root path

pub upper_of : (whole : Bool) (path : List Message) → (upper : List Message) × (path ≡ upper ++ rising whole path)
upper_of true path = (path, append_none path)
  where
    append_none : (q : List Message) → q ≡ q ++ []
    append_none [] = refl
    append_none (x ∷ q) = ap (λ r. x ∷ r) (append_none q)
upper_of false path = ends_cut path

-- the whole of the clause, once the chain keeps what it should above the next root
module _ (b : Base) (R : List Message) (m : Message) (choice : Choice) (chain new : View) (s : StandsFor chain b R choice) (path upper : List Message) (links : List Link) (best : IsBestThrough b (m ∷ R) choice.root (path ++ choice.root)) (none : IsNumberOf (Overtakes b R m choice) 0) where
  pub won_next : IsChosenNext chain.whole b R m choice (choice_next chain.whole choice (path ++ choice.root))
  won_next = chosen_next b R m choice chain.whole (path ++ choice.root) s.chosen best none

  pub won_stands : RootsRiseToCutsAbove → path ≡ upper ++ rising chain.whole path → new.whole ≡ chain.whole → new.pruning.overtaken ≡ chain.pruning.overtaken
      → Keeps (graph.state_of new.graph) new.pruning.root new.branch.branch (held_of new) new.found b (m ∷ R) (rising chain.whole path ++ choice.root) upper links
      → StandsFor new b (m ∷ R) (choice_next chain.whole choice (path ++ choice.root))
  won_stands law split whole over keeps =
      let at_next = next_root law chain.whole choice.root path in
      let next = choice_next chain.whole choice (path ++ choice.root) in
      stands_so new b (m ∷ R) next upper links (subst (λ r. Keeps (graph.state_of new.graph) new.pruning.root new.branch.branch (held_of new) new.found b (m ∷ R) r upper links) (sym at_next) keeps)
      (subst (λ w. IsChosen w b (m ∷ R) next) (sym whole) (chosen_after b R m choice chain.whole next s.chosen won_next))
      (over ∙ s.overtook)
      (ap (λ p. p ++ choice.root) split ∙ append_assoc upper (rising chain.whole path) choice.root ∙ ap (λ r. upper ++ r) (sym at_next))

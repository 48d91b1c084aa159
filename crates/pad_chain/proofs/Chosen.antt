-- What is chosen next as messages are linked through the root.
use Rattle.std.proofs.Common.{◌≡◌, List, [], ◌∷◌, ◌++◌, Bool, true, false, refl, sym, ap, ◌∙◌, append-nil, arith}
use Rattle.pad_message.specs.declared.message.Message.{Message}
use Rattle.pad_list.proofs.CallerLemmas.{contains_head}
use Rattle.pad_list.specs.Number.{IsNumberOf}
use Rattle.pad_model.specs.declared.base.Base.{Base}
use Rattle.pad_model.specs.Choice.{cut, higher, Choice, IsBestThrough, IsChoice, Overtakes}
use Rattle.pad_model.specs.Laws.{RepeatChangesNoChoice}
use Rattle.pad_chain.specs.Tie.{IsChosen, IsChosenNext}

-- the choice of this path: the root rises to the cut, but in a chain that drops nothing
abbrev pub root_next : Bool → List Message → List Message → List Message
root_next true root path = root
root_next false root path = higher root (cut path)

abbrev pub choice_next : Bool → Choice → List Message → Choice
choice_next whole choice path = record { root = root_next whole choice.root path; chosen = path; overtaken = choice.overtaken }

module _ (b : Base) (R : List Message) (m : Message) (choice : Choice) where
  pub chosen_next : (whole : Bool) (path : List Message) → IsChosen whole b R choice → IsBestThrough b (m ∷ R) choice.root path → IsNumberOf (Overtakes b R m choice) 0 → IsChosenNext whole b R m choice (choice_next whole choice path)
  chosen_next false path h best none = record { chosen = best; root = refl; more = 0; overtook = none; overtaken = omega arith }
  chosen_next true path h best none = record {
    root = h.root;
    best = record { path = best.path; none_better = λ q linked. best.none_better q linked (q, sym (ap (λ r. q ++ r) h.root ∙ append-nil q)) };
    none = h.none;
  }

-- the root is the higher of itself and of the cut of what is chosen
pub root_stays : RepeatChangesNoChoice → (b : Base) (R : List Message) (choice : Choice) → IsChoice b R choice → choice.root ≡ higher choice.root (cut choice.chosen)
root_stays law b [] choice h = rw h refl
root_stays law b (x ∷ R) choice h = (law b (x ∷ R) x choice h (contains_head x R)).root

pub root_same : RepeatChangesNoChoice → (b : Base) (R : List Message) (choice : Choice) (whole : Bool) → IsChosen whole b R choice → root_next whole choice.root choice.chosen ≡ choice.root
root_same law b R choice true h = refl
root_same law b R choice false h = sym (root_stays law b R choice h)

-- where the path stays, the choice stays
pub choice_same : RepeatChangesNoChoice → (b : Base) (R : List Message) (choice : Choice) (whole : Bool) → IsChosen whole b R choice → choice_next whole choice choice.chosen ≡ choice
choice_same law b R choice whole h = let e = root_same law b R choice whole h in λ i. record { root = e i; chosen = choice.chosen; overtaken = choice.overtaken }

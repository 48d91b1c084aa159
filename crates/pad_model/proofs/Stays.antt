-- What a message that links nothing through the root changes.
use Rattle.std.proofs.Common.{◌≡◌, ◌⊎◌, inl, inr, List, [], ◌∷◌, length, Contains, Bool, true, false, refl, sym, ap, ◌∙◌, subst, arith}
use Rattle.std.specs.Prelude.{nat_lt, if◌then◌else◌}
use Rattle.pad_message.specs.declared.message.Message.{Message}
use Rattle.pad_model.specs.declared.base.Base.{Base}
use Rattle.pad_model.specs.Path.{IsLinkedPath}
use Rattle.pad_model.specs.Choice.{cut, higher, Choice, IsChoice}
use Rattle.pad_model.specs.Laws.{StaysChosen, NothingLinks, RepeatChangesNoChoice}
use Rattle.pad_list.proofs.CallerLemmas.{contains_more, contains_cases, contains_none}
use Rattle.pad_model.proofs.Chains.{linked_more, path_more}
use Rattle.pad_model.proofs.Roots.{best_through_its_root}

twice_higher : (r q : List Message) → higher (higher r q) q ≡ higher r q
twice_higher r q = go (nat_lt (length r) (length q)) refl
  where
    itself : (t : Bool) → (if t then q else q) ≡ q
    itself true = refl
    itself false = refl

    go : (t : Bool) → nat_lt (length r) (length q) ≡ t → higher (if t then q else r) q ≡ (if t then q else r)
    go true e = itself (nat_lt (length q) (length q))
    go false e = ap (λ t. if t then q else r) e

root_is_up : (b : Base) (R : List Message) (c : Choice) → IsChoice b R c → c.root ≡ higher c.root (cut c.chosen)
root_is_up b [] c h = rw h refl
root_is_up b (m ∷ R) c (before, h, next) = next.root ∙ sym (twice_higher before.root (cut c.chosen)) ∙ ap (λ r. higher r (cut c.chosen)) (sym next.root)

pub stays_chosen : StaysChosen
stays_chosen b R m c n h old count =
    let best = best_through_its_root b R c h in
    record {
      chosen = record {
        path = path_more b R (m ∷ R) c.chosen (contains_more m R) best.path;
        through = best.through;
        none_better = λ q path through. best.none_better q (old q path.0 through, path.1) through;
      };
      root = root_is_up b R c h;
      more = n;
      overtook = count;
      overtaken = refl;
    }

pub nothing_links : NothingLinks
nothing_links b R m c old = record { all = []; once = tt; these = λ x. (λ k. absurd (contains_none x k), λ o. absurd (o.was_not_linked (o.before, old (x ∷ o.before) o.below.0))); many = refl }

-- a message received again links nothing
again_links : (b : Base) (R : List Message) (m : Message) → Contains R m → (p : List Message) → IsLinkedPath b (m ∷ R) p → IsLinkedPath b R p
again_links b R m k p h = linked_more b (m ∷ R) R p (λ x c. go x (contains_cases m R x c)) h
  where
    go : (x : Message) → (m ≡ x) ⊎ Contains R x → Contains R x
    go x (inl e) = subst (Contains R) e k
    go x (inr c) = c

pub repeat_changes_no_choice : RepeatChangesNoChoice
repeat_changes_no_choice b R m c h k =
    let none = nothing_links b R m c (again_links b R m k) in
    let stays = stays_chosen b R m c 0 h (λ p l through. again_links b R m k p l) none in
    record { chosen = stays.chosen; root = stays.root; more = 0; overtook = none; overtaken = omega arith }

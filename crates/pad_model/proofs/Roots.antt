-- The kept root rises along the chosen path.
use Rattle.std.proofs.Common.{◌≡◌, ◌≤◌, ◌⊎◌, inl, inr, List, [], ◌∷◌, ◌++◌, length, Bool, true, false, refl, sym, ap, ◌∙◌, subst, arith, length-append, append-nil, le_of_lt, ltb-true}
use Rattle.std.specs.Prelude.{nat_lt, if◌then◌else◌}
use Rattle.pad_message.specs.declared.message.Message.{Message}
use Rattle.pad_model.specs.Path.{IsLinkedPath, IsPath}
use Rattle.pad_model.specs.Best.{IsBetter}
use Rattle.pad_model.specs.Choice.{cut, RunsThrough}
use Rattle.pad_model.specs.Laws.{RootRises, BestThroughItsRoot, OnlyNewPaths, BestAtBase}
use Rattle.pad_model.proofs.Orders.{better_than}
use Rattle.pad_model.proofs.Chosen.{through_itself, through_trans, through_cut, root_on_chosen, best_of_none}
use Rattle.pad_model.proofs.Chains.{linked_new}

-- of two ends of a list, the longer one ends in the shorter one
pub two_ends : {A : Type 0} (u v r q : List A) → u ++ r ≡ v ++ q → length r ≤ length q → (w : List A) × (q ≡ w ++ r)
two_ends u [] r q e h = (u, sym e)
two_ends [] (y ∷ v) r q e h = absurd (omega (arith, h, ap length e, length-append v q))
two_ends {A = A} (x ∷ u) (y ∷ v) r q e h = two_ends u v r q (tail_same x y (u ++ r) (v ++ q) e) h
  where
    tail_same : (x y : A) (s t : List A) → x ∷ s ≡ y ∷ t → s ≡ t
    tail_same x y s t e = cc

pub root_rises : RootRises
root_rises b R m c d n = rw n.root (go (nat_lt (length c.root) (length (cut d.chosen))) refl)
  where
    go : (t : Bool) → nat_lt (length c.root) (length (cut d.chosen)) ≡ t → RunsThrough c.root (if t then cut d.chosen else c.root)
    go true e =
        let at = n.chosen.through in
        let cuts = through_cut d.chosen in
        two_ends at.0 cuts.0 c.root (cut d.chosen) (sym at.1 ∙ cuts.1) (le_of_lt (ltb-true _ _ e))
    go false e = through_itself c.root

pub best_through_its_root : BestThroughItsRoot
best_through_its_root b [] c h = rw h (record { path = (tt, tt); through = through_itself []; none_better = λ q path through. (best_of_none b).none_better q path })
best_through_its_root b (m ∷ R) c (before, h, next) = record {
  path = next.chosen.path;
  through = root_on_chosen b (m ∷ R) c (before, h, next);
  none_better = λ q path through. next.chosen.none_better q path (through_trans before.root c.root q (root_rises b R m before c next) through);
}

pub only_new_paths : OnlyNewPaths
only_new_paths b R r p q m best path through better new = record {
  path = path;
  through = through;
  none_better = λ x px tx bad. go x px tx bad (linked_new b R m x px.0);
}
  where
    go : (x : List Message) → IsPath b (m ∷ R) x → RunsThrough r x → IsBetter b x q → IsLinkedPath b R x ⊎ ((above : List Message) × (below : List Message) × (x ≡ above ++ m ∷ below)) → ⊥
    go x px tx bad (inl old) = best.none_better x (old, px.1) tx (better_than b x p q bad better)
    go x px tx bad (inr (above, below, e)) = new above below (subst (IsPath b (m ∷ R)) e px) (subst (RunsThrough r) e tx) (subst (λ w. IsBetter b w q) e bad)

pub best_at_base : BestAtBase
best_at_base b R c h root =
    let best = best_through_its_root b R c h in
    record { path = best.path; none_better = λ q path. best.none_better q path (subst (λ r. RunsThrough r q) (sym root) (q, sym (append-nil q))) }

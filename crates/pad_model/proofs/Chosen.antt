-- Truncation: what is chosen through the root is the best where nothing overtook.
use Rattle.std.proofs.Common.{◌≡◌, ℕ, List, [], ◌∷◌, ◌++◌, length, Contains, Bool, true, false, drop, refl, sym, ap, ◌∙◌, subst, arith, append_assoc}
use Rattle.std.specs.Prelude.{nat_lt, if◌then◌else◌}
use Rattle.pad_message.specs.declared.message.Message.{Message}
use Rattle.pad_message.specs.Kind.{is_checkpoint}
use Rattle.pad_model.specs.declared.base.Base.{Base}
use Rattle.pad_model.specs.Path.{IsLinkedPath, IsPath, NamesDiffer}
use Rattle.pad_model.specs.Best.{IsBetter, IsBest}
use Rattle.pad_list.specs.Number.{IsNumberOf}
use Rattle.pad_model.specs.Choice.{to_checkpoint, cut, higher, RunsThrough, Choice, Overtakes, IsChoice}
use Rattle.pad_model.specs.Laws.{RootOnChosen, NeverWorse, StaysBest, NothingOvertook}
use Rattle.pad_list.proofs.CallerLemmas.{contains_more, contains_none}
use Rattle.pad_model.proofs.Chains.{linked_more, path_more, linked_unique, differ_before}
use Rattle.pad_model.proofs.Orders.{better_than, never_better_itself}

-- ---- running through

pub through_itself : (p : List Message) → RunsThrough p p
through_itself p = ([], refl)

pub through_trans : (r q p : List Message) → RunsThrough r q → RunsThrough q p → RunsThrough r p
through_trans r q p h g = (g.0 ++ h.0, g.1 ∙ ap (λ x. g.0 ++ x) h.1 ∙ sym (append_assoc g.0 h.0 r))

through_drop : (p : List Message) → RunsThrough (drop 1 p) p
through_drop [] = ([], refl)
through_drop (m ∷ p) = (m ∷ [], refl)

through_checkpoint : (p : List Message) → RunsThrough (to_checkpoint p) p
through_checkpoint [] = through_itself []
through_checkpoint (m ∷ p) = go (is_checkpoint m.kind) (through_checkpoint p)
  where
    go : (t : Bool) → RunsThrough (to_checkpoint p) p → RunsThrough (if t then m ∷ p else to_checkpoint p) (m ∷ p)
    go true h = through_itself (m ∷ p)
    go false h = (m ∷ h.0, ap (λ x. m ∷ x) h.1)

pub through_cut : (p : List Message) → RunsThrough (cut p) p
through_cut p =
    through_trans (cut p) (drop 1 (to_checkpoint p)) p (through_checkpoint (drop 1 (to_checkpoint p)))
    (through_trans (drop 1 (to_checkpoint p)) (to_checkpoint p) p (through_drop (to_checkpoint p)) (through_checkpoint p))

through_higher : (r q p : List Message) → RunsThrough r p → RunsThrough q p → RunsThrough (higher r q) p
through_higher r q p h g = go (nat_lt (length r) (length q))
  where
    go : (t : Bool) → RunsThrough (if t then q else r) p
    go true = g
    go false = h

-- ---- the laws

pub root_on_chosen : RootOnChosen
root_on_chosen b [] c h = rw h (through_itself [])
root_on_chosen b (m ∷ R) c (before, h, next) = rw next.root (through_higher before.root (cut c.chosen) c.chosen next.chosen.through (through_cut c.chosen))

pub chosen_path : (b : Base) (R : List Message) (c : Choice) → IsChoice b R c → IsPath b R c.chosen
chosen_path b [] c h = rw h (tt, tt)
chosen_path b (m ∷ R) c (before, h, next) = next.chosen.path

pub never_worse : NeverWorse
never_worse b R m c d h n =
    n.chosen.none_better c.chosen (path_more b R (m ∷ R) c.chosen (contains_more m R) (chosen_path b R c h)) (root_on_chosen b R c h)

none_of : {A : Type 0} (P : A → Type 0) (n : ℕ) → IsNumberOf P n → n ≡ 0 → (x : A) → ¬ (P x)
none_of {A = A} P n h none x p = go h.all (sym h.many ∙ none) ((h.these x).1 p)
  where
    go : (all : List A) → length all ≡ 0 → Contains all x → ⊥
    go [] e c = contains_none x c
    go (y ∷ ys) e c = omega (arith, e)

-- a path with the new message that does not run through the root and is better than the chosen one overtakes
overtakes : (b : Base) (R : List Message) (m : Message) (c : Choice) (q : List Message) → NamesDiffer (m ∷ R) → IsPath b (m ∷ R) q → ¬ (IsPath b R q) → ¬ (RunsThrough c.root q) → IsBetter b q c.chosen → (x : Message) × Overtakes b R m c x
overtakes b R m c [] u path not_old below better = absurd (not_old (tt, tt))
overtakes b R m c (x ∷ q) u path not_old below better = (
  x,
  record {
    was_not_linked = λ was. not_old (subst (IsLinkedPath b R) (linked_unique b (m ∷ R) (x ∷ was.0) (x ∷ q) u (linked_more b R (m ∷ R) (x ∷ was.0) (contains_more m R) was.1) path.0 refl) was.1, path.1);
    before = q;
    below = (path.0, below);
    better = better;
  },
)

pub stays_best : StaysBest
stays_best b R m c d u h n best none = record {
  path = n.chosen.path;
  none_better = λ q path better.
      let betters_c : IsBetter b q c.chosen = better_than b q c.chosen d.chosen better (never_worse b R m c d h n) in
      let one = overtakes b R m c q u path (λ old. best.none_better q old betters_c) (λ through. n.chosen.none_better q path through better) betters_c in
      none_of (Overtakes b R m c) n.more n.overtook (omega (arith, none, n.overtaken)) one.0 one.1;
}

pub best_of_none : (b : Base) → IsBest b [] []
best_of_none b = record { path = (tt, tt); none_better = go }
  where
    go : (q : List Message) → IsPath b [] q → ¬ (IsBetter b q [])
    go [] path better = never_better_itself b [] better
    go (m ∷ q) path better = contains_none m path.0.0.member

pub nothing_overtook : NothingOvertook
nothing_overtook b [] c u h none = rw h (best_of_none b)
nothing_overtook b (m ∷ R) c u (before, h, next) none =
    stays_best b R m before c u h next (nothing_overtook b R before (differ_before m R u) h (omega (arith, none, next.overtaken))) none

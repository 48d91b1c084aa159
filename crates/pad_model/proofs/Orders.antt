-- The order of names, and of being better.
use Rattle.std.proofs.Common.{◌≡◌, ℕ, ◌<◌, ◌≤◌, ◌⊎◌, inl, inr, List, length, refl, sym, ap, ◌∙◌, arith, eq-or-lt_of_le, true≢false, Ordering, nat_cmp, Less, Equal, Greater, is_eq, is_lt}
use Rattle.std.specs.Cmp.{alike_right}
use Rattle.std.specs.Cmp.Lexicographic.{slice_cmp, nat_list_cmp_total, texts_ties, bytes_decides}
use Rattle.std.specs.Ordering.{ordering_reverse}
use Rattle.pad_text.specs.declared.name.Name.{Name}
use Rattle.pad_text.specs.Name.{NameLess}
use Rattle.pad_message.specs.declared.message.Message.{Message}
use Rattle.pad_model.specs.declared.base.Base.{Base}
use Rattle.pad_model.specs.Path.{last_name}
use Rattle.pad_model.specs.Best.{IsBetter}

pub less_below : (x y z : Name) → NameLess x y → ¬ (NameLess z y) → NameLess x z
less_below x y z h n = go (slice_cmp nat_cmp z.0 y.0) refl
  where
    go : (r : Ordering) → slice_cmp nat_cmp z.0 y.0 ≡ r → NameLess x z
    go Less e = absurd (n e)
    go Equal e = alike_right nat_list_cmp_total z.0 y.0 x.0 e ∙ h
    go Greater e = nat_list_cmp_total.trans x.0 y.0 z.0 h (nat_list_cmp_total.antisymm y.0 z.0 ∙ ap ordering_reverse e)

pub less_itself : (x : Name) → ¬ (NameLess x x)
less_itself x h = true≢false (ap is_lt (sym h ∙ nat_list_cmp_total.antisymm x.0 x.0 ∙ ap ordering_reverse h))

pub neither_less : (x y : Name) → ¬ (NameLess x y) → ¬ (NameLess y x) → x ≡ y
neither_less x y n k = go (slice_cmp nat_cmp x.0 y.0) refl
  where
    go : (r : Ordering) → slice_cmp nat_cmp x.0 y.0 ≡ r → x ≡ y
    go Less e = absurd (n e)
    go Equal e = ap (λ bytes. record { 0 = bytes }) ((bytes_decides x.0 y.0).0 (texts_ties x.0 y.0 ∙ ap is_eq e))
    go Greater e = absurd (k (nat_list_cmp_total.antisymm y.0 x.0 ∙ ap ordering_reverse e))

dichotomy : (n k : ℕ) → (n ≤ k) ⊎ (k < n)
dichotomy n k = grind arith

not_longer : (b : Base) (p q : List Message) → ¬ (IsBetter b p q) → length p ≤ length q
not_longer b p q n = go (dichotomy (length p) (length q))
  where
    go : (length p ≤ length q) ⊎ (length q < length p) → length p ≤ length q
    go (inl h) = h
    go (inr h) = absurd (n (inl h))

-- what is better than q is better than p too, where p is not better than q
pub better_than : (b : Base) (s p q : List Message) → IsBetter b s q → ¬ (IsBetter b p q) → IsBetter b s p
better_than b s p q (inl h) n = inl (omega (arith, h, not_longer b p q n))
better_than b s p q (inr h) n = go (eq-or-lt_of_le (not_longer b p q n))
  where
    go : (length p ≡ length q) ⊎ (length p < length q) → IsBetter b s p
    go (inl e) = inr (omega (arith, e, h.0), less_below (last_name b s) (last_name b q) (last_name b p) h.1 (λ l. n (inr (e, l))))
    go (inr l) = inl (omega (arith, l, h.0))

pub neither_better : (b : Base) (p q : List Message) → ¬ (IsBetter b p q) → ¬ (IsBetter b q p) → last_name b p ≡ last_name b q
neither_better b p q n k =
    let e : length p ≡ length q = omega (arith, not_longer b p q n, not_longer b q p k) in
    neither_less (last_name b p) (last_name b q) (λ l. n (inr (e, l))) (λ l. k (inr (sym e, l)))

pub never_better_itself : (b : Base) (p : List Message) → ¬ (IsBetter b p p)
never_better_itself b p (inl h) = omega (arith, h)
never_better_itself b p (inr h) = absurd (less_itself (last_name b p) h.1)

pub better_asym : (b : Base) (p q : List Message) → IsBetter b p q → ¬ (IsBetter b q p)
better_asym b p q (inl h) (inl g) = omega (arith, h, g)
better_asym b p q (inl h) (inr g) = omega (arith, h, g.0)
better_asym b p q (inr h) (inl g) = omega (arith, h.0, g)
better_asym b p q (inr h) (inr g) = less_itself (last_name b p) (nat_list_cmp_total.trans (last_name b p).0 (last_name b q).0 (last_name b p).0 h.1 g.1)

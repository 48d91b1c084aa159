-- The cut of a path, by the places of its messages.
use Rattle.std.proofs.Common.{◌≡◌, ℕ, zero, suc, ◌+◌, ◌-◌, ◌<◌, ◌≤◌, ◌⊎◌, inl, inr, List, [], ◌∷◌, length, map, drop, get_or, All, Bool, true, false, Some, slice_get, refl, sym, ap, ◌∙◌, subst, arith}
use Rattle.std.specs.Prelude.{nat_lt, if◌then◌else◌}
use Rattle.std.proofs.lemmas.Bool.{cases_lt}
use Rattle.pad_text.specs.declared.name.Name.{Name}
use Rattle.pad_message.specs.declared.message.Message.{Message}
use Rattle.pad_message.specs.Kind.{is_checkpoint}
use Rattle.pad_message.specs.Message.{name_of}
use Rattle.pad_model.specs.declared.base.Base.{Base}
use Rattle.pad_model.specs.Choice.{to_checkpoint, cut}
use Rattle.pad_plain.specs.declared.path.Tip.{Tip}
use Rattle.pad_plain.specs.Tip.{IsTipOf}
use Rattle.pad_plain.specs.Inside.Walk.{messages_at}
use Rattle.pad_plain.proofs.Places.{some_same, at_place}
use Rattle.pad_plain.proofs.Evaluated.{lower, lower_length, drop_past}
use Rattle.pad_plain.proofs.Throughs.{lower_first, name_high}

module _ (R : List Message) (v : List ℕ) (within : All (λ i. i < length R) v) where
  -- the message at the place number k is a checkpoint, or is none
  pub checkpoint_here : (k : ℕ) (x : Message) → k < length v → x ≡ get_or R (get_or v k 0) x → is_checkpoint x.kind ≡ true → to_checkpoint (lower R v k) ≡ lower R v k
  checkpoint_here k x below e is_one =
      let y = lower_first R v k within below in
      let same : x ≡ y.0 = some_same x y.0 (sym (at_place R (get_or v k 0) x (within k 0 below) e) ∙ y.1) in
      ap to_checkpoint y.2 ∙ ap (λ t. if t then y.0 ∷ lower R v (suc k) else to_checkpoint (lower R v (suc k))) (ap (λ z. is_checkpoint z.kind) (sym same) ∙ is_one) ∙ sym y.2

  pub patch_here : (k : ℕ) (x : Message) → k < length v → x ≡ get_or R (get_or v k 0) x → is_checkpoint x.kind ≡ false → to_checkpoint (lower R v k) ≡ to_checkpoint (lower R v (k + 1))
  patch_here k x below e is_none =
      let y = lower_first R v k within below in
      let same : x ≡ y.0 = some_same x y.0 (sym (at_place R (get_or v k 0) x (within k 0 below) e) ∙ y.1) in
      let next : suc k ≡ k + 1 = omega arith in
      ap to_checkpoint y.2 ∙ ap (λ t. if t then y.0 ∷ lower R v (suc k) else to_checkpoint (lower R v (suc k))) (ap (λ z. is_checkpoint z.kind) (sym same) ∙ is_none) ∙ ap (λ j. to_checkpoint (lower R v j)) next

  pub past_end : (k n : ℕ) → length v ≤ k → n ≡ length v → to_checkpoint (lower R v k) ≡ lower R v n
  past_end k n h e = ap (λ w. to_checkpoint (messages_at R w)) (drop_past v k h) ∙ ap (messages_at R) (sym (drop_past v n (omega (arith, e))))

  drop_one : (k : ℕ) → drop 1 (lower R v k) ≡ lower R v (k + 1)
  drop_one k = go (cases_lt k (length v))
    where
      go : (k < length v) ⊎ (length v ≤ k) → drop 1 (lower R v k) ≡ lower R v (k + 1)
      go (inl h) = let y = lower_first R v k within h in let next : suc k ≡ k + 1 = omega arith in ap (drop 1) y.2 ∙ ap (lower R v) next
      go (inr h) = ap (λ w. drop 1 (messages_at R w)) (drop_past v k h) ∙ ap (messages_at R) (sym (drop_past v (k + 1) (omega (arith, h))))

  pub cut_at : (last at : ℕ) → to_checkpoint (lower R v 0) ≡ lower R v last → to_checkpoint (lower R v (last + 1)) ≡ lower R v at → cut (messages_at R v) ≡ lower R v at
  cut_at last at first second = ap (λ p. to_checkpoint (drop 1 p)) first ∙ ap to_checkpoint (drop_one last) ∙ second

pub tip_at_base : (b : Base) (R : List Message) (v : List ℕ) (p : List Message) (at : ℕ) → p ≡ lower R v at → at ≡ length v → IsTipOf b p (record { name = b.name; height = 0 })
tip_at_base b R v p at e end = subst (λ q. IsTipOf b q (record { name = b.name; height = 0 })) (sym (e ∙ ap (messages_at R) (drop_past v at (omega (arith, end))))) (record { named = refl; high = refl })

pub tip_high : (b : Base) (R : List Message) (names : List Name) (v : List ℕ) (p : List Message) (at : ℕ) (d : Name) → names ≡ map name_of R → All (λ i. i < length R) v → p ≡ lower R v at → at < length v → IsTipOf b p (record { name = get_or names (get_or v at 0) d; height = length v - at })
tip_high b R names v p at d named within e below = subst (λ q. IsTipOf b q (record { name = get_or names (get_or v at 0) d; height = length v - at })) (sym e) (record {
  named = name_high b R names v at d named within below;
  high = sym (lower_length R v at within);
})

-- A path that is evaluated from the base on: the messages from the place number k on, the newest first.
use Rattle.std.proofs.Common.{◌≡◌, ℕ, zero, suc, ◌+◌, ◌-◌, ◌<◌, ◌≤◌, ◌⊎◌, inl, inr, List, [], ◌∷◌, length, get_or, drop, take, drop-cons, take-append-drop, length-drop, All, Bool, true, false, slice_get, refl, sym, ap, ◌∙◌, subst, arith}
use Rattle.std.specs.Prelude.{if◌then◌else◌}
use Rattle.std.proofs.lemmas.List.Elements.{filter_map-append, All-drop}
use Rattle.pad_patch.specs.Piece.{text_after}
use Rattle.pad_message.specs.declared.message.Message.{Message}
use Rattle.pad_model.specs.declared.base.Base.{Base}
use Rattle.pad_message.specs.Kind.{is_checkpoint}
use Rattle.pad_model.specs.Sound.{interval_of, IsSound}
use Rattle.pad_model.specs.Path.{text, interval, since_checkpoint, IsSoundOn, EachSound}
use Rattle.pad_plain.specs.Inside.Walk.{messages_at}
use Rattle.pad_model.proofs.CallerLemmas.{sound_below}
use Rattle.pad_plain.proofs.Places.{at_place, messages_step, messages_length}

abbrev pub lower : List Message → List ℕ → ℕ → List Message
lower R v k = messages_at R (drop k v)

-- nothing is left behind the end
pub drop_past : {A : Type 0} (v : List A) (k : ℕ) → length v ≤ k → drop k v ≡ []
drop_past [] zero h = refl
drop_past [] (suc k) h = refl
drop_past (x ∷ v) zero h = absurd (omega (arith, h))
drop_past (x ∷ v) (suc k) h = drop_past v k (omega (arith, h))

pub lower_step : (R : List Message) (v : List ℕ) (k : ℕ) (x : Message) → k < length v → All (λ i. i < length R) v → x ≡ get_or R (get_or v k 0) x → lower R v k ≡ x ∷ lower R v (suc k)
lower_step R v k x h within e =
    ap (messages_at R) (drop-cons v k 0 h) ∙ messages_step R (drop (suc k) v) (get_or v k 0) x (at_place R (get_or v k 0) x (within k 0 h) e)

lower_sound : (b : Base) (R : List Message) (v : List ℕ) (k : ℕ) → EachSound b (messages_at R v) → EachSound b (lower R v k)
lower_sound b R v k h =
    sound_below b (messages_at R (take k v)) (lower R v k)
    (subst (EachSound b) (sym (sym (filter_map-append (slice_get R) (take k v) (drop k v)) ∙ ap (messages_at R) (take-append-drop k v))) h)

pub lower_length : (R : List Message) (v : List ℕ) (k : ℕ) → All (λ i. i < length R) v → length (lower R v k) ≡ length v - k
lower_length R v k within = messages_length R (drop k v) (All-drop (λ i. i < length R) k v within) ∙ length-drop k v

-- what stands after the path up to the place number k: its text, the interval in force, and how many messages came since
-- the last checkpoint
pub record StandsAt (b : Base) (R : List Message) (v : List ℕ) (k since every : ℕ) (t : List ℕ) : Type 0 where
  pub sound : EachSound b (lower R v (length v - k))
  pub after : t ≡ text b (lower R v (length v - k))
  pub timed : every ≡ interval b (lower R v (length v - k))
  pub count : since ≡ since_checkpoint (lower R v (length v - k))
  pub few : since ≤ k

module _ (b : Base) (R : List Message) (v : List ℕ) (h since every : ℕ) (x : Message) (t : List ℕ) (below : h < length v) (within : All (λ i. i < length R) v) (e : x ≡ get_or R (get_or v (length v - 1 - h) 0) x) (here : StandsAt b R v h since every t) where
  step : lower R v (length v - (h + 1)) ≡ x ∷ lower R v (length v - h)
  step =
      let k : length v - 1 - h ≡ length v - (h + 1) = omega arith in
      let n : suc (length v - (h + 1)) ≡ length v - h = omega (arith, below) in
      lower_step R v (length v - (h + 1)) x (omega (arith, below)) within (subst (λ j. x ≡ get_or R (get_or v j 0) x) k e) ∙ ap (λ j. x ∷ lower R v j) n

  sound_same : IsSound x (since + 1) every t ≡ IsSoundOn b (lower R v (length v - h)) x
  sound_same = λ i. IsSound x (here.count i + 1) (here.timed i) (here.after i)

  pub unsound_here : ¬ (IsSound x (since + 1) every t) → ¬ (EachSound b (messages_at R v))
  unsound_here not_sound all =
      let above = subst (EachSound b) step (lower_sound b R v (length v - (h + 1)) all) in
      not_sound (subst (λ A. A) (sym sound_same) above.0)

  pub stands_more : (next now : ℕ) (u : List ℕ) → IsSound x (since + 1) every t → u ≡ text_after x.patch t → now ≡ interval_of x.kind every → next ≡ (if is_checkpoint x.kind then 0 else since + 1) → StandsAt b R v (h + 1) next now u
  stands_more next now u is_sound text_is interval_is next_is = record {
    sound = subst (EachSound b) (sym step) (subst (λ A. A) sound_same is_sound, here.sound);
    after = text_is ∙ ap (text_after x.patch) here.after ∙ ap (text b) (sym step);
    timed = interval_is ∙ ap (interval_of x.kind) here.timed ∙ ap (interval b) (sym step);
    count = next_is ∙ ap (λ n. if is_checkpoint x.kind then 0 else n + 1) here.count ∙ ap since_checkpoint (sym step);
    few = go (is_checkpoint x.kind) next_is;
  }
    where
      go : (c : Bool) → next ≡ (if c then 0 else since + 1) → next ≤ h + 1
      go true k = omega (arith, k)
      go false k = omega (arith, k, here.few)

-- the number of messages since the last checkpoint, after one message more
pub since_is : (t : Bool) (n s : ℕ) → ((t ≡ true) × (n ≡ 0)) ⊎ ((t ≡ false) × (n ≡ s)) → n ≡ (if t then 0 else s)
since_is t n s (inl (e, k)) = k ∙ ap (λ u. if u then 0 else s) (sym e)
since_is t n s (inr (e, k)) = k ∙ ap (λ u. if u then 0 else s) (sym e)

-- the whole path
pub stands_on_all : (b : Base) (R : List Message) (v : List ℕ) (k since every : ℕ) (t : List ℕ) → length v ≤ k → StandsAt b R v k since every t → EachSound b (messages_at R v) × (t ≡ text b (messages_at R v))
stands_on_all b R v k since every t all s =
    let none : length v - k ≡ 0 = omega (arith, all) in
    (subst (λ n. EachSound b (lower R v n)) none s.sound, s.after ∙ ap (λ n. text b (lower R v n)) none)

pub stands_at_base : (b : Base) (R : List Message) (v : List ℕ) (t : List ℕ) → t ≡ b.text → StandsAt b R v 0 0 b.interval t
stands_at_base b R v t e =
    let none : lower R v (length v - 0) ≡ [] = ap (messages_at R) (drop_past v (length v - 0) (omega arith)) in
    record {
      sound = subst (EachSound b) (sym none) tt;
      after = e ∙ ap (text b) (sym none);
      timed = ap (interval b) (sym none);
      count = ap since_checkpoint (sym none);
      few = omega arith;
    }

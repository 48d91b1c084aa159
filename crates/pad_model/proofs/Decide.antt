-- Each thing that the definitions ask of names and of one message on a text can be decided.
use Rattle.std.proofs.Common.{◌≡◌, ℕ, zero, suc, ◌+◌, ◌-◌, ◌<◌, ◌≤◌, ◌%◌, ◌⊎◌, inl, inr, List, [], ◌∷◌, length, Bool, true, false, nat_eq, Option, Some, None, slice_get, slice_index, IsTrue, Ordering, Less, Equal, Greater, nat_cmp, is_lt, refl, sym, ap, ◌∙◌, subst, arith, true≢false}
use Rattle.std.specs.Cmp.Lexicographic.{pointwise, slice_cmp, bytes_decides}
use Rattle.std.specs.Char.Utf16.{is_high_surrogate, is_low_surrogate}
use Rattle.std.proofs.lemmas.Bool.{cases_lt, cases_eq}
use Rattle.std.proofs.lemmas.Option.{slice_get_within}
use Rattle.pad_text.specs.declared.name.Name.{Name}
use Rattle.pad_text.specs.Name.{NameLess}
use Rattle.pad_text.specs.Text.{CutsPair}
use Rattle.pad_text.specs.Hash.{document_hash}
use Rattle.pad_patch.specs.declared.operation.Operation.{Operation}
use Rattle.pad_patch.specs.declared.patch.Patch.{Patch}
use Rattle.pad_patch.specs.declared.misfit.Misfit.{Misfit}
use Rattle.pad_patch.specs.declared.misfit.Misfit.TheVariants.{Order, Range, Pair, TooLong, BeforeHash}
use Rattle.pad_patch.specs.Piece.{end_of, text_after}
use Rattle.pad_patch.specs.Misfit.{IsMisfit, longest_text, Fits}
use Rattle.pad_message.specs.declared.message.Message.{Message}
use Rattle.pad_model.specs.declared.base.Base.{Base}
use Rattle.pad_message.specs.Kind.{is_checkpoint}
use Rattle.pad_message.specs.Adopt.{IsWhole}
use Rattle.pad_model.specs.Sound.{IsSound}
use Rattle.pad_model.specs.Path.{text, interval, since_checkpoint, IsSoundOn}

-- ---- numbers, lists of numbers, names

lt_dec : (n k : ℕ) → Dec (n < k)
lt_dec n k = go (cases_lt n k)
  where
    go : (n < k) ⊎ (k ≤ n) → Dec (n < k)
    go (inl h) = yes h
    go (inr h) = no (λ l. omega (arith, l, h))

eq_dec : (n k : ℕ) → Dec (n ≡ k)
eq_dec n k = go (cases_eq n k)
  where
    go : (n ≡ k) ⊎ (n ≡ k → ⊥) → Dec (n ≡ k)
    go (inl e) = yes e
    go (inr k) = no k

true_dec : (t : Bool) → Dec (IsTrue t)
true_dec true = yes refl
true_dec false = no (λ e. true≢false (sym e))

list_dec : (xs ys : List ℕ) → Dec (xs ≡ ys)
list_dec xs ys = go (pointwise nat_eq xs ys) refl
  where
    go : (t : Bool) → pointwise nat_eq xs ys ≡ t → Dec (xs ≡ ys)
    go true e = yes ((bytes_decides xs ys).0 e)
    go false e = no (λ q. true≢false (sym ((bytes_decides xs ys).1 q) ∙ e))

pub name_dec : (a b : Name) → Dec (a ≡ b)
name_dec a b = go (list_dec a.0 b.0)
  where
    go : Dec (a.0 ≡ b.0) → Dec (a ≡ b)
    go (yes e) = yes (ap (λ bytes. record { 0 = bytes }) e)
    go (no k) = no (λ q. k (ap (λ n. n.0) q))

pub less_dec : (a b : Name) → Dec (NameLess a b)
less_dec a b = go (slice_cmp nat_cmp a.0 b.0) refl
  where
    go : (o : Ordering) → slice_cmp nat_cmp a.0 b.0 ≡ o → Dec (NameLess a b)
    go Less e = yes e
    go Equal e = no (λ h. true≢false (ap is_lt (sym h ∙ e)))
    go Greater e = no (λ h. true≢false (ap is_lt (sym h ∙ e)))

-- ---- facts made of others

both_dec : {A B : Type 0} → Dec A → Dec B → Dec (A × B)
both_dec (yes a) (yes b) = yes (a, b)
both_dec (yes a) (no k) = no (λ p. k p.1)
both_dec (no k) d = no (λ p. k p.0)

either_dec : {A B : Type 0} → Dec A → Dec B → Dec (A ⊎ B)
either_dec (yes a) d = yes (inl a)
either_dec (no k) (yes b) = yes (inr b)
either_dec {A = A} {B = B} (no k) (no j) = no neither
  where
    neither : A ⊎ B → ⊥
    neither (inl a) = k a
    neither (inr b) = j b

not_dec : {A : Type 0} → Dec A → Dec (¬ A)
not_dec (yes a) = no (λ k. k a)
not_dec (no k) = yes k

-- whether P holds at no number below n
none_below_dec : (P : ℕ → Type 0) → ((k : ℕ) → Dec (P k)) → (n : ℕ) → Dec ((k : ℕ) → k < n → ¬ (P k))
none_below_dec P d zero = yes (λ k h. absurd (omega (arith, h)))
none_below_dec P d (suc n) = go (d n) (none_below_dec P d n)
  where
    more : ¬ (P n) → ((k : ℕ) → k < n → ¬ (P k)) → (k : ℕ) → k < suc n → ¬ (P k)
    more here below k h p = at (cases_lt k n)
      where
        at : (k < n) ⊎ (n ≤ k) → ⊥
        at (inl l) = below k l p
        at (inr l) = let e : k ≡ n = omega (arith, l, h) in here (subst P e p)

    go : Dec (P n) → Dec ((k : ℕ) → k < n → ¬ (P k)) → Dec ((k : ℕ) → k < suc n → ¬ (P k))
    go (yes p) e = no (λ all. all n (omega arith) p)
    go (no k) (yes all) = yes (more k all)
    go (no k) (no j) = no (λ all. j (λ i h. all i (omega (arith, h))))

-- whether P holds at no place of a list, where it says something of the element there
none_at_dec : {A : Type 0} (xs : List A) (P : ℕ → Type 0) → ((k : ℕ) → Dec (P k)) → ((k : ℕ) → P k → (x : A) × (slice_get xs k ≡ Some x)) → Dec ((k : ℕ) → ¬ (P k))
none_at_dec {A = A} xs P d at = go (none_below_dec P d (length xs))
  where
    go : Dec ((k : ℕ) → k < length xs → ¬ (P k)) → Dec ((k : ℕ) → ¬ (P k))
    go (yes all) = yes (λ k p. let x = at k p in all k (slice_get_within xs k x.0 x.1) p)
    go (no j) = no (λ all. j (λ k h. all k))

some_same : {A : Type 0} (x y : A) → Some x ≡ Some y → x ≡ y
some_same x y e = cc

-- whether P holds of the element at a place
element_dec : {A : Type 0} (xs : List A) (P : A → Type 0) → ((x : A) → Dec (P x)) → (k : ℕ) → Dec ((x : A) × (slice_get xs k ≡ Some x) × P x)
element_dec {A = A} xs P d k = go (slice_get xs k) refl
  where
    nothing : slice_get xs k ≡ None → ¬ ((x : A) × (slice_get xs k ≡ Some x) × P x)
    nothing e (x, s, p) = cc

    other : (x : A) → slice_get xs k ≡ Some x → ¬ (P x) → ¬ ((x : A) × (slice_get xs k ≡ Some x) × P x)
    other x e j (y, s, p) = j (subst P (some_same y x (sym s ∙ e)) p)

    here : (x : A) → slice_get xs k ≡ Some x → Dec (P x) → Dec ((x : A) × (slice_get xs k ≡ Some x) × P x)
    here x e (yes p) = yes (x, e, p)
    here x e (no j) = no (other x e j)

    go : (o : Option A) → slice_get xs k ≡ o → Dec ((x : A) × (slice_get xs k ≡ Some x) × P x)
    go None e = no (nothing e)
    go (Some x) e = here x e (d x)

-- ---- fitting

module _ (p : Patch) (t : List ℕ) where
  order_dec : (k : ℕ) → Dec (IsMisfit p t (Order k))
  order_dec zero = no (λ (earlier, later, before, next, at, at_next, less). omega (arith, next))
  order_dec (suc b) = go (slice_get p.ops b) (slice_get p.ops (suc b)) refl refl
    where
      no_earlier : slice_get p.ops b ≡ None → ¬ (IsMisfit p t (Order (suc b)))
      no_earlier e (earlier, later, before, next, at, at_next, less) =
          let same : b ≡ before = omega (arith, next) in
          let none : slice_get p.ops before ≡ None = subst (λ i. slice_get p.ops i ≡ None) same e in cc

      no_later : slice_get p.ops (suc b) ≡ None → ¬ (IsMisfit p t (Order (suc b)))
      no_later e (earlier, later, before, next, at, at_next, less) = cc

      fine : (one two : Operation) → slice_get p.ops b ≡ Some one → slice_get p.ops (suc b) ≡ Some two → ¬ (two.offset < end_of one) → ¬ (IsMisfit p t (Order (suc b)))
      fine one two e f j (earlier, later, before, next, at, at_next, less) =
          let same : b ≡ before = omega (arith, next) in
          let first : slice_get p.ops before ≡ Some one = subst (λ i. slice_get p.ops i ≡ Some one) same e in
          let o : earlier ≡ one = some_same earlier one (sym at ∙ first) in
          let s : later ≡ two = some_same later two (sym at_next ∙ f) in
          j (subst (λ x. x.offset < end_of one) s (subst (λ x. later.offset < end_of x) o less))

      both : (one two : Operation) → slice_get p.ops b ≡ Some one → slice_get p.ops (suc b) ≡ Some two → Dec (two.offset < end_of one) → Dec (IsMisfit p t (Order (suc b)))
      both one two e f (yes h) = yes (one, two, b, omega arith, e, f, h)
      both one two e f (no j) = no (fine one two e f j)

      go : (o s : Option Operation) → slice_get p.ops b ≡ o → slice_get p.ops (suc b) ≡ s → Dec (IsMisfit p t (Order (suc b)))
      go None s e f = no (no_earlier e)
      go (Some one) None e f = no (no_later f)
      go (Some one) (Some two) e f = both one two e f (lt_dec two.offset (end_of one))

  cuts_dec : (place : ℕ) → Dec (CutsPair t place)
  cuts_dec place =
      go (both_dec (lt_dec 0 place) (lt_dec place (length t)))
      (both_dec (true_dec (is_high_surrogate (slice_index t (place - 1)))) (true_dec (is_low_surrogate (slice_index t place))))
    where
      go : Dec ((0 < place) × (place < length t)) → Dec (IsTrue (is_high_surrogate (slice_index t (place - 1))) × IsTrue (is_low_surrogate (slice_index t place))) → Dec (CutsPair t place)
      go (yes a) (yes b) = yes (record { after_start = a.0; before_end = a.1; high = b.0; low = b.1 })
      go (yes a) (no j) = no (λ c. j (c.high, c.low))
      go (no j) d = no (λ c. j (c.after_start, c.before_end))

  fits_dec : Dec (Fits p t)
  unfolding Fits
  fits_dec =
      go (none_at_dec p.ops (λ k. IsMisfit p t (Order k)) order_dec (λ k m. (m.1, m.5)))
      (none_at_dec p.ops (λ k. IsMisfit p t (Range k)) (element_dec p.ops (λ o. length t < end_of o) (λ o. lt_dec (length t) (end_of o))) (λ k m. (m.0, m.1)))
      (none_at_dec p.ops (λ k. IsMisfit p t (Pair k)) (element_dec p.ops (λ o. CutsPair t o.offset ⊎ CutsPair t (end_of o)) (λ o. either_dec (cuts_dec o.offset) (cuts_dec (end_of o)))) (λ k m. (m.0, m.1)))
      (not_dec (lt_dec longest_text (length (text_after p t)))) (not_dec (not_dec (name_dec p.before (document_hash t))))
    where
      all : ((k : ℕ) → ¬ (IsMisfit p t (Order k))) → ((k : ℕ) → ¬ (IsMisfit p t (Range k))) → ((k : ℕ) → ¬ (IsMisfit p t (Pair k))) → ¬ (IsMisfit p t TooLong) → ¬ (IsMisfit p t BeforeHash) → (m : Misfit) → ¬ (IsMisfit p t m)
      all o r c l h (Order k) = o k
      all o r c l h (Range k) = r k
      all o r c l h (Pair k) = c k
      all o r c l h TooLong = l
      all o r c l h BeforeHash = h

      go : Dec ((k : ℕ) → ¬ (IsMisfit p t (Order k))) → Dec ((k : ℕ) → ¬ (IsMisfit p t (Range k))) → Dec ((k : ℕ) → ¬ (IsMisfit p t (Pair k))) → Dec (¬ (IsMisfit p t TooLong)) → Dec (¬ (IsMisfit p t BeforeHash)) → Dec (Fits p t)
      go (yes o) (yes r) (yes c) (yes l) (yes h) = yes (all o r c l h)
      go (no j) r c l h = no (λ f. j (λ k. f (Order k)))
      go o (no j) c l h = no (λ f. j (λ k. f (Range k)))
      go o r (no j) l h = no (λ f. j (λ k. f (Pair k)))
      go o r c (no j) h = no (λ f. j (f TooLong))
      go o r c l (no j) = no (λ f. j (f BeforeHash))

-- ---- being sound

head_same : (a b : Operation) (xs ys : List Operation) → a ∷ xs ≡ b ∷ ys → a ≡ b
head_same a b xs ys e = cc

whole_dec : (m : Message) (t : List ℕ) → Dec (IsWhole m t)
whole_dec m t = go m.patch.ops refl
  where
    wanted : Operation
    wanted = record { offset = 0; remove = length t; insert = t }

    same : (o : Operation) → Dec (o.offset ≡ 0) → Dec (o.remove ≡ length t) → Dec (o.insert ≡ t) → Dec (o ≡ wanted)
    same o (yes a) (yes b) (yes c) = yes (λ i. record { offset = a i; remove = b i; insert = c i })
    same o (no j) b c = no (λ e. j (ap (λ x. x.offset) e))
    same o a (no j) c = no (λ e. j (ap (λ x. x.remove) e))
    same o a b (no j) = no (λ e. j (ap (λ x. x.insert) e))

    one : (o : Operation) → m.patch.ops ≡ o ∷ [] → Dec (o ≡ wanted) → Dec (IsWhole m t)
    one o e (yes s) = yes (e ∙ ap (λ x. x ∷ []) s)
    one o e (no j) = no (λ w. j (head_same o wanted [] [] (sym e ∙ w)))

    none : m.patch.ops ≡ [] → ¬ (IsWhole m t)
    none e w = let k : length {A = Operation} [] ≡ 1 = ap length (sym e ∙ w) in omega (arith, k)

    many : (o s : Operation) (r : List Operation) → m.patch.ops ≡ o ∷ s ∷ r → ¬ (IsWhole m t)
    many o s r e w = let k : length (o ∷ s ∷ r) ≡ 1 = ap length (sym e ∙ w) in omega (arith, k)

    go : (ops : List Operation) → m.patch.ops ≡ ops → Dec (IsWhole m t)
    go [] e = no (none e)
    go (o ∷ []) e = one o e (same o (eq_dec o.offset 0) (eq_dec o.remove (length t)) (list_dec o.insert t))
    go (o ∷ s ∷ r) e = no (many o s r e)

checkpoint_dec : (t : Bool) {A : Type 0} → Dec A → Dec (t ≡ true → A)
checkpoint_dec true (yes a) = yes (λ e. a)
checkpoint_dec true (no j) = no (λ f. j (f refl))
checkpoint_dec false d = yes (λ e. absurd (true≢false (sym e)))

pub sound_dec : (b : Base) (p : List Message) (m : Message) → Dec (IsSoundOn b p m)
sound_dec b p m = at (since_checkpoint p + 1) (interval b p) (text b p)
  where
    go : (d i : ℕ) (t : List ℕ) → Dec (Fits m.patch t) → Dec (is_checkpoint m.kind ≡ true → (d % i ≡ 0) × IsWhole m t) → Dec (IsSound m d i t)
    go d i t (yes f) (yes c) = yes (record { fits = f; checkpoint = c })
    go d i t (no j) c = no (λ s. j s.fits)
    go d i t (yes f) (no j) = no (λ s. j s.checkpoint)

    at : (d i : ℕ) (t : List ℕ) → Dec (IsSound m d i t)
    at d i t = go d i t (fits_dec m.patch t) (checkpoint_dec (is_checkpoint m.kind) (both_dec (eq_dec (d % i) 0) (whole_dec m t)))

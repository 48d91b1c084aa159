-- Under no clash of names there is a best path, and a best one through each path.
use Rattle.std.proofs.Common.{◌≡◌, ◌≢◌, ℕ, zero, suc, ◌<◌, ◌≤◌, ◌⊎◌, inl, inr, List, [], ◌∷◌, ◌++◌, length, Contains, refl, sym, ap, ◌∙◌, subst, arith}
use Rattle.std.proofs.lemmas.Bool.{cases_lt}
use Rattle.std.proofs.lemmas.List.{append-nil}
use Rattle.pad_text.specs.declared.name.Name.{Name}
use Rattle.pad_text.specs.Name.{NameLess}
use Rattle.pad_message.specs.declared.message.Message.{Message}
use Rattle.pad_message.specs.Message.{name_of}
use Rattle.pad_model.specs.declared.base.Base.{Base}
use Rattle.pad_model.specs.Path.{last_name, IsSoundOn, IsLinkedPath, IsLinked, EachSound, IsPath, NamesDiffer}
use Rattle.pad_model.specs.Best.{IsBetter, IsBest}
use Rattle.pad_model.specs.Choice.{RunsThrough, IsBestThrough}
use Rattle.pad_model.specs.Laws.{OneBestExists}
use Rattle.pad_list.proofs.CallerLemmas.{contains_head, contains_more, contains_cases, contains_none}
use Rattle.pad_model.proofs.Chains.{linked_unique, linked_short}
use Rattle.pad_model.proofs.Orders.{never_better_itself, better_than, better_asym}
use Rattle.pad_model.proofs.Decide.{name_dec, less_dec, sound_dec}

pub better_dec : (b : Base) (p q : List Message) → Dec (IsBetter b p q)
better_dec b p q = go (cases_lt (length q) (length p)) (cases_lt (length p) (length q)) (less_dec (last_name b p) (last_name b q))
  where
    shorter : length p < length q → ¬ (IsBetter b p q)
    shorter h (inl l) = omega (arith, h, l)
    shorter h (inr e) = omega (arith, h, e.0)

    not_less : length p ≤ length q → ¬ (NameLess (last_name b p) (last_name b q)) → ¬ (IsBetter b p q)
    not_less h n (inl l) = omega (arith, h, l)
    not_less h n (inr e) = n e.1

    go : (length q < length p) ⊎ (length p ≤ length q) → (length p < length q) ⊎ (length q ≤ length p) → Dec (NameLess (last_name b p) (last_name b q)) → Dec (IsBetter b p q)
    go (inl h) s d = yes (inl h)
    go (inr h) (inl s) d = no (shorter s)
    go (inr h) (inr s) (yes l) = yes (inr (omega (arith, h, s), l))
    go (inr h) (inr s) (no n) = no (not_less h n)

rest_same : (m n : Message) (p q : List Message) → m ∷ p ≡ n ∷ q → p ≡ q
rest_same m n p q e = cc

abbrev Named : List Message → Name → Type 0
Named R n = (y : Message) × Contains R y × (name_of y ≡ n)

named_dec : (R : List Message) (n : Name) → Dec (Named R n)
named_dec [] n = no (λ h. contains_none h.0 h.1)
named_dec (m ∷ R) n = go (name_dec (name_of m) n) (named_dec R n)
  where
    neither : (name_of m ≢ n) → ¬ (Named R n) → ¬ (Named (m ∷ R) n)
    neither k j (y, c, e) = which (contains_cases m R y c)
      where
        which : (m ≡ y) ⊎ Contains R y → ⊥
        which (inl s) = k (ap name_of s ∙ e)
        which (inr h) = j (y, h, e)

    go : Dec (name_of m ≡ n) → Dec (Named R n) → Dec (Named (m ∷ R) n)
    go (yes e) d = yes (m, contains_head m R, e)
    go (no k) (yes h) = yes (h.0, contains_more m R h.0 h.1, h.2)
    go (no k) (no j) = no (neither k j)

module _ (b : Base) (R : List Message) (d : NamesDiffer R) where
  -- a linked path of at most n messages ends in m
  abbrev LinkedWithin : ℕ → Message → Type 0
  LinkedWithin n m = (p : List Message) × IsLinkedPath b R (m ∷ p) × (length p < n)

  linked_dec : (n : ℕ) (m : Message) → Contains R m → Dec (LinkedWithin n m)
  linked_dec zero m c = no (λ h. omega (arith, h.2))
  linked_dec (suc n) m c = go (name_dec (name_of m) b.name) (name_dec m.parent b.name) (named_dec R m.parent) (λ y. linked_dec n y)
    where
      at_base : name_of m ≡ b.name → ¬ (LinkedWithin (suc n) m)
      at_base e (p, h, l) = h.0.not_base e

      no_parent : (m.parent ≢ b.name) → ¬ (Named R m.parent) → ¬ (LinkedWithin (suc n) m)
      no_parent above k ([], h, l) = above h.0.parent
      no_parent above k (z ∷ p, h, l) = k (z, h.1.0.member, sym h.0.parent)

      no_rest : (m.parent ≢ b.name) → (y : Message) → Contains R y → name_of y ≡ m.parent → ¬ (LinkedWithin n y) → ¬ (LinkedWithin (suc n) m)
      no_rest above y cy e k ([], h, l) = above h.0.parent
      no_rest above y cy e k (z ∷ p, h, l) =
          let same : z ≡ y = d z y h.1.0.member cy (sym (e ∙ h.0.parent)) in
          k (p, subst (λ w. IsLinkedPath b R (w ∷ p)) same h.1, omega (arith, l))

      rest : (y : Message) → Contains R y → name_of y ≡ m.parent → name_of m ≢ b.name → m.parent ≢ b.name → Dec (LinkedWithin n y) → Dec (LinkedWithin (suc n) m)
      rest y cy e new above (yes (p, h, l)) = yes (y ∷ p, (record { member = c; not_base = new; parent = sym e }, h), omega (arith, l))
      rest y cy e new above (no k) = no (no_rest above y cy e k)

      go : Dec (name_of m ≡ b.name) → Dec (m.parent ≡ b.name) → Dec (Named R m.parent) → ((y : Message) → Contains R y → Dec (LinkedWithin n y)) → Dec (LinkedWithin (suc n) m)
      go (yes e) t u r = no (at_base e)
      go (no new) (yes e) u r = yes ([], (record { member = c; not_base = new; parent = e }, tt), omega arith)
      go (no new) (no above) (no k) r = no (no_parent above k)
      go (no new) (no above) (yes (y, cy, e)) r = rest y cy e new above (r y cy)

  each_sound_dec : (p : List Message) → Dec (EachSound b p)
  each_sound_dec [] = yes tt
  each_sound_dec (m ∷ p) = go (sound_dec b p m) (each_sound_dec p)
    where
      go : Dec (IsSoundOn b p m) → Dec (EachSound b p) → Dec (EachSound b (m ∷ p))
      go (yes h) (yes k) = yes (h, k)
      go (yes h) (no k) = no (λ e. k e.1)
      go (no h) e = no (λ e. h e.0)

  pub is_linked_dec : (m : Message) → Contains R m → Dec (IsLinked b R m)
  is_linked_dec m c = go (linked_dec (suc (length R)) m c)
    where
      go : Dec (LinkedWithin (suc (length R)) m) → Dec (IsLinked b R m)
      go (yes (p, h, l)) = yes (p, h)
      go (no k) = no (λ e. k (e.0, e.1, omega (arith, linked_short b R (m ∷ e.0) d e.1)))

  pub through_dec : (root p : List Message) → IsLinkedPath b R root → IsLinkedPath b R p → Dec (RunsThrough root p)
  through_dec root [] hr hp = go (name_dec (last_name b []) (last_name b root))
    where
      not_empty : last_name b [] ≢ last_name b root → ¬ (RunsThrough root [])
      not_empty k ([], e) = k (ap (last_name b) e)
      not_empty k (m ∷ above, e) = let n : length {A = Message} [] ≡ length (m ∷ above ++ root) = ap length e in omega (arith, n)

      go : Dec (last_name b [] ≡ last_name b root) → Dec (RunsThrough root [])
      go (yes e) = yes ([], linked_unique b R [] root d hp hr e)
      go (no k) = no (not_empty k)
  through_dec root (m ∷ p) hr hp = go (name_dec (name_of m) (last_name b root)) (through_dec root p hr hp.1)
    where
      neither : name_of m ≢ last_name b root → ¬ (RunsThrough root p) → ¬ (RunsThrough root (m ∷ p))
      neither k j ([], e) = k (ap (last_name b) e)
      neither k j (n ∷ above, e) = j (above, rest_same m n p (above ++ root) e)

      go : Dec (name_of m ≡ last_name b root) → Dec (RunsThrough root p) → Dec (RunsThrough root (m ∷ p))
      go (yes e) r = yes ([], linked_unique b R (m ∷ p) root d hp hr e)
      go (no k) (yes (above, e)) = yes (m ∷ above, ap (λ x. m ∷ x) e)
      go (no k) (no j) = no (neither k j)

  -- a path through the root ends in m
  abbrev Ends : List Message → Message → Type 0
  Ends root m = (p : List Message) × IsPath b R (m ∷ p) × RunsThrough root (m ∷ p)

  ends_dec : (root : List Message) → IsLinkedPath b R root → (m : Message) → Contains R m → Dec (Ends root m)
  ends_dec root hr m c = go (is_linked_dec m c)
    where
      same : (p q : List Message) → IsLinkedPath b R (m ∷ p) → IsLinkedPath b R (m ∷ q) → m ∷ q ≡ m ∷ p
      same p q h g = linked_unique b R (m ∷ q) (m ∷ p) d g h refl

      next : (p : List Message) → IsLinkedPath b R (m ∷ p) → Dec (EachSound b (m ∷ p)) → Dec (RunsThrough root (m ∷ p)) → Dec (Ends root m)
      next p h (yes e) (yes t) = yes (p, (h, e), t)
      next p h (no k) t = no (λ (q, g, t). k (subst (EachSound b) (same p q h g.0) g.1))
      next p h e (no k) = no (λ (q, g, t). k (subst (RunsThrough root) (same p q h g.0) t))

      go : Dec (IsLinked b R m) → Dec (Ends root m)
      go (yes (p, h)) = next p h (each_sound_dec (m ∷ p)) (through_dec root (m ∷ p) hr h)
      go (no k) = no (λ (q, g, t). k (q, g.0))

  -- the best of the paths through the root that end in one of these messages, and of the root itself
  record BestOf (root among : List Message) : Type 0 where
    best : List Message
    path : IsPath b R best
    through : RunsThrough root best
    root_no_better : ¬ (IsBetter b root best)
    none_better : (m : Message) (q : List Message) → Contains among m → IsPath b R (m ∷ q) → RunsThrough root (m ∷ q) → ¬ (IsBetter b (m ∷ q) best)

  best_of : (root X : List Message) → IsPath b R root → ((m : Message) → Contains X m → Contains R m) → BestOf root X
  best_of root [] hr sub = record { best = root; path = hr; through = ([], refl); root_no_better = never_better_itself b root; none_better = λ m q c. absurd (contains_none m c) }
  best_of root (x ∷ X) hr sub = go (best_of root X hr (λ m c. sub m (contains_more x X m c))) (ends_dec root hr.0 x (sub x (contains_head x X)))
    where
      keep : (h : BestOf root X) → ((q : List Message) → IsPath b R (x ∷ q) → RunsThrough root (x ∷ q) → ¬ (IsBetter b (x ∷ q) h.best)) → BestOf root (x ∷ X)
      keep h k = record { best = h.best; path = h.path; through = h.through; root_no_better = h.root_no_better; none_better = λ m q c. which m q (contains_cases x X m c) }
        where
          which : (m : Message) (q : List Message) → (x ≡ m) ⊎ Contains X m → IsPath b R (m ∷ q) → RunsThrough root (m ∷ q) → ¬ (IsBetter b (m ∷ q) h.best)
          which m q (inl e) = subst (λ w. IsPath b R (w ∷ q) → RunsThrough root (w ∷ q) → ¬ (IsBetter b (w ∷ q) h.best)) e (k q)
          which m q (inr c) = h.none_better m q c

      take : (h : BestOf root X) (p : List Message) → IsPath b R (x ∷ p) → RunsThrough root (x ∷ p) → IsBetter b (x ∷ p) h.best → BestOf root (x ∷ X)
      take h p path through better = record {
        best = x ∷ p;
        path = path;
        through = through;
        root_no_better = λ bad. h.root_no_better (better_than b root h.best (x ∷ p) bad (better_asym b (x ∷ p) h.best better));
        none_better = λ m q c. which m q (contains_cases x X m c);
      }
        where
          which : (m : Message) (q : List Message) → (x ≡ m) ⊎ Contains X m → IsPath b R (m ∷ q) → RunsThrough root (m ∷ q) → ¬ (IsBetter b (m ∷ q) (x ∷ p))
          which m q (inl e) other t bad = never_better_itself b (x ∷ p) (subst (λ w. IsBetter b w (x ∷ p)) (linked_unique b R (m ∷ q) (x ∷ p) d other.0 path.0 (ap name_of (sym e))) bad)
          which m q (inr c) other t bad = h.none_better m q c other t (better_than b (m ∷ q) h.best (x ∷ p) bad (better_asym b (x ∷ p) h.best better))

      choose : (h : BestOf root X) (p : List Message) → IsPath b R (x ∷ p) → RunsThrough root (x ∷ p) → Dec (IsBetter b (x ∷ p) h.best) → BestOf root (x ∷ X)
      choose h p path t (yes better) = take h p path t better
      choose h p path t (no k) = keep h (λ q other u bad. k (subst (λ w. IsBetter b w h.best) (linked_unique b R (x ∷ q) (x ∷ p) d other.0 path.0 refl) bad))

      go : BestOf root X → Dec (Ends root x) → BestOf root (x ∷ X)
      go h (no k) = keep h (λ q path t bad. k (q, path, t))
      go h (yes (p, path, t)) = choose h p path t (better_dec b (x ∷ p) h.best)

  pub best_through : (root : List Message) → IsPath b R root → (best : List Message) × IsBestThrough b R root best
  best_through root hr = (h.best, record { path = h.path; through = h.through; none_better = none })
    where
      h : BestOf root R
      h = best_of root R hr (λ m c. c)

      none : (q : List Message) → IsPath b R q → RunsThrough root q → ¬ (IsBetter b q h.best)
      none [] path ([], e) = subst (λ r. ¬ (IsBetter b r h.best)) (sym e) h.root_no_better
      none [] path (m ∷ above, e) = let n : length {A = Message} [] ≡ length (m ∷ above ++ root) = ap length e in absurd (omega (arith, n))
      none (m ∷ q) path t = h.none_better m q path.0.0.member path t

pub some_is_best : OneBestExists
some_is_best b R d = go (best_through b R d [] (tt, tt))
  where
    go : (best : List Message) × IsBestThrough b R [] best → (best : List Message) × IsBest b R best
    go (best, h) = (best, record { path = h.path; none_better = λ q path. h.none_better q path (q, sym (append-nil q)) })

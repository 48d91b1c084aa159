-- Places in the list of the messages received, and the walk from one back to the base.
use Rattle.std.proofs.Common.{◌≡◌, ◌≢◌, ℕ, zero, suc, ◌<◌, ◌≤◌, ◌⊎◌, inl, inr, List, [], ◌∷◌, ◌++◌, length, Contains, All, Option, Some, None, IsNone, true, false, true≢false, nat_eq, slice_get, get_or, take, drop, map, append_assoc, refl, sym, ap, ◌∙◌, subst, arith, length-append}
use Rattle.std.specs.List.{cons_option}
use Rattle.std.specs.Cmp.Lexicographic.{pointwise, bytes_decides}
use Rattle.std.proofs.lemmas.List.Elements.{filter_map-append, All-head, All-tail}
use Rattle.std.proofs.lemmas.Option.{slice_get-get_or}
use Rattle.pad_text.specs.declared.name.Name.{Name}
use Rattle.pad_message.specs.declared.message.Message.{Message}
use Rattle.pad_message.specs.Message.{name_of}
use Rattle.pad_model.specs.declared.base.Base.{Base}
use Rattle.pad_model.specs.Path.{IsLinkedPath, IsLinked, NamesDiffer}
use Rattle.pad_plain.specs.Messages.{IsPlaceOf}
use Rattle.pad_plain.specs.Inside.Walk.{messages_at, IsParentPlace, AreParentPlaces, LeadsTo}
use Rattle.pad_list.proofs.CallerLemmas.{contains_more}
use Rattle.pad_model.proofs.CallerLemmas.{linked_below, linked_short}

-- ---- elements by their places

pub some_same : {A : Type 0} (x y : A) → Some x ≡ Some y → x ≡ y
some_same x y e = cc

pub none_if : {A : Type 0} (o : Option A) → ((x : A) → o ≡ Some x → ⊥) → IsNone o
none_if None h = refl
none_if (Some x) h = absurd (h x refl)

pub at_place : {A : Type 0} (xs : List A) (i : ℕ) (x : A) → i < length xs → x ≡ get_or xs i x → slice_get xs i ≡ Some x
at_place xs i x h e = slice_get-get_or xs i x h ∙ ap Some (sym e)

pub found_at : {A : Type 0} (xs : List A) (i : ℕ) → i < length xs → (x : A) × (slice_get xs i ≡ Some x)
found_at [] i h = absurd (omega (arith, h))
found_at (x ∷ xs) i h = (get_or (x ∷ xs) i x, slice_get-get_or (x ∷ xs) i x h)

pub member_at : {A : Type 0} (xs : List A) (i : ℕ) (x : A) → slice_get xs i ≡ Some x → Contains xs x
member_at [] i x e = cc
member_at (y ∷ xs) zero x e = (0, omega arith, some_same y x e)
member_at (y ∷ xs) (suc i) x e = contains_more y xs x (member_at xs i x e)

pub place_of : {A : Type 0} (xs : List A) (x : A) → Contains xs x → (i : ℕ) × (slice_get xs i ≡ Some x)
place_of xs x (i, h, e) = (i, at_place xs i x h (sym e))

pub get_front : {A : Type 0} (xs ys : List A) (k : ℕ) (x : A) → slice_get xs k ≡ Some x → slice_get (xs ++ ys) k ≡ Some x
get_front [] ys k x e = cc
get_front (y ∷ xs) ys zero x e = e
get_front (y ∷ xs) ys (suc k) x e = get_front xs ys k x e

pub pushed_cases : {A : Type 0} (xs : List A) (y : A) (i : ℕ) (x : A) → slice_get (xs ++ y ∷ []) i ≡ Some x → (slice_get xs i ≡ Some x) ⊎ ((i ≡ length xs) × (y ≡ x))
pushed_cases [] y zero x e = inr (refl, some_same y x e)
pushed_cases [] y (suc i) x e = cc
pushed_cases (z ∷ xs) y zero x e = inl e
pushed_cases {A = A} (z ∷ xs) y (suc i) x e = go (pushed_cases xs y i x e)
  where
    go : (slice_get xs i ≡ Some x) ⊎ ((i ≡ length xs) × (y ≡ x)) → (slice_get (z ∷ xs) (suc i) ≡ Some x) ⊎ ((suc i ≡ length (z ∷ xs)) × (y ≡ x))
    go (inl h) = inl h
    go (inr h) = inr (ap suc h.0, h.1)

-- ---- the first elements

pub get_take : {A : Type 0} (k : ℕ) (xs : List A) (i : ℕ) (x : A) → i < k → slice_get xs i ≡ Some x → slice_get (take k xs) i ≡ Some x
get_take zero xs i x h e = absurd (omega (arith, h))
get_take (suc k) [] i x h e = e
get_take (suc k) (y ∷ xs) zero x h e = e
get_take (suc k) (y ∷ xs) (suc i) x h e = get_take k xs i x (omega (arith, h)) e

pub take_get : {A : Type 0} (k : ℕ) (xs : List A) (i : ℕ) (x : A) → slice_get (take k xs) i ≡ Some x → (i < k) × (slice_get xs i ≡ Some x)
take_get zero xs i x e = absurd (none e)
  where
    none : slice_get [] i ≡ Some x → ⊥
    none e = cc
take_get (suc k) [] i x e = absurd (none e)
  where
    none : slice_get [] i ≡ Some x → ⊥
    none e = cc
take_get (suc k) (y ∷ xs) zero x e = (omega arith, e)
take_get (suc k) (y ∷ xs) (suc i) x e = let r = take_get k xs i x e in (omega (arith, r.0), r.1)

pub take_member : {A : Type 0} (k : ℕ) (xs : List A) (x : A) → Contains (take k xs) x → Contains xs x
take_member k xs x c = let p = place_of (take k xs) x c in member_at xs p.0 x (take_get k xs p.0 x p.1).1

pub map_take : {A B : Type 0} (f : A → B) (k : ℕ) (xs : List A) → take k (map f xs) ≡ map f (take k xs)
map_take f zero xs = refl
map_take f (suc k) [] = refl
map_take f (suc k) (x ∷ xs) = ap (λ l. f x ∷ l) (map_take f k xs)

-- ---- the table of parents

-- the parent stands among the first messages
pub parent_within : (b : Base) (R : List Message) (m : Message) (count place : ℕ) → m.parent ≢ b.name → IsPlaceOf R m.parent (Some place) → place < count → IsParentPlace b (take count R) m (Some place)
parent_within b R m count place above h less = (above, (h.0, get_take count R place h.0 less h.1, h.2))

-- it stands behind them
pub parent_behind : (b : Base) (R : List Message) (m : Message) (count place : ℕ) → IsPlaceOf R m.parent (Some place) → count ≤ place → IsParentPlace b (take count R) m None
parent_behind b R m count place h behind above other c e =
    let p = place_of (take count R) other c in
    let at = take_get count R p.0 other p.1 in
    h.3 p.0 other (omega (arith, at.0, behind)) at.1 e

-- it was not received
pub parent_missing : (b : Base) (R : List Message) (m : Message) (count : ℕ) → IsPlaceOf R m.parent None → IsParentPlace b (take count R) m None
parent_missing b R m count h above other c = h other (take_member count R other c)

pub parents_more : (b : Base) (R : List Message) (parents : List (Option ℕ)) (x : Message) (new : Option ℕ) → slice_get R (length parents) ≡ Some x → IsParentPlace b R x new
    → ((at : ℕ) (m : Message) (found : Option ℕ) → slice_get R at ≡ Some m → slice_get parents at ≡ Some found → IsParentPlace b R m found)
    → (at : ℕ) (m : Message) (found : Option ℕ) → slice_get R at ≡ Some m → slice_get (parents ++ new ∷ []) at ≡ Some found → IsParentPlace b R m found
parents_more b R parents x new here is each at m found at_m at_found = go (pushed_cases parents new at found at_found)
  where
    go : (slice_get parents at ≡ Some found) ⊎ ((at ≡ length parents) × (new ≡ found)) → IsParentPlace b R m found
    go (inl h) = each at m found at_m h
    go (inr (e, s)) = subst (IsParentPlace b R m) s (subst (λ y. IsParentPlace b R y new) (some_same x m (sym here ∙ ap (slice_get R) (sym e) ∙ at_m)) is)

pub parent_at : (b : Base) (R : List Message) (parents : List (Option ℕ)) (at : ℕ) (x : Message) (found : Option ℕ) → AreParentPlaces b R parents → at < length R → slice_get R at ≡ Some x → get_or parents at None ≡ found → IsParentPlace b R x found
parent_at b R parents at x found h within here e =
    h.each at x found here (slice_get-get_or parents at None (omega (arith, within, h.many)) ∙ ap Some e)

-- ---- tests of names

pub name_yes : (a b : Name) → true ≡ pointwise nat_eq a.0 b.0 → a ≡ b
name_yes a b e = ap (λ bytes. record { 0 = bytes }) ((bytes_decides a.0 b.0).0 (sym e))

pub name_no : (a b : Name) → false ≡ pointwise nat_eq a.0 b.0 → a ≢ b
name_no a b e q = true≢false (sym ((bytes_decides a.0 b.0).1 (ap (λ n. n.0) q)) ∙ sym e)

-- ---- messages at places

messages_push : (R : List Message) (v : List ℕ) (i : ℕ) (m : Message) → slice_get R i ≡ Some m → messages_at R (v ++ i ∷ []) ≡ messages_at R v ++ m ∷ []
messages_push R v i m e = filter_map-append (slice_get R) v (i ∷ []) ∙ ap (λ o. messages_at R v ++ cons_option o []) e

pub messages_step : (R : List Message) (v : List ℕ) (i : ℕ) (m : Message) → slice_get R i ≡ Some m → messages_at R (i ∷ v) ≡ m ∷ messages_at R v
messages_step R v i m e = ap (λ o. cons_option o (messages_at R v)) e

pub messages_length : (R : List Message) (v : List ℕ) → All (λ i. i < length R) v → length (messages_at R v) ≡ length v
messages_length R [] h = refl
messages_length R (i ∷ v) h =
    let x = found_at R i (All-head (λ i. i < length R) i v h) in
    ap length (messages_step R v i x.0 x.1) ∙ ap suc (messages_length R v (All-tail (λ i. i < length R) i v h))

-- with more messages behind, the messages at these places are the same
pub messages_front : (R T : List Message) (v : List ℕ) → All (λ i. i < length R) v → messages_at (R ++ T) v ≡ messages_at R v
messages_front R T [] h = refl
messages_front R T (i ∷ v) h =
    let x = found_at R i (All-head (λ i. i < length R) i v h) in
    messages_step (R ++ T) v i x.0 (get_front R T i x.0 x.1) ∙ ap (λ p. x.0 ∷ p) (messages_front R T v (All-tail (λ i. i < length R) i v h)) ∙ sym (messages_step R v i x.0 x.1)

-- ---- walking back

-- what is linked at the place is linked through the places up to `last`
abbrev pub Up : Base → List Message → ℕ → ℕ → List ℕ → Type 0
Up b R last at places = (m : Message) (p : List Message) → slice_get R at ≡ Some m → IsLinkedPath b R (m ∷ p) → LeadsTo b R last (messages_at R places ++ m ∷ p)

-- the path is the messages above, then the one at the place, then the rest
pub record PassesAt (R : List Message) (place : ℕ) (above path : List Message) : Type 0 where
  pub here : Message
  pub rest : List Message
  pub at : slice_get R place ≡ Some here
  pub whole : path ≡ above ++ here ∷ rest

-- a linked path to `last` goes down the places to this one
abbrev pub Down : Base → List Message → ℕ → ℕ → List ℕ → Type 0
Down b R last at places = (m : Message) (p : List Message) → NamesDiffer R → slice_get R last ≡ Some m → IsLinkedPath b R (m ∷ p) → PassesAt R at (messages_at R places) (m ∷ p)

pub up_start : (b : Base) (R : List Message) (last : ℕ) (v : List ℕ) → v ≡ [] → Up b R last last v
up_start b R last v e m p at h = record { last = m; before = p; at_place = at; whole = ap (λ w. messages_at R w ++ m ∷ p) e; linked = subst (λ w. IsLinkedPath b R (messages_at R w ++ m ∷ p)) (sym e) h }

pub down_start : (b : Base) (R : List Message) (last : ℕ) (v : List ℕ) → v ≡ [] → Down b R last last v
down_start b R last v e m p d at h = record { here = m; rest = p; at = at; whole = ap (λ w. messages_at R w ++ m ∷ p) (sym e) }

module _ (b : Base) (R : List Message) (last at : ℕ) (v : List ℕ) (x : Message) (here : slice_get R at ≡ Some x) where
  pub up_step : Up b R last at v → name_of x ≢ b.name → (place : ℕ) (y : Message) → slice_get R place ≡ Some y → name_of y ≡ x.parent → Up b R last place (v ++ at ∷ [])
  up_step up above place y at_y e m p at_m h =
      let same : m ≡ y = some_same m y (sym at_m ∙ at_y) in
      subst (LeadsTo b R last) (sym (ap (λ w. w ++ m ∷ p) (messages_push R v at x here) ∙ append_assoc (messages_at R v) (x ∷ []) (m ∷ p)))
      (up x (m ∷ p) here (record { member = member_at R at x here; not_base = above; parent = sym e ∙ ap name_of (sym same) }, h))

  pub up_end : Up b R last at v → name_of x ≢ b.name → x.parent ≡ b.name → LeadsTo b R last (messages_at R (v ++ at ∷ []))
  up_end up above e =
      subst (LeadsTo b R last) (sym (messages_push R v at x here)) (up x [] here (record { member = member_at R at x here; not_base = above; parent = e }, tt))

  -- the rest of a linked path to `last`, below the message at the place
  record Reached (path : List Message) : Type 0 where
    rest : List Message
    whole : path ≡ messages_at R v ++ x ∷ rest
    linked : IsLinkedPath b R (x ∷ rest)

  reach : Down b R last at v → NamesDiffer R → (m : Message) (p : List Message) → slice_get R last ≡ Some m → IsLinkedPath b R (m ∷ p) → Reached (m ∷ p)
  reach down d m p at_m h =
      let low = down m p d at_m h in
      let same : low.here ≡ x = some_same low.here x (sym low.at ∙ here) in
      let whole : m ∷ p ≡ messages_at R v ++ x ∷ low.rest = low.whole ∙ ap (λ z. messages_at R v ++ z ∷ low.rest) same in
      record { rest = low.rest; whole = whole; linked = linked_below b R (messages_at R v) (x ∷ low.rest) (subst (IsLinkedPath b R) whole h) }

  pub no_parent : Down b R last at v → NamesDiffer R → (m : Message) → slice_get R last ≡ Some m → x.parent ≢ b.name → ((other : Message) → Contains R other → name_of other ≢ x.parent) → ¬ (IsLinked b R m)
  no_parent down d m at_m above unknown (p, h) = go (reach down d m p at_m h).rest (reach down d m p at_m h).linked
    where
      go : (rest : List Message) → IsLinkedPath b R (x ∷ rest) → ⊥
      go [] l = above l.0.parent
      go (y ∷ rest) l = unknown y l.1.0.member (sym l.0.parent)

  pub down_step : Down b R last at v → x.parent ≢ b.name → (place : ℕ) (y : Message) → slice_get R place ≡ Some y → name_of y ≡ x.parent → Down b R last place (v ++ at ∷ [])
  down_step down above place y at_y e m p d at_m h = go (reach down d m p at_m h).rest (reach down d m p at_m h).whole (reach down d m p at_m h).linked
    where
      go : (rest : List Message) → m ∷ p ≡ messages_at R v ++ x ∷ rest → IsLinkedPath b R (x ∷ rest) → PassesAt R place (messages_at R (v ++ at ∷ [])) (m ∷ p)
      go [] w l = absurd (above l.0.parent)
      go (z ∷ rest) w l =
          let same : y ≡ z = d y z (member_at R place y at_y) l.1.0.member (e ∙ l.0.parent) in
          record {
            here = z;
            rest = rest;
            at = at_y ∙ ap Some same;
            whole = w ∙ sym (ap (λ u. u ++ z ∷ rest) (messages_push R v at x here) ∙ append_assoc (messages_at R v) (x ∷ []) (z ∷ rest));
          }

-- as many places as messages: no path is longer
pub too_long : (b : Base) (R : List Message) (last at : ℕ) (v : List ℕ) → Down b R last at v → All (λ i. i < length R) v → length v ≡ length R → NamesDiffer R → (m : Message) → slice_get R last ≡ Some m → ¬ (IsLinked b R m)
too_long b R last at v down within e d m at_m (p, h) =
    let low = down m p d at_m h in
    let short = linked_short b R (m ∷ p) d h in
    omega (arith, short, ap length low.whole, length-append (messages_at R v) (low.here ∷ low.rest), messages_length R v within, e)

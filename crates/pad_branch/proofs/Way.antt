-- The way from a message down to the best chain.
use Rattle.std.proofs.Common.{◌≡◌, ℕ, zero, suc, ◌+◌, ◌-◌, ◌<◌, ◌≤◌, List, [], ◌∷◌, ◌++◌, length, map, get_or, take, drop, reverse, Option, Some, None, append_assoc, refl, sym, ap, ◌∙◌, subst, arith, length-drop}
use Rattle.std.proofs.lemmas.List.{get_or-reverse, length-reverse, length-map}
use Rattle.pad_text.specs.declared.name.Name.{Name}
use Rattle.pad_model.specs.declared.base.Base.{Base}
use Rattle.pad_message.specs.declared.message.Message.{Message}
use Rattle.pad_branch.specs.declared.held.Held.{Held}
use Rattle.pad_branch.specs.declared.undo.Undo.{Undo}
use Rattle.pad_message.specs.Message.{name_of}
use Rattle.pad_model.specs.Path.{last_name, IsLinkedPath, NamesDiffer}
use Rattle.pad_branch.specs.Undo.{undone_name}
use Rattle.pad_branch.specs.Held.{messages_at, HoldsKept}
use Rattle.pad_branch.specs.Inside.Candidates.{AreNamed}
use Rattle.pad_model.proofs.CallerLemmas.{linked_unique, linked_below}
use Rattle.pad_branch.proofs.Growing.{messages_push}

-- of the path so many messages are left below the names passed, and the last of them has the name `at`
pub record Rest (b : Base) (root path : List Message) (table : Name → Option Held) (names : List Name) (at : Name) (left : ℕ) : Type 0 where
  pub rest : List Message
  pub whole : path ≡ messages_at table names ++ rest
  pub last : last_name b (rest ++ root) ≡ at
  pub high : length rest ≡ left

pub rest_start : (b : Base) (root path : List Message) (table : Name → Option Held) (names : List Name) (at : Name) (left : ℕ) → names ≡ [] → last_name b (path ++ root) ≡ at → length path ≡ left → Rest b root path table names at left
rest_start b root path table names at left e last high = record { rest = path; whole = sym (ap (λ ns. messages_at table ns ++ path) e); last = last; high = high }

some_same : {A : Type 0} (x y : A) → Some x ≡ Some y → x ≡ y
some_same x y e = cc

module _ (b : Base) (R root path : List Message) (table : Name → Option Held) (tree : HoldsKept b R root table) (linked : IsLinkedPath b R (path ++ root)) (names : List Name) (at : Name) where
  rest_linked : (rest : List Message) → path ≡ messages_at table names ++ rest → IsLinkedPath b R (rest ++ root)
  rest_linked rest e = linked_below b R (messages_at table names) (rest ++ root) (subst (IsLinkedPath b R) (ap (λ q. q ++ root) e ∙ append_assoc (messages_at table names) rest root) linked)

  -- the message that stands there is held
  record Here (left : ℕ) : Type 0 where
    x : Message
    more : List Message
    whole : path ≡ messages_at table names ++ x ∷ more
    held : Held
    found : table at ≡ Some held
    same : held.message ≡ x
    parent : x.parent ≡ last_name b (more ++ root)
    high : length more ≡ left

  here : (left : ℕ) → Rest b root path table names at (suc left) → Here left
  here left r = go r.rest r.whole r.last r.high
    where
      go : (rest : List Message) → path ≡ messages_at table names ++ rest → last_name b (rest ++ root) ≡ at → length rest ≡ suc left → Here left
      go [] e last high = absurd (omega (arith, high))
      go (x ∷ more) e last high =
          let l = rest_linked (x ∷ more) e in
          let t = tree x (more ++ root) l (more, refl) in
          record { x = x; more = more; whole = e; held = t.0; found = ap (table) (sym last) ∙ t.1; same = t.2; parent = l.0.parent; high = omega (arith, high) }

  pub not_missing : (left : ℕ) → Rest b root path table names at (suc left) → ¬ (table at ≡ None)
  not_missing left r none = let h = here left r in let e : Some h.held ≡ None = sym h.found ∙ none in cc

  pub rest_step : (left : ℕ) (held : Held) → table at ≡ Some held → Rest b root path table names at (suc left) → Rest b root path table (names ++ at ∷ []) held.message.parent left
  rest_step left held e r =
      let h = here left r in
      let same : held ≡ h.held = some_same held h.held (sym e ∙ h.found) in
      record {
        rest = h.more;
        whole = h.whole ∙ sym (ap (λ q. q ++ h.more) (messages_push table names at held e ∙ ap (λ m. messages_at table names ++ m ∷ []) (ap (λ k. k.message) same ∙ h.same)) ∙ append_assoc (messages_at table names) (h.x ∷ []) h.more);
        last = sym (ap (λ k. k.message.parent) same ∙ ap (λ m. m.parent) h.same ∙ h.parent);
        high = h.high;
      }

  pub rest_end : (chosen : List Message) → Rest b root path table names at 0 → path ≡ messages_at table names ++ drop (length chosen - 0) chosen
  rest_end chosen r = r.whole ∙ ap (λ q. messages_at table names ++ q) (none r.rest r.high ∙ sym (all (length chosen - 0) chosen (omega arith)))
    where
      none : (xs : List Message) → length xs ≡ 0 → xs ≡ []
      none [] e = refl
      none (x ∷ xs) e = absurd (omega (arith, e))

      all : (n : ℕ) (xs : List Message) → length xs ≤ n → drop n xs ≡ []
      all zero [] h = refl
      all zero (x ∷ xs) h = absurd (omega (arith, h))
      all (suc n) [] h = refl
      all (suc n) (x ∷ xs) h = all n xs (omega (arith, h))

-- lists with one end and equal lengths
pub same_front : {A : Type 0} (xs ys zs : List A) → length xs ≡ length ys → xs ++ zs ≡ ys ++ zs → xs ≡ ys
same_front [] [] zs h e = refl
same_front [] (y ∷ ys) zs h e = absurd (omega (arith, h))
same_front (x ∷ xs) [] zs h e = absurd (omega (arith, h))
same_front (x ∷ xs) (y ∷ ys) zs h e = let rest : xs ≡ ys = same_front xs ys zs (omega (arith, h)) (tail_same e) in let head : x ≡ y = head_same e in cc
  where
    tail_same : x ∷ (xs ++ zs) ≡ y ∷ (ys ++ zs) → xs ++ zs ≡ ys ++ zs
    tail_same e = cc

    head_same : x ∷ (xs ++ zs) ≡ y ∷ (ys ++ zs) → x ≡ y
    head_same e = cc

get_map : {A B : Type 0} (f : A → B) (xs : List A) (k : ℕ) (x : A) (y : B) → k < length xs → get_or (map f xs) k y ≡ f (get_or xs k x)
get_map f [] k x y h = absurd (omega (arith, h))
get_map f (z ∷ xs) zero x y h = refl
get_map f (z ∷ xs) (suc k) x y h = get_map f xs k x y (omega (arith, h))

-- the way meets the best chain where the undo of that height has the name
pub rest_meets : (b : Base) (R root path chosen : List Message) (table : Name → Option Held) → NamesDiffer R → HoldsKept b R root table → IsLinkedPath b R (path ++ root) → IsLinkedPath b R (chosen ++ root) → (undos : List Undo) → AreNamed chosen (reverse undos)
    → (names : List Name) (at : Name) (place : ℕ) (u : Undo) → place < length undos → u ≡ get_or undos place u → undone_name u ≡ at → Rest b root path table names at (suc place) → path ≡ messages_at table names ++ drop (length chosen - (place + 1)) chosen
rest_meets b R root path chosen table d tree linked chosen_linked undos named names at place u within is same r =
    r.whole ∙ ap (λ q. messages_at table names ++ q) (same_front r.rest lower root lengths (linked_unique b R (r.rest ++ root) (lower ++ root) d (rest_linked b R root path table tree linked names at r.rest r.whole) lower_linked (r.last ∙ sym lower_last)))
  where
    len : length chosen ≡ length undos
    len = sym (length-map chosen name_of) ∙ ap length named ∙ length-map (reverse undos) (λ (v : Undo). v.after.name) ∙ length-reverse undos

    j : ℕ
    j = length chosen - (place + 1)

    lower : List Message
    lower = drop (length chosen - (place + 1)) chosen

    lengths : length r.rest ≡ length (drop (length chosen - (place + 1)) chosen)
    lengths = omega (arith, r.high, len, within, length-drop (length chosen - (place + 1)) chosen)

    lower_linked : IsLinkedPath b R (drop (length chosen - (place + 1)) chosen ++ root)
    lower_linked = linked_below b R (take (length chosen - (place + 1)) chosen) (drop (length chosen - (place + 1)) chosen ++ root) (subst (IsLinkedPath b R) (split (length chosen - (place + 1)) chosen) chosen_linked)
      where
        split : (n : ℕ) (xs : List Message) → xs ++ root ≡ take n xs ++ (drop n xs ++ root)
        split zero xs = refl
        split (suc n) [] = refl
        split (suc n) (x ∷ xs) = ap (λ q. x ∷ q) (split n xs)

    head_at : (n : ℕ) (xs : List Message) (m : Message) → n < length xs → last_name b (drop n xs ++ root) ≡ name_of (get_or xs n m)
    head_at n [] m h = absurd (omega (arith, h))
    head_at zero (x ∷ xs) m h = refl
    head_at (suc n) (x ∷ xs) m h = head_at n xs m (omega (arith, h))

    first : (n : ℕ) (xs : List Message) → n < length xs → Message
    first n [] h = absurd (omega (arith, h))
    first n (x ∷ xs) h = x

    lower_last : last_name b (drop (length chosen - (place + 1)) chosen ++ root) ≡ at
    lower_last =
        let inside : length chosen - (place + 1) < length chosen = omega (arith, len, within) in
        let m = first (length chosen - (place + 1)) chosen inside in
        let back : length undos - 1 - (length chosen - (place + 1)) ≡ place = omega (arith, len, within) in
        head_at (length chosen - (place + 1)) chosen m inside
        ∙ sym (get_map name_of chosen (length chosen - (place + 1)) m at inside)
        ∙ ap (λ ns. get_or ns (length chosen - (place + 1)) at) named
        ∙ get_map (λ (v : Undo). v.after.name) (reverse undos) (length chosen - (place + 1)) u at (omega (arith, len, within, length-reverse undos))
        ∙ ap (λ (v : Undo). v.after.name) (get_or-reverse undos (length chosen - (place + 1)) u (omega (arith, len, within)) ∙ ap (λ k. get_or undos k u) back ∙ sym is)
        ∙ same

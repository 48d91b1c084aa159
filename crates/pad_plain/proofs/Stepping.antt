-- What is chosen as one message more comes.
use Rattle.std.proofs.Common.{◌≡◌, ℕ, ◌+◌, ◌-◌, ◌<◌, ◌≤◌, ◌^◌, ◌⊎◌, inl, inr, List, [], ◌∷◌, ◌++◌, length, reverse, take, zero, suc, min, Contains, All, refl, sym, ap, ◌∙◌, subst, arith, length-append}
use Rattle.std.proofs.lemmas.List.{reverse-append, length-reverse, length-take-le, same_from_push}
use Rattle.std.proofs.lemmas.List.Elements.{Contains-push_cases, Contains-push, Contains-append_left}
use Rattle.pad_message.specs.declared.message.Message.{Message}
use Rattle.pad_model.specs.declared.base.Base.{Base}
use Rattle.pad_model.specs.Path.{IsLinkedPath, IsPath, NamesDiffer}
use Rattle.pad_list.specs.Number.{IsNumberOf}
use Rattle.pad_model.specs.Choice.{cut, higher, IsBestThrough, Choice, Overtakes, IsNextChoice, IsChoice}
use Rattle.pad_model.specs.Laws.{SameMembers}
use Rattle.pad_plain.specs.declared.choice.Chosen.{Chosen}
use Rattle.pad_plain.specs.declared.path.Path.{Path}
use Rattle.pad_plain.specs.declared.path.Tip.{Tip}
use Rattle.pad_plain.specs.Tip.{IsTipOf}
use Rattle.pad_plain.specs.Inside.Walk.{messages_at}
use Rattle.pad_plain.specs.Inside.Through.{IsRoot, IsPathThrough, IsBestFound}
use Rattle.pad_plain.specs.Inside.Chosen.{IsChosenAs, IsChosen}
use Rattle.pad_list.proofs.CallerLemmas.{contains_head, contains_more, contains_cases}
use Rattle.pad_model.proofs.CallerLemmas.{linked_more, path_more, linked_below, through_trans, root_on_chosen, chosen_path, same_reversed, next_same, through_same, few_overtake}
use Rattle.pad_plain.proofs.Places.{messages_front, found_at, take_member}

-- the messages received, in their order, and with the newest first
pub newest_first : (S : List Message) (m : Message) → SameMembers (S ++ m ∷ []) (m ∷ S)
newest_first S m x = (λ h. to (Contains-push_cases S m x h), λ h. from (contains_cases m S x h))
  where
    to : Contains S x ⊎ (m ≡ x) → Contains (m ∷ S) x
    to (inl c) = contains_more m S x c
    to (inr e) = subst (Contains (m ∷ S)) e (contains_head m S)

    from : (m ≡ x) ⊎ Contains S x → Contains (S ++ m ∷ []) x
    from (inl e) = subst (Contains (S ++ m ∷ [])) e (Contains-push S m)
    from (inr c) = Contains-append_left S (m ∷ []) x c

module _ (b : Base) (S : List Message) (m : Message) (before : Chosen) (c : Choice) (is : IsChosenAs b S before c) where
  old_member : (x : Message) → Contains (reverse S) x → Contains (S ++ m ∷ []) x
  old_member x h = Contains-append_left S (m ∷ []) x ((same_reversed S x).1 h)

  old_path : IsPath b (S ++ m ∷ []) c.chosen
  old_path = path_more b (reverse S) (S ++ m ∷ []) c.chosen old_member (chosen_path b (reverse S) c is.is_choice)

  pub root_is : IsRoot b (S ++ m ∷ []) before.root c.root
  root_is =
      let on = root_on_chosen b (reverse S) c is.is_choice in
      record { linked = linked_below b (S ++ m ∷ []) on.0 c.root (subst (IsLinkedPath b (S ++ m ∷ [])) on.1 old_path.0); tip = is.root_tip }

  -- the path chosen before is one still
  pub still_through : All (λ i. i < length S) before.path.places.items → IsPathThrough b (S ++ m ∷ []) c.root before.path
  still_through within =
      let same : messages_at (S ++ m ∷ []) before.path.places.items ≡ c.chosen = messages_front S (m ∷ []) before.path.places.items within ∙ is.path in
      record {
        is_path = subst (IsPath b (S ++ m ∷ [])) (sym same) old_path;
        through = (let on = root_on_chosen b (reverse S) c is.is_choice in (on.0, same ∙ on.1));
        tip = subst (λ p. IsTipOf b p before.path.tip) (sym same) is.tip;
      }

  pub next_chosen : (path : Path) (root : Tip) (more overtaken : ℕ) → length (S ++ m ∷ []) < 2 ^ 64 → IsBestFound b (S ++ m ∷ []) c.root path → IsTipOf b (higher c.root (cut (messages_at (S ++ m ∷ []) path.places.items))) root → IsNumberOf (Overtakes b S m c) more → overtaken ≡ min (before.overtaken + more) (2 ^ 64 - 1) → IsChosen b (S ++ m ∷ []) (record { path = path; root = root; overtaken = overtaken })
  next_chosen path root more overtaken short best tip count sum = (
    d,
    record {
      is_choice = subst (λ l. IsChoice b l d) (sym turned) is_next;
      path = refl;
      tip = best.tip;
      root_tip = tip;
      overtook = sum ∙ ap (λ n. min (n + more) (2 ^ 64 - 1)) is.overtook ∙ exact;
    },
  )
    where
      d : Choice
      d = record { root = higher c.root (cut (messages_at (S ++ m ∷ []) path.places.items)); chosen = messages_at (S ++ m ∷ []) path.places.items; overtaken = c.overtaken + more }

      turned : reverse (S ++ m ∷ []) ≡ m ∷ reverse S
      turned = reverse-append S (m ∷ [])

      next : IsNextChoice b S m c d
      next = record {
        chosen = through_same b (S ++ m ∷ []) (m ∷ S) (newest_first S m) c.root d.chosen best.best;
        root = refl;
        more = more;
        overtook = count;
        overtaken = refl;
      }

      is_next : IsChoice b (m ∷ reverse S) d
      is_next = (c, is.is_choice, next_same b S (reverse S) m c d (same_reversed S) next)

      exact : min (c.overtaken + more) (2 ^ 64 - 1) ≡ c.overtaken + more
      exact =
          let few = few_overtake b (m ∷ reverse S) d is_next in
          omega (arith, few, short, ap length turned, length-reverse (S ++ m ∷ []))

-- ---- the first messages, and one more

pub take_push : (M : List Message) (n : ℕ) → n < length M → (x : Message) × (take (n + 1) M ≡ take n M ++ x ∷ [])
take_push M n below = go M n below
  where
    go : (M : List Message) (n : ℕ) → n < length M → (x : Message) × (take (n + 1) M ≡ take n M ++ x ∷ [])
    go [] n h = absurd (omega (arith, h))
    go (y ∷ M) zero h = (y, refl)
    go (y ∷ M) (suc n) h =
        let r = go M n (omega (arith, h)) in
        let e : suc n + 1 ≡ suc (n + 1) = omega arith in
        (r.0, ap (λ k. take k (y ∷ M)) e ∙ ap (λ l. y ∷ l) r.1)

pub earlier_is : (M : List Message) (n : ℕ) (S : List Message) (m : Message) → n < length M → take (n + 1) M ≡ S ++ m ∷ [] → S ≡ take n M
earlier_is M n S m below e = let x = take_push M n below in sym (same_from_push (take n M) S x.0 m (sym x.1 ∙ e)).0

pub differ_first : (M : List Message) (n : ℕ) → NamesDiffer M → NamesDiffer (take n M)
differ_first M n d x y cx cy = d x y (take_member n M x cx) (take_member n M y cy)

pub differ_earlier : (M : List Message) (n : ℕ) → n < length M → NamesDiffer (take (n + 1) M) → NamesDiffer (take n M)
differ_earlier M n below d x y cx cy =
    let w = take_push M n below in
    let more = λ (z : Message) (c : Contains (take n M) z). subst (λ l. Contains l z) (sym w.1) (Contains-append_left (take n M) (w.0 ∷ []) z c) in
    d x y (more x cx) (more y cy)

-- the choice after one message more, from what was found among the first messages R
pub stepped : (b : Base) (M R : List Message) (n : ℕ) → n < length M → R ≡ take (n + 1) M → length R < 2 ^ 64 → (before : Chosen) → IsChosen b (take n M) before → All (λ i. i < n) before.path.places.items → (path : Path) (root : Tip) (more overtaken : ℕ)
    → ((through : List Message) → IsRoot b R before.root through → IsPathThrough b R through before.path → IsBestFound b R through path)
    → ((through : List Message) → IsTipOf b through before.root → IsTipOf b (higher through (cut (messages_at R path.places.items))) root)
    → ((earlier : List Message) (m : Message) → R ≡ earlier ++ m ∷ [] → (c : Choice) → IsChosenAs b earlier before c → IsNumberOf (Overtakes b earlier m c) more)
    → overtaken ≡ min (before.overtaken + more) (2 ^ 64 - 1) → IsChosen b R (record { path = path; root = root; overtaken = overtaken })
stepped b M R n below first short before (c, is) within path root more overtaken best rises count sum =
    let x = take_push M n below in
    let whole : R ≡ take n M ++ x.0 ∷ [] = first ∙ x.1 in
    let many : length (take n M) ≡ n = length-take-le n M (omega (arith, below)) in
    let inside : All (λ i. i < length (take n M)) before.path.places.items = λ k d h. omega (arith, within k d h, many) in
    let found = best c.root (subst (λ l. IsRoot b l before.root c.root) (sym whole) (root_is b (take n M) x.0 before c is)) (subst (λ l. IsPathThrough b l c.root before.path) (sym whole) (still_through b (take n M) x.0 before c is inside)) in
    subst (λ l. IsChosen b l (record { path = path; root = root; overtaken = overtaken })) (sym whole)
    (next_chosen b (take n M) x.0 before c is path root more overtaken (omega (arith, short, ap length whole)) (subst (λ l. IsBestFound b l c.root path) whole found)
    (subst (λ l. IsTipOf b (higher c.root (cut (messages_at l path.places.items))) root) whole (rises c.root is.root_tip)) (count (take n M) x.0 whole c is) sum)

-- ---- all messages

module _ (b : Base) (M : List Message) (chosen : Chosen) (c : Choice) (is : IsChosenAs b M chosen c) where
  pub chosen_path_all : IsPath b M c.chosen
  chosen_path_all = path_more b (reverse M) M c.chosen (λ x. (same_reversed M x).1) (chosen_path b (reverse M) c is.is_choice)

  pub root_is_all : IsRoot b M chosen.root c.root
  root_is_all =
      let on = root_on_chosen b (reverse M) c is.is_choice in
      record { linked = linked_below b M on.0 c.root (subst (IsLinkedPath b M) on.1 chosen_path_all.0); tip = is.root_tip }

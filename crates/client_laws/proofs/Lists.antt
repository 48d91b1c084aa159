-- Lists of messages, and what has the same members.
use Rattle.std.proofs.Common.{◌≡◌, ◌⊎◌, inl, inr, List, [], ◌∷◌, ◌++◌, reverse, Contains, sym, subst}
use Rattle.std.proofs.lemmas.List.{reverse-append}
use Rattle.std.proofs.lemmas.List.Elements.{Contains-append_left, Contains-append_right, Contains-append_cases}
use Rattle.pad_list.proofs.CallerLemmas.{contains_head, contains_more, contains_cases, contains_none}
use Rattle.pad_message.specs.declared.message.Message.{Message}

-- a list has exactly the messages of which P holds
pub record Has (list : List Message) (P : Message → Type 0) : Type 0 where
  pub to : (message : Message) → Contains list message → P message
  pub from : (message : Message) → P message → Contains list message

module _ {X : Type 0} where
  pub from_reverse : (xs : List X) (x : X) → Contains (reverse xs) x → Contains xs x
  from_reverse [] x h = h
  from_reverse (y ∷ xs) x h = go (λ k. from_reverse xs x k) (Contains-append_cases (reverse xs) (y ∷ []) x (subst (λ (l : List X). Contains l x) (reverse-append (y ∷ []) xs) h))
    where
      last : (y ≡ x) ⊎ Contains [] x → Contains (y ∷ xs) x
      last (inl e) = subst (Contains (y ∷ xs)) e (contains_head y xs)
      last (inr k) = absurd (contains_none x k)

      go : (Contains (reverse xs) x → Contains xs x) → Contains (reverse xs) x ⊎ Contains (y ∷ []) x → Contains (y ∷ xs) x
      go rest (inl k) = contains_more y xs x (rest k)
      go rest (inr k) = last (contains_cases y [] x k)

  pub to_reverse : (xs : List X) (x : X) → Contains xs x → Contains (reverse xs) x
  to_reverse [] x h = h
  to_reverse (y ∷ xs) x h = subst (λ (l : List X). Contains l x) (sym (reverse-append (y ∷ []) xs)) (go (λ k. to_reverse xs x k) (contains_cases y xs x h))
    where
      go : (Contains xs x → Contains (reverse xs) x) → (y ≡ x) ⊎ Contains xs x → Contains (reverse xs ++ y ∷ []) x
      go rest (inl e) = Contains-append_right (reverse xs) (y ∷ []) x (subst (Contains (y ∷ [])) e (contains_head y []))
      go rest (inr k) = Contains-append_left (reverse xs) (y ∷ []) x (rest k)

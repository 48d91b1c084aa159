-- The messages of an outbox are received one after another.
use Rattle.std.proofs.Common.{◌≡◌, ◌⊎◌, ◌<◌, ℕ, ◌+◌, List, [], ◌∷◌, ◌++◌, reverse, take, drop, length, get_or, Contains, inl, inr, sym, ◌∙◌, ap, subst}
use Rattle.std.proofs.lemmas.List.{take_more, take-append-drop, reverse-append, map-append}
use Rattle.std.proofs.lemmas.List.Elements.{Contains-append_left, Contains-append_cases}
use Rattle.pad_list.proofs.CallerLemmas.{contains_head, contains_more, contains_cases, contains_none}
use Rattle.pad_message.specs.declared.message.Message.{Message}
use Rattle.pad_model.specs.Path.{NamesDiffer}
use Rattle.client_copy.specs.Repair.{AreAmong}
use Rattle.client_outbox.specs.Outbox.{Unacknowledged}
use Rattle.pad_client.specs.Sync.{own_messages}
use Rattle.pad_client.specs.Repair.{sent_before}

back_or_first : (x : Message) (xs : List Message) (m : Message) → (Contains (reverse xs) m → Contains xs m) → Contains (reverse xs) m ⊎ Contains (x ∷ []) m → Contains (x ∷ xs) m
back_or_first x xs m back (inl old) = contains_more x xs m (back old)
back_or_first x xs m back (inr one) = go (contains_cases x [] m one)
  where
    go : (x ≡ m) ⊎ Contains [] m → Contains (x ∷ xs) m
    go (inl same) = subst (Contains (x ∷ xs)) same (contains_head x xs)
    go (inr none) = absurd (contains_none m none)

unreversed : (xs : List Message) (m : Message) → Contains (reverse xs) m → Contains xs m
unreversed [] m has = has
unreversed (x ∷ xs) m has = back_or_first x xs m (unreversed xs m) (Contains-append_cases (reverse xs) (x ∷ []) m (subst (λ (l : List Message). Contains l m) (reverse-append (x ∷ []) xs) has))

among_own : (owns : List Unacknowledged) (n : ℕ) → AreAmong (sent_before (take n owns)) (own_messages owns)
among_own owns n message has =
    subst (λ (l : List Message). Contains l message)
    (sym (ap own_messages (sym (take-append-drop n owns)) ∙ map-append (λ (own : Unacknowledged). own.message) (take n owns) (drop n owns)))
    (Contains-append_left (own_messages (take n owns)) (own_messages (drop n owns)) message (unreversed (own_messages (take n owns)) message has))

-- one more of them
pub sent_more : (owns : List Unacknowledged) (n : ℕ) (own : Unacknowledged) → n < length owns → own ≡ get_or owns n own → sent_before (take (n + 1) owns) ≡ own.message ∷ sent_before (take n owns)
sent_more owns n own within is =
    ap sent_before (take_more owns n own within ∙ ap (λ (o : Unacknowledged). take n owns ++ o ∷ []) (sym is))
    ∙ ap reverse (map-append (λ (o : Unacknowledged). o.message) (take n owns) (own ∷ [])) ∙ reverse-append (own_messages (take n owns)) (own.message ∷ [])

pub differ_so_far : (owns : List Unacknowledged) (n : ℕ) (own : Unacknowledged) → n < length owns → own ≡ get_or owns n own → NamesDiffer (own_messages owns) → NamesDiffer (own.message ∷ sent_before (take n owns))
differ_so_far owns n own within is differ =
    subst NamesDiffer (sent_more owns n own within is) (λ one other has has_other. differ one other (among_own owns (n + 1) one has) (among_own owns (n + 1) other has_other))

-- Paths: more messages keep them, their last names tell them apart, and none is longer than the list of messages.
use Rattle.std.proofs.Common.{◌≡◌, ◌≤◌, ◌⊎◌, inl, inr, List, [], ◌∷◌, ◌++◌, length, Contains, refl, sym, ap, ap₂, ◌∙◌, subst, arith, length-append}
use Rattle.pad_message.specs.declared.message.Message.{Message}
use Rattle.pad_model.specs.declared.base.Base.{Base}
use Rattle.pad_model.specs.Path.{last_name, IsLinkedPath, EachSound, IsPath, NamesDiffer}
use Rattle.pad_list.specs.Number.{NoRepeat}
use Rattle.pad_list.proofs.CallerLemmas.{contains_more, contains_cases, contains_none, Split, split, distinct_short}

pub linked_more : (b : Base) (R S p : List Message) → ((m : Message) → Contains R m → Contains S m) → IsLinkedPath b R p → IsLinkedPath b S p
linked_more b R S [] more h = tt
linked_more b R S (m ∷ p) more h =
    (record { member = more m h.0.member; not_base = h.0.not_base; parent = h.0.parent }, linked_more b R S p more h.1)

pub path_more : (b : Base) (R S p : List Message) → ((m : Message) → Contains R m → Contains S m) → IsPath b R p → IsPath b S p
path_more b R S p more h = (linked_more b R S p more h.0, h.1)

-- under no clash of names a linked path is told by its last name
pub linked_unique : (b : Base) (R p q : List Message) → NamesDiffer R → IsLinkedPath b R p → IsLinkedPath b R q → last_name b p ≡ last_name b q → p ≡ q
linked_unique b R [] [] d h g e = refl
linked_unique b R [] (n ∷ q) d h g e = absurd (g.0.not_base (sym e))
linked_unique b R (m ∷ p) [] d h g e = absurd (h.0.not_base e)
linked_unique b R (m ∷ p) (n ∷ q) d h g e =
    let same : m ≡ n = d m n h.0.member g.0.member e in
    ap₂ ◌∷◌ same (linked_unique b R p q d h.1 g.1 (sym h.0.parent ∙ ap (λ x. x.parent) same ∙ g.0.parent))

pub linked_below : (b : Base) (R above p : List Message) → IsLinkedPath b R (above ++ p) → IsLinkedPath b R p
linked_below b R [] p h = h
linked_below b R (m ∷ above) p h = linked_below b R above p h.1

pub sound_below : (b : Base) (above p : List Message) → EachSound b (above ++ p) → EachSound b p
sound_below b [] p h = h
sound_below b (m ∷ above) p h = sound_below b above p h.1

pub linked_once : (b : Base) (R p : List Message) → NamesDiffer R → IsLinkedPath b R p → NoRepeat p
linked_once b R [] d h = tt
linked_once b R (m ∷ p) d h = (λ again. twice (split m p again), linked_once b R p d h.1)
  where
    twice : Split m p → ⊥
    twice s =
        let lower : IsLinkedPath b R (m ∷ s.after) = linked_below b R s.before (m ∷ s.after) (subst (IsLinkedPath b R) s.whole h.1) in
        let same : m ∷ p ≡ m ∷ s.after = linked_unique b R (m ∷ p) (m ∷ s.after) d h lower refl in
        omega (arith, ap length same, ap length s.whole, length-append s.before (m ∷ s.after))

linked_received : (b : Base) (R p : List Message) (x : Message) → IsLinkedPath b R p → Contains p x → Contains R x
linked_received b R [] x h c = absurd (contains_none x c)
linked_received b R (m ∷ p) x h c = go (contains_cases m p x c) (linked_received b R p x h.1)
  where
    go : (m ≡ x) ⊎ Contains p x → (Contains p x → Contains R x) → Contains R x
    go (inl e) rest = subst (Contains R) e h.0.member
    go (inr k) rest = rest k

-- a linked path has at most as many messages as were received
pub linked_short : (b : Base) (R p : List Message) → NamesDiffer R → IsLinkedPath b R p → length p ≤ length R
linked_short b R p d h = distinct_short p R (linked_once b R p d h) (λ x c. linked_received b R p x h c)

-- messages whose names differ do so without one of them
pub differ_before : (m : Message) (R : List Message) → NamesDiffer (m ∷ R) → NamesDiffer R
differ_before m R u x y rx ry = u x y (contains_more m R x rx) (contains_more m R y ry)

-- a linked path with one message more is one without it, or has it on it
pub linked_new : (b : Base) (R : List Message) (m : Message) (p : List Message) → IsLinkedPath b (m ∷ R) p → IsLinkedPath b R p ⊎ ((above : List Message) × (below : List Message) × (p ≡ above ++ m ∷ below))
linked_new b R m [] h = inl tt
linked_new b R m (x ∷ p) h = go (contains_cases m R x h.0.member) (linked_new b R m p h.1)
  where
    go : (m ≡ x) ⊎ Contains R x → IsLinkedPath b R p ⊎ ((above : List Message) × (below : List Message) × (p ≡ above ++ m ∷ below)) → IsLinkedPath b R (x ∷ p) ⊎ ((above : List Message) × (below : List Message) × (x ∷ p ≡ above ++ m ∷ below))
    go (inl e) rest = inr ([], p, ap (λ w. w ∷ p) (sym e))
    go (inr c) (inl l) = inl (record { member = c; not_base = h.0.not_base; parent = h.0.parent }, l)
    go (inr c) (inr (above, below, e)) = inr (x ∷ above, below, ap (λ w. x ∷ w) e)

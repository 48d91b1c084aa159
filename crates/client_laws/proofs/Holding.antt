-- What holds of a client's pad and of what a repair has received, by its past. It says nothing of the outbox.
use Rattle.std.proofs.Common.{ℕ, ◌≡◌, ◌⊎◌, inl, inr, Bool, true, false, is_some, Option, Some, None, List, [], ◌∷◌, reverse, Contains, refl, sym, ap, ◌∙◌, subst, true≢false}
use Rattle.pad_list.proofs.CallerLemmas.{contains_head, contains_more, contains_cases}
use Rattle.pad_message.specs.declared.message.Message.{Message}
use Rattle.pad_message.specs.Content.{Reads, SpellsOne}
use Rattle.pad_model.specs.declared.base.Base.{Base}
use Rattle.pad_model.specs.Base.{first_base}
use Rattle.pad_chain.specs.Tie.{IsWholeChoice, IsChosenNext}
use Rattle.pad_chain.specs.declared.moved.Moved.{Moved}
use Rattle.client_copy.specs.Pad.{Pad, Receives, begun}
use Rattle.client_copy.specs.Repair.{IsRepaired}
use Rattle.client_laws.specs.Past.{Past, took, made, left, repair_begins, repair_ends, repair_given_up, has_repaired, HeardWithin, OwnWithin, HeardSince, OwnSince}
use Rattle.client_laws.proofs.Lists.{Has, from_reverse, to_reverse}

abbrev pub Spelled : (List ℕ → Type 0) → Message → Type 0
Spelled P message = (content : List ℕ) × P content × Reads content message

-- had since a repair began last, and since the last that ended began
abbrev pub Within : List Past → Message → Type 0
Within past message = Spelled (HeardWithin past) message ⊎ OwnWithin past message

abbrev pub Since : Bool → List Past → Message → Type 0
Since runs past message = Spelled (HeardSince runs past) message ⊎ OwnSince past message

pub record IsWholePad (pad : Pad) : Type 0 where
  pub base : pad.base ≡ first_base
  pub choice : IsWholeChoice first_base pad.received pad.choice

pub record Holds (past : List Past) (runs : Bool) (pad : Pad) (repair : Option (List Message)) : Type 0 where
  pub quiet : runs ≡ false → repair ≡ None
  pub within : runs ≡ true → (received : List Message) × (repair ≡ Some received) × Has received (Within past)
  pub same : pad.whole ≡ has_repaired past
  pub is_whole : pad.whole ≡ true → IsWholePad pad
  pub since : pad.whole ≡ true → Has pad.received (Since runs past)

pub no_truth : {X : Type 0} → true ≡ false → X
no_truth e = absurd (true≢false e)

abbrev list_or : List Message → Option (List Message) → List Message
list_or list None = list
list_or list (Some other) = other

pub some_same : (one other : List Message) → Some one ≡ Some other → one ≡ other
some_same one other e = ap (list_or one) e

-- ---- a content was heard that spells the message: one more is had

more_heard : SpellsOne → (P Q : List ℕ → Type 0) (O : Message → Type 0) (content : List ℕ) (message : Message) → Reads content message
    → ((other : List ℕ) → Q other → (content ≡ other) ⊎ P other) → ((other : List ℕ) → P other → Q other) → Q content
    → (list : List Message) → Has list (λ m. Spelled P m ⊎ O m) → Has (message ∷ list) (λ m. Spelled Q m ⊎ O m)
more_heard one P Q O content message reads out back here list has = record { to = λ m h. to m (contains_cases message list m h); from = from }
  where
    wider : (m : Message) → Spelled P m ⊎ O m → Spelled Q m ⊎ O m
    wider m (inl (c, p, r)) = inl (c, back c p, r)
    wider m (inr o) = inr o

    to : (m : Message) → (message ≡ m) ⊎ Contains list m → Spelled Q m ⊎ O m
    to m (inl e) = inl (content, here, subst (Reads content) e reads)
    to m (inr k) = wider m (has.to m k)

    told : (m : Message) (c : List ℕ) → Reads c m → (content ≡ c) ⊎ P c → Contains (message ∷ list) m
    told m c r (inl e) = subst (Contains (message ∷ list)) (one content message m reads (subst (λ x. Reads x m) (sym e) r)) (contains_head message list)
    told m c r (inr p) = contains_more message list m (has.from m (inl (c, p, r)))

    from : (m : Message) → Spelled Q m ⊎ O m → Contains (message ∷ list) m
    from m (inl (c, q, r)) = told m c r (out c q)
    from m (inr o) = contains_more message list m (has.from m (inr o))

-- a content that spells no message leaves what is had
none_heard : (P Q : List ℕ → Type 0) (O : Message → Type 0) (content : List ℕ) → ((m : Message) → ¬ (Reads content m))
    → ((other : List ℕ) → Q other → (content ≡ other) ⊎ P other) → ((other : List ℕ) → P other → Q other)
    → (list : List Message) → Has list (λ m. Spelled P m ⊎ O m) → Has list (λ m. Spelled Q m ⊎ O m)
none_heard P Q O content none out back list has = record { to = λ m h. wider m (has.to m h); from = from }
  where
    wider : (m : Message) → Spelled P m ⊎ O m → Spelled Q m ⊎ O m
    wider m (inl (c, p, r)) = inl (c, back c p, r)
    wider m (inr o) = inr o

    told : (m : Message) (c : List ℕ) → Reads c m → (content ≡ c) ⊎ P c → Contains list m
    told m c r (inl e) = absurd (none m (subst (λ x. Reads x m) (sym e) r))
    told m c r (inr p) = has.from m (inl (c, p, r))

    from : (m : Message) → Spelled Q m ⊎ O m → Contains list m
    from m (inl (c, q, r)) = told m c r (out c q)
    from m (inr o) = has.from m (inr o)

-- what was heard at a moment that counts for P no content leaves it too
same_heard : (P Q : List ℕ → Type 0) (O : Message → Type 0) → ((other : List ℕ) → Q other → P other) → ((other : List ℕ) → P other → Q other)
    → (list : List Message) → Has list (λ m. Spelled P m ⊎ O m) → Has list (λ m. Spelled Q m ⊎ O m)
same_heard P Q O out back list has = record { to = λ m h. wider m (has.to m h); from = from }
  where
    wider : (m : Message) → Spelled P m ⊎ O m → Spelled Q m ⊎ O m
    wider m (inl (c, p, r)) = inl (c, back c p, r)
    wider m (inr o) = inr o

    from : (m : Message) → Spelled Q m ⊎ O m → Contains list m
    from m (inl (c, q, r)) = has.from m (inl (c, out c q, r))
    from m (inr o) = has.from m (inr o)

-- ---- an own message was made: one more is had

more_own : (H O : Message → Type 0) (message : Message) (list : List Message) → Has list (λ m. H m ⊎ O m) → Has (message ∷ list) (λ m. H m ⊎ ((message ≡ m) ⊎ O m))
more_own H O message list has = record { to = λ m h. to m (contains_cases message list m h); from = from }
  where
    wider : (m : Message) → H m ⊎ O m → H m ⊎ ((message ≡ m) ⊎ O m)
    wider m (inl h) = inl h
    wider m (inr o) = inr (inr o)

    to : (m : Message) → (message ≡ m) ⊎ Contains list m → H m ⊎ ((message ≡ m) ⊎ O m)
    to m (inl e) = inr (inl e)
    to m (inr k) = wider m (has.to m k)

    from : (m : Message) → H m ⊎ ((message ≡ m) ⊎ O m) → Contains (message ∷ list) m
    from m (inl h) = contains_more message list m (has.from m (inl h))
    from m (inr (inl e)) = subst (Contains (message ∷ list)) e (contains_head message list)
    from m (inr (inr o)) = contains_more message list m (has.from m (inr o))

-- ---- events

-- the pad of a client that received nothing yet
pub holds_new : Holds [] false (begun [] first_base) None
holds_new = record {
  quiet = λ e. refl;
  within = λ e. no_truth (sym e);
  same = refl;
  is_whole = λ e. no_truth (sym e);
  since = λ e. no_truth (sym e);
}

-- a message left the outbox
pub holds_left : (past : List Past) (runs : Bool) (pad : Pad) (repair : Option (List Message)) (message : Message) → Holds past runs pad repair → Holds (left message ∷ past) runs pad repair
holds_left past runs pad repair message holds = record { quiet = holds.quiet; within = holds.within; same = holds.same; is_whole = holds.is_whole; since = holds.since }

-- the pad with other messages that came
pub holds_all : (past : List Past) (runs : Bool) (pad : Pad) (repair : Option (List Message)) (all : List Message) → Holds past runs pad repair → Holds past runs (record pad { all = all }) repair
holds_all past runs pad repair all holds =
    record { quiet = holds.quiet; within = holds.within; same = holds.same; is_whole = λ e. record { base = (holds.is_whole e).base; choice = (holds.is_whole e).choice }; since = holds.since }

-- a content was heard that spells no message
pub holds_counted : (past : List Past) (runs : Bool) (pad : Pad) (repair : Option (List Message)) (content : List ℕ) → ((m : Message) → ¬ (Reads content m))
    → Holds past runs pad repair → Holds (took content ∷ past) runs pad repair
holds_counted past runs pad repair content none holds = record {
  quiet = holds.quiet;
  within = λ e. let w = holds.within e in (w.0, w.1, none_heard (HeardWithin past) (HeardWithin (took content ∷ past)) (OwnWithin past) content none (λ c h. h) (λ c h. inr h) w.0 w.2);
  same = holds.same;
  is_whole = holds.is_whole;
  since = λ e. none_heard (HeardSince runs past) (HeardSince runs (took content ∷ past)) (OwnSince past) content none out (λ c h. inr h) pad.received (holds.since e);
}
  where
    out : (c : List ℕ) → ((runs ≡ false) × (content ≡ c)) ⊎ HeardSince runs past c → (content ≡ c) ⊎ HeardSince runs past c
    out c (inl h) = inl h.1
    out c (inr h) = inr h

-- a repair that runs received a message
pub holds_noted : SpellsOne → (past : List Past) (pad : Pad) (received : List Message) (content : List ℕ) (message : Message) → Reads content message
    → Holds past true pad (Some received) → Holds (took content ∷ past) true pad (Some (message ∷ received))
holds_noted one past pad received content message reads holds = record {
  quiet = λ e. no_truth e;
  within = λ e. let w = holds.within e in (
    message ∷ received,
    refl,
    more_heard one (HeardWithin past) (HeardWithin (took content ∷ past)) (OwnWithin past) content message reads (λ c h. h) (λ c h. inr h) (inl refl)
        received (subst (λ (r : List Message). Has r (Within past)) (sym (some_same received w.0 w.1)) w.2),
  );
  same = holds.same;
  is_whole = holds.is_whole;
  since = λ e. same_heard (HeardSince true past) (HeardSince true (took content ∷ past)) (OwnSince past) out (λ c h. inr h) pad.received (holds.since e);
}
  where
    out : (c : List ℕ) → ((true ≡ false) × (content ≡ c)) ⊎ HeardSince true past c → HeardSince true past c
    out c (inl h) = no_truth h.0
    out c (inr h) = h

-- a message was received
whole_again : (before after : Pad) (message : Message) (moved : Moved) → Receives before message moved after → (before.whole ≡ true → IsWholePad before) → after.whole ≡ true → IsWholePad after
whole_again before after message moved is before_is e =
    let was = sym is.whole ∙ e in
    let base = (before_is was).base in
    let next : IsWholeChoice before.base (message ∷ before.received) after.choice = subst (λ (w : Bool). IsChosenNext w before.base before.received message before.choice after.choice) was is.chosen in
    record {
      base = is.base ∙ base;
      choice = subst (λ (list : List Message). IsWholeChoice first_base list after.choice) (sym is.received) (subst (λ (b : Base). IsWholeChoice b (message ∷ before.received) after.choice) base next);
    }

pub holds_received : SpellsOne → (past : List Past) (before after : Pad) (repair : Option (List Message)) (content : List ℕ) (message : Message) (moved : Moved) → Reads content message
    → Receives before message moved after → Holds past false before repair → Holds (took content ∷ past) false after repair
holds_received one past before after repair content message moved reads is holds = record {
  quiet = holds.quiet;
  within = λ e. no_truth (sym e);
  same = is.whole ∙ holds.same;
  is_whole = whole_again before after message moved is holds.is_whole;
  since = λ e. subst (λ (list : List Message). Has list (Since false (took content ∷ past))) (sym is.received)
      (more_heard one (HeardSince false past) (HeardSince false (took content ∷ past)) (OwnSince past) content message reads out (λ c h. inr h) (inl (refl, refl)) before.received (holds.since (sym is.whole ∙ e)));
}
  where
    out : (c : List ℕ) → ((false ≡ false) × (content ≡ c)) ⊎ HeardSince false past c → (content ≡ c) ⊎ HeardSince false past c
    out c (inl h) = inl h.1
    out c (inr h) = inr h

-- an own message was made
pub holds_made : (past : List Past) (before after : Pad) (repair : Option (List Message)) (message : Message) (moved : Moved) → Receives before message moved after
    → Holds past false before repair → Holds (made message ∷ past) false after repair
holds_made past before after repair message moved is holds = record {
  quiet = holds.quiet;
  within = λ e. no_truth (sym e);
  same = is.whole ∙ holds.same;
  is_whole = whole_again before after message moved is holds.is_whole;
  since = λ e. subst (λ (list : List Message). Has list (Since false (made message ∷ past))) (sym is.received)
      (more_own (Spelled (HeardSince false past)) (OwnSince past) message before.received (holds.since (sym is.whole ∙ e)));
}

-- a message was adopted
pub holds_adopted : (past : List Past) (pad : Pad) (repair : Option (List Message)) (content : List ℕ) (all : List Message) (base : Base) → pad.whole ≡ false
    → Holds past false pad repair → Holds (took content ∷ past) false (begun all base) repair
holds_adopted past pad repair content all base e holds =
    record { quiet = holds.quiet; within = λ t. no_truth (sym t); same = sym e ∙ holds.same; is_whole = λ t. no_truth (sym t); since = λ t. no_truth (sym t) }

-- a repair begins, ends, is given up
pub holds_begins : (past : List Past) (pad : Pad) (repair : Option (List Message)) (outbox : List Message) → Holds past false pad repair
    → Holds (repair_begins outbox ∷ past) true pad (Some (reverse outbox))
holds_begins past pad repair outbox holds = record {
  quiet = λ e. no_truth e;
  within = λ e. (reverse outbox, refl, record { to = λ m h. inr (from_reverse outbox m h); from = from });
  same = holds.same;
  is_whole = holds.is_whole;
  since = holds.since;
}
  where
    from : (m : Message) → Within (repair_begins outbox ∷ past) m → Contains (reverse outbox) m
    from m (inl (c, h, r)) = absurd h
    from m (inr h) = to_reverse outbox m h

pub holds_ends : (past : List Past) (before after : Pad) (received : List Message) → IsRepaired before received after → Holds past true before (Some received) → Holds (repair_ends ∷ past) false after None
holds_ends past before after received is holds = record {
  quiet = λ e. refl;
  within = λ e. no_truth (sym e);
  same = is.whole;
  is_whole = λ e. record { base = is.base; choice = subst (λ (list : List Message). IsWholeChoice first_base list after.choice) (sym is.received_all) is.choice };
  since = λ e. let w = holds.within refl in subst (λ (list : List Message). Has list (Within past)) (sym (is.received_all ∙ some_same received w.0 w.1)) w.2;
}

pub holds_given_up : (past : List Past) (pad : Pad) (repair : Option (List Message)) → Holds past true pad repair → Holds (repair_given_up ∷ past) false pad None
holds_given_up past pad repair holds = record { quiet = λ e. refl; within = λ e. no_truth (sym e); same = holds.same; is_whole = holds.is_whole; since = holds.since }

-- no repair runs, and nothing that one received is kept
pub holds_none : (past : List Past) (pad : Pad) (repair : Option (List Message)) → Holds past false pad repair → Holds past false pad None
holds_none past pad repair holds = record { quiet = λ e. refl; within = λ e. no_truth (sym e); same = holds.same; is_whole = holds.is_whole; since = holds.since }

-- ---- whether a repair runs, by what it received

no_none : (repair : Option (List Message)) (list : List Message) → repair ≡ None → repair ≡ Some list → ⊥
no_none repair list e k = true≢false (sym (ap (λ (o : Option (List Message)). is_some o) k) ∙ ap (λ (o : Option (List Message)). is_some o) e)

pub not_running : (past : List Past) (runs : Bool) (pad : Pad) (repair : Option (List Message)) → Holds past runs pad repair → repair ≡ None → runs ≡ false
not_running past false pad repair holds e = refl
not_running past true pad repair holds e = let w = holds.within refl in absurd (no_none repair w.0 e w.1)

pub is_running : (past : List Past) (runs : Bool) (pad : Pad) (repair : Option (List Message)) (received : List Message) → Holds past runs pad repair → repair ≡ Some received → runs ≡ true
is_running past true pad repair received holds e = refl
is_running past false pad repair received holds e = absurd (no_none repair received (holds.quiet refl) e)

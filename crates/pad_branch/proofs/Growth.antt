-- What is known pathless as messages come and as the root rises; and when the root stays.
use Rattle.std.proofs.Common.{◌≡◌, ◌≤◌, ◌⊎◌, inl, inr, List, [], ◌∷◌, ◌++◌, length, drop, Contains, Bool, true, false, true≢false, nat_lt, append_assoc, refl, sym, ap, ◌∙◌, subst, arith, length-append}
use Rattle.std.specs.Prelude.{if◌then◌else◌}
use Rattle.std.proofs.lemmas.List.Elements.{All-head, All-tail}
use Rattle.std.proofs.lemmas.Bool.{ltb-true}
use Rattle.pad_text.specs.declared.name.Name.{Name}
use Rattle.pad_message.specs.declared.message.Message.{Message}
use Rattle.pad_message.specs.Kind.{is_checkpoint}
use Rattle.pad_message.specs.Message.{name_of}
use Rattle.pad_model.specs.Path.{last_name, IsLinkedPath, EachSound}
use Rattle.pad_model.specs.Choice.{RunsThrough, to_checkpoint, cut, higher}
use Rattle.pad_branch.specs.Pathless.{IsFirstUnsound}
use Rattle.pad_branch.specs.Laws.{NoCheckpoint, RootStays, StaysKnown, KnownAbove, FoundStays, FoundAbove, MarksPass}
use Rattle.pad_branch.proofs.Choosing.{Passes, linked_new}
use Rattle.pad_list.proofs.CallerLemmas.{contains_more}
use Rattle.pad_model.proofs.CallerLemmas.{linked_unique, linked_below, linked_more, sound_below}

pub stays_known : StaysKnown
stays_known b R root m pathless k alive fresh = record { at_root = k.at_root; really = λ x p h e. really x p h e (linked_new b R m (x ∷ p) h); passed = λ x p h t e. passed x p h t e (linked_new b R m (x ∷ p) h) }
  where
    at_new : (p : List Message) → IsLinkedPath b (m ∷ R) p → Passes m p → pathless (last_name b p) ≡ false
    at_new p h s = subst (λ q. pathless (last_name b q) ≡ false) (sym s.whole) (fresh s.above s.under (subst (IsLinkedPath b (m ∷ R)) s.whole h))

    really : (x : Message) (p : List Message) → IsLinkedPath b (m ∷ R) (x ∷ p) → pathless (name_of x) ≡ true → IsLinkedPath b R (x ∷ p) ⊎ Passes m (x ∷ p) → ¬ (EachSound b (x ∷ p))
    really x p h e (inl old) = k.really x p old e
    really x p h e (inr s) = absurd (true≢false (sym e ∙ at_new (x ∷ p) h s))

    below : (x : Message) (p above under : List Message) → IsLinkedPath b (m ∷ R) (x ∷ p) → x ∷ p ≡ above ++ m ∷ under → pathless (last_name b p) ≡ false
    below x p [] under h e =
        let same : x ≡ m = cc in
        ap pathless (sym h.0.parent ∙ ap (λ y. y.parent) same) ∙ alive
    below x p (y ∷ above) under h e = let rest : p ≡ above ++ m ∷ under = cc in at_new p h.1 (record { above = above; under = under; whole = rest })

    passed : (x : Message) (p : List Message) → IsLinkedPath b (m ∷ R) (x ∷ p) → RunsThrough root p → pathless (last_name b p) ≡ true → IsLinkedPath b R (x ∷ p) ⊎ Passes m (x ∷ p) → pathless (name_of x) ≡ true
    passed x p h t e (inl old) = k.passed x p old t e
    passed x p h t e (inr s) = absurd (true≢false (sym e ∙ below x p s.above s.under h s.whole))

pub known_above : KnownAbove
known_above b R root high pathless k linked sound through = record {
  at_root = at_root high linked sound through (pathless (last_name b high)) refl;
  really = k.really;
  passed = λ x p h t e. k.passed x p h (t.0 ++ through.0, t.1 ∙ ap (λ q. t.0 ++ q) through.1 ∙ sym (append_assoc t.0 through.0 root)) e;
}
  where
    none : (above : List Message) → [] ≡ above ++ root → root ≡ []
    none [] e = sym e
    none (x ∷ above) e = cc

    at_root : (p : List Message) → IsLinkedPath b R p → EachSound b p → RunsThrough root p → (t : Bool) → pathless (last_name b p) ≡ t → pathless (last_name b p) ≡ false
    at_root p l s t false e = e
    at_root [] l s t true e = subst (λ r. pathless (last_name b r) ≡ false) (none t.0 t.1) k.at_root
    at_root (x ∷ p) l s t true e = absurd (k.really x p l e s)

no_checkpoint : (line common : List Message) → NoCheckpoint line → to_checkpoint (line ++ common) ≡ to_checkpoint common
no_checkpoint [] common n = refl
no_checkpoint (m ∷ line) common n =
    ap (λ t. if t then m ∷ line ++ common else to_checkpoint (line ++ common)) (All-head (λ (x : Message). is_checkpoint x.kind ≡ false) m line n)
    ∙ no_checkpoint line common (All-tail (λ (x : Message). is_checkpoint x.kind ≡ false) m line n)

-- the last checkpoint of a part from the base on is no higher
to_lower : (p : List Message) → length (to_checkpoint p) ≤ length p
to_lower [] = omega arith
to_lower (m ∷ p) = go (is_checkpoint m.kind) (to_lower p)
  where
    go : (t : Bool) → length (to_checkpoint p) ≤ length p → length (if t then m ∷ p else to_checkpoint p) ≤ length (m ∷ p)
    go true h = omega arith
    go false h = omega (arith, h)

-- it is kept where more stands above, or a checkpoint stands there
to_more : (left p : List Message) → length (to_checkpoint p) ≤ length (to_checkpoint (left ++ p))
to_more [] p = omega arith
to_more (m ∷ left) p = go (is_checkpoint m.kind) (to_more left p) (to_lower p)
  where
    go : (t : Bool) → length (to_checkpoint p) ≤ length (to_checkpoint (left ++ p)) → length (to_checkpoint p) ≤ length p → length (to_checkpoint p) ≤ length (if t then m ∷ left ++ p else to_checkpoint (left ++ p))
    go true h l = omega (arith, l, length-append left p)
    go false h l = h

-- the cut of a part from the base on is no higher
cut_more : (left p : List Message) → length (cut p) ≤ length (cut (left ++ p))
cut_more [] p = omega arith
cut_more (m ∷ left) p = go (is_checkpoint m.kind) (cut_more left p)
  where
    under : (q : List Message) → length (to_checkpoint (drop 1 (to_checkpoint q))) ≤ length (to_checkpoint q)
    under q = lower (to_checkpoint q)
      where
        lower : (r : List Message) → length (to_checkpoint (drop 1 r)) ≤ length r
        lower [] = omega arith
        lower (x ∷ r) = omega (arith, to_lower r)

    go : (t : Bool) → length (cut p) ≤ length (cut (left ++ p)) → length (cut p) ≤ length (to_checkpoint (drop 1 (if t then m ∷ left ++ p else to_checkpoint (left ++ p))))
    go true h = omega (arith, under p, to_more left p)
    go false h = h

pub root_stays : RootStays
root_stays root left joined common none low = go (nat_lt (length root) (length (cut (joined ++ common)))) refl
  where
    same : cut (joined ++ common) ≡ cut common
    same = ap (λ q. to_checkpoint (drop 1 q)) (no_checkpoint joined common none)

    go : (t : Bool) → nat_lt (length root) (length (cut (joined ++ common))) ≡ t → higher root (cut (joined ++ common)) ≡ root
    go false e = ap (λ t. if t then cut (joined ++ common) else root) e
    go true e = absurd (omega (arith, ltb-true (length root) (length (cut (joined ++ common))) e, ap length same, cut_more left common, low))

pub found_stays : FoundStays
found_stays b R root m pathless found d are = record { once = are.once; each = each; marked = marked }
  where
    more : (p : List Message) → IsLinkedPath b R p → IsLinkedPath b (m ∷ R) p
    more p h = linked_more b R (m ∷ R) p (contains_more m R) h

    each : (n : Name) → Contains found n → IsFirstUnsound b (m ∷ R) n
    each n c = let f = are.each n c in record { message = f.message; below = f.below; named = f.named; linked = more (f.message ∷ f.below) f.linked; sound = f.sound; unsound = f.unsound }

    marked : (n : Name) (x : Message) (p : List Message) → Contains found n → name_of x ≡ n → IsLinkedPath b (m ∷ R) (x ∷ p) → RunsThrough root p → pathless n ≡ true
    marked n x p c named h t =
        let f = are.each n c in
        let same : x ∷ p ≡ f.message ∷ f.below = linked_unique b (m ∷ R) (x ∷ p) (f.message ∷ f.below) d h (more (f.message ∷ f.below) f.linked) (named ∙ sym f.named) in
        are.marked n x p c named (subst (IsLinkedPath b R) (sym same) f.linked) t

pub marks_pass : MarksPass
marks_pass b R root m pathless after d root_linked k parent_marked not_linked through still new only = record {
  at_root = at_root (after (last_name b root)) refl;
  really = λ x p h e. really x p h (linked_new b R m (x ∷ p) h) (only (name_of x) e);
  passed = λ x p h t e. passed x p h t (linked_new b R m (x ∷ p) h) (only (last_name b p) e);
}
  where
    Newly : Name → Type 0
    Newly n = (above : List Message) × (under : List Message) × IsLinkedPath b (m ∷ R) (above ++ m ∷ under) × (last_name b (above ++ m ∷ under) ≡ n)

    -- an old path is not new
    apart : (p above under : List Message) → IsLinkedPath b R p → IsLinkedPath b (m ∷ R) (above ++ m ∷ under) → last_name b (above ++ m ∷ under) ≡ last_name b p → ⊥
    apart p above under old h e =
        let same : above ++ m ∷ under ≡ p = linked_unique b (m ∷ R) (above ++ m ∷ under) p d h (linked_more b R (m ∷ R) p (contains_more m R) old) e in
        not_linked under (linked_below b R above (m ∷ under) (subst (IsLinkedPath b R) (sym same) old))

    none : (above : List Message) → [] ≡ above ++ root → root ≡ []
    none [] e = sym e
    none (x ∷ above) e = cc

    under_unsound : (under : List Message) → IsLinkedPath b (m ∷ R) (m ∷ under) → IsLinkedPath b R under ⊎ Passes m under → RunsThrough root under → ¬ (EachSound b under)
    under_unsound [] h c t s = true≢false (sym parent_marked ∙ ap pathless h.0.parent ∙ subst (λ r. pathless (last_name b r) ≡ false) (none t.0 t.1) k.at_root)
    under_unsound (y ∷ under) h (inl old) t s = k.really y under old (sym (ap pathless h.0.parent) ∙ parent_marked) s
    under_unsound (y ∷ under) h (inr c) t s =
        let lower : IsLinkedPath b (m ∷ R) (m ∷ c.under) = linked_below b (m ∷ R) c.above (m ∷ c.under) (subst (IsLinkedPath b (m ∷ R)) c.whole h.1) in
        let same : m ∷ y ∷ under ≡ m ∷ c.under = linked_unique b (m ∷ R) (m ∷ y ∷ under) (m ∷ c.under) d h lower refl in
        omega (arith, ap length same, ap length c.whole, length-append c.above (m ∷ c.under))

    passes_unsound : (p : List Message) → IsLinkedPath b (m ∷ R) p → Passes m p → ¬ (EachSound b p)
    passes_unsound p h c s =
        let lower : IsLinkedPath b (m ∷ R) (m ∷ c.under) = linked_below b (m ∷ R) c.above (m ∷ c.under) (subst (IsLinkedPath b (m ∷ R)) c.whole h) in
        under_unsound c.under lower (linked_new b R m c.under lower.1) (through c.under lower) (sound_below b c.above (m ∷ c.under) (subst (EachSound b) c.whole s)).1

    at_root : (t : Bool) → after (last_name b root) ≡ t → after (last_name b root) ≡ false
    at_root false e = e
    at_root true e = go (only (last_name b root) e)
      where
        go : (pathless (last_name b root) ≡ true) ⊎ Newly (last_name b root) → after (last_name b root) ≡ false
        go (inl w) = absurd (true≢false (sym w ∙ k.at_root))
        go (inr w) = absurd (apart root w.0 w.1 root_linked w.2 w.3)

    really : (x : Message) (p : List Message) → IsLinkedPath b (m ∷ R) (x ∷ p) → IsLinkedPath b R (x ∷ p) ⊎ Passes m (x ∷ p) → (pathless (name_of x) ≡ true) ⊎ Newly (name_of x) → ¬ (EachSound b (x ∷ p))
    really x p h (inr c) w = passes_unsound (x ∷ p) h c
    really x p h (inl old) (inl w) = k.really x p old w
    really x p h (inl old) (inr w) = absurd (apart (x ∷ p) w.0 w.1 old w.2 w.3)

    passed : (x : Message) (p : List Message) → IsLinkedPath b (m ∷ R) (x ∷ p) → RunsThrough root p → IsLinkedPath b R (x ∷ p) ⊎ Passes m (x ∷ p) → (pathless (last_name b p) ≡ true) ⊎ Newly (last_name b p) → after (name_of x) ≡ true
    passed x p h t (inr c) w = subst (λ q. after (last_name b q) ≡ true) (sym c.whole) (new c.above c.under (subst (IsLinkedPath b (m ∷ R)) c.whole h))
    passed x p h t (inl old) (inl w) = still (name_of x) (k.passed x p old t w)
    passed x p h t (inl old) (inr w) = absurd (apart p w.0 w.1 old.1 w.2 w.3)

pub found_above : FoundAbove
found_above b R root high pathless found are through = record {
  once = are.once;
  each = are.each;
  marked = λ n x p c named h t. are.marked n x p c named h (t.0 ++ through.0, t.1 ∙ ap (λ q. t.0 ++ q) through.1 ∙ sym (append_assoc t.0 through.0 root));
}

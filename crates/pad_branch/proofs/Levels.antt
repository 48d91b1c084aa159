-- The levels of what hangs on a name.
use Rattle.std.proofs.Common.{Option, ◌≡◌, ℕ, ◌+◌, ◌<◌, ◌≤◌, ◌⊎◌, inl, inr, List, [], ◌∷◌, ◌++◌, length, Contains, Bool, true, append_assoc, sym, ap, ◌∙◌, subst, arith}
use Rattle.std.specs.BTreeSet.{BTreeSet, Updates}
use Rattle.std.proofs.lemmas.List.Elements.{Contains-push_cases, Contains-append_left, Contains-push}
use Rattle.pad_text.specs.declared.name.Name.{Name}
use Rattle.pad_model.specs.declared.base.Base.{Base}
use Rattle.pad_message.specs.declared.message.Message.{Message}
use Rattle.pad_branch.specs.declared.held.Held.{Held}
use Rattle.pad_message.specs.Message.{name_of}
use Rattle.pad_graph.specs.State.{name_cmp}
use Rattle.pad_model.specs.Path.{last_name, IsLinkedPath, NamesDiffer}
use Rattle.pad_model.specs.Choice.{RunsThrough}
use Rattle.pad_branch.specs.Pathless.{HangsOn, KnowsPathless, pathless_in}
use Rattle.pad_branch.specs.Inside.Passing.{PassesOn, IsLinkedThrough, MarksNames, MarksChildren, IsChildOf}
use Rattle.pad_branch.specs.Choice.{AreLinkedOn}
use Rattle.pad_list.proofs.CallerLemmas.{contains_none, contains_head, contains_cases}
use Rattle.pad_model.proofs.CallerLemmas.{linked_unique, linked_below}
use Rattle.pad_branch.proofs.Marking.{here, still, only_one}

pub nothing : (table : Name → Option Held) (d : BTreeSet Name) (l : List Name) → MarksNames table [] d l d l
nothing table d l = record { still = λ n h. h; every = λ n c. absurd (contains_none n c); only = λ n h. inl h; kept = λ n c. c; added = λ n c. inl c }

pub below_start : (table : Name → Option Held) (children : Name → List Name) (d : BTreeSet Name) (next : List Name) → next ≡ [] → MarksChildren table children [] d d next
below_start table children d next e = record { still = λ n h. h; every = λ n b. absurd (contains_none b.parent b.among); only = λ n h. inl h; added = λ n c. absurd (contains_none n (subst (λ ns. Contains ns n) e c)) }

module _ (table : Name → Option Held) (children : Name → List Name) (over : List Name) (old now new : BTreeSet Name) (next more ns : List Name) (p : Name) (kids : (children p) ≡ ns) (d : MarksChildren table children over old now next) (s : MarksNames table ns now next new more) where
  up : (n : Name) → IsChildOf children over n → IsChildOf children (over ++ p ∷ []) n
  up n b = record { parent = b.parent; among = Contains-append_left over (p ∷ []) b.parent b.among; child = b.child }

  at_p : (n : Name) → Contains ns n → IsChildOf children (over ++ p ∷ []) n
  at_p n c = record { parent = p; among = Contains-push over p; child = subst (λ xs. Contains xs n) (sym kids) c }

  pub below_next : MarksChildren table children (over ++ p ∷ []) old new more
  below_next = record {
    still = λ n h. s.still n (d.still n h);
    every = λ n b. every n b (Contains-push_cases over p b.parent b.among);
    only = λ n h. only n (s.only n h);
    added = λ n c. added n (s.added n c);
  }
    where
      every : (n : Name) (b : IsChildOf children (over ++ p ∷ []) n) → Contains over b.parent ⊎ (p ≡ b.parent) → pathless_in table new n ≡ true
      every n b (inl c) = s.still n (d.every n (record { parent = b.parent; among = c; child = b.child }))
      every n b (inr e) = s.every n (subst (λ xs. Contains xs n) (ap (λ q. (children q)) (sym e) ∙ kids) b.child)

      lift : (n : Name) → Contains next n → (pathless_in table old n ≡ true) ⊎ (IsChildOf children over n × Contains next n) → (pathless_in table old n ≡ true) ⊎ (IsChildOf children (over ++ p ∷ []) n × Contains more n)
      lift n k (inl h) = inl h
      lift n k (inr (b, c)) = inr (up n b, s.kept n c)

      lift_old : (n : Name) → (pathless_in table old n ≡ true) ⊎ (IsChildOf children over n × Contains next n) → (pathless_in table old n ≡ true) ⊎ (IsChildOf children (over ++ p ∷ []) n × Contains more n)
      lift_old n (inl h) = inl h
      lift_old n (inr (b, c)) = inr (up n b, s.kept n c)

      only : (n : Name) → (pathless_in table now n ≡ true) ⊎ (Contains ns n × Contains more n) → (pathless_in table old n ≡ true) ⊎ (IsChildOf children (over ++ p ∷ []) n × Contains more n)
      only n (inl h) = lift_old n (d.only n h)
      only n (inr (c, l)) = inr (at_p n c, l)

      added : (n : Name) → Contains next n ⊎ (Contains ns n × (pathless_in table new n ≡ true)) → IsChildOf children (over ++ p ∷ []) n × (pathless_in table new n ≡ true)
      added n (inl c) = let a = d.added n c in (up n a.0, s.still n a.1)
      added n (inr (c, h)) = (at_p n c, h)

-- a message of the level stands on a linked path through the one named `first`, with more than `turn` messages
pub record AtLevel (base : Base) (received below : List Message) (first name : Name) (turn : ℕ) : Type 0 where
  pub over : List Message
  pub message : Message
  pub under : List Message
  pub linked : IsLinkedPath base received (over ++ message ∷ under)
  pub named : name_of message ≡ first
  pub through : RunsThrough below under
  pub last : last_name base (over ++ message ∷ under) ≡ name
  pub deep : turn < length (over ++ message ∷ under)

-- so far: what is pathless, and the level that has not passed it on yet
pub record Spreads (base : Base) (received below : List Message) (first : Name) (before : Name → Bool) (table : Name → Option Held) (now : BTreeSet Name) (level : List Name) (turn : ℕ) : Type 0 where
  pub start : pathless_in table now first ≡ true
  pub still : (n : Name) → before n ≡ true → pathless_in table now n ≡ true
  pub only : (n : Name) → pathless_in table now n ≡ true → (before n ≡ true) ⊎ HangsOn base received first n
  pub at_level : (n : Name) → Contains level n → AtLevel base received below first n turn
  pub closed : (m : Message) (p : List Message) → IsLinkedPath base received (m ∷ p) → RunsThrough below p → pathless_in table now (last_name base p) ≡ true → Contains level (last_name base p) ⊎ (pathless_in table now (name_of m) ≡ true)

module _ (b : Base) (R below : List Message) (d : NamesDiffer R) (first : Name) (table : Name → Option Held) (doomed : BTreeSet Name) (k : KnowsPathless b R below (pathless_in table doomed)) (l : IsLinkedThrough b R below first) where
  pub spreads_start : (new : BTreeSet Name) (level : List Name) → Updates name_cmp doomed new first true → level ≡ first ∷ [] → Spreads b R below first (pathless_in table doomed) table new level 0
  spreads_start new level u e = record {
    start = here table doomed new first u;
    still = still table doomed new first u;
    only = λ n h. only n (only_one table doomed new first u n h);
    at_level = λ n c. at_level n (contains_cases first [] n (subst (λ ns. Contains ns n) e c));
    closed = λ m p h t e. closed m p h t (only_one table doomed new first u (last_name b p) e);
  }
    where
      only : (n : Name) → (pathless_in table doomed n ≡ true) ⊎ (first ≡ n) → (pathless_in table doomed n ≡ true) ⊎ HangsOn b R first n
      only n (inl h) = inl h
      only n (inr s) = inr (record { above = []; message = l.message; below = l.path; linked = l.linked; named = l.named; last = l.named ∙ s })

      at_level : (n : Name) → (first ≡ n) ⊎ Contains [] n → AtLevel b R below first n 0
      at_level n (inl s) = record { over = []; message = l.message; under = l.path; linked = l.linked; named = l.named; through = l.through; last = l.named ∙ s; deep = omega arith }
      at_level n (inr c) = absurd (contains_none n c)

      closed : (m : Message) (p : List Message) → IsLinkedPath b R (m ∷ p) → RunsThrough below p → (pathless_in table doomed (last_name b p) ≡ true) ⊎ (first ≡ last_name b p) → Contains level (last_name b p) ⊎ (pathless_in table new (name_of m) ≡ true)
      closed m p h t (inl was) = inr (still table doomed new first u (name_of m) (k.passed m p h t was))
      closed m p h t (inr s) = inl (subst (λ ns. Contains ns (last_name b p)) (sym e) (subst (Contains (first ∷ [])) s (contains_head first [])))

  module _ (children : Name → List Name) (kids : AreLinkedOn b R below children) where
    pub spreads_on : (now new : BTreeSet Name) (level next : List Name) (turn : ℕ) → Spreads b R below first (pathless_in table doomed) table now level turn → MarksChildren table children level now new next → Spreads b R below first (pathless_in table doomed) table new next (turn + 1)
    spreads_on now new level next turn s w = record {
      start = w.still first s.start;
      still = λ n h. w.still n (s.still n h);
      only = λ n h. only n (w.only n h);
      at_level = λ n c. child n (w.added n c).0;
      closed = λ m p h t e. closed m p h t (w.only (last_name b p) e);
    }
      where
        child : (n : Name) → IsChildOf children level n → AtLevel b R below first n (turn + 1)
        child n x =
            let a = s.at_level x.parent x.among in
            let path : RunsThrough below (a.over ++ a.message ∷ a.under) = (a.over ++ a.message ∷ a.through.0, ap (λ q. a.over ++ a.message ∷ q) a.through.1 ∙ sym (append_assoc a.over (a.message ∷ a.through.0) below)) in
            let (m, linked, named) = kids.only (a.over ++ a.message ∷ a.under) n a.linked path (subst (λ q. Contains ((children q)) n) (sym a.last) x.child) in
            record { over = m ∷ a.over; message = a.message; under = a.under; linked = linked; named = a.named; through = a.through; last = named; deep = omega (arith, a.deep) }

        only : (n : Name) → (pathless_in table now n ≡ true) ⊎ (IsChildOf children level n × Contains next n) → (pathless_in table doomed n ≡ true) ⊎ HangsOn b R first n
        only n (inl h) = s.only n h
        only n (inr (x, c)) = let a = child n x in inr (record { above = a.over; message = a.message; below = a.under; linked = a.linked; named = a.named; last = a.last })

        turned : (m : Message) (p : List Message) → IsLinkedPath b R (m ∷ p) → RunsThrough below p → Contains level (last_name b p) ⊎ (pathless_in table now (name_of m) ≡ true) → pathless_in table new (name_of m) ≡ true
        turned m p h t (inl c) = w.every (name_of m) (record { parent = last_name b p; among = c; child = kids.every m p h t })
        turned m p h t (inr e) = w.still (name_of m) e

        closed : (m : Message) (p : List Message) → IsLinkedPath b R (m ∷ p) → RunsThrough below p → (pathless_in table now (last_name b p) ≡ true) ⊎ (IsChildOf children level (last_name b p) × Contains next (last_name b p)) → Contains next (last_name b p) ⊎ (pathless_in table new (name_of m) ≡ true)
        closed m p h t (inl e) = inr (turned m p h t (s.closed m p h t e))
        closed m p h t (inr (x, c)) = inl c

  pub spreads_done : (now : BTreeSet Name) (level : List Name) (turn : ℕ) → ((n : Name) → ¬ (Contains level n)) → Spreads b R below first (pathless_in table doomed) table now level turn → PassesOn b R below first (pathless_in table doomed) (pathless_in table now)
  spreads_done now level turn empty s = record { still = s.still; above = λ n h. subst (λ x. pathless_in table now x ≡ true) h.last (up h.above h.message h.below h.linked h.named (through h.above h.message h.below h.linked h.named)); only = s.only }
    where
      through : (over : List Message) (m : Message) (under : List Message) → IsLinkedPath b R (over ++ m ∷ under) → name_of m ≡ first → RunsThrough below under
      through over m under h named =
          let same : m ∷ under ≡ l.message ∷ l.path = linked_unique b R (m ∷ under) (l.message ∷ l.path) d (linked_below b R over (m ∷ under) h) l.linked (named ∙ sym l.named) in
          let rest : under ≡ l.path = cc in
          subst (RunsThrough below) (sym rest) l.through

      up : (over : List Message) (m : Message) (under : List Message) → IsLinkedPath b R (over ++ m ∷ under) → name_of m ≡ first → RunsThrough below under → pathless_in table now (last_name b (over ++ m ∷ under)) ≡ true
      up [] m under h named t = subst (λ x. pathless_in table now x ≡ true) (sym named) s.start
      up (x ∷ over) m under h named t = go (s.closed x (over ++ m ∷ under) h path (up over m under h.1 named t))
        where
          path : RunsThrough below (over ++ m ∷ under)
          path = (over ++ m ∷ t.0, ap (λ q. over ++ m ∷ q) t.1 ∙ sym (append_assoc over (m ∷ t.0) below))

          go : Contains level (last_name b (over ++ m ∷ under)) ⊎ (pathless_in table now (name_of x) ≡ true) → pathless_in table now (name_of x) ≡ true
          go (inl c) = absurd (empty (last_name b (over ++ m ∷ under)) c)
          go (inr e) = e

  pub spreads_end : (now : BTreeSet Name) (level : List Name) (turn longest : ℕ) → longest ≤ turn → ((p : List Message) → IsLinkedPath b R p → length p ≤ longest) → Spreads b R below first (pathless_in table doomed) table now level turn → PassesOn b R below first (pathless_in table doomed) (pathless_in table now)
  spreads_end now level turn longest all short s =
      spreads_done now level turn (λ n c. let a = s.at_level n c in let k = short (a.over ++ a.message ∷ a.under) a.linked in omega (arith, k, a.deep, all)) s

pub empty_none : (xs : List Name) → 0 ≡ length xs → (n : Name) → ¬ (Contains xs n)
empty_none xs e n c = omega (arith, c.1, e)

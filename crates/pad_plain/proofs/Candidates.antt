-- Linked paths, and the messages that wait, name by name.
use Rattle.std.proofs.Common.{◌≡◌, ◌≢◌, ◌↔◌, ℕ, ◌+◌, ◌-◌, ◌<◌, ◌≤◌, ◌⊎◌, inl, inr, List, [], ◌∷◌, ◌++◌, length, map, take, get_or, Contains, All, Option, Some, None, IsSome, is_some, false, true≢false, slice_get, is_eq, refl, sym, ap, ◌∙◌, subst, arith, append_assoc, append-nil}
use Rattle.std.specs.BTreeMap.{BTreeMap, IsOrdered, get}
use Rattle.std.specs.List.{AllByRecursion}
use Rattle.std.specs.List.Sorted.{IsStrictlySortedBy}
use Rattle.std.proofs.lemmas.List.{map-append, length-map, length-take-le}
use Rattle.std.proofs.lemmas.List.Elements.{All-contains, Contains-push_cases, Contains-push, Contains-append_left, Contains-get_or}
use Rattle.std.proofs.lemmas.Map.Keys.{sorted_head, sorted_tail}
use Rattle.std.proofs.lemmas.Map.Views.{Contains-keys_from_lookup, IsSome-lookup_from_Contains}
use Rattle.std.proofs.lemmas.Cmp.{on_total, eq_by_cmp_equiv}
use Rattle.std.specs.Cmp.{IsTotalOrder}
use Rattle.std.specs.Cmp.Lexicographic.{nat_list_cmp_total}
use Rattle.pad_text.specs.declared.name.Name.{Name}
use Rattle.pad_message.specs.declared.message.Message.{Message}
use Rattle.pad_message.specs.Message.{name_of}
use Rattle.pad_model.specs.declared.base.Base.{Base}
use Rattle.pad_plain.specs.declared.candidate.Candidate.{Candidate}
use Rattle.pad_plain.specs.declared.links.Links.{Links}
use Rattle.pad_model.specs.Path.{IsLinkedPath, IsLinked, NamesDiffer}
use Rattle.pad_list.specs.Number.{NoRepeat, IsNumberOf}
use Rattle.pad_model.specs.Count.{IsKnown, IsWaiting}
use Rattle.pad_plain.specs.Messages.{IsPlaceOf}
use Rattle.pad_plain.specs.Inside.Table.{name_cmp, IsTableOf}
use Rattle.pad_plain.specs.Inside.Walk.{messages_at, LeadsTo}
use Rattle.pad_plain.specs.Inside.Links.{IsCandidate, AreLinks}
use Rattle.pad_list.proofs.CallerLemmas.{contains_head, contains_more, contains_cases, contains_none, no_repeat_front, no_repeat_push, number_none, number_same, number_more, number_listed, number_without, mapped_from}
use Rattle.pad_model.proofs.CallerLemmas.{less_itself}
use Rattle.pad_plain.proofs.Tables.{name_same}
use Rattle.pad_plain.proofs.Places.{messages_length, member_at, place_of, get_take, take_get, take_member}

pub candidate_from : (b : Base) (R : List Message) (place : ℕ) (v : List ℕ) (n : ℕ) (name : Name) → LeadsTo b R place (messages_at R v) → All (λ i. i < length R) v → n ≡ length v → ((m : Message) → slice_get R place ≡ Some m → name_of m ≡ name) → IsCandidate b R (record { height = record { 0 = n }; name = name; place = place })
candidate_from b R place v n name to within e named = record {
  last = to.last;
  before = to.before;
  at_place = to.at_place;
  named = sym (named to.last to.at_place);
  high = omega (arith, e, messages_length R v within, ap length to.whole);
  linked = subst (IsLinkedPath b R) to.whole to.linked;
}

-- the names of entries
abbrev pub names : List (Name × ℕ) → List Name
names entries = map (λ e. e.0) entries

-- a message with this name stands at this place
abbrev pub IsPlaced : List Message → Name × ℕ → Type 0
IsPlaced R entry = (m : Message) × (slice_get R entry.1 ≡ Some m) × (name_of m ≡ entry.0)

-- the entries of the table that are done and those that are left, and what was found at those that are done
pub record Sorting (b : Base) (R : List Message) (left : List (Name × ℕ)) (candidates : List Candidate) (waiting : ℕ) : Type 0 where
  pub done : List Name
  pub all : (m : Message) → Contains R m → Contains (done ++ names left) (name_of m)
  pub apart : NoRepeat (done ++ names left)
  pub placed : (entry : Name × ℕ) → Contains left entry → entry.1 < length R → IsPlaced R entry
  pub behind : (entry : Name × ℕ) → Contains left entry → length R ≤ entry.1 → (m : Message) → Contains R m → name_of m ≢ entry.0
  pub each : (c : Candidate) → Contains candidates c → IsCandidate b R c × Contains done c.name
  pub once : NoRepeat (map (λ c. c.name) candidates)
  pub every : NamesDiffer R → (m : Message) → Contains done (name_of m) → IsLinked b R m → (c : Candidate) × Contains candidates c × (c.name ≡ name_of m)
  pub waits : NamesDiffer R → IsNumberOf (λ m. Contains done (name_of m) × IsWaiting b R m) waiting

-- ---- the table

-- what holds of each holds of a member
each_of : {A : Type 0} (P : A → Type 0) (xs : List A) (x : A) → AllByRecursion P xs → Contains xs x → P x
each_of P [] x h c = absurd (contains_none x c)
each_of {A = A} P (y ∷ xs) x h c = go (contains_cases y xs x c) (each_of P xs x h.1)
  where
    go : (y ≡ x) ⊎ Contains xs x → (Contains xs x → P x) → P x
    go (inl e) rest = subst P e h.0
    go (inr k) rest = rest k

ordered_once : (ns : List Name) → IsStrictlySortedBy name_cmp ns → NoRepeat ns
ordered_once [] h = tt
ordered_once (n ∷ ns) h = (λ c. less_itself n (each_of (λ y. name_cmp n y ≡ _) ns n (sorted_head name_cmp n ns h) c), ordered_once ns (sorted_tail name_cmp n ns h))

name_total : IsTotalOrder name_cmp
name_total = on_total (λ n. n.0) nat_list_cmp_total

module _ (R : List Message) (places : BTreeMap Name ℕ) (table : IsTableOf R places) where
  in_table : (m : Message) → Contains R m → Contains (names places.entries) (name_of m)
  in_table m c = Contains-keys_from_lookup {eq = λ x y. is_eq (name_cmp x y)} name_same (name_of m) places.entries (go (get name_cmp places (name_of m)) (table (name_of m)))
    where
      go : (found : Option ℕ) → IsPlaceOf R (name_of m) found → IsSome found
      go None h = absurd (h m c refl)
      go (Some p) h = refl

  from_table : (n : Name) → Contains (names places.entries) n → (m : Message) × Contains R m × (name_of m ≡ n)
  from_table n c = go (get name_cmp places n) (IsSome-lookup_from_Contains (eq_by_cmp_equiv name_total) n places.entries c) (table n)
    where
      go : (found : Option ℕ) → IsSome found → IsPlaceOf R n found → (m : Message) × Contains R m × (name_of m ≡ n)
      go None h p = cc
      go (Some place) h p = (p.0, member_at R place p.0 p.1, p.2)

  is_known : (b : Base) (n : Name) → (Contains (names places.entries) n × (n ≢ b.name)) ↔ IsKnown b R n
  is_known b n = (λ h. let m = from_table n h.0 in (m.0, m.1, m.2, h.1), λ k. (subst (Contains (names places.entries)) k.2 (in_table k.0 k.1), k.3))

  pub known_with_base : (b : Base) → IsOrdered name_cmp places → IsSome (get name_cmp places b.name) → IsNumberOf (IsKnown b R) (length places.entries - 1)
  known_with_base b order some =
      subst (λ n. IsNumberOf (IsKnown b R) (n - 1)) (length-map places.entries (λ e. e.0))
      (number_same _ (IsKnown b R) _ (is_known b) (number_without (names places.entries) b.name (ordered_once _ order) (Contains-keys_from_lookup {eq = λ x y. is_eq (name_cmp x y)} name_same b.name places.entries some)))

  pub known_without_base : (b : Base) → IsOrdered name_cmp places → is_some (get name_cmp places b.name) ≡ false → IsNumberOf (IsKnown b R) (length places.entries)
  known_without_base b order none =
      subst (IsNumberOf (IsKnown b R)) (length-map places.entries (λ e. e.0))
      (number_same _ (IsKnown b R) _ (λ n. (λ c. (is_known b n).0 (c, λ e. not_there (subst (Contains (names places.entries)) e c)), λ k. ((is_known b n).1 k).0)) (number_listed (names places.entries) (ordered_once _ order)))
    where
      not_there : ¬ (Contains (names places.entries) b.name)
      not_there c = let h = IsSome-lookup_from_Contains (eq_by_cmp_equiv name_total) b.name places.entries c in true≢false (sym h ∙ none)

  -- the entries as the first messages have them
  pub sorting_start : (b : Base) (count : ℕ) → count ≤ length R → IsOrdered name_cmp places → All (λ e. get name_cmp places e.0 ≡ Some e.1) places.entries → (cs : List Candidate) → cs ≡ [] → Sorting b (take count R) places.entries cs 0
  sorting_start b count few order entries cs e = record {
    done = [];
    all = λ m c. in_table m (take_member count R m c);
    apart = ordered_once (names places.entries) order;
    placed = λ x c less. let at = entry_at x c in (at.0, get_take count R x.1 at.0 (omega (arith, less, many)) at.1, at.2);
    behind = λ x c less m k. let at = entry_at x c in let p = place_of (take count R) m k in let q = take_get count R p.0 m p.1 in at.3 p.0 m (omega (arith, less, many, q.0)) q.1;
    each = λ c k. absurd (contains_none c (subst (λ xs. Contains xs c) e k));
    once = subst (λ xs. NoRepeat (map (λ c. c.name) xs)) (sym e) tt;
    every = λ d m c. absurd (contains_none (name_of m) c);
    waits = λ d. number_none _ (λ m p. contains_none (name_of m) p.0);
  }
    where
      many : length (take count R) ≡ count
      many = length-take-le count R few

      entry_at : (x : Name × ℕ) → Contains places.entries x → IsPlaceOf R x.0 (Some x.1)
      entry_at x c = subst (IsPlaceOf R x.0) (All-contains (λ e. get name_cmp places e.0 ≡ Some e.1) places.entries x entries c) (table x.0)

-- a place among the first messages, and one behind them
pub among_first : (R S : List Message) (count place : ℕ) → S ≡ take count R → count ≤ length R → place < count → place < length S
among_first R S count place e few less = omega (arith, ap length e, length-take-le count R few, less)

pub behind_first : (R S : List Message) (count place : ℕ) → S ≡ take count R → count ≤ length R → count ≤ place → length S ≤ place
behind_first R S count place e few less = omega (arith, ap length e, length-take-le count R few, less)

-- ---- one entry more

pub first_placed : (b : Base) (R : List Message) (left : List (Name × ℕ)) (cs : List Candidate) (waiting : ℕ) (entry : Name × ℕ) (rest : List (Name × ℕ)) → Sorting b R left cs waiting → left ≡ entry ∷ rest → entry.1 < length R → IsPlaced R entry
first_placed b R left cs waiting entry rest s e = s.placed entry (subst (λ xs. Contains xs entry) (sym e) (contains_head entry rest))

module _ (b : Base) (R : List Message) (n : Name) (p : ℕ) (left : List (Name × ℕ)) (cs : List Candidate) (waiting : ℕ) (s : Sorting b R ((n, p) ∷ left) cs waiting) where
  same : s.done ++ names ((n, p) ∷ left) ≡ (s.done ++ n ∷ []) ++ names left
  same = sym (append_assoc s.done (n ∷ []) (names left))

  new : ¬ (Contains s.done n)
  new = no_repeat_front s.done n (names left) s.apart

  more_done : (x : Name) → Contains s.done x → Contains (s.done ++ n ∷ []) x
  more_done x = Contains-append_left s.done (n ∷ []) x

  -- under no clash of names it is the only message with this name
  is_here : (here : IsPlaced R (n, p)) → NamesDiffer R → (m : Message) → Contains R m → n ≡ name_of m → here.0 ≡ m
  is_here here d m c e = d here.0 m (member_at R p here.0 here.1) c (here.2 ∙ e)

  abbrev waits_before : Message → Type 0
  waits_before m = Contains s.done (name_of m) × IsWaiting b R m

  abbrev waits_now : Message → Type 0
  waits_now m = Contains (s.done ++ n ∷ []) (name_of m) × IsWaiting b R m

  -- no message with this name waits
  none_more : ((m : Message) → n ≡ name_of m → ¬ (IsWaiting b R m)) → IsNumberOf waits_before waiting → IsNumberOf waits_now waiting
  none_more none = number_same waits_before waits_now waiting (λ m. (λ h. (more_done (name_of m) h.0, h.1), λ h. go m h (Contains-push_cases s.done n (name_of m) h.0)))
    where
      go : (m : Message) → waits_now m → Contains s.done (name_of m) ⊎ (n ≡ name_of m) → waits_before m
      go m h (inl c) = (c, h.1)
      go m h (inr e) = absurd (none m e h.1)

  -- no message but one with the base's name has this name
  sorting_skipped : ((m : Message) → Contains R m → n ≡ name_of m → name_of m ≡ b.name) → Sorting b R left cs waiting
  sorting_skipped none = record {
    done = s.done ++ n ∷ [];
    all = λ m c. subst (λ xs. Contains xs (name_of m)) same (s.all m c);
    apart = subst NoRepeat same s.apart;
    placed = λ e c. s.placed e (contains_more (n, p) left e c);
    behind = λ e c. s.behind e (contains_more (n, p) left e c);
    each = λ c k. ((s.each c k).0, more_done c.name (s.each c k).1);
    once = s.once;
    every = λ d m c linked. go d m linked (Contains-push_cases s.done n (name_of m) c);
    waits = λ d. none_more (λ m e w. w.1 (none m w.0 e)) (s.waits d);
  }
    where
      go : NamesDiffer R → (m : Message) → IsLinked b R m → Contains s.done (name_of m) ⊎ (n ≡ name_of m) → (c : Candidate) × Contains cs c × (c.name ≡ name_of m)
      go d m linked (inl c) = s.every d m c linked
      go d m linked (inr e) = absurd (linked.1.0.not_base (none m linked.1.0.member e))

  -- the base's name
  pub sorting_base : n ≡ b.name → Sorting b R left cs waiting
  sorting_base at_base = sorting_skipped (λ m c e. sym e ∙ at_base)

  -- a name of messages behind these alone
  pub sorting_behind : length R ≤ p → Sorting b R left cs waiting
  sorting_behind less = sorting_skipped (λ m c e. absurd (s.behind (n, p) (contains_head (n, p) left) less m c (sym e)))

  -- a linked path ends in it
  pub sorting_linked : (c : Candidate) → IsCandidate b R c → c.name ≡ n → Sorting b R left (cs ++ c ∷ []) waiting
  sorting_linked c is named = record {
    done = s.done ++ n ∷ [];
    all = λ m k. subst (λ xs. Contains xs (name_of m)) same (s.all m k);
    apart = subst NoRepeat same s.apart;
    placed = λ e k. s.placed e (contains_more (n, p) left e k);
    behind = λ e k. s.behind e (contains_more (n, p) left e k);
    each = λ x k. one x (Contains-push_cases cs c x k);
    once = subst NoRepeat (sym (map-append (λ x. x.name) cs (c ∷ []))) (no_repeat_push (map (λ x. x.name) cs) c.name s.once (λ k. again (mapped_from (λ x. x.name) cs c.name k)));
    every = λ d m k linked. go d m linked (Contains-push_cases s.done n (name_of m) k);
    waits = λ d. none_more (λ m e w. w.2 (subst (IsLinked b R) (d is.last m (member_at R c.place is.last is.at_place) w.0 (sym is.named ∙ named ∙ e)) (is.before, is.linked))) (s.waits d);
  }
    where
      one : (x : Candidate) → Contains cs x ⊎ (c ≡ x) → IsCandidate b R x × Contains (s.done ++ n ∷ []) x.name
      one x (inl k) = ((s.each x k).0, more_done x.name (s.each x k).1)
      one x (inr e) = subst (λ y. IsCandidate b R y × Contains (s.done ++ n ∷ []) y.name) e (is, subst (Contains (s.done ++ n ∷ [])) (sym named) (Contains-push s.done n))

      again : ¬ ((x : Candidate) × Contains cs x × (x.name ≡ c.name))
      again (x, k, e) = new (subst (Contains s.done) (e ∙ named) (s.each x k).1)

      go : NamesDiffer R → (m : Message) → IsLinked b R m → Contains s.done (name_of m) ⊎ (n ≡ name_of m) → (x : Candidate) × Contains (cs ++ c ∷ []) x × (x.name ≡ name_of m)
      go d m linked (inl k) = let x = s.every d m k linked in (x.0, Contains-append_left cs (c ∷ []) x.0 x.1, x.2)
      go d m linked (inr e) = (c, Contains-push cs c, named ∙ e)

  -- it waits
  pub sorting_waiting : p < length R → n ≢ b.name → (NamesDiffer R → (m : Message) → slice_get R p ≡ Some m → ¬ (IsLinked b R m)) → Sorting b R left cs (waiting + 1)
  sorting_waiting inside above unlinked = record {
    done = s.done ++ n ∷ [];
    all = λ m c. subst (λ xs. Contains xs (name_of m)) same (s.all m c);
    apart = subst NoRepeat same s.apart;
    placed = λ e c. s.placed e (contains_more (n, p) left e c);
    behind = λ e c. s.behind e (contains_more (n, p) left e c);
    each = λ c k. ((s.each c k).0, more_done c.name (s.each c k).1);
    once = s.once;
    every = λ d m c linked. go d m linked (Contains-push_cases s.done n (name_of m) c);
    waits = λ d. number_same _ waits_now (waiting + 1) (λ m. (to d m, λ h. from d m h (Contains-push_cases s.done n (name_of m) h.0))) (number_more waits_before waiting here.0 (λ h. new (subst (Contains s.done) here.2 h.0)) (s.waits d));
  }
    where
      -- the message of the entry
      here : IsPlaced R (n, p)
      here = s.placed (n, p) (contains_head (n, p) left) inside

      go : NamesDiffer R → (m : Message) → IsLinked b R m → Contains s.done (name_of m) ⊎ (n ≡ name_of m) → (c : Candidate) × Contains cs c × (c.name ≡ name_of m)
      go d m linked (inl c) = s.every d m c linked
      go d m linked (inr e) = absurd (unlinked d here.0 here.1 (subst (IsLinked b R) (sym (is_here here d m linked.1.0.member e)) linked))

      waiting_here : NamesDiffer R → waits_now here.0
      waiting_here d = (subst (Contains (s.done ++ n ∷ [])) (sym here.2) (Contains-push s.done n), (member_at R p here.0 here.1, λ e. above (sym here.2 ∙ e), unlinked d here.0 here.1))

      to : NamesDiffer R → (m : Message) → (here.0 ≡ m) ⊎ waits_before m → waits_now m
      to d m (inl e) = subst waits_now e (waiting_here d)
      to d m (inr h) = (more_done (name_of m) h.0, h.1)

      from : NamesDiffer R → (m : Message) → waits_now m → Contains s.done (name_of m) ⊎ (n ≡ name_of m) → (here.0 ≡ m) ⊎ waits_before m
      from d m h (inl c) = inr (c, h.1)
      from d m h (inr e) = inl (is_here here d m h.1.0 e)

pub sorting_each : (b : Base) (R : List Message) (left : List (Name × ℕ)) (cs : List Candidate) (waiting : ℕ) → Sorting b R left cs waiting → All (IsCandidate b R) cs
sorting_each b R left cs waiting s k d h = (s.each (get_or cs k d) (Contains-get_or cs k d h)).0

-- no entry is left
pub sorting_end : (b : Base) (R : List Message) (links : Links) → Sorting b R [] links.candidates.items links.waiting → NamesDiffer R → AreLinks b R links
sorting_end b R links s d = record {
  every = λ m linked. s.every d m (done m linked.1.0.member) linked;
  once = s.once;
  waits = number_same _ _ links.waiting (λ m. (λ h. h.1, λ w. (done m w.0, w))) (s.waits d);
}
  where
    done : (m : Message) → Contains R m → Contains s.done (name_of m)
    done m c = subst (λ xs. Contains xs (name_of m)) (append-nil s.done) (s.all m c)

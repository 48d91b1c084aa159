-- Paths through the kept root.
use Rattle.std.proofs.Common.{◌≡◌, ◌≢◌, ℕ, zero, suc, ◌+◌, ◌-◌, ◌<◌, ◌≤◌, ◌⊎◌, inl, inr, List, [], ◌∷◌, ◌++◌, length, map, take, drop, get_or, drop-cons, take-append-drop, Contains, All, Bool, true, false, nat_eq, MatchBool, Some, slice_get, refl, sym, ap, ◌∙◌, subst, arith, length-append, length-drop}
use Rattle.std.proofs.lemmas.List.Elements.{filter_map-append, All-drop}
use Rattle.std.proofs.lemmas.Option.{slice_get-map, get_or_from_slice_get}
use Rattle.std.specs.Option.{option_map}
use Rattle.std.specs.Cmp.Lexicographic.{pointwise}
use Rattle.pad_text.specs.declared.name.Name.{Name}
use Rattle.pad_message.specs.declared.message.Message.{Message}
use Rattle.pad_message.specs.Message.{name_of}
use Rattle.pad_model.specs.declared.base.Base.{Base}
use Rattle.pad_model.specs.Path.{last_name, IsLinkedPath, EachSound, NamesDiffer}
use Rattle.pad_model.specs.Choice.{RunsThrough}
use Rattle.pad_plain.specs.declared.candidate.Candidate.{Candidate}
use Rattle.pad_plain.specs.declared.path.Tip.{Tip}
use Rattle.pad_plain.specs.Tip.{IsTipOf}
use Rattle.pad_plain.specs.Inside.Walk.{messages_at, LeadsTo}
use Rattle.pad_plain.specs.Inside.Links.{IsCandidate}
use Rattle.pad_plain.specs.Inside.Through.{IsRoot}
use Rattle.pad_model.proofs.CallerLemmas.{linked_unique, linked_below, two_ends}
use Rattle.pad_plain.proofs.Places.{some_same, found_at, messages_step, messages_length, name_yes, name_no}
use Rattle.pad_plain.proofs.Evaluated.{lower, lower_length, drop_past}

-- ---- names by places

pub named_at : (R : List Message) (names : List Name) (i : ℕ) (x : Message) (d : Name) → names ≡ map name_of R → slice_get R i ≡ Some x → get_or names i d ≡ name_of x
named_at R names i x d named at =
    get_or_from_slice_get names i (name_of x) d (ap (λ ns. slice_get ns i) named ∙ slice_get-map name_of R i ∙ ap (option_map name_of) at)

-- the first of the places from number k on
pub lower_first : (R : List Message) (v : List ℕ) (k : ℕ) → All (λ i. i < length R) v → k < length v → (x : Message) × (slice_get R (get_or v k 0) ≡ Some x) × (lower R v k ≡ x ∷ lower R v (suc k))
lower_first R v k within below =
    let x = found_at R (get_or v k 0) (within k 0 below) in
    (x.0, x.1, ap (messages_at R) (drop-cons v k 0 below) ∙ messages_step R (drop (suc k) v) (get_or v k 0) x.0 x.1)

pub name_high : (b : Base) (R : List Message) (names : List Name) (v : List ℕ) (k : ℕ) (d : Name) → names ≡ map name_of R → All (λ i. i < length R) v → k < length v → get_or names (get_or v k 0) d ≡ last_name b (lower R v k)
name_high b R names v k d named within below =
    let x = lower_first R v k within below in
    named_at R names (get_or v k 0) x.0 d named x.1 ∙ ap (last_name b) (sym x.2)

pub name_at_base : (b : Base) (R : List Message) (v : List ℕ) (k : ℕ) → length v ≤ k → b.name ≡ last_name b (lower R v k)
name_at_base b R v k h = ap (λ w. last_name b (messages_at R w)) (sym (drop_past v k h))

-- ---- running through

upper_lower : (R : List Message) (v : List ℕ) (k : ℕ) → messages_at R v ≡ messages_at R (take k v) ++ lower R v k
upper_lower R v k = sym (sym (filter_map-append (slice_get R) (take k v) (drop k v)) ∙ ap (messages_at R) (take-append-drop k v))

none_long : {A : Type 0} (xs : List A) → length xs ≡ 0 → xs ≡ []
none_long [] e = refl
none_long (x ∷ xs) e = absurd (omega (arith, e))

-- two ends of one length are one
same_ends : {A : Type 0} (u v r q : List A) → u ++ r ≡ v ++ q → length r ≡ length q → q ≡ r
same_ends u v r q e h =
    let w = two_ends u v r q e (omega (arith, h)) in
    w.1 ∙ ap (λ z. z ++ r) (none_long w.0 (omega (arith, ap length w.1, length-append w.0 r, h)))

module _ (b : Base) (R : List Message) (v : List ℕ) (root : Tip) (path : List Message) (within : All (λ i. i < length R) v) (is : IsRoot b R root path) where
  pub too_high : length v < root.height → ¬ (RunsThrough path (messages_at R v))
  too_high high (above, e) = omega (arith, high, is.tip.high, ap length e, length-append above path, messages_length R v within)

  pub by_name : root.height ≤ length v → NamesDiffer R → IsLinkedPath b R (messages_at R v) → last_name b (lower R v (length v - root.height)) ≡ root.name → RunsThrough path (messages_at R v)
  by_name high d linked e =
      let k = length v - root.height in
      let low = linked_below b R (messages_at R (take k v)) (lower R v k) (subst (IsLinkedPath b R) (upper_lower R v k) linked) in
      let same : lower R v k ≡ path = linked_unique b R (lower R v k) path d low is.linked (e ∙ is.tip.named) in
      (messages_at R (take k v), upper_lower R v k ∙ ap (λ q. messages_at R (take k v) ++ q) same)

  pub by_other_name : root.height ≤ length v → last_name b (lower R v (length v - root.height)) ≢ root.name → ¬ (RunsThrough path (messages_at R v))
  by_other_name high n (above, e) =
      let k = length v - root.height in
      let long : length path ≡ length (lower R v k) = omega (arith, is.tip.high, lower_length R v k within, high) in
      let same : lower R v k ≡ path = same_ends above (messages_at R (take k v)) path (lower R v k) (sym e ∙ upper_lower R v k) long in
      n (ap (last_name b) same ∙ sym is.tip.named)

  -- what a comparison of names says
  pub runs_said : (t : Bool) (n : Name) → n ≡ last_name b (lower R v (length v - root.height)) → t ≡ pointwise nat_eq n.0 root.name.0 → root.height ≤ length v → NamesDiffer R → IsLinkedPath b R (messages_at R v) → MatchBool t (RunsThrough path (messages_at R v)) (¬ (RunsThrough path (messages_at R v)))
  runs_said true n e same high d linked = by_name high d linked (sym e ∙ name_yes n root.name same)
  runs_said false n e same high d linked = by_other_name high (λ q. name_no n root.name same (e ∙ q))

-- ---- a linked path to the message at a place

-- a candidate's name is that of the path to its last message
pub leads_named : (b : Base) (R : List Message) (c : Candidate) (path : List Message) → IsCandidate b R c → LeadsTo b R c.place path → c.name ≡ last_name b path
leads_named b R c path is to = is.named ∙ ap name_of (some_same is.last to.last (sym is.at_place ∙ to.at_place)) ∙ ap (last_name b) (sym to.whole)

-- it is the one that was found
pub same_path : (b : Base) (R : List Message) (place : ℕ) (path : List Message) → LeadsTo b R place path → NamesDiffer R → (m : Message) (q : List Message) → slice_get R place ≡ Some m → IsLinkedPath b R (m ∷ q) → m ∷ q ≡ path
same_path b R place path to d m q at_m h =
    let same : m ≡ to.last = some_same m to.last (sym at_m ∙ to.at_place) in
    linked_unique b R (m ∷ q) path d h to.linked (ap name_of same ∙ ap (last_name b) (sym to.whole))

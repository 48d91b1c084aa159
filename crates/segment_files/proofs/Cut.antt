-- A segment of which some front is left.
use Rattle.std.proofs.Common.{◌≡◌, ◌≢◌, ◌∙◌, ◌⊎◌, inl, inr, ℕ, zero, suc, ◌+◌, Bool, true, false, List, [], ◌∷◌, ◌++◌, length, take, Option, Some, None, refl, sym, ap, subst, arith}
use Rattle.std.proofs.lemmas.Bool.{cases_eq}
use Rattle.log_format.specs.declared.form.Form.{Form}
use Rattle.log_format.specs.File.{opens}
use Rattle.log_format.specs.Form.{magic_of}
use Rattle.log_format.proofs.CallerLemmas.{opens-front, length-magic}
use Rattle.gated_log.specs.Ledger.{LeavesOut}
use Rattle.segment_files.specs.Joined.{segment_opens, has_payloads, Filled, Joins, opens_joined}
use Rattle.segment_files.specs.Names.{segment_name}

-- lists with payloads left out
more_out : (left front more : List (List ℕ)) → LeavesOut left front → LeavesOut left (front ++ more)
more_out [] front more out = tt
more_out (payload ∷ left) [] more out = absurd out
more_out (payload ∷ left) (first ∷ front) more (inl (same, out)) = inl (same, more_out left front more out)
more_out (payload ∷ left) (first ∷ front) more (inr out) = inr (more_out (payload ∷ left) front more out)

one_out : (left whole : List (List ℕ)) (first : List ℕ) → LeavesOut left whole → LeavesOut left (first ∷ whole)
one_out [] whole first out = tt
one_out (payload ∷ left) whole first out = inr out

both_out : (left front left' last : List (List ℕ)) → LeavesOut left front → LeavesOut left' last → LeavesOut (left ++ left') (front ++ last)
both_out [] [] left' last out out' = out'
both_out [] (first ∷ front) left' last out out' = one_out left' (front ++ last) first (both_out [] front left' last tt out')
both_out (payload ∷ left) [] left' last out out' = absurd out
both_out (payload ∷ left) (first ∷ front) left' last (inl (same, out)) out' = inl (same, both_out left front left' last out out')
both_out (payload ∷ left) (first ∷ front) left' last (inr out) out' = inr (both_out (payload ∷ left) front left' last out out')

front_out : (count : ℕ) (payloads : List (List ℕ)) → LeavesOut (take count payloads) payloads
front_out zero payloads = tt
front_out (suc count) [] = tt
front_out (suc count) (payload ∷ payloads) = inl (refl, front_out count payloads)

none_out : (payloads : List (List ℕ)) → LeavesOut payloads payloads
none_out [] = tt
none_out (payload ∷ payloads) = inl (refl, none_out payloads)

-- each segment opens as its list with some payloads left out
abbrev pub EachLeaves : (before after : ℕ → Option (List (List ℕ))) → Type 0
EachLeaves before after = (k : ℕ) (payloads : List (List ℕ)) → before k ≡ Some payloads → (left : List (List ℕ)) × LeavesOut left payloads × (after k ≡ Some left)

-- the first segments are still filled, or one of them opens as empty
abbrev pub Still : (after : ℕ → Option (List (List ℕ))) (count : ℕ) (payloads : List (List ℕ)) → Type 0
Still after count payloads =
    ((left : List (List ℕ)) × LeavesOut left payloads × Filled after count left) ⊎ ((left : List (List ℕ)) × LeavesOut left payloads × Joins after left)

next_still : (after : ℕ → Option (List (List ℕ))) (count : ℕ) (front last left left' : List (List ℕ)) → LeavesOut left front → Filled after count left
    → LeavesOut left' last → after count ≡ Some left' → Still after (suc count) (front ++ last)
next_still after count front last left [] out filled out' is = inr (left, more_out left front last out, (count, filled, is))
next_still after count front last left (payload ∷ left') out filled out' is =
    inl (left ++ payload ∷ left', both_out left front (payload ∷ left') last out out', (left, payload ∷ left', filled, is, refl, refl))

filled_still : (before after : ℕ → Option (List (List ℕ))) (count : ℕ) (payloads : List (List ℕ)) → EachLeaves before after → Filled before count payloads → Still after count payloads
filled_still before after zero payloads each filled = inl ([], tt, refl)
filled_still before after (suc count) payloads each (front, last, filled, is, some, whole) = elim (filled_still before after count front each filled) [
  | inl (left, out, there) ↦
      let kept = each count last is in
      subst (Still after (suc count)) (sym whole) (next_still after count front last left kept.0 out there kept.1 kept.2)
  | inr (left, out, joins) ↦ inr (left, subst (LeavesOut left) (sym whole) (more_out left front last out), joins)
]

joins_still : (before after : ℕ → Option (List (List ℕ))) (payloads : List (List ℕ)) → EachLeaves before after → Joins before payloads
    → (left : List (List ℕ)) × LeavesOut left payloads × Joins after left
joins_still before after payloads each (count, filled, ends) = elim (filled_still before after count payloads each filled) [
  | inl (left, out, there) ↦ let kept = each count [] ends in (left, out, (count, there, kept.2 ∙ ap Some (nothing kept.0 kept.1)))
  | inr joins ↦ joins
]
  where
    nothing : (left : List (List ℕ)) → LeavesOut left [] → left ≡ []
    nothing [] out = refl
    nothing (payload ∷ left) out = absurd out

pub cut_leaves : (form : Form) (name : List ℕ) (before after : List ℕ → List ℕ) (cut size : ℕ) (payloads : List (List ℕ))
    → after (segment_name name cut) ≡ take size (before (segment_name name cut))
    → ((other : ℕ) → other ≢ cut → after (segment_name name other) ≡ before (segment_name name other))
    → opens_joined form name before payloads → (left : List (List ℕ)) × LeavesOut left payloads × opens_joined form name after left
cut_leaves form name before after cut size payloads here others = joins_still (segment_opens form name before) (segment_opens form name after) payloads each
  where
    each : EachLeaves (segment_opens form name before) (segment_opens form name after)
    each k list is = elim (cases_eq k cut) [
      | inl same ↦
          let opened = ap (λ n. segment_opens form name before n) (sym same) ∙ is in
          let front = opens-front (magic_of form) (before (segment_name name cut)) list size (length-magic form) opened in
          (take front.0 list, front_out front.0 list, ap (λ n. segment_opens form name after n) same ∙ ap (opens (magic_of form)) here ∙ front.1)
      | inr differ ↦ (list, none_out list, ap (opens (magic_of form)) (others k differ) ∙ is)
    ]

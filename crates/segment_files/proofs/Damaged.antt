-- Segments without damage.
use Rattle.std.proofs.Common.{◌≡◌, ◌≢◌, ◌∙◌, ◌⊎◌, inl, inr, ℕ, zero, suc, ◌+◌, ◌*◌, ◌<◌, ◌≤◌, nat_le, Bool, true, false, List, [], ◌∷◌, ◌++◌, length, Option, Some, None, if◌then◌else◌, refl, sym, ap, subst, arith, append_assoc, length-append}
use Rattle.std.proofs.lemmas.Bool.{cases_Bool, cond-true, cond-false, leb-true}
use Rattle.std.proofs.lemmas.List.{append-nil}
use Rattle.log_format.specs.declared.damage.Damage.{Damage}
use Rattle.log_format.specs.declared.damage.Damage.TheVariants.{Long, Many}
use Rattle.log_format.specs.declared.form.Form.{Form}
use Rattle.log_format.specs.Form.{most_entries_of, most_bytes_of}
use Rattle.gated_log.specs.Lemmas.Laws.{opens_undamaged as file_opens}
use Rattle.segment_files.specs.Damages.{bytes_of, joint_damage, or_damage, own_damage, list_of, lists_from, segment_damage, damage_joined}
use Rattle.segment_files.specs.Doubt.{most_segments}
use Rattle.segment_files.specs.Joined.{segment_opens, has_payloads, Filled, Joins, opens_joined}
use Rattle.segment_files.specs.Names.{segment_name}
use Rattle.segment_files.proofs.Joined.{joins_once}

neither : (one other : Option Damage) → or_damage one other ≡ None → (one ≡ None) × (other ≡ None)
neither None other none = (refl, none)
neither (Some damage) other none = let never : Some damage ≡ None = none in absurd (cc)

-- a segment that opens with payloads opens as a list of some
some_list : (found : Option (List (List ℕ))) → has_payloads found ≡ true → (found ≡ Some (list_of found)) × (1 ≤ length (list_of found))
some_list None some = let never : false ≡ true = some in absurd (cc)
some_list (Some []) some = let never : false ≡ true = some in absurd (cc)
some_list (Some (payload ∷ payloads)) some = (refl, omega arith)

-- one that opens, and not so, opens as empty
empty_list : (found : Option (List (List ℕ))) (payloads : List (List ℕ)) → found ≡ Some payloads → has_payloads found ≡ false → found ≡ Some []
empty_list found [] is none = is
empty_list found (payload ∷ payloads) is none = let never : true ≡ false = sym (ap has_payloads is) ∙ none in absurd (cc)

-- Where no segment is damaged by itself, they have these lists up to one that opens as empty, or there are more entries than
-- segments were looked at.
undamaged : (opened : ℕ → Option (List (List ℕ))) (damaged : ℕ → Option Damage) (most k : ℕ) (front : List (List ℕ))
    → ((j : ℕ) → damaged j ≡ None → (payloads : List (List ℕ)) × (opened j ≡ Some payloads))
    → own_damage opened damaged most k ≡ None → Filled opened k front → Joins opened (front ++ lists_from opened most k) ⊎ (most ≤ length (lists_from opened most k))
undamaged opened damaged zero k front opens none filled = inr (omega arith)
undamaged opened damaged (suc most) k front opens none filled = elim (cases_Bool (has_payloads (opened k))) [
  | inl some ↦
      let list = some_list (opened k) some in
      let next : or_damage (damaged k) (own_damage opened damaged most (suc k)) ≡ None = ap (or_damage (damaged k)) (sym (cond-true _ _ _ some)) ∙ none in
      let are : lists_from opened (suc most) k ≡ list_of (opened k) ++ lists_from opened most (suc k) = cond-true _ _ _ some in
      let more = undamaged opened damaged most (suc k) (front ++ list_of (opened k)) opens (neither (damaged k) (own_damage opened damaged most (suc k)) next).1
      (front, list_of (opened k), filled, list.0, sym (ap has_payloads list.0) ∙ some, refl) in
      elim more [
        | inl joins ↦ inl (subst (Joins opened) (append_assoc front (list_of (opened k)) (lists_from opened most (suc k)) ∙ ap (λ (l : List (List ℕ)). front ++ l) (sym are)) joins)
        | inr many ↦ inr (omega (arith, many, list.1, ap (λ (l : List (List ℕ)). length l) are, length-append (list_of (opened k)) (lists_from opened most (suc k))))
      ]
  | inr ends ↦
      let own = neither (damaged k) _ none in
      let found = opens k own.0 in
      let are : lists_from opened (suc most) k ≡ [] = cond-false _ _ _ ends in
      inl (k, subst (Filled opened k) (sym (ap (λ (l : List (List ℕ)). front ++ l) are ∙ append-nil front)) filled, empty_list (opened k) found.0 found.1 ends)
]

-- and within the limits of one file
pub joint_small : (form : Form) (payloads : List (List ℕ)) → joint_damage form payloads ≡ None → bytes_of payloads ≤ most_bytes_of form
joint_small form payloads none = elim (cases_Bool (nat_le (bytes_of payloads) (most_bytes_of form))) [
  | inl short ↦ leb-true _ _ short
  | inr long ↦ let damaged : Some (Long (bytes_of payloads)) ≡ None = sym (cond-false _ _ _ long) ∙ none in absurd (cc)
]

few_or_many : (form : Form) (payloads : List (List ℕ)) → (if nat_le (length payloads) (most_entries_of form) then None else Some Many) ≡ None → length payloads ≤ most_entries_of form
few_or_many form payloads none = elim (cases_Bool (nat_le (length payloads) (most_entries_of form))) [
  | inl few ↦ leb-true _ _ few
  | inr many ↦ let damaged : Some Many ≡ None = sym (cond-false _ _ _ many) ∙ none in absurd (cc)
]

pub joint_few : (form : Form) (payloads : List (List ℕ)) → joint_damage form payloads ≡ None → length payloads ≤ most_entries_of form
joint_few form payloads none = elim (cases_Bool (nat_le (bytes_of payloads) (most_bytes_of form))) [
  | inl short ↦ few_or_many form payloads (sym (cond-true _ _ _ short) ∙ none)
  | inr long ↦ let damaged : Some (Long (bytes_of payloads)) ≡ None = sym (cond-false _ _ _ long) ∙ none in absurd (cc)
]

-- what a segmented log without damage has
pub record IsWhole (form : Form) (name : List ℕ) (files : List ℕ → List ℕ) : Type 0 where
  pub payloads : List (List ℕ)
  pub joins : opens_joined form name files payloads
  pub few : length payloads ≤ most_entries_of form
  pub small : bytes_of payloads ≤ most_bytes_of form

pub whole : (form : Form) (name : List ℕ) (files : List ℕ → List ℕ) → damage_joined form name files ≡ None → IsWhole form name files
whole form name files none =
    let opened = segment_opens form name files in
    let lists = lists_from opened (most_segments form) 0 in
    let both = neither (own_damage opened (segment_damage form name files) (most_segments form) 0) (joint_damage form lists) none in
    let few = joint_few form lists both.1 in
    let joins : opens_joined form name files lists = elim (undamaged opened (segment_damage form name files) (most_segments form) 0 [] (λ j own. file_opens form (files (segment_name name j)) own) both.0 refl) [
      | inl is ↦ is
      | inr many ↦ absurd (omega (arith, few, many))
    ] in
    record { payloads = lists; joins = joins; few = few; small = joint_small form lists both.1 }

pub whole_opens : (form : Form) (name : List ℕ) (files : List ℕ → List ℕ) → damage_joined form name files ≡ None → (payloads : List (List ℕ)) × opens_joined form name files payloads
whole_opens form name files none = let w = whole form name files none in (w.payloads, w.joins)

pub whole_few : (form : Form) (name : List ℕ) (files : List ℕ → List ℕ) (payloads : List (List ℕ)) → damage_joined form name files ≡ None
    → opens_joined form name files payloads → length payloads ≤ most_entries_of form
whole_few form name files payloads none joins =
    let w = whole form name files none in
    let same = joins_once (segment_opens form name files) w.payloads payloads w.joins joins in
    subst (λ (l : List (List ℕ)). length l ≤ most_entries_of form) same w.few

pub whole_small : (form : Form) (name : List ℕ) (files : List ℕ → List ℕ) (payloads : List (List ℕ)) → damage_joined form name files ≡ None
    → opens_joined form name files payloads → bytes_of payloads ≤ most_bytes_of form
whole_small form name files payloads none joins =
    let w = whole form name files none in
    let same = joins_once (segment_opens form name files) w.payloads payloads w.joins joins in
    subst (λ (l : List (List ℕ)). bytes_of l ≤ most_bytes_of form) same w.small

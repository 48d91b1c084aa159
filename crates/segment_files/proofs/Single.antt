-- A log in one file.
use Rattle.std.proofs.Common.{◌≡◌, ◌∙◌, inl, inr, ℕ, zero, suc, ◌+◌, ◌*◌, ◌≤◌, nat_le, Bool, true, false, List, [], ◌∷◌, ◌++◌, length, Option, Some, None, refl, sym, ap, subst, arith}
use Rattle.std.proofs.lemmas.Bool.{cases_Bool, cond-true, cond-false, le-leb}
use Rattle.std.proofs.lemmas.List.{append-nil}
use Rattle.log_format.specs.declared.damage.Damage.{Damage}
use Rattle.log_format.specs.declared.form.Form.{Form}
use Rattle.log_format.specs.declared.form.Form.TheVariants.{One, Two}
use Rattle.log_format.specs.Damages.{damage_of}
use Rattle.log_format.specs.File.{opens, doubt_of}
use Rattle.log_format.specs.Form.{magic_of, most_entries_of, most_bytes_of}
use Rattle.gated_log.specs.Lemmas.Laws.{opens_undamaged, undamaged_few, undamaged_small}
use Rattle.segment_files.specs.Damages.{bytes_of, joint_damage, or_damage, own_damage, list_of, lists_from, segment_damage, damage_joined}
use Rattle.segment_files.specs.Doubt.{last_filled, most_segments, doubt_joined}
use Rattle.segment_files.specs.Joined.{segment_opens, has_payloads, opens_joined}
use Rattle.segment_files.specs.Names.{segment_name}
use Rattle.segment_files.proofs.Joined.{joins_last}

-- two segments at least are looked at
two_segments : (form : Form) → (more : ℕ) × (most_segments form ≡ suc (suc more))
two_segments One = (1048575, refl)
two_segments Two = (1048576, refl)

-- a file without bytes is not damaged
missing_whole : (form : Form) → damage_of form [] ≡ None
missing_whole One = refl
missing_whole Two = refl

pub single_opens : (form : Form) (name : List ℕ) (files : List ℕ → List ℕ) (payloads : List (List ℕ)) → files (segment_name name 1) ≡ []
    → opens (magic_of form) (files name) ≡ Some payloads → opens_joined form name files payloads
single_opens form name files payloads missing is = joins_last (segment_opens form name files) 0 [] payloads refl is (ap (opens (magic_of form)) missing)

-- the next segment has no payloads
none_behind : (form : Form) (name : List ℕ) (files : List ℕ → List ℕ) → files (segment_name name 1) ≡ [] → has_payloads (segment_opens form name files 1) ≡ false
none_behind form name files missing = ap (λ (bytes : List ℕ). has_payloads (opens (magic_of form) bytes)) missing

last_single : (opened : ℕ → Option (List (List ℕ))) (more : ℕ) → has_payloads (opened 1) ≡ false → last_filled opened (suc (suc more)) 0 0 ≡ 0
last_single opened more none = elim (cases_Bool (has_payloads (opened 0))) [
  | inl some ↦ rw (some, none) refl
  | inr empty ↦ rw empty refl
]

pub single_doubt : (form : Form) (name : List ℕ) (files : List ℕ → List ℕ) → files (segment_name name 1) ≡ [] → doubt_joined form name files ≡ doubt_of (files name)
single_doubt form name files missing =
    let opened = segment_opens form name files in
    let two = two_segments form in
    ap (λ n. doubt_of (files (segment_name name n)))
    (ap (λ most. last_filled opened most 0 0) two.1 ∙ last_single opened two.0 (none_behind form name files missing))

own_first : (opened : ℕ → Option (List (List ℕ))) (damaged : ℕ → Option Damage) (more : ℕ) (damage : Damage) → damaged 0 ≡ Some damage → own_damage opened damaged (suc more) 0 ≡ Some damage
own_first opened damaged more damage is = rw is refl

own_single : (opened : ℕ → Option (List (List ℕ))) (damaged : ℕ → Option Damage) (more : ℕ) → damaged 0 ≡ None → damaged 1 ≡ None → has_payloads (opened 1) ≡ false
    → own_damage opened damaged (suc (suc more)) 0 ≡ None
own_single opened damaged more first second none = elim (cases_Bool (has_payloads (opened 0))) [
  | inl some ↦ rw (some, first, second, none) refl
  | inr empty ↦ rw (empty, first) refl
]

lists_single : (opened : ℕ → Option (List (List ℕ))) (more : ℕ) (payloads : List (List ℕ)) → opened 0 ≡ Some payloads → has_payloads (opened 1) ≡ false
    → lists_from opened (suc (suc more)) 0 ≡ payloads
lists_single opened more [] is none = cond-false _ _ _ (ap has_payloads is)
lists_single opened more (payload ∷ payloads) is none =
    cond-true _ _ _ (ap has_payloads is) ∙ ap (λ (l : List (List ℕ)). list_of (opened 0) ++ l) (cond-false _ _ _ none) ∙ append-nil (list_of (opened 0)) ∙ ap list_of is

joint_none : (form : Form) (payloads : List (List ℕ)) → length payloads ≤ most_entries_of form → bytes_of payloads ≤ most_bytes_of form → joint_damage form payloads ≡ None
joint_none form payloads few small = cond-true _ _ _ (le-leb _ _ small) ∙ cond-true _ _ _ (le-leb _ _ few)

-- by the damage that the file has
damage_is : (form : Form) (name : List ℕ) (files : List ℕ → List ℕ) (found : Option Damage) → damage_of form (files name) ≡ found → files (segment_name name 1) ≡ []
    → damage_joined form name files ≡ found
damage_is form name files (Some damage) is missing =
    let opened = segment_opens form name files in
    let two = two_segments form in
    ap (λ d. or_damage d (joint_damage form (lists_from opened (most_segments form) 0)))
    (ap (λ most. own_damage opened (segment_damage form name files) most 0) two.1 ∙ own_first opened (segment_damage form name files) (suc two.0) damage is)
damage_is form name files None is missing =
    let opened = segment_opens form name files in
    let two = two_segments form in
    let list = opens_undamaged form (files name) is in
    let behind = none_behind form name files missing in
    let own = ap (λ most. own_damage opened (segment_damage form name files) most 0) two.1
    ∙ own_single opened (segment_damage form name files) two.0 is (ap (damage_of form) missing ∙ missing_whole form) behind in
    let lists = ap (λ most. lists_from opened most 0) two.1 ∙ lists_single opened two.0 list.0 list.1 behind in
    ap (λ d. or_damage d (joint_damage form (lists_from opened (most_segments form) 0))) own
    ∙ ap (joint_damage form) lists ∙ joint_none form list.0 (undamaged_few form (files name) list.0 is list.1) (undamaged_small form (files name) list.0 is list.1)

pub single_damage : (form : Form) (name : List ℕ) (files : List ℕ → List ℕ) → files (segment_name name 1) ≡ [] → damage_joined form name files ≡ damage_of form (files name)
single_damage form name files missing = damage_is form name files (damage_of form (files name)) refl missing

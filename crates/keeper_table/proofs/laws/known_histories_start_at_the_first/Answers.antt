-- Where a key stands first.
use Rattle.std.proofs.Common.{◌≡◌, ◌∙◌, ℕ, suc, ◌+◌, Bool, true, false, not, nat_lt, cond, List, [], ◌∷◌, length, Option, Some, None, if◌then◌else◌, refl, sym, ap, arith}
use Rattle.std.specs.List.{position_or_len}
use Rattle.pad_text.specs.declared.name.Name.{Name}
use Rattle.keeper_entry.specs.History.{has_key, first_from}
use Rattle.keeper_table.proofs.laws.known_histories_start_at_the_first.Goals as goal

-- one more in front
later : (index place size : ℕ)
    → cond (nat_lt place size) (Some (suc index + place)) None ≡ cond (nat_lt (1 + place) (suc size)) (Some (index + (1 + place))) None
later index place size = grind arith

first_is : (key : Name) (index : ℕ) (payloads : List (List ℕ))
    → first_from key index payloads ≡ cond (nat_lt (position_or_len (has_key key) payloads) (length payloads)) (Some (index + position_or_len (has_key key) payloads)) None
first_is key index [] = refl
first_is key index (payload ∷ payloads) = choose (has_key key payload) (first_is key (suc index) payloads)
  where
    choose : (is : Bool)
        → first_from key (suc index) payloads ≡ cond (nat_lt (position_or_len (has_key key) payloads) (length payloads)) (Some (suc index + position_or_len (has_key key) payloads)) None
        → (if is then Some index else first_from key (suc index) payloads)
        ≡ cond (nat_lt (cond (not is) (1 + position_or_len (has_key key) payloads) 0) (length (payload ∷ payloads))) (Some (index + cond (not is) (1 + position_or_len (has_key key) payloads) 0)) None
    choose true more = grind arith
    choose false more = more ∙ later index (position_or_len (has_key key) payloads) (length payloads)

pub returns : goal.returns
returns c key payloads =
    let place : ℕ = position_or_len (has_key key) payloads in
    let same : 0 + place ≡ place = omega arith in
    first_is key 0 payloads ∙ ap (λ (n : ℕ). cond (nat_lt place (length payloads)) (Some n) None) same

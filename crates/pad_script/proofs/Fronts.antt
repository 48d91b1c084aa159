-- What stands behind the front of a line.
use Rattle.std.proofs.Common.{◌≡◌, ◌≢◌, Bool, true, false, if◌then◌else◌, ℕ, ◌+◌, ◌*◌, ◌^◌, ◌<◌, List, [], ◌∷◌, ◌++◌, length, refl, sym, ap, ◌∙◌, arith}
use Rattle.std.specs.Prelude.{codes, decimal}
use Rattle.std.proofs.lemmas.List.{append_cancel_left}
use Rattle.hex.specs.Hex.{encode_lower}
use Rattle.pad_text.specs.Digits.{IsDigits}
use Rattle.pad_text.specs.declared.name.Name.{Name}
use Rattle.pad_text.proofs.CallerLemmas.{IsBytes-digits, IsDigits-bytes}
use Rattle.pad_json.specs.Name.{IsName}
use Rattle.pad_patch.specs.declared.operation.Operation.{Operation}
use Rattle.disk_volume.specs.declared.pick.Pick.{Pick}
use Rattle.disk_volume.specs.declared.pick.Pick.TheVariants as pick
use Rattle.pad_script.specs.Parts.{SpellsOperation, space, spaced}
use Rattle.pad_script.specs.SessionAct.{pick_words}
use Rattle.pad_script.proofs.Digits.{no_space_in_number}
use Rattle.pad_script.proofs.Spaces.{cut_rest}

-- behind the front and a number stands what stands there in each way to write the line
pub behind_is : (line front rest : List ℕ) (given other : ℕ) (after tail : List ℕ) → line ≡ front ++ rest → rest ≡ decimal given ++ space ∷ after
    → line ≡ front ++ (decimal other ++ space ∷ tail) → given < 2 ^ 64 → other < 2 ^ 64 → after ≡ tail
behind_is line front rest given other after tail is cut spells small little =
    let whole : rest ≡ decimal other ++ space ∷ tail = append_cancel_left front rest (decimal other ++ space ∷ tail) (sym is ∙ spells) in
    cut_rest (decimal given) (decimal other) after tail (no_space_in_number given small) (no_space_in_number other little) (sym cut ∙ whole)

-- and so behind the front alone
pub rest_is : (line front rest other : List ℕ) → line ≡ front ++ rest → line ≡ front ++ other → rest ≡ other
rest_is line front rest other is spells = append_cancel_left front rest other (sym is ∙ spells)

-- the words of a stop, with the space before them
pub stop_words : (number : ℕ) (pick : Pick) → spaced (decimal number ∷ pick_words pick) ≡ decimal number ++ space ∷ spaced (pick_words pick)
stop_words number pick.Old = refl
stop_words number pick.New = refl
stop_words number (pick.Torn byte) = refl

-- what stands behind the offset of an operation
pub behind_offset : (text rest : List ℕ) (given : ℕ) (operation : Operation) (spells : SpellsOperation text operation) → text ≡ decimal given ++ space ∷ rest → given < 2 ^ 64
    → rest ≡ decimal operation.remove ++ space ∷ spells.quoted
behind_offset text rest given operation spells is small =
    cut_rest (decimal given) (decimal operation.offset) rest (decimal operation.remove ++ space ∷ spells.quoted)
    (no_space_in_number given small) (no_space_in_number operation.offset (omega (arith, spells.typed.offset))) (sym is ∙ spells.written)

-- and behind what it removes
pub behind_remove : (text rest quoted : List ℕ) (given removed : ℕ) (operation : Operation) (spells : SpellsOperation text operation) → text ≡ decimal given ++ space ∷ rest → given < 2 ^ 64
    → rest ≡ decimal removed ++ space ∷ quoted → removed < 2 ^ 64 → quoted ≡ spells.quoted
behind_remove text rest quoted given removed operation spells is small cut little =
    let whole = behind_offset text rest given operation spells is small in
    cut_rest (decimal removed) (decimal operation.remove) quoted spells.quoted
    (no_space_in_number removed little) (no_space_in_number operation.remove (omega (arith, spells.typed.remove))) (sym cut ∙ whole)

-- the digits of names
pub name_digits : (name : Name) → IsName name → IsDigits 64 (encode_lower name.0)
name_digits name is =
    let digits = IsDigits-bytes name.0 is.bytes in
    record { as_many = omega (arith, digits.as_many, is.whole); each = digits.each }

pub digits_name : (name : Name) → IsDigits 64 (encode_lower name.0) → IsName name
digits_name name digits =
    let bytes = IsBytes-digits name.0 digits.each in
    record { whole = omega (arith, digits.as_many, (IsDigits-bytes name.0 bytes).as_many); bytes = bytes }

-- what is false is not true
pub not_true : false ≡ true → ⊥
not_true same = let one : ◌≡◌ {A = ℕ} 0 1 = ap (λ (b : Bool). if b then 1 else 0) same in absurd (omega (arith, one))

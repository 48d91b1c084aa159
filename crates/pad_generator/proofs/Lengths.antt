-- How long the content of a message is.
use Rattle.std.proofs.Common.{ℕ, ◌+◌, ◌*◌, ◌^◌, ◌<◌, ◌≤◌, Bool, true, false, List, [], ◌∷◌, length, arith}
use Rattle.std.proofs.lemmas.List.{length-append}
use Rattle.std.proofs.lemmas.Fmt.{length-decimal-le}
use Rattle.json.specs.Print.{escape_byte, escape}
use Rattle.serde_json.specs.Data.{Data, string, item, Items, no_items}
use Rattle.serde_json.specs.Written.{compact_text, items_text}
use Rattle.hex.specs.Hex.{encode_lower, lower_digits}
use Rattle.hex.proofs.HexLemmas.{length-encode_with}
use Rattle.pad_json.specs.Data.{whole, array_of}
use Rattle.pad_json.specs.Name.{IsName, name_data}
use Rattle.pad_text.specs.declared.name.Name.{Name}
use Rattle.pad_text.specs.Text.{utf8}
use Rattle.pad_patch.specs.declared.operation.Operation.{Operation}
use Rattle.pad_message.specs.Data.{operation_data, patch_data}

-- a byte is written as at most six
length-escape_byte : (byte : ℕ) → length (escape_byte byte) ≤ 6
unfolding escape_byte
length-escape_byte byte = grind arith

length-escape : (bytes : List ℕ) → length (escape bytes) ≤ 6 * length bytes
length-escape [] = omega arith
length-escape (byte ∷ bytes) = omega (arith, length-append (escape_byte byte) (escape bytes), length-escape_byte byte, length-escape bytes)

length-string : (bytes : List ℕ) → length (compact_text (string bytes)) ≤ 6 * length bytes + 2
length-string bytes = omega (arith, length-append (escape bytes) (34 ∷ []), length-escape bytes)

length-name : (name : Name) → IsName name → length (compact_text (name_data name)) ≤ 386
length-name name is = omega (arith, length-string (encode_lower name.0), length-encode_with lower_digits name.0, is.whole)

length-whole : (n : ℕ) → n < 2 ^ 32 → length (compact_text (whole n)) ≤ 10
length-whole n small = length-decimal-le 10 n (omega arith) (omega arith) (omega arith)

-- one item more, with a comma before it or not
length-items : (later : Bool) (value : Data) (items : Items) → length (items_text later (item value items)) ≤ 1 + length (compact_text value) + length (items_text true items)
length-items true value items = omega (arith, length-append (compact_text value) (items_text true items))
length-items false value items = omega (arith, length-append (compact_text value) (items_text true items))

length-operation : (operation : Operation) → operation.offset < 2 ^ 32 → operation.remove < 2 ^ 32 → length (compact_text (operation_data operation)) ≤ 6 * length (utf8 operation.insert) + 30
length-operation operation offset remove =
    let first = whole operation.offset in
    let second = whole operation.remove in
    let third = string (utf8 operation.insert) in
    omega (
      arith,
      length-items false first (item second (item third no_items)),
      length-items true second (item third no_items),
      length-items true third no_items,
      length-whole operation.offset offset,
      length-whole operation.remove remove,
      length-string (utf8 operation.insert),
    )

-- the patch of one operation
length-patch : (operation : Operation) (before : Name) → operation.offset < 2 ^ 32 → operation.remove < 2 ^ 32 → IsName before
    → length (compact_text (patch_data (record { ops = operation ∷ []; before = before }))) ≤ 6 * length (utf8 operation.insert) + 420
length-patch operation before offset remove is =
    let first = operation_data operation in
    let second = name_data before in
    omega (arith, length-items false first (item second no_items), length-items true second no_items, length-operation operation offset remove, length-name before is)

-- what a message of one operation has before the interval
pub length-message : (number : ℕ) (operation : Operation) (before parent : Name) → number < 2 ^ 32 → operation.offset < 2 ^ 32 → operation.remove < 2 ^ 32 → IsName before → IsName parent
    → length (compact_text (array_of (whole number ∷ patch_data (record { ops = operation ∷ []; before = before }) ∷ name_data parent ∷ []))) ≤ 6 * length (utf8 operation.insert) + 830
length-message number operation before parent few offset remove is is_parent =
    let first = whole number in
    let second = patch_data (record { ops = operation ∷ []; before = before }) in
    let third = name_data parent in
    omega (
      arith,
      length-items false first (item second (item third no_items)),
      length-items true second (item third no_items),
      length-items true third no_items,
      length-whole number few,
      length-patch operation before offset remove is,
      length-name parent is_parent,
    )

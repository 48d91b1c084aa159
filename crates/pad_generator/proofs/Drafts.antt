-- The message on an item of letters can be applied there, and letters follow.
use Rattle.std.proofs.Common.{◌≡◌, ℕ, suc, zero, ◌+◌, ◌%◌, ◌<◌, ◌≤◌, Bool, true, false, ◌&&◌, List, [], ◌∷◌, length, sym, ap, subst, refl, arith, add-one}
use Rattle.std.specs.Prelude.{nat_le, ◌==◌, if◌then◌else◌}
use Rattle.std.proofs.Math.Nat.{mod-lt}
use Rattle.std.proofs.lemmas.Bool.Decides.{nat_tests}
use Rattle.pad_text.specs.Hash.{document_hash}
use Rattle.pad_patch.specs.declared.operation.Operation.{Operation}
use Rattle.pad_patch.specs.Piece.{end_of}
use Rattle.pad_patch.specs.Misfit.{CanApply}
use Rattle.pad_message.specs.declared.kind.Kind.{Kind}
use Rattle.pad_message.specs.declared.kind.Kind.TheVariants as kind
use Rattle.pad_message.specs.declared.kind.TheConstants.{USUAL_INTERVAL}
use Rattle.pad_message.specs.declared.message.Message.{Message}
use Rattle.pad_generator.specs.Words.{word}
use Rattle.pad_generator.specs.Item.{Item, item_after, item_before, message_with, whole_text, operation_on, letter_of, is_due, message_on, back_of, next_parent, next_message, made}
use Rattle.pad_generator.specs.Inside.Letters.{AreLetters}
use Rattle.pad_generator.proofs.Letters.{letters_replaced, letter_is, no_letters}
use Rattle.pad_generator.proofs.OneOperation.{one_after, one_applies, length_after_one}

-- an operation on letters stays within them, inserts letters, and adds at most one unit; or it puts the whole text in its own place
pub record IsSmall (text : List ℕ) (operation : Operation) : Type 0 where
  pub inside : end_of operation ≤ length text
  pub letters : AreLetters operation.insert
  pub grows : length operation.insert ≤ operation.remove + 1

pub whole_small : (text : List ℕ) → AreLetters text → IsSmall text (whole_text text)
whole_small text letters = record { inside = omega arith; letters = letters; grows = omega arith }

pub operation_small : (text : List ℕ) (choice spot : ℕ) → IsSmall text (operation_on text choice spot)
operation_small text choice spot = by (nat_le 64 (length text) && choice % 4 == 0) refl
  where
    by : (b : Bool) → (nat_le 64 (length text) && choice % 4 == 0) ≡ b
        → IsSmall text (if b then record { offset = spot % length text; remove = 1; insert = [] } else record { offset = spot % (length text + 1); remove = 0; insert = letter_of choice ∷ [] })
    by true is =
        let some : 0 < length text = grind (arith, nat_tests) in
        record { inside = omega (arith, mod-lt spot some); letters = no_letters; grows = omega arith }
    by false is =
        let some : 0 < length text + 1 = omega arith in
        record { inside = omega (arith, mod-lt spot some); letters = letter_is choice; grows = omega arith }

-- What is said of the checkpoint on an item, where one is due, and of each patch where none is, is said of the message on it.
pub on_each : (P : Message → Type 0) (number place : ℕ) (parent : Item)
    → (is_due parent ≡ true → P (message_with (kind.Checkpoint USUAL_INTERVAL) (whole_text parent.text) parent))
    → (is_due parent ≡ false → (operation : Operation) → IsSmall parent.text operation → P (message_with kind.Patch operation parent)) → P (message_on number place parent)
on_each P number place parent due edit = by (is_due parent) refl
  where
    by : (b : Bool) → is_due parent ≡ b → P (if b then message_with (kind.Checkpoint USUAL_INTERVAL) (whole_text parent.text) parent
        else message_with kind.Patch (operation_on parent.text (word number place) (word number (place + 1))) parent)
    by true is = due is
    by false is = edit is (operation_on parent.text (word number place) (word number (place + 1))) (operation_small parent.text (word number place) (word number (place + 1)))

-- what is said of each message with a small operation is said of it
pub on_small : (P : Message → Type 0) (number place : ℕ) (parent : Item) → AreLetters parent.text
    → ((kind : Kind) (operation : Operation) → IsSmall parent.text operation → P (message_with kind operation parent)) → P (message_on number place parent)
on_small P number place parent letters turn = on_each P number place parent
    (λ due. turn (kind.Checkpoint USUAL_INTERVAL) (whole_text parent.text) (whole_small parent.text letters))
    (λ edit operation small. turn kind.Patch operation small)

pub message_applies : (number place : ℕ) (parent : Item) → AreLetters parent.text → CanApply (message_on number place parent).patch parent.text
message_applies number place parent letters = on_small (λ (message : Message). CanApply message.patch parent.text) number place parent letters
    (λ kind operation small. one_applies (document_hash parent.text) operation parent.text small.inside letters)

-- an item of letters, with at most one for each message up to it, and at most so high
pub record IsLettered (count : ℕ) (item : Item) : Type 0 where
  pub letters : AreLetters item.text
  pub short : length item.text ≤ item.height
  pub low : item.height ≤ count

pub lettered_after : (count number place : ℕ) (parent : Item) → IsLettered count parent → IsLettered (count + 1) (item_after parent (message_on number place parent))
lettered_after count number place parent lettered = on_small (λ (message : Message). IsLettered (count + 1) (item_after parent message)) number place parent lettered.letters
    (λ kind operation small.
    let after = one_after (document_hash parent.text) operation parent.text small.inside lettered.letters in
    let size = length_after_one (document_hash parent.text) operation parent.text small.inside in
    record {
      letters = subst AreLetters (sym after) (letters_replaced parent.text operation.insert operation.offset (end_of operation) lettered.letters small.letters);
      short = omega (arith, ap length after, size, small.grows, lettered.short);
      low = omega (arith, lettered.low);
    })

pub lettered_more : (count : ℕ) (item : Item) → IsLettered count item → IsLettered (count + 1) item
lettered_more count item lettered = record { letters = lettered.letters; short = lettered.short; low = omega (arith, lettered.low) }

-- each item is one
pub each_lettered : (number count back : ℕ) → IsLettered count (item_before back (made number count).items)
each_lettered number zero zero = record { letters = no_letters; short = omega arith; low = omega arith }
each_lettered number zero (suc back) = record { letters = no_letters; short = omega arith; low = omega arith }
each_lettered number (suc count) zero =
    let so_far = made number count in
    let parent = next_parent number so_far in
    subst (λ n. IsLettered n (item_after parent (next_message number so_far))) (add-one count)
    (lettered_after count number (so_far.place + 1) parent (each_lettered number count (back_of (word number so_far.place))))
each_lettered number (suc count) (suc back) =
    let item = item_before back (made number count).items in
    subst (λ n. IsLettered n item) (add-one count) (lettered_more count item (each_lettered number count back))

-- The items of a generator: each is a message on an earlier item, and has the text and the height that follow.
use Rattle.std.specs.Prelude.{ℕ, suc, zero, ◌+◌, ◌/◌, ◌%◌, ◌==◌, ◌&&◌, nat_le, Bool, List, [], ◌∷◌, length, slice_index_or, if◌then◌else◌}
use Rattle.pad_text.specs.Hash.{document_hash}
use Rattle.pad_text.specs.declared.name.Name.{Name}
use Rattle.pad_patch.specs.declared.operation.Operation.{Operation}
use Rattle.pad_patch.specs.Piece.{text_after}
use Rattle.pad_message.specs.declared.kind.Kind.{Kind}
use Rattle.pad_message.specs.declared.kind.Kind.TheVariants as kind
use Rattle.pad_message.specs.declared.kind.TheConstants.{USUAL_INTERVAL}
use Rattle.pad_message.specs.declared.message.Message.{Message}
use Rattle.pad_message.specs.Message.{name_of}
use Rattle.pad_model.specs.Base.{first_base}
use Rattle.pad_generator.specs.Words.{word}

-- what a message names as its parent, and the text and the height there
pub record Item : Type 0 where
  pub name : Name
  pub text : List ℕ
  pub height : ℕ

-- item 0: the base
abbrev pub base_item : Item
base_item = record { name = first_base.name; text = first_base.text; height = 0 }

-- the item of a message on another item
abbrev pub item_after : Item → Message → Item
item_after parent message = record { name = name_of message; text = text_after message.patch parent.text; height = parent.height + 1 }

-- a message on an item, of a kind and with one operation
abbrev pub message_with : Kind → Operation → Item → Message
message_with kind operation parent = record {
  kind = kind;
  patch = record { ops = operation ∷ []; before = document_hash parent.text };
  parent = parent.name;
}

-- the operation that puts the whole text in its own place
abbrev pub whole_text : List ℕ → Operation
whole_text text = record { offset = 0; remove = length text; insert = text }

-- the letter that a word chooses, as its code: `a` to `z`
abbrev pub letter_of : ℕ → ℕ
letter_of choice = 97 + (choice / 4) % 26

-- the one operation of a patch, by two words: of a text of at least 64 units it removes one where the first word is a
-- multiple of 4; otherwise it inserts a letter. The second word says where
abbrev pub operation_on : List ℕ → (choice spot : ℕ) → Operation
operation_on text choice spot =
    if nat_le 64 (length text) && choice % 4 == 0
    then record { offset = spot % length text; remove = 1; insert = [] }
    else record { offset = spot % (length text + 1); remove = 0; insert = letter_of choice ∷ [] }

-- whether the message on an item is a checkpoint: its height is a multiple of the usual interval, which is 50
abbrev pub is_due : Item → Bool
is_due parent = (parent.height + 1) % USUAL_INTERVAL == 0

-- the message on an item, where its words stand from a place on
abbrev pub message_on : (number place : ℕ) → Item → Message
message_on number place parent =
    if is_due parent
    then message_with (kind.Checkpoint USUAL_INTERVAL) (whole_text parent.text) parent
    else message_with kind.Patch (operation_on parent.text (word number place) (word number (place + 1))) parent

-- how many words it takes
abbrev pub words_on : Item → ℕ
words_on parent = if is_due parent then 0 else 2

-- the item so many before the newest, the items being given newest first; the base where there are not so many
abbrev pub item_before : ℕ → List Item → Item
item_before back items = slice_index_or items back base_item

-- how many items before the newest one the parent of the next item is, by a word
abbrev pub back_of : ℕ → ℕ
back_of choice = if choice % 8 == 0 then 2 else 0

-- the items so far, the newest first, down to the base, and the place of the next word
pub record Made : Type 0 where
  pub items : List Item
  pub place : ℕ

-- the parent of the next item
abbrev pub next_parent : ℕ → Made → Item
next_parent number so_far = item_before (back_of (word number so_far.place)) so_far.items

-- the message of the next item
abbrev pub next_message : ℕ → Made → Message
next_message number so_far = message_on number (so_far.place + 1) (next_parent number so_far)

-- the items with one more
abbrev pub one_more : ℕ → Made → Made
one_more number so_far =
    let parent = next_parent number so_far in
    record { items = item_after parent (next_message number so_far) ∷ so_far.items; place = so_far.place + 1 + words_on parent }

-- the items 0 to `count` of a number
abbrev pub made : (number count : ℕ) → Made
made number zero = record { items = base_item ∷ []; place = 0 }
made number (suc count) = one_more number (made number count)

-- What holds of the items and the contents of every number.
use Rattle.std.specs.Prelude.{◌≡◌, ◌≢◌, ◌↔◌, ℕ, ◌≤◌, List, length, map, Contains}
use Rattle.pad_message.specs.declared.message.Message.{Message}
use Rattle.pad_message.specs.Content.{Reads}
use Rattle.pad_message.specs.Message.{name_of}
use Rattle.pad_model.specs.Base.{first_base}
use Rattle.pad_model.specs.Path.{IsPath, last_name, text}
use Rattle.pad_generator.specs.declared.generator.TheConstants.{MOST_MESSAGES}
use Rattle.pad_generator.specs.Item.{Item, made, item_before}
use Rattle.pad_generator.specs.Contents.{content_of, messages, contents}

-- a path leads to an item: to its name, its text and its height
pub record LeadsTo (path : List Message) (item : Item) : Type 0 where
  pub name : last_name first_base path ≡ item.name
  pub text : text first_base path ≡ item.text
  pub height : length path ≡ item.height

-- Each message is sound where it stands: a path of the messages, from the base on, leads to each item. No message may have the name of
-- the base, which is sixty-four zeros.
abbrev pub EachIsSound : Type 0
EachIsSound = (number count back : ℕ) → count ≤ MOST_MESSAGES
    → ((message : Message) → Contains (messages number count) message → name_of message ≢ first_base.name)
    → (path : List Message) × IsPath first_base (messages number count) path × LeadsTo path (item_before back (made number count).items)

-- there are as many contents as messages were asked for
abbrev pub AsManyAsAsked : Type 0
AsManyAsAsked = (number count : ℕ) → length (contents number count) ≡ count

-- the contents that are given out are those of the messages, whatever their order
abbrev pub OnlyTheOrderChanges : Type 0
OnlyTheOrderChanges = (number count : ℕ) (content : List ℕ)
    → Contains (contents number count) content ↔ Contains (map content_of (messages number count)) content

-- each content is read as the message that it is of
abbrev pub EachIsRead : Type 0
EachIsRead = (number count : ℕ) (content : List ℕ) → count ≤ MOST_MESSAGES → Contains (contents number count) content
    → (message : Message) × Contains (messages number count) message × Reads content message

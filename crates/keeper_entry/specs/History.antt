-- Where the history of a channel starts, by its payloads.
use Rattle.std.specs.Prelude.{ℕ, suc, nat_eq, Bool, List, [], ◌∷◌, bytes_eq, Option, Some, None, if◌then◌else◌}
use Rattle.std.specs.List.{starts_with}
use Rattle.pad_text.specs.declared.name.Name.{Name}
use Rattle.pad_text.specs.Name.{name_of_bytes}
use Rattle.pad_message.specs.Content.{mark, without_mark}
use Rattle.keeper_entry.specs.Entry.{content_in}

-- the key of a content: the SHA-256 of the content without one mark in front
abbrev pub key_of : List ℕ → Name
key_of content = name_of_bytes (without_mark content)

-- a content that begins with the mark is a checkpoint for the keeper, whatever follows
abbrev pub is_checkpoint : List ℕ → Bool
is_checkpoint content = starts_with nat_eq content mark

-- whether the content in a payload has the key
abbrev pub has_key : Name → List ℕ → Bool
has_key key payload = bytes_eq (key_of (content_in payload)).0 key.0

-- the index of the first of these payloads with the key, if there is one; the first of them has this index
abbrev pub first_from : Name → ℕ → List (List ℕ) → Option ℕ
first_from key index [] = None
first_from key index (payload ∷ payloads) = if has_key key payload then Some index else first_from key (suc index) payloads

-- the indexes of the checkpoints among these payloads, the first of which has this index
abbrev pub checkpoints_from : ℕ → List (List ℕ) → List ℕ
checkpoints_from index [] = []
checkpoints_from index (payload ∷ payloads) =
    if is_checkpoint (content_in payload) then index ∷ checkpoints_from (suc index) payloads else checkpoints_from (suc index) payloads

-- the last of these, if there is one
abbrev pub last_in : List ℕ → Option ℕ
last_in [] = None
last_in (index ∷ []) = Some index
last_in (index ∷ next ∷ indexes) = last_in (next ∷ indexes)

-- the last but one of these; 0 if there are fewer than two
abbrev pub last_but_one : List ℕ → ℕ
last_but_one [] = 0
last_but_one (index ∷ []) = 0
last_but_one (index ∷ next ∷ []) = index
last_but_one (index ∷ next ∷ third ∷ indexes) = last_but_one (next ∷ third ∷ indexes)

-- where a default history starts: at the last but one checkpoint, or at the first entry if there are fewer than two
abbrev pub default_start : List (List ℕ) → ℕ
default_start payloads = last_but_one (checkpoints_from 0 payloads)

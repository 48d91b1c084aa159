-- What happened to a client, the newest first, as far as it tells which messages the client has.
use Rattle.std.specs.Prelude.{◌≡◌, ◌⊎◌, ℕ, Bool, true, false, List, [], ◌∷◌, Contains}
use Rattle.pad_message.specs.declared.message.Message.{Message}

pub data Past : Type 0 where
  -- a content for its channel was heard: of a message to it, or of an entry of a history
  took : (content : List ℕ) → Past
  -- an own message was made; one left the outbox
  made : Message → Past
  left : Message → Past
  -- a repair began, when these own messages were not acknowledged; it ended, or was given up
  repair_begins : (outbox : List Message) → Past
  repair_ends : Past
  repair_given_up : Past

-- a repair has ended
abbrev pub has_repaired : List Past → Bool
has_repaired [] = false
has_repaired (took content ∷ past) = has_repaired past
has_repaired (made message ∷ past) = has_repaired past
has_repaired (left message ∷ past) = has_repaired past
has_repaired (repair_begins outbox ∷ past) = has_repaired past
has_repaired (repair_ends ∷ past) = true
has_repaired (repair_given_up ∷ past) = has_repaired past

-- ---- since a repair began last

-- the content was heard since then
abbrev pub HeardWithin : List Past → List ℕ → Type 0
HeardWithin [] content = ⊥
HeardWithin (took other ∷ past) content = (other ≡ content) ⊎ HeardWithin past content
HeardWithin (made message ∷ past) content = HeardWithin past content
HeardWithin (left message ∷ past) content = HeardWithin past content
HeardWithin (repair_begins outbox ∷ past) content = ⊥
HeardWithin (repair_ends ∷ past) content = HeardWithin past content
HeardWithin (repair_given_up ∷ past) content = HeardWithin past content

-- the message was not acknowledged then, or was made since then
abbrev pub OwnWithin : List Past → Message → Type 0
OwnWithin [] message = ⊥
OwnWithin (took content ∷ past) message = OwnWithin past message
OwnWithin (made other ∷ past) message = (other ≡ message) ⊎ OwnWithin past message
OwnWithin (left other ∷ past) message = OwnWithin past message
OwnWithin (repair_begins outbox ∷ past) message = Contains outbox message
OwnWithin (repair_ends ∷ past) message = OwnWithin past message
OwnWithin (repair_given_up ∷ past) message = OwnWithin past message

-- ---- since the last repair that ended began

-- The content was heard since then, at a moment outside every repair that was given up or, where `runs` says that one does, still runs.
abbrev pub HeardSince : (runs : Bool) → List Past → List ℕ → Type 0
HeardSince runs [] content = ⊥
HeardSince runs (took other ∷ past) content = ((runs ≡ false) × (other ≡ content)) ⊎ HeardSince runs past content
HeardSince runs (made message ∷ past) content = HeardSince runs past content
HeardSince runs (left message ∷ past) content = HeardSince runs past content
HeardSince runs (repair_begins outbox ∷ past) content = HeardSince false past content
HeardSince runs (repair_ends ∷ past) content = HeardWithin past content
HeardSince runs (repair_given_up ∷ past) content = HeardSince true past content

-- the message was not acknowledged then, or was made since then
abbrev pub OwnSince : List Past → Message → Type 0
OwnSince [] message = ⊥
OwnSince (took content ∷ past) message = OwnSince past message
OwnSince (made other ∷ past) message = (other ≡ message) ⊎ OwnSince past message
OwnSince (left other ∷ past) message = OwnSince past message
OwnSince (repair_begins outbox ∷ past) message = OwnSince past message
OwnSince (repair_ends ∷ past) message = OwnWithin past message
OwnSince (repair_given_up ∷ past) message = OwnSince past message

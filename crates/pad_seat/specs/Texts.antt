-- What becomes of texts on their way.
use Rattle.std.specs.Prelude.{ℕ, Bool, true, false, if◌then◌else◌, Option, None, Some, List, [], ◌∷◌, ◌++◌}
use Rattle.pad_seat.specs.State.{State}

-- a text is put last on the way to a client that has a connection
abbrev pub hears_later : {C : Type 0} → List ℕ → State C → State C
hears_later text seat = if seat.connected then record seat { down = seat.down ++ text ∷ [] } else seat

-- texts go last on the way to the hub
abbrev pub sends : {C : Type 0} → State C → List (List ℕ) → State C
sends seat texts = record seat { up = seat.up ++ texts }

-- the first of a list
abbrev pub first_of : {T : Type 0} → List T → Option T
first_of [] = None
first_of (item ∷ items) = Some item

-- the list without it
abbrev pub without_first : {T : Type 0} → List T → List T
without_first [] = []
without_first (item ∷ items) = items

-- a copy of the first is put last
abbrev pub repeated : {T : Type 0} → List T → List T
repeated [] = []
repeated (item ∷ items) = (item ∷ items) ++ item ∷ []

-- there is none
abbrev pub is_none : {T : Type 0} → List T → Bool
is_none [] = true
is_none (item ∷ items) = false

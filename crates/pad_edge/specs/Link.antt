-- What comes of the calls of a link.
use Rattle.std.specs.Prelude.{ℕ, Bool, true, false, ◌+◌, List, [], ◌∷◌, ◌++◌, Result, Ok, Err}
use Rattle.pad_edge.specs.declared.arrival.Arrival.{Arrival}
use Rattle.pad_edge.specs.declared.arrival.Arrival.TheVariants as arrival
use Rattle.pad_edge.specs.declared.link_refused.LinkRefused.{LinkRefused}
use Rattle.pad_edge.specs.declared.link_refused.LinkRefused.TheVariants as refused

-- the call failed outside: it did not only want memory
abbrev pub is_failed : {T : Type 0} → Result T LinkRefused → Bool
is_failed (Ok value) = false
is_failed (Err refused.Failed) = true
is_failed (Err refused.NoMemory) = false

-- the link ended
abbrev pub is_link_end : Result Arrival LinkRefused → Bool
is_link_end (Ok (arrival.Text text)) = false
is_link_end (Ok arrival.Ended) = true
is_link_end (Err refused) = false

-- the texts that a call gave
abbrev pub texts_in : Result Arrival LinkRefused → List (List ℕ)
texts_in (Ok (arrival.Text text)) = text ∷ []
texts_in (Ok arrival.Ended) = []
texts_in (Err refused) = []

-- what is added to a list by a call that answers Ok, and by no other
abbrev pub added : {T X : Type 0} → List X → X → Result T LinkRefused → List X
added items item (Ok value) = items ++ item ∷ []
added items item (Err refused) = items

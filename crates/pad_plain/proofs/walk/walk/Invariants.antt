use Rattle.std.proofs.Common.{◌≡◌, ◌<◌, length, All}
use Rattle.pad_plain.specs.Inside.Walk.{IsAboveBase}
use Rattle.pad_plain.proofs.Places.{Up, Down}
use Rattle.pad_plain.proofs.walk.walk.Given as goal

abbrev pub invariant-loop-turn : goal.invariant-loop-turn
invariant-loop-turn l = record {
  within : l.at < length l.received;
  above : IsAboveBase l.base l.received l.at;
  places_within : All (λ place. place < length l.received) l.places.items;
  count : length l.places.items ≡ l.turn;
  goes_up : Up l.base l.received l.last l.at l.places.items;
  goes_down : Down l.base l.received l.last l.at l.places.items;
}

-- The hub is ready, and a second keeper is new.
use Rattle.std.specs.Option.{IfSome}
use Rattle.world_hub.specs.State.{IsReady, IsNew}
use Rattle.world_hub.proofs.tests.day.Given as goal

abbrev pub invariant-loop-turn : goal.invariant-loop-turn
invariant-loop-turn g l = let K = g.K.Keep in record {
  ready : IsReady (K.is_sound l.hub.keeper) (K.keeps l.hub.keeper) l.hub.hub.rooms l.hub.volume l.hub.was_set;
  next : IfSome l.next (λ keeper. IsNew (K.is_sound keeper) (K.keeps keeper));
}

use Rattle.world_hub.proofs.Stopping.{set_ready}
use Rattle.world_hub.proofs.world_hub.WorldHub.stop_at.Goals as goal

pub returns-in-Some-clause-ready : goal.returns-in-Some-clause-ready
returns-in-Some-clause-ready g c =
    let K = g.K.Keep in
    let now = c.args.self.now in
    set_ready (K.keeps now.keeper) now.hub.rooms now.volume c.stop_at.new.self (K.is_sound now.keeper) now.was_set c.in-Some.last c.args.pick c.requires.ready c.stop_at.ensures

use Rattle.world_hub.proofs.Beginning.{is_ready}
use Rattle.world_hub.proofs.Stopping.{reopened}
use Rattle.world_hub.proofs.world_hub.WorldHub.reopen.Goals as goal

pub returns-clause-reopens : goal.returns-clause-reopens
returns-clause-reopens g c before stands =
    let K = g.K.Keep in
    let now = c.args.self.now in
    reopened (K.keeps now.keeper) (K.keeps c.args.keeper) now.hub.rooms c.in_ok-hub.hub.rooms now.volume c.in_ok-volume.volume now.stream c.in_ok-stream.stream now.moment before stands
    c.in_ok-hub.ensures.rooms c.in_ok-stream.ensures c.in_ok-volume.ensures.new c.in_ok-volume.ensures.files c.requires.keeps_none

pub returns-clause-ready : goal.returns-clause-ready
returns-clause-ready g c =
    let K = g.K.Keep in
    is_ready (K.keeps c.args.keeper) c.in_ok-hub.hub.rooms c.in_ok-volume.volume (K.is_sound c.args.keeper) c.in_ok-hub.ensures.whole c.requires.sound c.in_ok-volume.ensures.new c.requires.keeps_none

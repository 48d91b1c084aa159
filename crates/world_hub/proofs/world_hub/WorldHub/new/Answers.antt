use Rattle.std.proofs.Common.{◌≡◌, ◌∙◌, [], ap, subst}
use Rattle.disk_volume.specs.Memory.{Memory, fresh, disk_of}
use Rattle.netflux_core.specs.Machine.{serve_begins}
use Rattle.world_hub.specs.State.{StandsAs}
use Rattle.world_hub.proofs.Beginning.{begins, is_ready, is_new}
use Rattle.world_hub.proofs.world_hub.WorldHub.new.Goals as goal

pub returns-clause-stands : goal.returns-clause-stands
returns-clause-stands g c =
    let K = g.K.Keep in
    let volume = c.new-volume.result in
    let same : volume ≡ fresh [] [] = c.new-volume.ensures ∙ ap (fresh []) c.new.ensures.items in
    subst (λ (v : Memory). StandsAs (K.keeps c.args.keeper) c.in_ok-hub.hub.rooms volume 0 0 (record { server = serve_begins (disk_of v); stream = 0; moment = 0; volume = v })) same
    (begins (K.keeps c.args.keeper) c.in_ok-hub.hub.rooms volume 0 0 c.in_ok-hub.ensures.rooms (is_new volume same) c.requires.keeps_none)

pub returns-clause-ready : goal.returns-clause-ready
returns-clause-ready g c =
    let K = g.K.Keep in
    let volume = c.new-volume.result in
    let same : volume ≡ fresh [] [] = c.new-volume.ensures ∙ ap (fresh []) c.new.ensures.items in
    is_ready (K.keeps c.args.keeper) c.in_ok-hub.hub.rooms volume (K.is_sound c.args.keeper) c.in_ok-hub.ensures.whole c.requires.sound (is_new volume same) c.requires.keeps_none

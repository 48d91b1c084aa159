-- A port that listens is served from the state in which nobody is connected.
use Rattle.std.proofs.Common.{◌≡◌, ◌∙◌, [], ℕ, List, refl, sym, subst, arith}
use Rattle.std.proofs.lemmas.List.{append-nil}
use Rattle.netflux_core.specs.Channels.{no_channels}
use Rattle.pad_serve.specs.Ends.{serving_begins}
use Rattle.pad_serve.proofs.Leaving.{others_stay, stays_by}
use Rattle.pad_serve.proofs.EndsOfRuns.{first_stands, served_by, stopped_by, stopped_at_once}
use Rattle.pad_serve.proofs.Running.{no_calls}
use Rattle.pad_serve.proofs.serving.serve_clients.Goals as goal

pub serve-requires : goal.serve-requires
serve-requires g c = (
  c.in-Ok.ensures.whole,
  subst (λ keeper. g.K.Keep.is_sound keeper) (sym c.in-Ok.ensures.keeper) c.requires.sound,
  λ told. (no_channels, subst (λ keeper. g.K.Keep.keeps keeper no_channels (g.V.Volume.disk c.args.volume.now)) (sym c.in-Ok.ensures.keeper) (c.requires.keeps told)),
)

pub returns-in-Err-clause-stopped : goal.returns-in-Err-clause-stopped
returns-in-Err-clause-stopped g c = λ told.
    let V = g.V.Volume in let P = g.P.Port in let C = g.C.Clock in
    stopped_at_once g.K.Keep.logs c.requires.logs (V.disk c.args.volume.now) (c.requires.rests told) c.args.key (V.faults c.args.volume.now) (V.disk c.args.volume.now) (V.faults c.args.volume.now) refl (omega arith)
    (c.crashes_leave_what_is_held.ensures c.args.keeper no_channels (V.disk c.args.volume.now) c.requires.sound (c.requires.keeps told)) c.args.turns P.tells C.tells (C.coming c.args.clock.now)
    (P.events c.args.port.now) (P.events c.args.port.now) (P.sent c.args.port.now) (P.sent c.args.port.now) (P.failed c.args.port.now) (P.failed c.args.port.now) (λ known. refl) (λ known. refl) (λ known. refl)

pub returns-in-Err-clause-calls : goal.returns-in-Err-clause-calls
returns-in-Err-clause-calls g c = λ known. ([], sym (append-nil (g.P.Port.events c.args.port.now)), no_calls c.args.turns)

pub returns-in-Ok-serve_port-clause-served : goal.returns-in-Ok-serve_port-clause-served
returns-in-Ok-serve_port-clause-served g c = λ told.
    let K = g.K.Keep in let V = g.V.Volume in let P = g.P.Port in let C = g.C.Clock in
    let entry = V.disk c.args.volume.now in let now = V.disk c.serve.new.world in
    let before = c.in-Ok.server in let after = c.serve.new.machine in
    served_by K.logs c.requires.logs entry (c.requires.rests told) c.args.key (V.faults c.args.volume.now) c.stored_entries_stay.ensures c.unfailing_runs_hold_all.ensures now (c.serve.ensures.leaves.2 told)
    (K.is_sound after.keeper) (λ channels disk. K.keeps after.keeper channels disk) after.hub.rooms (V.faults c.serve.new.world)
    (λ sound channels keeps. c.crashes_leave_what_is_held.ensures after.keeper channels now sound keeps)
    (λ sound channels keeps channel digits list suspense is. c.reads_what_is_held.ensures after.keeper channels now channel list suspense digits sound keeps is)
    (P.events c.args.port.now) (P.events c.serve.new.port) (P.sent c.args.port.now) (P.sent c.serve.new.port) (P.failed c.args.port.now) (P.failed c.serve.new.port)
    c.args.turns c.in-Ok-serve_port.made P.tells C.tells (C.coming c.args.clock.now)
    (c.in-Ok-serve_port.ensures.served told (serving_begins c.args.key (V.faults c.args.volume.now) entry) (
      subst (λ keeper. K.is_sound keeper) (sym c.in-Ok.ensures.keeper) c.requires.sound,
      first_stands K.logs c.requires.logs entry (c.requires.rests told) c.args.key (V.faults c.args.volume.now) (λ channels disk. K.keeps before.keeper channels disk) before.hub.rooms c.in-Ok.ensures.rooms
          (subst (λ keeper. K.keeps keeper no_channels entry) (sym c.in-Ok.ensures.keeper) (c.requires.keeps told)) (omega arith),
    ))

pub returns-in-Ok-serve_port-clause-made : goal.returns-in-Ok-serve_port-clause-made
returns-in-Ok-serve_port-clause-made g c = record {
  few = c.in-Ok-serve_port.ensures.made;
  all = c.in-Ok-serve_port.ensures.ended;
  counted = λ known. c.in-Ok-serve_port.ensures.turns known;
}

pub returns-in-Err-Failed-clause-stopped : goal.returns-in-Err-Failed-clause-stopped
returns-in-Err-Failed-clause-stopped g c = λ told.
    let K = g.K.Keep in let V = g.V.Volume in let P = g.P.Port in let C = g.C.Clock in
    let entry = V.disk c.args.volume.now in let now = V.disk c.serve.new.world in
    let before = c.in-Ok.server in let after = c.serve.new.machine in
    stopped_by K.logs c.requires.logs entry (c.requires.rests told) c.args.key (V.faults c.args.volume.now) c.stored_entries_stay.ensures c.unfailing_runs_hold_all.ensures now (c.serve.ensures.leaves.2 told)
    (K.is_sound after.keeper) (λ channels disk. K.keeps after.keeper channels disk) after.hub.rooms (V.faults c.serve.new.world)
    (λ sound channels keeps. c.crashes_leave_what_is_held.ensures after.keeper channels now sound keeps)
    (λ sound channels keeps channel digits list suspense is. c.reads_what_is_held.ensures after.keeper channels now channel list suspense digits sound keeps is)
    (P.events c.args.port.now) (P.events c.serve.new.port) (P.sent c.args.port.now) (P.sent c.serve.new.port) (P.failed c.args.port.now) (P.failed c.serve.new.port)
    c.args.turns P.tells C.tells (C.coming c.args.clock.now)
    (c.in-Err-Failed.ensures.stopped told (serving_begins c.args.key (V.faults c.args.volume.now) entry) (
      subst (λ keeper. K.is_sound keeper) (sym c.in-Ok.ensures.keeper) c.requires.sound,
      first_stands K.logs c.requires.logs entry (c.requires.rests told) c.args.key (V.faults c.args.volume.now) (λ channels disk. K.keeps before.keeper channels disk) before.hub.rooms c.in-Ok.ensures.rooms
          (subst (λ keeper. K.keeps keeper no_channels entry) (sym c.in-Ok.ensures.keeper) (c.requires.keeps told)) (omega arith),
    ))

pub returns-clause-stopped : goal.returns-clause-stopped
returns-clause-stopped g c = λ told.
    let K = g.K.Keep in let V = g.V.Volume in let P = g.P.Port in let C = g.C.Clock in
    let entry = V.disk c.args.volume.now in let now = V.disk c.serve.new.world in
    let before = c.in-Ok.server in let after = c.serve.new.machine in
    stopped_by K.logs c.requires.logs entry (c.requires.rests told) c.args.key (V.faults c.args.volume.now) c.stored_entries_stay.ensures c.unfailing_runs_hold_all.ensures now (c.serve.ensures.leaves.2 told)
    (K.is_sound after.keeper) (λ channels disk. K.keeps after.keeper channels disk) after.hub.rooms (V.faults c.serve.new.world)
    (λ sound channels keeps. c.crashes_leave_what_is_held.ensures after.keeper channels now sound keeps)
    (λ sound channels keeps channel digits list suspense is. c.reads_what_is_held.ensures after.keeper channels now channel list suspense digits sound keeps is)
    (P.events c.args.port.now) (P.events c.serve.new.port) (P.sent c.args.port.now) (P.sent c.serve.new.port) (P.failed c.args.port.now) (P.failed c.serve.new.port)
    c.args.turns P.tells C.tells (C.coming c.args.clock.now)
    (c.in-Err-NoMemory.ensures.stopped told (serving_begins c.args.key (V.faults c.args.volume.now) entry) (
      subst (λ keeper. K.is_sound keeper) (sym c.in-Ok.ensures.keeper) c.requires.sound,
      first_stands K.logs c.requires.logs entry (c.requires.rests told) c.args.key (V.faults c.args.volume.now) (λ channels disk. K.keeps before.keeper channels disk) before.hub.rooms c.in-Ok.ensures.rooms
          (subst (λ keeper. K.keeps keeper no_channels entry) (sym c.in-Ok.ensures.keeper) (c.requires.keeps told)) (omega arith),
    ))

pub returns-in-Ok-serve_port-clause-others : goal.returns-in-Ok-serve_port-clause-others
returns-in-Ok-serve_port-clause-others g c = λ told file other.
    others_stay g.K.Keep.logs (g.V.Volume.disk c.args.volume.now) (g.V.Volume.disk c.serve.new.world) (c.requires.rests told) (c.serve.ensures.leaves.2 told) file other

pub returns-in-Ok-serve_port-clause-follows : goal.returns-in-Ok-serve_port-clause-follows
returns-in-Ok-serve_port-clause-follows g c = c.serve.ensures.leaves.0

pub returns-in-Ok-serve_port-clause-later : goal.returns-in-Ok-serve_port-clause-later
returns-in-Ok-serve_port-clause-later g c = c.serve.ensures.leaves.1

pub returns-in-Err-Failed-clause-others : goal.returns-in-Err-Failed-clause-others
returns-in-Err-Failed-clause-others g c = λ told file other.
    others_stay g.K.Keep.logs (g.V.Volume.disk c.args.volume.now) (g.V.Volume.disk c.serve.new.world) (c.requires.rests told) (c.serve.ensures.leaves.2 told) file other

pub returns-in-Err-Failed-clause-follows : goal.returns-in-Err-Failed-clause-follows
returns-in-Err-Failed-clause-follows g c = c.serve.ensures.leaves.0

pub returns-in-Err-Failed-clause-later : goal.returns-in-Err-Failed-clause-later
returns-in-Err-Failed-clause-later g c = c.serve.ensures.leaves.1

pub returns-clause-others : goal.returns-clause-others
returns-clause-others g c = λ told file other.
    others_stay g.K.Keep.logs (g.V.Volume.disk c.args.volume.now) (g.V.Volume.disk c.serve.new.world) (c.requires.rests told) (c.serve.ensures.leaves.2 told) file other

pub returns-clause-follows : goal.returns-clause-follows
returns-clause-follows g c = c.serve.ensures.leaves.0

pub returns-clause-later : goal.returns-clause-later
returns-clause-later g c = c.serve.ensures.leaves.1

pub returns-in-Err-clause-others : goal.returns-in-Err-clause-others
returns-in-Err-clause-others g c = λ told file other. stays_by (g.V.Volume.disk c.args.volume.now) (g.V.Volume.disk c.args.volume.now) file (c.requires.rests told file) refl

-- A port listens, and tells nothing meanwhile.
use Rattle.std.proofs.Common.{◌≡◌, ◌∙◌, ◌++◌, [], arith, ℕ, List, refl, sym, subst}
use Rattle.std.proofs.lemmas.List.{append-nil}
use Rattle.std.proofs.lemmas.Result.{on_err_weaker, IfOk-weaker}
use Rattle.pad_edge.specs.Count.{CountsIf, Rose}
use Rattle.pad_edge.specs.declared.port_event.PortEvent.{PortEvent}
use Rattle.netflux_core.specs.Channels.{no_channels}
use Rattle.serve_loop.specs.Run.{AreCalls}
use Rattle.pad_serve.specs.Refused.{is_link}
use Rattle.pad_serve.specs.Turns.{IsMade}
use Rattle.pad_serve.proofs.EndsOfRuns.{done_from, broken_from, stopped_at_once}
use Rattle.pad_serve.proofs.Leaving.{stays_by}
use Rattle.pad_serve.proofs.Running.{no_calls}
use Rattle.pad_serve.proofs.Writing.{made_from}
use Rattle.pad_serve.proofs.serving.serve_address.Goals as goal

pub returns-in-Ok-clause-served : goal.returns-in-Ok-clause-served
returns-in-Ok-clause-served g c = λ told.
    let V = g.V.Volume in let P = g.P.Port in let C = g.C.Clock in
    IfOk-weaker c.serve_clients.result _ _ (λ made served. done_from g.K.Keep.logs c.args.key (V.disk c.args.volume.now) (V.disk c.serve_clients.new.volume) (V.faults c.args.volume.now) (V.faults c.serve_clients.new.volume) c.args.words.now.turns P.tells C.tells (C.coming c.args.clock.now)
    (P.events c.args.port.now) (P.events c.serve_clients.new.port) (P.sent c.args.port.now) (P.sent c.serve_clients.new.port) (P.failed c.args.port.now) (P.failed c.serve_clients.new.port)
    (P.events c.listen.new.self) (P.sent c.listen.new.self) (P.failed c.listen.new.self) (λ known. (c.listen.ensures.lists known).0) (λ known. (c.listen.ensures.lists known).1) (λ known. (c.listen.ensures.lists known).2) made served)
    (c.serve_clients.ensures.served told)

pub returns-in-Ok-clause-stopped : goal.returns-in-Ok-clause-stopped
returns-in-Ok-clause-stopped g c = λ told.
    let V = g.V.Volume in let P = g.P.Port in let C = g.C.Clock in
    on_err_weaker c.serve_clients.result (broken_from g.K.Keep.logs c.args.key (V.disk c.args.volume.now) (V.disk c.serve_clients.new.volume) (V.faults c.args.volume.now) (V.faults c.serve_clients.new.volume) c.args.words.now.turns P.tells C.tells (C.coming c.args.clock.now)
    (P.events c.args.port.now) (P.events c.serve_clients.new.port) (P.sent c.args.port.now) (P.sent c.serve_clients.new.port) (P.failed c.args.port.now) (P.failed c.serve_clients.new.port)
    (P.events c.listen.new.self) (P.sent c.listen.new.self) (P.failed c.listen.new.self) (λ known. (c.listen.ensures.lists known).0) (λ known. (c.listen.ensures.lists known).1) (λ known. (c.listen.ensures.lists known).2))
    (c.serve_clients.ensures.stopped told)

pub returns-in-Ok-clause-made : goal.returns-in-Ok-clause-made
returns-in-Ok-clause-made g c =
    let P = g.P.Port in
    IfOk-weaker c.serve_clients.result _ _ (λ made is. made_from c.args.words.now.turns (Rose (P.ends c.args.port.now) (P.ends c.serve_clients.new.port)) (Rose (P.ends c.listen.new.self) (P.ends c.serve_clients.new.port)) P.tells
    (P.events c.args.port.now) (P.events c.listen.new.self) (P.events c.serve_clients.new.port) made
    (λ rose. subst (λ (n : ℕ). Rose n (P.ends c.serve_clients.new.port)) c.listen.ensures.counts.1 rose) (λ known. (c.listen.ensures.lists known).0) is)
    c.serve_clients.ensures.made

pub returns-in-Ok-clause-calls : goal.returns-in-Ok-clause-calls
returns-in-Ok-clause-calls g c = λ known.
    let P = g.P.Port in
    let T : List PortEvent → Type 0 = λ before. (events : List PortEvent) × (P.events c.serve_clients.new.port ≡ before ++ events) × AreCalls c.args.words.now.turns events in
    subst T (c.listen.ensures.lists known).0 (c.serve_clients.ensures.calls known)

pub returns-in-Ok-clause-link : goal.returns-in-Ok-clause-link
returns-in-Ok-clause-link g c =
    let P = g.P.Port in
    subst (λ (n : ℕ). CountsIf (is_link c.serve_clients.result) n (P.faults c.serve_clients.new.port)) c.in-Ok.ensures.cause c.serve_clients.ensures.link

pub returns-in-Err-Failed-clause-stopped : goal.returns-in-Err-Failed-clause-stopped
returns-in-Err-Failed-clause-stopped g c = λ told.
    let V = g.V.Volume in let P = g.P.Port in let C = g.C.Clock in
    stopped_at_once g.K.Keep.logs c.requires.logs (V.disk c.args.volume.now) (c.requires.rests told) c.args.key (V.faults c.args.volume.now) (V.disk c.args.volume.now) (V.faults c.args.volume.now) refl (omega arith)
    (c.crashes_leave_what_is_held.ensures c.args.keeper no_channels (V.disk c.args.volume.now) c.requires.sound (c.requires.keeps told)) c.args.words.now.turns P.tells C.tells (C.coming c.args.clock.now)
    (P.events c.args.port.now) (P.events c.listen.new.self) (P.sent c.args.port.now) (P.sent c.listen.new.self) (P.failed c.args.port.now) (P.failed c.listen.new.self)
    (λ known. (c.listen.ensures.lists known).0) (λ known. (c.listen.ensures.lists known).1) (λ known. (c.listen.ensures.lists known).2)

pub returns-in-Err-Failed-clause-calls : goal.returns-in-Err-Failed-clause-calls
returns-in-Err-Failed-clause-calls g c = λ known. ([], (c.listen.ensures.lists known).0 ∙ sym (append-nil (g.P.Port.events c.args.port.now)), no_calls c.args.words.now.turns)

pub returns-clause-stopped : goal.returns-clause-stopped
returns-clause-stopped g c = λ told.
    let V = g.V.Volume in let P = g.P.Port in let C = g.C.Clock in
    stopped_at_once g.K.Keep.logs c.requires.logs (V.disk c.args.volume.now) (c.requires.rests told) c.args.key (V.faults c.args.volume.now) (V.disk c.args.volume.now) (V.faults c.args.volume.now) refl (omega arith)
    (c.crashes_leave_what_is_held.ensures c.args.keeper no_channels (V.disk c.args.volume.now) c.requires.sound (c.requires.keeps told)) c.args.words.now.turns P.tells C.tells (C.coming c.args.clock.now)
    (P.events c.args.port.now) (P.events c.listen.new.self) (P.sent c.args.port.now) (P.sent c.listen.new.self) (P.failed c.args.port.now) (P.failed c.listen.new.self)
    (λ known. (c.listen.ensures.lists known).0) (λ known. (c.listen.ensures.lists known).1) (λ known. (c.listen.ensures.lists known).2)

pub returns-clause-calls : goal.returns-clause-calls
returns-clause-calls g c = λ known. ([], (c.listen.ensures.lists known).0 ∙ sym (append-nil (g.P.Port.events c.args.port.now)), no_calls c.args.words.now.turns)

pub returns-in-Err-Failed-clause-others : goal.returns-in-Err-Failed-clause-others
returns-in-Err-Failed-clause-others g c = λ told file other. stays_by (g.V.Volume.disk c.args.volume.now) (g.V.Volume.disk c.args.volume.now) file (c.requires.rests told file) refl

pub returns-clause-others : goal.returns-clause-others
returns-clause-others g c = λ told file other. stays_by (g.V.Volume.disk c.args.volume.now) (g.V.Volume.disk c.args.volume.now) file (c.requires.rests told file) refl

-- The folder is chosen, which leaves the files as they were.
use Rattle.std.proofs.Common.{◌≡◌, ◌++◌, [], ℕ, List, refl, sym, subst, arith}
use Rattle.std.proofs.lemmas.List.{append-nil}
use Rattle.std.proofs.lemmas.Result.{on_err_weaker}
use Rattle.disk_volume.specs.Disk.{Disk, AtRest}
use Rattle.netflux_core.specs.Channels.{no_channels}
use Rattle.pad_serve.specs.Ends.{IsServedBy, IsStoppedBy}
use Rattle.pad_serve.specs.Leaves.{Stays}
use Rattle.pad_serve.proofs.EndsOfRuns.{stopped_at_once}
use Rattle.pad_serve.proofs.Leaving.{stays_by}
use Rattle.pad_serve.proofs.Running.{no_calls}
use Rattle.pad_serve.proofs.Writing.{ok_then}
use Rattle.pad_serve.proofs.serving.serve.Goals as goal

pub serve_folder-requires-clause-rests : goal.serve_folder-requires-clause-rests
serve_folder-requires-clause-rests g c = λ told. subst (λ (d : Disk). (file : List ℕ) → AtRest d file) (sym (c.root.ensures.disk told)) (c.requires.rests told)

pub serve_folder-requires-clause-keeps : goal.serve_folder-requires-clause-keeps
serve_folder-requires-clause-keeps g c = λ told. subst (λ (d : Disk). g.K.Keep.keeps c.args.keeper no_channels d) (sym (c.root.ensures.disk told)) (c.requires.keeps told)

pub returns-in-Ok-clause-served : goal.returns-in-Ok-clause-served
returns-in-Ok-clause-served g c =
    let V = g.V.Volume in let P = g.P.Port in let C = g.C.Clock in
    let T : ℕ → Disk → ℕ → Type 0 = λ made disk faults. IsServedBy g.K.Keep.logs c.args.key disk (V.disk c.serve_folder.new.volume) faults (V.faults c.serve_folder.new.volume) c.args.words.now.turns made P.tells C.tells (C.coming c.args.clock.now)
    (P.events c.args.port.now) (P.events c.serve_folder.new.port) (P.sent c.args.port.now) (P.sent c.serve_folder.new.port) (P.failed c.args.port.now) (P.failed c.serve_folder.new.port) in
    ok_then c.serve_folder.result (λ done. (done.0, done.1, done.2, λ told. subst (λ (f : ℕ). T done.0 (V.disk c.args.volume.now) f) (c.in-Ok.ensures.cause.kept refl) (subst (λ (d : Disk). T done.0 d (V.faults c.root.new.self)) (c.root.ensures.disk told) (done.3 told))))
    c.serve_folder.ensures.served

pub returns-in-Ok-clause-stopped : goal.returns-in-Ok-clause-stopped
returns-in-Ok-clause-stopped g c = λ told.
    let V = g.V.Volume in let P = g.P.Port in let C = g.C.Clock in
    let T : Disk → ℕ → Type 0 = λ disk faults. IsStoppedBy g.K.Keep.logs c.args.key disk (V.disk c.serve_folder.new.volume) faults (V.faults c.serve_folder.new.volume) c.args.words.now.turns P.tells C.tells (C.coming c.args.clock.now)
    (P.events c.args.port.now) (P.events c.serve_folder.new.port) (P.sent c.args.port.now) (P.sent c.serve_folder.new.port) (P.failed c.args.port.now) (P.failed c.serve_folder.new.port) in
    on_err_weaker c.serve_folder.result (λ stopped. subst (λ (f : ℕ). T (V.disk c.args.volume.now) f) (c.in-Ok.ensures.cause.kept refl) (subst (λ (d : Disk). T d (V.faults c.root.new.self)) (c.root.ensures.disk told) stopped))
    (c.serve_folder.ensures.stopped told)

pub returns-in-Ok-clause-part : goal.returns-in-Ok-clause-part
returns-in-Ok-clause-part g c = λ is.
    let V = g.V.Volume in let P = g.P.Port in let C = g.C.Clock in
    let done = c.serve_folder.ensures.part is in
    let T : Disk → ℕ → Type 0 = λ disk faults. IsServedBy g.K.Keep.logs c.args.key disk (V.disk c.serve_folder.new.volume) faults (V.faults c.serve_folder.new.volume) c.args.words.now.turns done.0 P.tells C.tells (C.coming c.args.clock.now)
    (P.events c.args.port.now) (P.events c.serve_folder.new.port) (P.sent c.args.port.now) (P.sent c.serve_folder.new.port) (P.failed c.args.port.now) (P.failed c.serve_folder.new.port) in
    (done.0, done.1, done.2, λ told. subst (λ (f : ℕ). T (V.disk c.args.volume.now) f) (c.in-Ok.ensures.cause.kept refl) (subst (λ (d : Disk). T d (V.faults c.root.new.self)) (c.root.ensures.disk told) (done.3 told)))

pub returns-in-Ok-clause-store : goal.returns-in-Ok-clause-store
returns-in-Ok-clause-store g c = λ is. absurd (c.serve_folder.ensures.no_store is)

pub returns-in-Ok-clause-others : goal.returns-in-Ok-clause-others
returns-in-Ok-clause-others g c = λ told file other.
    subst (λ (d : Disk). Stays d (g.V.Volume.disk c.serve_folder.new.volume) file) (c.root.ensures.disk told) (c.serve_folder.ensures.others told file other)

pub returns-in-Ok-clause-follows : goal.returns-in-Ok-clause-follows
returns-in-Ok-clause-follows g c = g.met.V.Volume.follows_on c.args.volume.now c.root.new.self c.serve_folder.new.volume c.root.ensures.follows c.serve_folder.ensures.follows

pub returns-in-Err-clause-stopped : goal.returns-in-Err-clause-stopped
returns-in-Err-clause-stopped g c = λ told.
    let V = g.V.Volume in let P = g.P.Port in let C = g.C.Clock in
    stopped_at_once g.K.Keep.logs c.requires.logs (V.disk c.args.volume.now) (c.requires.rests told) c.args.key (V.faults c.args.volume.now) (V.disk c.root.new.self) (V.faults c.root.new.self) (c.root.ensures.disk told) (omega arith)
    (c.crashes_leave_what_is_held.ensures c.args.keeper no_channels (V.disk c.args.volume.now) c.requires.sound (c.requires.keeps told)) c.args.words.now.turns P.tells C.tells (C.coming c.args.clock.now)
    (P.events c.args.port.now) (P.events c.args.port.now) (P.sent c.args.port.now) (P.sent c.args.port.now) (P.failed c.args.port.now) (P.failed c.args.port.now) (λ known. refl) (λ known. refl) (λ known. refl)

pub returns-in-Err-clause-calls : goal.returns-in-Err-clause-calls
returns-in-Err-clause-calls g c = λ known. ([], sym (append-nil (g.P.Port.events c.args.port.now)), no_calls c.args.words.now.turns)

pub returns-in-Err-clause-others : goal.returns-in-Err-clause-others
returns-in-Err-clause-others g c = λ told file other.
    let V = g.V.Volume in
    subst (λ (d : Disk). Stays (V.disk c.args.volume.now) d file) (sym (c.root.ensures.disk told)) (stays_by (V.disk c.args.volume.now) (V.disk c.args.volume.now) file (c.requires.rests told file) refl)

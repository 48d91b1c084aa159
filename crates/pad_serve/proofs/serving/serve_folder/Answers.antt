-- A folder that was chosen is served, and then the line is written.
use Rattle.std.proofs.Common.{◌≡◌, inl, inr, Bool, refl, sym, subst}
use Rattle.pad_edge.specs.Count.{CountsIf}
use Rattle.pad_serve.proofs.EndsOfRuns.{done_stops}
use Rattle.pad_serve.proofs.Writing.{on_err, ok_then, err_then, not_link, not_store}
use Rattle.pad_serve.proofs.serving.serve_folder.Goals as goal

pub returns-in-Ok-clause-served : goal.returns-in-Ok-clause-served
returns-in-Ok-clause-served g c = ok_then c.write_turns.result (λ wrote. (c.in-Ok.made, wrote, c.in-Ok.ensures.made, c.in-Ok.ensures.served)) c.write_turns.ensures.whole

pub returns-in-Ok-clause-stopped : goal.returns-in-Ok-clause-stopped
returns-in-Ok-clause-stopped g c = λ told.
    let V = g.V.Volume in let P = g.P.Port in let C = g.C.Clock in
    on_err c.write_turns.result (done_stops g.K.Keep.logs c.args.key (V.disk c.args.volume.now) (V.disk c.serve_address.new.volume) (V.faults c.args.volume.now) (V.faults c.serve_address.new.volume) c.args.words.now.turns P.tells C.tells (C.coming c.args.clock.now)
    (P.events c.args.port.now) (P.events c.serve_address.new.port) (P.sent c.args.port.now) (P.sent c.serve_address.new.port) (P.failed c.args.port.now) (P.failed c.serve_address.new.port) c.in-Ok.made (c.in-Ok.ensures.served told))

pub returns-in-Ok-clause-part : goal.returns-in-Ok-clause-part
returns-in-Ok-clause-part g c = λ is. (c.in-Ok.made, c.write_turns.ensures.part is, c.in-Ok.ensures.made, c.in-Ok.ensures.served)

pub returns-in-Ok-clause-unwritten : goal.returns-in-Ok-clause-unwritten
returns-in-Ok-clause-unwritten g c = err_then c.write_turns.result (λ why. elim why [ inl wrote ↦ inl wrote | inr none ↦ inr none.1 ]) c.write_turns.ensures.refused

pub returns-in-Ok-clause-no_store : goal.returns-in-Ok-clause-no_store
returns-in-Ok-clause-no_store g c = not_store _ c.write_turns.result c.write_turns.ensures.refused

pub returns-in-Ok-clause-link : goal.returns-in-Ok-clause-link
returns-in-Ok-clause-link g c =
    let P = g.P.Port in
    let Q : Bool → Type 0 = λ b. CountsIf b (P.faults c.args.port.now) (P.faults c.serve_address.new.port) in
    subst Q (sym (not_link _ c.write_turns.result c.write_turns.ensures.refused)) c.in-Ok.ensures.link

pub returns-in-Err-clause-part : goal.returns-in-Err-clause-part
returns-in-Err-clause-part g c = λ is. elim c.in-Err.ensures.refused [ inl link ↦ absurd (cc) | inr none ↦ absurd (cc) ]

pub returns-in-Err-clause-no_store : goal.returns-in-Err-clause-no_store
returns-in-Err-clause-no_store g c = λ is. elim c.in-Err.ensures.refused [ inl link ↦ absurd (cc) | inr none ↦ absurd (cc) ]

pub returns-in-Err-clause-write : goal.returns-in-Err-clause-write
returns-in-Err-clause-write g c = λ is. elim c.in-Err.ensures.refused [ inl link ↦ absurd (cc) | inr none ↦ absurd (cc) ]

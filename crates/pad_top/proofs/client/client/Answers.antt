-- A client whose input is a script, or was not read to its end.
use Rattle.std.proofs.Common.{◌≡◌, ◌∙◌, ◌++◌, inr, refl, sym, subst}
use Rattle.pad_edge.specs.Count.{Rose}
use Rattle.pad_top.specs.Client.{IsScriptDone, IsScriptStopped, ClientEnds}
use Rattle.pad_top.specs.Inside.Ending.{fixed_line}
use Rattle.pad_top.specs.Inside.Told.{IsToldAs}
use Rattle.pad_top.proofs.Scripted.{Nothing, nothing_yet, refused_ends, refused_is, line_broken, whether_read, whether_read_cut, known_script}
use Rattle.pad_top.proofs.client.client.Goals as goal

pub returns-in-Ok-clause-whole : goal.returns-in-Ok-clause-whole
returns-in-Ok-clause-whole g c other =
    let I = g.I.Source in let K = g.K.Link in let O = g.O.Sink in let old = c.args.link.now in let now = c.run_script.new.link in let left = I.left c.args.input.now in
    let told = subst (IsToldAs left) (sym c.as_slice.ensures.value) c.in-Ok.ensures.whole in
    let some = c.run_script.ensures.whole left told other in
    let ends = whether_read left (IsScriptDone left K.tells (K.heard old) (K.heard now) (K.sent old) (K.sent now)) (IsScriptStopped left K.tells (K.heard old) (K.heard now) (K.sent old) (K.sent now)) (now ≡ old)
    (Rose (I.faults c.args.input.now) (I.faults c.read_all.new.input)) (Rose (K.faults old) (K.faults now)) (Rose (K.ends old) (K.ends now)) c.run_script.result some.0 some.1 in
    (some.0, ends, some.2)

pub returns-in-Ok-clause-part : goal.returns-in-Ok-clause-part
returns-in-Ok-clause-part g c cut =
    let I = g.I.Source in let K = g.K.Link in let O = g.O.Sink in let old = c.args.link.now in let now = c.run_script.new.link in let left = I.left c.args.input.now in
    let told = subst (IsToldAs left) (sym c.as_slice.ensures.value) c.in-Ok.ensures.whole in
    whether_read_cut left (IsScriptDone left K.tells (K.heard old) (K.heard now) (K.sent old) (K.sent now)) (IsScriptStopped left K.tells (K.heard old) (K.heard now) (K.sent old) (K.sent now)) (now ≡ old)
    (Rose (I.faults c.args.input.now) (I.faults c.read_all.new.input)) (Rose (K.faults old) (K.faults now)) (Rose (K.ends old) (K.ends now)) (O.written c.args.output.now) (O.written c.run_script.new.output)
    (c.run_script.ensures.part left told cut)

pub returns-in-Ok-clause-complete : goal.returns-in-Ok-clause-complete
returns-in-Ok-clause-complete g c has no_read no_link no_end no_write =
    let left = g.I.Source.left c.args.input.now in
    let known = known_script left c.as_slice.result.now (subst (IsToldAs left) (sym c.as_slice.ensures.value) c.in-Ok.ensures.whole) has in
    c.run_script.ensures.complete known.1.0 known.1.1 no_link no_end no_write

pub returns-in-Err-clause-part : goal.returns-in-Err-clause-part
returns-in-Err-clause-part g c cut =
    let I = g.I.Source in let K = g.K.Link in let O = g.O.Sink in let old = c.args.link.now in let left = I.left c.args.input.now in
    let Done = IsScriptDone left K.tells (K.heard old) (K.heard old) (K.sent old) (K.sent old) in
    let Stopped = IsScriptStopped left K.tells (K.heard old) (K.heard old) (K.sent old) (K.sent old) in
    let read_failed = Rose (I.faults c.args.input.now) (I.faults c.read_all.new.input) in
    let link_failed = Rose (K.faults old) (K.faults old) in let link_ended = Rose (K.ends old) (K.ends old) in
    let Ends = ClientEnds left Done Stopped (old ≡ old) read_failed link_failed link_ended in
    let error = c.in-Err.refused in
    inr (line_broken Nothing Ends (O.written c.args.output.now) (O.written c.args.output.now) (O.written c.end.new.output) _ c.line.result.now (fixed_line c.status-status.result) c.status-status.result c.end.result
    (nothing_yet (O.written c.args.output.now)) c.line.ensures (λ e. (refused_is error).1 (sym c.status-status.ensures ∙ e))
    (λ front none. subst (λ s. Ends s (front ++ fixed_line s)) (sym c.status-status.ensures) (refused_ends left Done Stopped (old ≡ old) read_failed link_failed link_ended error refl c.in-Err.ensures.refused front none))
    c.end.ensures.end cut)

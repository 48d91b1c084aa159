-- How a script ends, by why it was not carried out to its end.
use Rattle.std.proofs.Common.{rules, ◌≡◌, ◌≤◌, inl, inr, List, ℕ, length, refl, sym, subst}
use Rattle.pad_conversation.specs.declared.refused.ConversationRefused.TheVariants as refused
use Rattle.pad_edge.specs.Count.{Rose}
use Rattle.pad_script.specs.Act.{Says}
use Rattle.pad_script.specs.Script.{IsFirstOutside, IsScript}
use Rattle.pad_top.specs.Client.{IsScriptDone, IsScriptStopped, ClientEnds}
use Rattle.pad_top.specs.Input.{most_bytes}
use Rattle.pad_top.specs.declared.status.Status.TheVariants as status
use Rattle.pad_top.specs.Status.{status_line}
use Rattle.pad_top.proofs.Ending.{told as told_input}
use Rattle.pad_top.proofs.Scripted.{is_inside, is_script_of, script_stopped, line_behind, line_broken, bad_line_cut}
use Rattle.pad_top.proofs.client.run_script.Goals as goal

pub returns-in-Err-BadLine-clause-part : goal.returns-in-Err-BadLine-clause-part
returns-in-Err-BadLine-clause-part g c input told cut =
    let K = g.K.Link in let O = g.O.Sink in let old = c.args.link.now in let now = c.args.link.now in
    let Done = IsScriptDone input K.tells (K.heard old) (K.heard now) (K.sent old) (K.sent now) in
    let Stopped = IsScriptStopped input K.tells (K.heard old) (K.heard now) (K.sent old) (K.sent now) in
    let Ends = ClientEnds input Done Stopped (now ≡ old) ⊥ (Rose (K.faults old) (K.faults now)) (Rose (K.ends old) (K.ends now)) in
    let number = c.in-Err-BadLine.number in
    let outside = told_input input c.args.bytes.now (λ b. (length b ≤ most_bytes) × IsFirstOutside Says b number) told (c.requires.within, c.in-Err-BadLine.ensures.bad number c.in-Err-BadLine.field-0-is) in
    inr (bad_line_cut O.written Ends c.args.output.now c.end_bad_script.new.output _ (status_line (status.BadScript number)) (status.BadScript number) c.end_bad_script.result c.end_bad_script.ensures.end (outside, refl, refl) (λ e. cc) cut)

pub returns-in-Err-BadLine-clause-complete : goal.returns-in-Err-BadLine-clause-complete
returns-in-Err-BadLine-clause-complete g c commands script no_link no_end no_write =
    absurd (is_inside c.args.bytes.now commands c.in-Err-BadLine.number script (c.in-Err-BadLine.ensures.bad c.in-Err-BadLine.number c.in-Err-BadLine.field-0-is))

pub returns-in-Err-Write-clause-part : goal.returns-in-Err-Write-clause-part
returns-in-Err-Write-clause-part g c input told cut =
    let K = g.K.Link in let O = g.O.Sink in let old = c.args.link.now in let now = c.run_commands.new.link in
    let commands = c.as_slice.result.now in
    let script = is_script_of input c.args.bytes.now commands told c.requires.within (subst (IsScript Says c.args.bytes.now) (sym c.as_slice.ensures) c.in-Ok.ensures.read) in
    let front = script_stopped input commands K.tells (K.heard old) (K.heard now) (K.sent old) (K.sent now) (O.written c.args.output.now) (O.written c.run_commands.new.output) c.in-Err-Write.field-0 refused.Write c.in-Err-Write.field-0-is script
    c.in-Err-Write.ensures.stopped in
    inl front

pub returns-in-Err-NoMemory-run_commands-clause-whole : goal.returns-in-Err-NoMemory-run_commands-clause-whole
returns-in-Err-NoMemory-run_commands-clause-whole g c input told other =
    let K = g.K.Link in let O = g.O.Sink in let old = c.args.link.now in let now = c.run_commands.new.link in
    let commands = c.as_slice.result.now in
    let script = is_script_of input c.args.bytes.now commands told c.requires.within (subst (IsScript Says c.args.bytes.now) (sym c.as_slice.ensures) c.in-Ok.ensures.read) in
    let front = script_stopped input commands K.tells (K.heard old) (K.heard now) (K.sent old) (K.sent now) (O.written c.args.output.now) (O.written c.run_commands.new.output) c.in-Err-NoMemory-run_commands.field-0 refused.NoMemory c.in-Err-NoMemory-run_commands.field-0-is script
    c.in-Err-NoMemory-run_commands.ensures.stopped in
    (front.0, inr front.1, front.2)

pub returns-in-Err-Link-clause-whole : goal.returns-in-Err-Link-clause-whole
returns-in-Err-Link-clause-whole g c input told other =
    let K = g.K.Link in let O = g.O.Sink in let old = c.args.link.now in let now = c.run_commands.new.link in
    let Done = IsScriptDone input K.tells (K.heard old) (K.heard now) (K.sent old) (K.sent now) in
    let Stopped = IsScriptStopped input K.tells (K.heard old) (K.heard now) (K.sent old) (K.sent now) in
    let Ends = ClientEnds input Done Stopped (now ≡ old) ⊥ (Rose (K.faults old) (K.faults now)) (Rose (K.ends old) (K.ends now)) in
    let commands = c.as_slice.result.now in
    let script = is_script_of input c.args.bytes.now commands told c.requires.within (subst (IsScript Says c.args.bytes.now) (sym c.as_slice.ensures) c.in-Ok.ensures.read) in
    let front = script_stopped input commands K.tells (K.heard old) (K.heard now) (K.sent old) (K.sent now) (O.written c.args.output.now) (O.written c.run_commands.new.output) c.in-Err-Link.field-0 refused.Link c.in-Err-Link.field-0-is script
    c.in-Err-Link.ensures.stopped in
    let failed : Rose (K.faults old) (K.faults now) = search rules in
    line_behind (Stopped refused.Link) Ends (O.written c.args.output.now) (O.written c.run_commands.new.output) (O.written c.end.new.output) _ c.line.result.now (status_line status.LinkFault) status.LinkFault c.end.result
    front c.line.ensures (λ f is. (failed, (f, is, refl))) c.end.ensures.end other

pub returns-in-Err-Link-clause-part : goal.returns-in-Err-Link-clause-part
returns-in-Err-Link-clause-part g c input told cut =
    let K = g.K.Link in let O = g.O.Sink in let old = c.args.link.now in let now = c.run_commands.new.link in
    let Done = IsScriptDone input K.tells (K.heard old) (K.heard now) (K.sent old) (K.sent now) in
    let Stopped = IsScriptStopped input K.tells (K.heard old) (K.heard now) (K.sent old) (K.sent now) in
    let Ends = ClientEnds input Done Stopped (now ≡ old) ⊥ (Rose (K.faults old) (K.faults now)) (Rose (K.ends old) (K.ends now)) in
    let commands = c.as_slice.result.now in
    let script = is_script_of input c.args.bytes.now commands told c.requires.within (subst (IsScript Says c.args.bytes.now) (sym c.as_slice.ensures) c.in-Ok.ensures.read) in
    let front = script_stopped input commands K.tells (K.heard old) (K.heard now) (K.sent old) (K.sent now) (O.written c.args.output.now) (O.written c.run_commands.new.output) c.in-Err-Link.field-0 refused.Link c.in-Err-Link.field-0-is script
    c.in-Err-Link.ensures.stopped in
    let failed : Rose (K.faults old) (K.faults now) = search rules in
    inr (line_broken (Stopped refused.Link) Ends (O.written c.args.output.now) (O.written c.run_commands.new.output) (O.written c.end.new.output) _ c.line.result.now (status_line status.LinkFault) status.LinkFault c.end.result
    front c.line.ensures (λ e. cc) (λ f is. (failed, (f, is, refl))) c.end.ensures.end cut)

pub returns-in-Err-Ended-clause-whole : goal.returns-in-Err-Ended-clause-whole
returns-in-Err-Ended-clause-whole g c input told other =
    let K = g.K.Link in let O = g.O.Sink in let old = c.args.link.now in let now = c.run_commands.new.link in
    let Done = IsScriptDone input K.tells (K.heard old) (K.heard now) (K.sent old) (K.sent now) in
    let Stopped = IsScriptStopped input K.tells (K.heard old) (K.heard now) (K.sent old) (K.sent now) in
    let Ends = ClientEnds input Done Stopped (now ≡ old) ⊥ (Rose (K.faults old) (K.faults now)) (Rose (K.ends old) (K.ends now)) in
    let commands = c.as_slice.result.now in
    let script = is_script_of input c.args.bytes.now commands told c.requires.within (subst (IsScript Says c.args.bytes.now) (sym c.as_slice.ensures) c.in-Ok.ensures.read) in
    let front = script_stopped input commands K.tells (K.heard old) (K.heard now) (K.sent old) (K.sent now) (O.written c.args.output.now) (O.written c.run_commands.new.output) c.in-Err-Ended.field-0 refused.Ended c.in-Err-Ended.field-0-is script
    c.in-Err-Ended.ensures.stopped in
    let failed : Rose (K.ends old) (K.ends now) = search rules in
    line_behind (Stopped refused.Ended) Ends (O.written c.args.output.now) (O.written c.run_commands.new.output) (O.written c.end-in-Err-Ended.new.output) _ c.line-in-Err-Ended.result.now (status_line status.EndedEarly) status.EndedEarly c.end-in-Err-Ended.result
    front c.line-in-Err-Ended.ensures (λ f is. (failed, (f, is, refl))) c.end-in-Err-Ended.ensures.end other

pub returns-in-Err-Ended-clause-part : goal.returns-in-Err-Ended-clause-part
returns-in-Err-Ended-clause-part g c input told cut =
    let K = g.K.Link in let O = g.O.Sink in let old = c.args.link.now in let now = c.run_commands.new.link in
    let Done = IsScriptDone input K.tells (K.heard old) (K.heard now) (K.sent old) (K.sent now) in
    let Stopped = IsScriptStopped input K.tells (K.heard old) (K.heard now) (K.sent old) (K.sent now) in
    let Ends = ClientEnds input Done Stopped (now ≡ old) ⊥ (Rose (K.faults old) (K.faults now)) (Rose (K.ends old) (K.ends now)) in
    let commands = c.as_slice.result.now in
    let script = is_script_of input c.args.bytes.now commands told c.requires.within (subst (IsScript Says c.args.bytes.now) (sym c.as_slice.ensures) c.in-Ok.ensures.read) in
    let front = script_stopped input commands K.tells (K.heard old) (K.heard now) (K.sent old) (K.sent now) (O.written c.args.output.now) (O.written c.run_commands.new.output) c.in-Err-Ended.field-0 refused.Ended c.in-Err-Ended.field-0-is script
    c.in-Err-Ended.ensures.stopped in
    let failed : Rose (K.ends old) (K.ends now) = search rules in
    inr (line_broken (Stopped refused.Ended) Ends (O.written c.args.output.now) (O.written c.run_commands.new.output) (O.written c.end-in-Err-Ended.new.output) _ c.line-in-Err-Ended.result.now (status_line status.EndedEarly) status.EndedEarly c.end-in-Err-Ended.result
    front c.line-in-Err-Ended.ensures (λ e. cc) (λ f is. (failed, (f, is, refl))) c.end-in-Err-Ended.ensures.end cut)

pub returns-clause-whole : goal.returns-clause-whole
returns-clause-whole g c input told other =
    let K = g.K.Link in let O = g.O.Sink in let old = c.args.link.now in let now = c.run_commands.new.link in
    let Done = IsScriptDone input K.tells (K.heard old) (K.heard now) (K.sent old) (K.sent now) in
    let Stopped = IsScriptStopped input K.tells (K.heard old) (K.heard now) (K.sent old) (K.sent now) in
    let Ends = ClientEnds input Done Stopped (now ≡ old) ⊥ (Rose (K.faults old) (K.faults now)) (Rose (K.ends old) (K.ends now)) in
    let commands = c.as_slice.result.now in
    let script = is_script_of input c.args.bytes.now commands told c.requires.within (subst (IsScript Says c.args.bytes.now) (sym c.as_slice.ensures) c.in-Ok.ensures.read) in
    let front = script_stopped input commands K.tells (K.heard old) (K.heard now) (K.sent old) (K.sent now) (O.written c.args.output.now) (O.written c.run_commands.new.output) c.in-Err-Full.field-0 refused.Full c.in-Err-Full.field-0-is script
    c.in-Err-Full.ensures.stopped in
    line_behind (Stopped refused.Full) Ends (O.written c.args.output.now) (O.written c.run_commands.new.output) (O.written c.end-in-Err-Full.new.output) _ c.line-in-Err-Full.result.now (status_line status.Limit) status.Limit c.end-in-Err-Full.result
    front c.line-in-Err-Full.ensures (λ f is. inr (f, is, refl)) c.end-in-Err-Full.ensures.end other

pub returns-clause-part : goal.returns-clause-part
returns-clause-part g c input told cut =
    let K = g.K.Link in let O = g.O.Sink in let old = c.args.link.now in let now = c.run_commands.new.link in
    let Done = IsScriptDone input K.tells (K.heard old) (K.heard now) (K.sent old) (K.sent now) in
    let Stopped = IsScriptStopped input K.tells (K.heard old) (K.heard now) (K.sent old) (K.sent now) in
    let Ends = ClientEnds input Done Stopped (now ≡ old) ⊥ (Rose (K.faults old) (K.faults now)) (Rose (K.ends old) (K.ends now)) in
    let commands = c.as_slice.result.now in
    let script = is_script_of input c.args.bytes.now commands told c.requires.within (subst (IsScript Says c.args.bytes.now) (sym c.as_slice.ensures) c.in-Ok.ensures.read) in
    let front = script_stopped input commands K.tells (K.heard old) (K.heard now) (K.sent old) (K.sent now) (O.written c.args.output.now) (O.written c.run_commands.new.output) c.in-Err-Full.field-0 refused.Full c.in-Err-Full.field-0-is script
    c.in-Err-Full.ensures.stopped in
    inr (line_broken (Stopped refused.Full) Ends (O.written c.args.output.now) (O.written c.run_commands.new.output) (O.written c.end-in-Err-Full.new.output) _ c.line-in-Err-Full.result.now (status_line status.Limit) status.Limit c.end-in-Err-Full.result
    front c.line-in-Err-Full.ensures (λ e. cc) (λ f is. inr (f, is, refl)) c.end-in-Err-Full.ensures.end cut)

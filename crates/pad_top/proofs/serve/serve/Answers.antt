-- How serving ends, by why it was not done to its end.
use Rattle.std.proofs.Common.{rules, ◌≡◌, inl, inr, [], Err, refl, sym, ap, subst}
use Rattle.std.proofs.KnownBytes.{Appends-nil}
use Rattle.std.specs.Io.KnownBytes.{Appends}
use Rattle.pad_edge.specs.Count.{Rose}
use Rattle.pad_serve.specs.Turns.{turns_text}
use Rattle.pad_top.specs.declared.status.Status.TheVariants as status
use Rattle.pad_top.specs.Status.{status_line}
use Rattle.pad_top.proofs.Serving.{line_ends, line_cut}
use Rattle.pad_top.proofs.serve.serve.Goals as goal

pub returns-in-Ok-clause-whole : goal.returns-in-Ok-clause-whole
returns-in-Ok-clause-whole g c other =
    let served = c.in-Ok.ensures.served in
    (turns_text served.0, (served.0, (served.2, served.3), refl), served.1)

pub returns-in-Err-Write-clause-part : goal.returns-in-Err-Write-clause-part
returns-in-Err-Write-clause-part g c cut =
    let part = c.in-Err-Write.ensures.part (ap Err c.in-Err-Write.field-0-is) in
    (status.Ok, (turns_text part.0, (part.0, (part.2, part.3), refl), part.1))

pub returns-in-Err-NoMemory-clause-whole : goal.returns-in-Err-NoMemory-clause-whole
returns-in-Err-NoMemory-clause-whole g c other =
    let is = c.in-Err-NoMemory.field-0-is in
    let same : c.serve.new.output ≡ c.args.output.now = elim c.in-Err-NoMemory.ensures.unwritten [ inl write ↦ absurd (cc) | inr same ↦ same ] in
    let written = g.O.Sink.written c.args.output.now in
    ([], ((λ told. c.in-Err-NoMemory.ensures.stopped told), refl), subst (λ it. Appends written (g.O.Sink.written it) []) (sym same) (Appends-nil written))

pub returns-in-Err-Store-clause-whole : goal.returns-in-Err-Store-clause-whole
returns-in-Err-Store-clause-whole g c other =
    let is = c.in-Err-Store.field-0-is in
    let same : c.serve.new.output ≡ c.args.output.now = elim c.in-Err-Store.ensures.unwritten [ inl write ↦ absurd (cc) | inr same ↦ same ] in
    let failed = (c.in-Err-Store.ensures.store (ap Err is)).0 in
    line_ends g.O.Sink.written _ _ _ _ c.args.output.now c.serve.new.output c.end.new.output _ _ (status_line status.StoreFault) status.StoreFault c.end.result
    same c.line.ensures (failed, (λ told. c.in-Err-Store.ensures.stopped told), refl) c.end.ensures.end other

pub returns-in-Err-Store-clause-part : goal.returns-in-Err-Store-clause-part
returns-in-Err-Store-clause-part g c cut =
    let is = c.in-Err-Store.field-0-is in
    let same : c.serve.new.output ≡ c.args.output.now = elim c.in-Err-Store.ensures.unwritten [ inl write ↦ absurd (cc) | inr same ↦ same ] in
    let failed = (c.in-Err-Store.ensures.store (ap Err is)).0 in
    line_cut g.O.Sink.written _ _ _ _ c.args.output.now c.serve.new.output c.end.new.output _ _ (status_line status.StoreFault) status.StoreFault c.end.result
    same c.line.ensures (failed, (λ told. c.in-Err-Store.ensures.stopped told), refl) c.end.ensures.end cut

pub returns-in-Err-Link-clause-part : goal.returns-in-Err-Link-clause-part
returns-in-Err-Link-clause-part g c cut =
    let is = c.in-Err-Link.field-0-is in
    let same : c.serve.new.output ≡ c.args.output.now = elim c.in-Err-Link.ensures.unwritten [ inl write ↦ absurd (cc) | inr same ↦ same ] in
    let failed : Rose (g.P.Port.faults c.args.port.now) (g.P.Port.faults c.serve.new.port) = search rules in
    line_cut g.O.Sink.written _ _ _ _ c.args.output.now c.serve.new.output c.end-in-Err-Link.new.output _ _ (status_line status.LinkFault) status.LinkFault c.end-in-Err-Link.result
    same c.line-in-Err-Link.ensures (failed, (λ told. c.in-Err-Link.ensures.stopped told), refl) c.end-in-Err-Link.ensures.end cut

pub serve-requires-clause-keeps : goal.serve-requires-clause-keeps
serve-requires-clause-keeps g c told = c.new-keeper.ensures.keeps (g.V.Volume.disk c.args.volume.now) (c.requires.rests told)

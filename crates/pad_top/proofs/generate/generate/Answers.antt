-- How generating ends, by why its summary was not written to its end.
use Rattle.std.proofs.Common.{◌≡◌, inl, inr, [], Err, refl, sym, ap, subst}
use Rattle.std.proofs.KnownBytes.{Appends-nil}
use Rattle.std.specs.Io.KnownBytes.{Appends}
use Rattle.pad_top.specs.declared.status.Status.TheVariants as status
use Rattle.pad_top.proofs.generate.generate.Goals as goal

pub returns-in-Ok-clause-whole : goal.returns-in-Ok-clause-whole
returns-in-Ok-clause-whole g c other = c.in-Ok.ensures.whole

pub returns-in-Err-Write-clause-part : goal.returns-in-Err-Write-clause-part
returns-in-Err-Write-clause-part g c cut = (status.Ok, c.in-Err-Write.ensures.part (ap Err c.in-Err-Write.field-0-is))

pub returns-in-Err-Write-clause-complete : goal.returns-in-Err-Write-clause-complete
returns-in-Err-Write-clause-complete g c no_write = absurd (no_write (c.in-Err-Write.ensures.write (ap Err c.in-Err-Write.field-0-is)))

pub returns-in-Err-NoMemory-clause-whole : goal.returns-in-Err-NoMemory-clause-whole
returns-in-Err-NoMemory-clause-whole g c other =
    let is = c.in-Err-NoMemory.field-0-is in
    let same : c.generate.new.output ≡ c.args.output.now = elim c.in-Err-NoMemory.ensures.unwritten [ inl write ↦ absurd (cc) | inr same ↦ same ] in
    let written = g.O.Sink.written c.args.output.now in
    ([], refl, subst (λ it. Appends written (g.O.Sink.written it) []) (sym same) (Appends-nil written))

-- How a log ends, by why its lines were not written to their end.
use Rattle.std.proofs.Common.{◌≡◌, inl, inr, Err, refl, sym, ap, subst}
use Rattle.log_format.specs.declared.damage.Damage.{Damage}
use Rattle.pad_edge.specs.Count.{Rose}
use Rattle.disk_volume.specs.Disk.{reads}
use Rattle.pad_top.specs.declared.status.Status.TheVariants as status
use Rattle.pad_top.specs.Inside.Ending.{IsEnd}
use Rattle.pad_top.specs.Log.{IsChannelDamage}
use Rattle.pad_top.proofs.Logs.{log_cut, store_ends, store_cut, damage_ends, damage_cut, damage_told}
use Rattle.pad_top.proofs.log.log.Goals as goal

pub returns-in-Ok-clause-whole : goal.returns-in-Ok-clause-whole
returns-in-Ok-clause-whole g c other = c.in-Ok.ensures.whole

pub returns-in-Err-Write-clause-part : goal.returns-in-Err-Write-clause-part
returns-in-Err-Write-clause-part g c cut = log_cut c.args.words.now.channel g.V.Volume.tells (reads (g.V.Volume.disk c.args.volume.now)) (Rose (g.V.Volume.faults c.args.volume.now) (g.V.Volume.faults c.write_folder.new.volume)) (g.O.Sink.written c.args.output.now) (g.O.Sink.written c.write_folder.new.output) c.in-Err-Write.ensures.part

pub returns-in-Err-NoMemory-clause-whole : goal.returns-in-Err-NoMemory-clause-whole
returns-in-Err-NoMemory-clause-whole g c other = c.in-Err-NoMemory.ensures.part

pub returns-in-Err-Store-clause-whole : goal.returns-in-Err-Store-clause-whole
returns-in-Err-Store-clause-whole g c other =
    let ended = subst (λ text. IsEnd (g.O.Sink.written c.write_folder.new.output) (g.O.Sink.written c.end.new.output) (Rose (g.O.Sink.faults c.write_folder.new.output) (g.O.Sink.faults c.end.new.output)) text status.StoreFault c.end.result) c.line.ensures c.end.ensures.end in
    store_ends c.args.words.now.channel g.V.Volume.tells (reads (g.V.Volume.disk c.args.volume.now)) (Rose (g.V.Volume.faults c.args.volume.now) (g.V.Volume.faults c.write_folder.new.volume)) (g.O.Sink.written c.args.output.now) (g.O.Sink.written c.write_folder.new.output) (g.O.Sink.written c.end.new.output) _ c.end.result (c.in-Err-Store.ensures.store (ap Err c.in-Err-Store.field-0-is)) c.in-Err-Store.ensures.part ended other

pub returns-in-Err-Store-clause-part : goal.returns-in-Err-Store-clause-part
returns-in-Err-Store-clause-part g c cut =
    let ended = subst (λ text. IsEnd (g.O.Sink.written c.write_folder.new.output) (g.O.Sink.written c.end.new.output) (Rose (g.O.Sink.faults c.write_folder.new.output) (g.O.Sink.faults c.end.new.output)) text status.StoreFault c.end.result) c.line.ensures c.end.ensures.end in
    store_cut c.args.words.now.channel g.V.Volume.tells (reads (g.V.Volume.disk c.args.volume.now)) (Rose (g.V.Volume.faults c.args.volume.now) (g.V.Volume.faults c.write_folder.new.volume)) (g.O.Sink.written c.args.output.now) (g.O.Sink.written c.write_folder.new.output) (g.O.Sink.written c.end.new.output) _ c.end.result (c.in-Err-Store.ensures.store (ap Err c.in-Err-Store.field-0-is)) c.in-Err-Store.ensures.part ended cut

pub returns-in-Err-Damaged-clause-whole : goal.returns-in-Err-Damaged-clause-whole
returns-in-Err-Damaged-clause-whole g c other =
    let ended = subst (λ text. IsEnd (g.O.Sink.written c.write_folder.new.output) (g.O.Sink.written c.end-in-Err-Damaged.new.output) (Rose (g.O.Sink.faults c.write_folder.new.output) (g.O.Sink.faults c.end-in-Err-Damaged.new.output)) text status.Damaged c.end-in-Err-Damaged.result) c.line-in-Err-Damaged.ensures c.end-in-Err-Damaged.ensures.end in
    damage_ends c.args.words.now.channel g.V.Volume.tells (reads (g.V.Volume.disk c.args.volume.now)) (Rose (g.V.Volume.faults c.args.volume.now) (g.V.Volume.faults c.write_folder.new.volume)) (g.O.Sink.written c.args.output.now) (g.O.Sink.written c.write_folder.new.output) (g.O.Sink.written c.end-in-Err-Damaged.new.output) _ c.end-in-Err-Damaged.result c.in-Err-Damaged.field-0-0 (λ told. c.in-Err-Damaged.ensures.damaged told c.in-Err-Damaged.field-0-0 (ap Err c.in-Err-Damaged.field-0-is)) c.in-Err-Damaged.ensures.part ended other

pub returns-in-Err-Damaged-clause-part : goal.returns-in-Err-Damaged-clause-part
returns-in-Err-Damaged-clause-part g c cut =
    let ended = subst (λ text. IsEnd (g.O.Sink.written c.write_folder.new.output) (g.O.Sink.written c.end-in-Err-Damaged.new.output) (Rose (g.O.Sink.faults c.write_folder.new.output) (g.O.Sink.faults c.end-in-Err-Damaged.new.output)) text status.Damaged c.end-in-Err-Damaged.result) c.line-in-Err-Damaged.ensures c.end-in-Err-Damaged.ensures.end in
    damage_cut c.args.words.now.channel g.V.Volume.tells (reads (g.V.Volume.disk c.args.volume.now)) (Rose (g.V.Volume.faults c.args.volume.now) (g.V.Volume.faults c.write_folder.new.volume)) (g.O.Sink.written c.args.output.now) (g.O.Sink.written c.write_folder.new.output) (g.O.Sink.written c.end-in-Err-Damaged.new.output) _ c.end-in-Err-Damaged.result c.in-Err-Damaged.field-0-0 (λ told. c.in-Err-Damaged.ensures.damaged told c.in-Err-Damaged.field-0-0 (ap Err c.in-Err-Damaged.field-0-is)) c.in-Err-Damaged.ensures.part ended cut

-- without a failure a log is done to its end, or wants memory, or is damaged
pub returns-in-Ok-clause-complete : goal.returns-in-Ok-clause-complete
returns-in-Ok-clause-complete g c no_store no_write = inl refl

pub returns-in-Err-Write-clause-complete : goal.returns-in-Err-Write-clause-complete
returns-in-Err-Write-clause-complete g c no_store no_write = absurd (no_write (c.in-Err-Write.ensures.write (ap Err c.in-Err-Write.field-0-is)))

pub returns-in-Err-NoMemory-clause-complete : goal.returns-in-Err-NoMemory-clause-complete
returns-in-Err-NoMemory-clause-complete g c no_store no_write = inr (inl refl)

pub returns-in-Err-Store-clause-complete : goal.returns-in-Err-Store-clause-complete
returns-in-Err-Store-clause-complete g c no_store no_write = absurd (no_store (c.in-Err-Store.ensures.store (ap Err c.in-Err-Store.field-0-is)))

pub returns-in-Err-Damaged-clause-complete : goal.returns-in-Err-Damaged-clause-complete
returns-in-Err-Damaged-clause-complete g c no_store no_write =
    let damaged = c.in-Err-Damaged.field-0-is in
    let same : g.O.Sink.faults c.write_folder.new.output ≡ g.O.Sink.faults c.args.output.now = elim c.in-Err-Damaged.ensures.written [ inl write ↦ absurd (cc) | inr same ↦ same ] in
    damage_told (g.V.Volume.tells → (damage : Damage) × IsChannelDamage c.args.words.now.channel (reads (g.V.Volume.disk c.args.volume.now)) damage)
    (g.O.Sink.written c.write_folder.new.output) (g.O.Sink.written c.end-in-Err-Damaged.new.output) _ _ c.end-in-Err-Damaged.result
    (λ told. (c.in-Err-Damaged.field-0-0, c.in-Err-Damaged.ensures.damaged told c.in-Err-Damaged.field-0-0 (ap Err c.in-Err-Damaged.field-0-is)))
    (subst (λ n. Rose n (g.O.Sink.faults c.end-in-Err-Damaged.new.output) → ⊥) (sym same) no_write) c.end-in-Err-Damaged.ensures.end

use Rattle.std.proofs.Common.{Ok, Err, rules}
use Rattle.pad_edge.specs.declared.failed.Failed.{Failed}
use Rattle.disk_volume.specs.Step.{cuts}
use Rattle.disk_volume.proofs.RecordLemmas.{record_cuts, records_refused}
use Rattle.disk_volume.proofs.mem_volume.MemVolumeVolume.cut.Goals as goal

pub returns-in_err-close-clause-done : goal.returns-in_err-close-clause-done
returns-in_err-close-clause-done c = records_refused c.from_residual.result _ c.args.self.now c.close.new.self c.from_residual.ensures.0 (search rules) (search rules)

pub returns-in_err-close-clause-disk : goal.returns-in_err-close-clause-disk
returns-in_err-close-clause-disk c =
    record_cuts c.from_residual.result c.args.file.now c.args.to c.args.self.now c.close.new.self (search rules)
    (records_refused c.from_residual.result (c.args.file.now, cuts c.args.to) c.args.self.now c.close.new.self c.from_residual.ensures.0 (search rules) (search rules))

pub returns-then-eq-2-clause-disk : goal.returns-then-eq-2-clause-disk
returns-then-eq-2-clause-disk c =
    record_cuts {T = Unit {0}} (Err c.fail-then-eq-2.result) c.args.file.now c.args.to c.args.self.now c.fail-then-eq-2.new.self (search rules) (search rules)

pub returns-clause-disk : goal.returns-clause-disk
returns-clause-disk c = record_cuts {E = Failed} (Ok (tt {0})) c.args.file.now c.args.to c.args.self.now c.close.new.self (search rules) (search rules)

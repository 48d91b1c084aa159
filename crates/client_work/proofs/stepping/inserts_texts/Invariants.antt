-- the operations so far insert texts
use Rattle.std.proofs.Common.{take}
use Rattle.std.specs.List.{All}
use Rattle.pad_text.specs.Text.{IsText}
use Rattle.client_work.proofs.stepping.inserts_texts.Given as goal

abbrev pub invariant-loop-op : goal.invariant-loop-op
invariant-loop-op l = All (λ operation. IsText operation.insert) (take l.op-index l.patch.ops)

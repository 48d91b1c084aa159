use Rattle.std.proofs.Common.{sym, ◌∙◌, arith}
use Rattle.std.proofs.lemmas.Result.{err_from_is_err_and}
use Rattle.serde_json.specs.View.{view}
use Rattle.pad_message.specs.Data.{operation_data}
use Rattle.pad_message.specs.Message.{IsOperation}
use Rattle.pad_message.proofs.Arrays.{partner}
use Rattle.pad_message.proofs.reading.operations_from.Goals as goal

-- operations with these values would have one with the value that spells none
pub returns-in_err-operation_from-clause-unreadable : goal.returns-in_err-operation_from-clause-unreadable
returns-in_err-operation_from-clause-unreadable c =
    let exit = err_from_is_err_and c.from_residual-in_err-operation_from.result c.from_residual-in_err-operation_from.ensures.1 in
    rw exit.1
    (λ refused operations typed same.
    let found = partner view operation_data IsOperation c.args.values.now operations c.loop-value.value-index c.value-item.result same (omega arith) c.value-item.is typed in
    c.in_err-operation_from.ensures.unreadable (sym exit.2 ∙ refused) found.0 found.1 found.2)

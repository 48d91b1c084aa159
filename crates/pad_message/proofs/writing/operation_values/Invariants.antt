use Rattle.std.proofs.Common.{◌≡◌, take, map}
use Rattle.std.specs.List.{All}
use Rattle.serde_json.specs.View.{view}
use Rattle.pad_message.specs.Data.{operation_data}
use Rattle.pad_message.specs.Message.{IsOperation}
use Rattle.pad_message.proofs.writing.operation_values.Given as goal

-- the values are those of the operations so far
abbrev pub invariant-loop-operation : goal.invariant-loop-operation
invariant-loop-operation l = record {
  written : map view l.values.items ≡ map operation_data (take l.operation-index l.operations);
  typed : All IsOperation (take l.operation-index l.operations);
}

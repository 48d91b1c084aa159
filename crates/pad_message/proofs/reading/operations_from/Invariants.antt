use Rattle.std.proofs.Common.{◌≡◌, map, take}
use Rattle.std.specs.List.{All}
use Rattle.serde_json.specs.View.{view}
use Rattle.pad_message.specs.Data.{operation_data}
use Rattle.pad_message.specs.Message.{IsOperation}
use Rattle.pad_message.proofs.reading.operations_from.Given as goal

-- the values so far are those of the operations
abbrev pub invariant-loop-value : goal.invariant-loop-value
invariant-loop-value l = record {
  read : map view (take l.value-index l.values) ≡ map operation_data l.operations.items;
  typed : All IsOperation l.operations.items;
}

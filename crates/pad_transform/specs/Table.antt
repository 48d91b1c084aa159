-- What becomes of an operation, and of a patch, on a text that another one changed first.
use Rattle.std.specs.Prelude.{◌≡◌, ◌+◌, ◌-◌, ◌≤◌, nat_lt, ◌==◌, ◌&&◌, if◌then◌else◌, List, [], ◌∷◌, length, Option, Some, None, IfSome}
use Rattle.std.specs.List.{filter_map}
use Rattle.std.specs.Option.{option_and_then}
use Rattle.pad_patch.specs.declared.operation.Operation.{Operation}
use Rattle.pad_patch.specs.declared.patch.Patch.{Patch}
use Rattle.pad_patch.specs.Operation.{is_noop}
use Rattle.pad_patch.specs.Piece.{end_of}

-- an operation by another one: the first case that applies counts
abbrev pub adjusted : Operation → Operation → Operation
adjusted operation by =
    -- behind the end of the other: it moves by what the other inserts less what it removes
    if nat_lt (end_of by) operation.offset then record operation { offset = operation.offset + length by.insert - by.remove }
    -- within what the other removes, or at its end: it starts behind the insertion, and removes what it removes behind the other
    else (if nat_lt by.offset operation.offset then record operation { offset = by.offset + length by.insert; remove = end_of operation - end_of by }
    -- it ends before the other starts: unchanged
    else (if nat_lt (end_of operation) by.offset then operation
    -- it starts before the other or where the other does: it removes up to that start
    else record operation { remove = by.offset - operation.offset }))

-- the operation, and none if it removes and inserts nothing
abbrev pub unless_noop : Operation → Option Operation
unless_noop operation = if is_noop operation then None else Some operation

-- an operation by another one, and none if it then removes and inserts nothing
abbrev pub transformed : Operation → Operation → Option Operation
transformed operation by = unless_noop (adjusted operation by)

-- an operation by each of these operations, from the last to the first
abbrev pub through : List Operation → Operation → Option Operation
through [] operation = Some operation
through (by ∷ later) operation = option_and_then (λ moved. transformed moved by) (through later operation)

-- the operations of a patch, each by those of another patch
abbrev pub transformed_all : Patch → Patch → List Operation
transformed_all patch by = filter_map (through by.ops) patch.ops

-- the new offset is at most 4,294,967,295
abbrev pub SumsFit : Operation → Operation → Type 0
SumsFit operation by = (adjusted operation by).offset ≤ 4294967295

-- so is each new offset on the way through these operations
abbrev pub SumsFitThrough : List Operation → Operation → Type 0
SumsFitThrough [] operation = Unit {0}
SumsFitThrough (by ∷ later) operation = SumsFitThrough later operation × IfSome (through later operation) (λ moved. SumsFit moved by)

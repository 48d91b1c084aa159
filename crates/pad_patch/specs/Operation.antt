-- One operation.
use Rattle.std.specs.Prelude.{◌==◌, ◌&&◌, Bool, length}
use Rattle.pad_patch.specs.declared.operation.Operation.{Operation}

-- the operation removes nothing and inserts nothing
abbrev pub is_noop : Operation → Bool
is_noop operation = (operation.remove == 0) && (length operation.insert == 0)

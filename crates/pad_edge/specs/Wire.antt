-- The bytes of a wire text, whether it is shared or not.
use Rattle.std.specs.Prelude.{ℕ, List, string_bytes}
use Rattle.std.specs.Rc.{rc_str_bytes}
use Rattle.pad_edge.specs.declared.wire.Held.{Held}
use Rattle.pad_edge.specs.declared.wire.Held.TheVariants.{Own, Shared}

-- the bytes of a text that is owned, or shared
abbrev pub bytes_of : Held → List ℕ
bytes_of (Own text) = string_bytes text
bytes_of (Shared text) = rc_str_bytes text

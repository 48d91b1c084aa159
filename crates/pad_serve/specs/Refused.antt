-- Why serving ended early.
use Rattle.std.specs.Prelude.{Bool, true, false, Result, Ok, Err}
use Rattle.pad_serve.specs.declared.refused.ServeRefused.{ServeRefused}
use Rattle.pad_serve.specs.declared.refused.ServeRefused.TheVariants as refused

-- the port could not listen, or failed
abbrev pub is_link : {T : Type 0} → Result T ServeRefused → Bool
is_link (Ok value) = false
is_link (Err refused.Store) = false
is_link (Err refused.Link) = true
is_link (Err refused.Write) = false
is_link (Err refused.NoMemory) = false

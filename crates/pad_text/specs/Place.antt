-- Where the bytes of a text stand, as the function that tests it goes along.
use Rattle.std.specs.Prelude.{ℕ, List, Bool, true, not}
use Rattle.pad_text.specs.Plain.{is_sign, plain, plain_in_string, plain_escaped}
use Rattle.pad_text.specs.declared.plain_text.Place.{Place}
use Rattle.pad_text.specs.declared.plain_text.Place.TheVariants.{Outside, Inside, Escaped}

-- what follows is plain, where its first byte stands at this place
abbrev pub plain_at : Place → List ℕ → Bool
plain_at Outside bytes = plain bytes
plain_at Inside bytes = plain_in_string bytes
plain_at Escaped bytes = plain_escaped bytes

-- a byte may stand at this place
abbrev pub may_stand : Place → ℕ → Bool
may_stand Outside byte = not (is_sign byte)
may_stand Inside byte = true
may_stand Escaped byte = true

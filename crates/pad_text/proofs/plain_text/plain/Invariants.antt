use Rattle.std.proofs.Common.{◌≡◌, drop}
use Rattle.pad_text.specs.Place.{plain_at}
use Rattle.pad_text.specs.Plain.{plain}
use Rattle.pad_text.proofs.plain_text.plain.Given as goal

abbrev pub invariant-loop-byte : goal.invariant-loop-byte
invariant-loop-byte l = plain_at l.place (drop l.byte-index l.text) ≡ plain l.text

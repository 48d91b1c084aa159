use Rattle.std.proofs.Common.{◌≡◌, ◌++◌}
use Rattle.std.specs.List.{flat_map}
use Rattle.std.specs.Str.{IsUtf8, chars}
use Rattle.std.specs.Char.Escape.{encode_utf16}
use Rattle.pad_text.specs.Text.{units_of}
use Rattle.pad_text.proofs.text.Text.from_str.Given as goal

abbrev pub invariant-loop-c : goal.invariant-loop-c
invariant-loop-c l = record {
  utf8 : IsUtf8 l.c-iterator.rest.now;
  whole : l.units.items ++ flat_map encode_utf16 (chars l.c-iterator.rest.now) ≡ units_of l.s;
}

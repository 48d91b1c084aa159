use Rattle.std.proofs.Common.{◌≡◌, ℕ, List, ◌++◌, sym, ◌∙◌, ap, length}
use Rattle.std.specs.List.{flat_map}
use Rattle.std.specs.Str.{IsUtf8, chars}
use Rattle.std.specs.Char.{encode_utf8}
use Rattle.std.specs.Char.Escape.{encode_utf16}
use Rattle.std.proofs.lemmas.List.{append_assoc, append-nil, nil_from_length}
use Rattle.std.proofs.lemmas.Str.{chars-nil, chars_past_char, IsUtf8-past_char}
use Rattle.pad_text.proofs.Texts.{IsText-units_of}
use Rattle.pad_text.proofs.text.Text.from_str.Goals as goal

-- one more character is read, and its units are put down
past : (c : ℕ) (units written after rest left whole : List ℕ) → IsUtf8 rest → rest ≡ encode_utf8 c ++ left
    → after ≡ units ++ written → written ≡ encode_utf16 c
    → units ++ flat_map encode_utf16 (chars rest) ≡ whole → after ++ flat_map encode_utf16 (chars left) ≡ whole
past c units written after rest left whole text split grown is before =
    rw (grown, is, append_assoc, ← before, chars_past_char rest left c text split)

-- nothing is left
done : (units rest whole : List ℕ) → length rest ≡ 0 → units ++ flat_map encode_utf16 (chars rest) ≡ whole → units ≡ whole
done units rest whole none before =
    sym (append-nil units) ∙ (ap (λ xs. units ++ flat_map encode_utf16 xs) (sym chars-nil ∙ ap chars (sym (nil_from_length rest none))) ∙ before)

pub loop-c-preserved : goal.loop-c-preserved
loop-c-preserved c = record {
  utf8 = IsUtf8-past_char _ _ _ c.loop-c.invariant.utf8 c.in-Some.ensures.steps.0;
  whole = past _ _ _ _ _ _ _ c.loop-c.invariant.utf8 c.in-Some.ensures.steps.0 c.in_ok-extend_from_slice.ensures.items c.encode_utf16.ensures.value c.loop-c.invariant.whole;
}

pub returns : goal.returns
returns c = done _ _ _ c.in-None.ensures.steps.0.0 c.loop-c.invariant.whole

pub invariant_of-result : goal.invariant_of-result
invariant_of-result c = rw (returns c) (IsText-units_of _ c.utf8.s)

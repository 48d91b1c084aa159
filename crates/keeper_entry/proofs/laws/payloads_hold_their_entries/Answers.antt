use Rattle.std.proofs.Common.{◌≡◌, ◌∙◌, ◌+◌, ◌≤◌, ◌<◌, ℕ, List, ◌++◌, length, take, drop, refl, sym, ap, subst, arith, length-append, append_assoc, ◌^◌}
use Rattle.std.proofs.lemmas.List.{take_at, drop_at}
use Rattle.std.proofs.lemmas.Nat.{from_be_bytes-to_be_bytes_8}
use Rattle.std.specs.Int.{w64, to_be_bytes, from_be_bytes}
use Rattle.std.specs.Str.{IsUtf8}
use Rattle.pad_text.specs.Digits.{IsDigits}
use Rattle.keeper_entry.specs.Entry.{payload_of, moment_in, sender_in, content_in, IsEntry}
use Rattle.keeper_entry.proofs.laws.payloads_hold_their_entries.Goals as goal

moment_first : (moment : ℕ) (rest : List ℕ) → moment < 2 ^ 64 → from_be_bytes w64 (take 8 (to_be_bytes w64 moment ++ rest)) ≡ moment
moment_first moment rest fits = ap (from_be_bytes w64) (take_at (to_be_bytes w64 moment) rest 8 refl) ∙ from_be_bytes-to_be_bytes_8 moment fits

sender_next : (moment : ℕ) (sender content : List ℕ) → length sender ≡ 32 → sender_in (payload_of moment sender content) ≡ sender
sender_next moment sender content long = ap (take 32) (drop_at (to_be_bytes w64 moment) (sender ++ content) 8 refl) ∙ take_at sender content 32 long

content_last : (moment : ℕ) (sender content : List ℕ) → length sender ≡ 32 → content_in (payload_of moment sender content) ≡ content
content_last moment sender content long =
    ap (drop 40) (sym (append_assoc (to_be_bytes w64 moment) sender content))
    ∙ drop_at (to_be_bytes w64 moment ++ sender) content 40 (omega (arith, length-append (to_be_bytes w64 moment) sender))

length-payload : (moment : ℕ) (sender content : List ℕ) → length sender ≡ 32 → length (payload_of moment sender content) ≡ 40 + length content
length-payload moment sender content long = omega (arith, length-append (to_be_bytes w64 moment) (sender ++ content), length-append sender content)

pub returns : goal.returns
returns c = λ moment sender content fits digits utf8 short.
    let size = length-payload moment sender content digits.as_many in (
      record {
        long = omega (arith, size);
        short = omega (arith, size);
        sender = subst (IsDigits 32) (sym (sender_next moment sender content digits.as_many)) digits;
        utf8 = subst IsUtf8 (sym (content_last moment sender content digits.as_many)) utf8;
      },
      moment_first moment (sender ++ content) fits,
      sender_next moment sender content digits.as_many,
      content_last moment sender content digits.as_many,
    )

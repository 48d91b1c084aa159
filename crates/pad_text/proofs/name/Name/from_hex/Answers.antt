use Rattle.std.proofs.Common.{refl}
use Rattle.pad_text.proofs.HexDigits.{digits-refused, digits-again}
use Rattle.pad_text.proofs.name.Name.from_hex.Goals as goal

pub returns-in_err-bytes-clause-found : goal.returns-in_err-bytes-clause-found
returns-in_err-bytes-clause-found c =
    let digits = c.if-not-is_lower_hex.ensures.0 refl in
    absurd (digits-refused 32 c.args.text.now c.from_hex.result digits c.from_hex.ensures c.in_err-bytes.ensures.variant)

pub returns-clause-value : goal.returns-clause-value
returns-clause-value c =
    let digits = c.if-not-is_lower_hex.ensures.0 refl in
    digits-again 32 c.args.text.now c.in_ok-bytes.bytes c.from_hex.result digits c.from_hex.ensures c.in_ok-bytes.ensures.value

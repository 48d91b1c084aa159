use Rattle.std.proofs.Common.{arith}
use Rattle.pad_text.proofs.HexDigits.{IsDigits-bytes}
use Rattle.pad_text.proofs.name.digits_of.Goals as goal

pub returns-clause-digits : goal.returns-clause-digits
returns-clause-digits c = IsDigits-bytes c.args.bytes.now (λ i. let fits = c.type_inv.bytes i in omega (arith, fits))

use Rattle.std.proofs.Common.{arith}
use Rattle.pad_text.proofs.CallerLemmas.{IsDigits-bytes}
use Rattle.netflux_rooms.proofs.identity.digits_of.Goals as goal

pub returns-clause-digits : goal.returns-clause-digits
returns-clause-digits c = IsDigits-bytes c.args.bytes.now (λ i. let fits = c.type_inv.bytes i in omega (arith, fits))

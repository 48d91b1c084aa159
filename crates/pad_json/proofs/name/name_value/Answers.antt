use Rattle.std.proofs.Common.{refl}
use Rattle.pad_json.proofs.Names.{IsName-digits}
use Rattle.pad_json.proofs.name.name_value.Goals as goal

pub returns-in_err-hex-clause-typed : goal.returns-in_err-hex-clause-typed
returns-in_err-hex-clause-typed c = IsName-digits c.args.name.now _ c.in_err-hex.ensures.digits refl

pub returns-clause-typed : goal.returns-clause-typed
returns-clause-typed c = IsName-digits c.args.name.now _ c.in_ok-hex.ensures.digits refl

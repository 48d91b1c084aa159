use Rattle.std.proofs.Common.{◌<◌, ◌-◌, length, arith}
use Rattle.pad_plain.proofs.Throughs.{name_high}
use Rattle.pad_plain.proofs.best.name_at.Goals as goal

pub returns : goal.returns
returns c =
    let below : length c.args.places.now - c.args.height < length c.args.places.now = omega (arith, c.requires.high, c.if-height-eq0.false) in
    name_high c.args.base.now c.args.received.now _ _ _ _ c.requires.named c.requires.within below

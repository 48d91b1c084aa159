use Rattle.std.proofs.Common.{◌≡◌, arith}
use Rattle.std.specs.Prelude.{codes, decimal}
use Rattle.pad_script.proofs.Fronts.{behind_is}
use Rattle.pad_script.proofs.session_line.set_interval_from.Goals as goal

pub returns-in-None-clause-none : goal.returns-in-None-clause-none
returns-in-None-clause-none c client messages spells =
    let same : c.in_ok-client.messages.now ≡ decimal messages =
    behind_is c.args.line.now (codes "interval ") c.in_ok-behind.field-0.now c.in_ok-client.client client c.in_ok-client.messages.now (decimal messages) c.in_ok-behind.ensures
    c.in_ok-client.ensures.some.0 spells.0 (omega (arith, c.in_ok-client.ensures.some.1)) (omega (arith, spells.1)) in
    c.in-None.ensures.none messages spells.2 same

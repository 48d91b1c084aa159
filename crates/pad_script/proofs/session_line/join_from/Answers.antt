use Rattle.std.proofs.Common.{◌≡◌, arith}
use Rattle.std.specs.Prelude.{codes}
use Rattle.pad_script.proofs.Fronts.{behind_is, not_true}
use Rattle.pad_script.proofs.session_line.join_from.Goals as goal

pub returns-in-None-clause-none : goal.returns-in-None-clause-none
returns-in-None-clause-none c client channel spells =
    let same : c.in_ok-client.channel.now ≡ channel =
    behind_is c.args.line.now (codes "join ") c.in_ok-behind.field-0.now c.in_ok-client.client client c.in_ok-client.channel.now channel c.in_ok-behind.ensures
    c.in_ok-client.ensures.some.0 spells.0 (omega (arith, c.in_ok-client.ensures.some.1)) (omega (arith, spells.1)) in
    not_true (c.in-None.ensures.found.1 (rw same spells.2))

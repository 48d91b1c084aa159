use Rattle.std.proofs.Common.{inl, refl}
use Rattle.netflux_core.specs.Machine.{serve_begins}
use Rattle.netflux_core.specs.Stored.{spared}
use Rattle.netflux_core.proofs.Unfailing.{run_holds}
use Rattle.netflux_core.proofs.laws.unfailing_runs_hold_all.Goals as goal

pub returns : goal.returns
returns g c = λ identities disk next events outputs run none channel.
    run_holds g.K.Keep.logs identities disk channel (serve_begins disk) next events outputs run none (inl (refl, refl, spared))

use Rattle.std.proofs.Common.{ap}
use Rattle.std.specs.Option.{is_some}
use Rattle.pad_chain.proofs.Handing.{without_text}
use Rattle.pad_chain.proofs.chain.Chain.moves_from.Goals as goal

pub returns-in-Some-clause-some : goal.returns-in-Some-clause-some
returns-in-Some-clause-some g c =
    without_text c.args.self.now c.args.from.now (g.S.UnitStore.units c.in-Some.field-0-0) c.in-Some.moved (rw c.in-Some.is at c.in_ok-moved.ensures.some)

pub returns-clause-none : goal.returns-clause-none
returns-clause-none g c none = c.in_ok-moved.ensures.none (ap is_some c.in-None.is)

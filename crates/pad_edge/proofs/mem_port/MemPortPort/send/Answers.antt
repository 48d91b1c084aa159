use Rattle.std.proofs.Common.{refl, subst, Contains}
use Rattle.pad_edge.specs.MemPort.{PortSoFar}
use Rattle.pad_edge.proofs.mem_port.MemPortPort.send.Goals as goal

pub returns-then-fails_next-clause-fails : goal.returns-then-fails_next-clause-fails
returns-then-fails_next-clause-fails c = λ failed.
    let R : PortSoFar → Type 0 = λ port. Contains port.calls.failing port.calls.made in
    subst R c.self.view_is (c.if-fails_next.ensures.0 refl)

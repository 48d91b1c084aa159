use Rattle.std.proofs.Common.{List, ℕ, inl, refl, subst}
use Rattle.std.specs.List.{Contains}
use Rattle.client_requests.proofs.requests.Requests.hear_ack.Goals as goal

pub returns-then-has : goal.returns-then-has
returns-then-has c =
    let waits = subst (λ (numbers : List ℕ). Contains numbers c.args.number) c.as_slice.ensures.value (c.has.ensures.0 c.if-has.true) in
    rw (← c.self.view_is) (inl (waits, (refl, cc)))

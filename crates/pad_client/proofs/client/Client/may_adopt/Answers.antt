use Rattle.std.proofs.Common.{sym, ◌∙◌, ap, subst}
use Rattle.std.proofs.lemmas.Bool.{false≢true}
use Rattle.client_requests.specs.State as requested
use Rattle.client_requests.specs.State.{is_fresh}
use Rattle.pad_client.specs.View.{View, StandsAs}
use Rattle.pad_client.proofs.client.Client.may_adopt.Goals as goal

pub returns-then-is_first_entry-clause-may : goal.returns-then-is_first_entry-clause-may
returns-then-is_first_entry-clause-may g c client stands clash =
    let stood = subst (λ (v : View). StandsAs v client) (sym c.self.view_is) stands in
    let first = c.is_first_entry.ensures.0 c.if-is_first_entry.true in
    let may = c.may_adopt.ensures.may client.copy stood.copy clash in (
      (λ is. record { of_history = first.0; fresh = ap (λ (r : requested.State). is_fresh r.asked) (sym stood.requests) ∙ first.1; may = may.0 is }),
      (λ adopts. may.1 adopts.may),
    )

pub returns-then-is_first_entry-clause-empty : goal.returns-then-is_first_entry-clause-empty
returns-then-is_first_entry-clause-empty g c = rw (← c.self.view_is) (λ is. (c.may_adopt.ensures.is.0 is).3)

pub returns-clause-may : goal.returns-clause-may
returns-clause-may g c client stands clash =
    let stood = subst (λ (v : View). StandsAs v client) (sym c.self.view_is) stands in (
      (λ is. absurd (false≢true is)),
      (λ adopts. sym c.if-is_first_entry.false ∙ c.is_first_entry.ensures.1 (adopts.of_history, ap (λ (r : requested.State). is_fresh r.asked) stood.requests ∙ adopts.fresh)),
    )

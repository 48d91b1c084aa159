use Rattle.std.proofs.Common.{◌++◌, Option, None, ℕ, refl, sym, subst}
use Rattle.client_copy.specs.Make.{IsCheckpointOf}
use Rattle.pad_client.specs.View.{View, StandsAs}
use Rattle.pad_client.proofs.Sending.{made, stands_made, made_all, follows_as}
use Rattle.pad_client.proofs.client.Client.make_checkpoint.Goals as goal

pub returns-clause-makes : goal.returns-clause-makes
returns-clause-makes g c =
    let i = c.self.inside in
    let message = c.in_ok-message.message in
    let held : View = record { copy = i.copy; unreadable = i.unreadable; wanted = i.wanted; requests = i.requests; repair = i.repair; synced = i.synced } in
    let new : View = record { copy = c.receive.new.self; unreadable = i.unreadable; wanted = None; requests = c.send.new.self; repair = i.repair; synced = c.add_moves.new.all } in
    let moved = c.in-Ok.moved in (
      message,
      rw (← c.self.view_is) c.in_ok-wire.ensures.sends,
      λ client stands.
          let stood = subst (λ (v : View). StandsAs v client) (sym c.self.view_is) stands in (
            subst (λ (wanted : Option ℕ). IsCheckpointOf client.copy wanted message) stood.wanted (c.in_ok-message.ensures.is client.copy stood.copy),
            λ clash.
                let given = follows_as held.copy new.copy message c.in_ok-received.received moved c.in_ok-received.ensures c.in-Ok.ensures.follows client.copy stood.copy clash in
                let makes = c.checkpoints_are_made.ensures client.copy message moved given.0 c.in_ok-message.ensures.kind given.1 in (
                  record client { copy = given.0; requests = new.requests; synced = client.synced ++ moved.applied },
                  made held new client message c.in_ok-wire.wire moved given.0 stood c.in_ok-wire.ensures.sends makes,
                  stands_made held new client moved given.0 None stood given.2 (made_all client.copy message moved given.0 makes) refl refl refl c.in_ok-add_moves.ensures,
                ),
          ),
    )

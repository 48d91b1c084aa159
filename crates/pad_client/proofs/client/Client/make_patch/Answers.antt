use Rattle.std.proofs.Common.{◌++◌, refl, sym, subst}
use Rattle.pad_client.specs.View.{View, StandsAs}
use Rattle.pad_client.proofs.Sending.{made, stands_made, made_all, makes_as}
use Rattle.pad_client.proofs.client.Client.make_patch.Goals as goal

pub returns-clause-makes : goal.returns-clause-makes
returns-clause-makes g c =
    let i = c.self.inside in
    let message = c.in_ok-message.message in
    let held : View = record { copy = i.copy; unreadable = i.unreadable; wanted = i.wanted; requests = i.requests; repair = i.repair; synced = i.synced } in
    let new : View = record { copy = c.make_patch.new.self; unreadable = i.unreadable; wanted = i.wanted; requests = c.send.new.self; repair = i.repair; synced = c.add_moves.new.all } in
    let moved = c.in-Ok.moved in (
      message,
      rw (← c.self.view_is) c.in_ok-wire.ensures.sends,
      λ client stands.
          let stood = subst (λ (v : View). StandsAs v client) (sym c.self.view_is) stands in (
            c.in_ok-message.ensures.is client.copy stood.copy,
            λ clash.
                let given = makes_as held.copy new.copy message c.in_ok-received.received moved c.in_ok-received.ensures c.in-Ok.ensures.makes client.copy stood.copy clash in (
                  record client { copy = given.0; requests = new.requests; synced = client.synced ++ moved.applied },
                  made held new client message c.in_ok-wire.wire moved given.0 stood c.in_ok-wire.ensures.sends given.1,
                  stands_made held new client moved given.0 client.wanted stood given.2 (made_all client.copy message moved given.0 given.1) refl stood.wanted refl c.in_ok-add_moves.ensures,
                ),
          ),
    )

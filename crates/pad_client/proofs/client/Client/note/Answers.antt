use Rattle.std.proofs.Common.{Some, refl, sym, subst}
use Rattle.std.proofs.lemmas.Result.{err_from_is_err_and}
use Rattle.pad_chain.specs.declared.moved.Moved.{Moved}
use Rattle.pad_client.specs.declared.heard.Heard.TheVariants as heard
use Rattle.pad_client.specs.State.{ClientState}
use Rattle.pad_client.specs.Content.{HearsMessage}
use Rattle.pad_client.specs.View.{View, StandsAs}
use Rattle.pad_client.proofs.Noting.{noted_as, noted_still, noted_full}
use Rattle.pad_client.proofs.client.Client.note.Goals as goal

pub returns-in_err-received-clause-full : goal.returns-in_err-received-clause-full
returns-in_err-received-clause-full g c =
    let now = c.args.self.now in
    let held : View = record { copy = now.copy; unreadable = now.unreadable; wanted = now.wanted; requests = now.requests; repair = Some c.args.repair; synced = now.synced } in
    let told = err_from_is_err_and c.from_residual.result c.from_residual.ensures.1 in
    rw told.1 (λ is client stands. noted_full held client c.args.message c.args.repair refl stands (c.in_err-received.ensures.full (told.2.0 is)))

pub returns-in_err-received-clause-still : goal.returns-in_err-received-clause-still
returns-in_err-received-clause-still g c =
    let now = c.args.self.now in
    let held : View = record { copy = now.copy; unreadable = now.unreadable; wanted = now.wanted; requests = now.requests; repair = Some c.args.repair; synced = now.synced } in
    let i = c.self.inside in
    let new : View = record { copy = i.copy; unreadable = i.unreadable; wanted = i.wanted; requests = i.requests; repair = Some c.receive-received.new.self; synced = i.synced } in
    let told = err_from_is_err_and c.from_residual.result c.from_residual.ensures.1 in
    rw told.1 (λ is client stands. noted_still held new c.args.repair c.receive-received.new.self refl c.receive-received.ensures.whole c.in_err-received.ensures.still (rw (← c.self.view_is) refl) client stands)

pub returns-clause-hears : goal.returns-clause-hears
returns-clause-hears g c client stands clash =
    let now = c.args.self.now in
    let held : View = record { copy = now.copy; unreadable = now.unreadable; wanted = now.wanted; requests = now.requests; repair = Some c.args.repair; synced = now.synced } in
    let i = c.self.inside in
    let new : View = record { copy = i.copy; unreadable = i.unreadable; wanted = i.wanted; requests = c.use_message.new.requests; repair = Some c.receive-received.new.self; synced = i.synced } in
    subst (λ (moved : Moved). (after : ClientState) × HearsMessage client c.args.entry c.args.message (heard.Content moved) after × StandsAs new after) (sym c.nothing_moved.ensures)
    (noted_as c.noted_stands.ensures held new client c.args.entry c.args.message c.args.repair c.receive-received.new.self refl stands clash c.receive-received.ensures.whole
    c.in_ok-received.ensures.stands c.in_ok-received.ensures.room (rw (← c.self.view_is) (rw (c.use_message.ensures.used c.args.message c.requires.named) refl)))

use Rattle.std.proofs.Common.{◌≡◌, ◌+◌, cond, drop, length, refl, sym, ◌∙◌, ap, subst}
use Rattle.std.proofs.lemmas.List.{drop_all}
use Rattle.pad_message.specs.Kind.{is_checkpoint}
use Rattle.pad_stroke.specs.Through.{carried}
use Rattle.client_work.specs.Switch.{without_own}
use Rattle.client_work.specs.Carrying.{Ground, behind, IsOnGround}
use Rattle.client_work.specs.Inside.Steps.{IsReadyFor, first_hash}
use Rattle.client_work.proofs.Loops.{StillOn, on_turn, on_done, on_next, ready_for}
use Rattle.client_work.proofs.carrying.carry_on.Goals as goal

pub loop-place-init : goal.loop-place-init
loop-place-init c grounds ready = record { now = grounds; ready = ready; end_is = refl; on = refl }

pub go_on-requires : goal.go_on-requires
go_on-requires c =
    let step = c.index-moves-place.result in
    let still = on_turn c.requires.0 c.args.sent.now.entries c.args.moves.now c.loop-place.place step c.args.end.now c.loop-place.work c.args.work.now c.loop-place-test.true c.index-moves-place.is
    (c.loop-place.invariant c.requires.0 c.requires.1) in
    let hash = c.first_hash-hash.ensures ∙ ap (λ rest. first_hash rest c.args.end.now) c.split_at.ensures.back in
    let ready = ready_for still.now c.args.sent.now.entries step (drop (c.loop-place.place + 1) c.args.moves.now) (length still.now.text) c.args.end.now c.first_hash-hash.result c.loop-place.work hash still.ready in
    (still.now, subst (λ o. IsReadyFor still.now o step c.first_hash-hash.result c.loop-place.work) (sym c.get.ensures.value) ready)

pub loop-place-preserved : goal.loop-place-preserved
loop-place-preserved c grounds ready =
    let step = c.index-moves-place.result in
    let sent = c.args.sent.now.entries in
    let own = c.get.ensures.value in
    let done = c.in_ok-go_on.ensures in
    on_next grounds sent c.args.moves.now step (drop (c.loop-place.place + 1) c.args.moves.now) c.args.end.now
    c.first_hash-hash.result c.loop-place.work c.args.work.now c.go_on.new.work (c.first_hash-hash.ensures ∙ ap (λ rest. first_hash rest c.args.end.now) c.split_at.ensures.back)
    (subst (λ o. (now : Ground) → IsReadyFor now o step c.first_hash-hash.result c.loop-place.work
    → c.go_on.new.work ≡ cond (is_checkpoint step.kind) c.loop-place.work (carried (without_own o c.loop-place.work) step.patch c.first_hash-hash.result)) own done.on)
    (subst (λ o. (now : Ground) → IsReadyFor now o step c.first_hash-hash.result c.loop-place.work → IsOnGround (behind step now) c.go_on.new.work) own done.stands)
    (on_turn grounds sent c.args.moves.now c.loop-place.place step c.args.end.now c.loop-place.work c.args.work.now c.loop-place-test.true c.index-moves-place.is (c.loop-place.invariant grounds ready))

pub returns-clause-on : goal.returns-clause-on
returns-clause-on c grounds ready =
    (on_done grounds c.args.sent.now.entries c.args.moves.now c.args.end.now c.loop-place.work c.args.work.now
    (subst (λ rest. StillOn grounds c.args.sent.now.entries c.args.moves.now rest c.args.end.now c.loop-place.work c.args.work.now)
    (drop_all c.loop-place.place c.args.moves.now c.loop-place-test.false) (c.loop-place.invariant grounds ready))).1

pub returns-clause-stands : goal.returns-clause-stands
returns-clause-stands c grounds ready =
    (on_done grounds c.args.sent.now.entries c.args.moves.now c.args.end.now c.loop-place.work c.args.work.now
    (subst (λ rest. StillOn grounds c.args.sent.now.entries c.args.moves.now rest c.args.end.now c.loop-place.work c.args.work.now)
    (drop_all c.loop-place.place c.args.moves.now c.loop-place-test.false) (c.loop-place.invariant grounds ready))).0

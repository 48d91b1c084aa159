use Rattle.std.proofs.Common.{◌≡◌, ◌+◌, cond, drop, length, refl, sym, ◌∙◌, ap, subst}
use Rattle.std.proofs.lemmas.List.{drop_all}
use Rattle.pad_patch.specs.Piece.{text_after}
use Rattle.pad_message.specs.Kind.{is_checkpoint}
use Rattle.client_work.specs.Switch.{taken_back}
use Rattle.client_work.specs.Carrying.{Ground, behind, IsOnGround, IsInverse}
use Rattle.client_work.specs.Inside.Steps.{IsReadyFor, first_hash}
use Rattle.client_work.proofs.Loops.{StillBack, back_turn, back_done, back_next, ready_for, inside_of, long_after, small_after}
use Rattle.client_work.proofs.carrying.carry_back.Goals as goal

pub loop-place-init : goal.loop-place-init
loop-place-init c grounds ready = record { now = grounds; ready = ready; end_is = refl; back = λ inverses. (inverses, refl) }

pub length_after-length-requires-clause-ordered : goal.length_after-length-requires-clause-ordered
length_after-length-requires-clause-ordered c =
    (back_turn c.requires.0 c.args.sent.now.entries c.args.moves.now c.loop-place.place c.index-moves-place.result c.loop-place.length c.args.end.now c.loop-place.work c.args.work.now c.loop-place-test.true c.index-moves-place.is
    (c.loop-place.invariant c.requires.0 c.requires.1)).ready.leads.0.applies.ordered

pub length_after-length-requires-clause-inside : goal.length_after-length-requires-clause-inside
length_after-length-requires-clause-inside c =
    let still = back_turn c.requires.0 c.args.sent.now.entries c.args.moves.now c.loop-place.place c.index-moves-place.result c.loop-place.length c.args.end.now c.loop-place.work c.args.work.now c.loop-place-test.true c.index-moves-place.is
    (c.loop-place.invariant c.requires.0 c.requires.1) in
    inside_of c.index-moves-place.result still.now.text c.loop-place.length still.ready.leads.0 still.ready.long

pub length_after-length-requires-clause-small : goal.length_after-length-requires-clause-small
length_after-length-requires-clause-small c =
    let still = back_turn c.requires.0 c.args.sent.now.entries c.args.moves.now c.loop-place.place c.index-moves-place.result c.loop-place.length c.args.end.now c.loop-place.work c.args.work.now c.loop-place-test.true c.index-moves-place.is
    (c.loop-place.invariant c.requires.0 c.requires.1) in
    small_after c.length_is_counted.ensures c.index-moves-place.result still.now.text c.loop-place.length still.ready.leads.0 still.ready.long

pub go_back-requires : goal.go_back-requires
go_back-requires c =
    let step = c.index-moves-place.result in
    let still = back_turn c.requires.0 c.args.sent.now.entries c.args.moves.now c.loop-place.place step c.loop-place.length c.args.end.now c.loop-place.work c.args.work.now c.loop-place-test.true c.index-moves-place.is
    (c.loop-place.invariant c.requires.0 c.requires.1) in
    let hash = c.first_hash-hash.ensures ∙ ap (λ rest. first_hash rest c.args.end.now) c.split_at.ensures.back in
    let ready = ready_for still.now c.args.sent.now.entries step (drop (c.loop-place.place + 1) c.args.moves.now) c.loop-place.length c.args.end.now c.first_hash-hash.result c.loop-place.work hash still.ready in (
      still.now,
      subst (λ o. IsReadyFor still.now o step c.first_hash-hash.result c.loop-place.work) (sym c.get.ensures.value) ready,
      c.length_after-length.ensures ∙ long_after c.length_is_counted.ensures step still.now.text c.loop-place.length still.ready.leads.0 still.ready.long,
    )

pub loop-place-preserved : goal.loop-place-preserved
loop-place-preserved c grounds ready =
    let step = c.index-moves-place.result in
    let sent = c.args.sent.now.entries in
    let own = c.get.ensures.value in
    let done = c.in_ok-go_back.ensures in
    back_next c.length_is_counted.ensures grounds sent c.args.moves.now step (drop (c.loop-place.place + 1) c.args.moves.now) c.loop-place.length c.length_after-length.result c.args.end.now
    c.first_hash-hash.result c.loop-place.work c.args.work.now c.go_back.new.work (c.first_hash-hash.ensures ∙ ap (λ rest. first_hash rest c.args.end.now) c.split_at.ensures.back) c.length_after-length.ensures
    (subst (λ o. (now : Ground) → IsReadyFor now o step c.first_hash-hash.result c.loop-place.work → c.length_after-length.result ≡ length (text_after step.patch now.text) → IsInverse o step now.text
    → c.go_back.new.work ≡ cond (is_checkpoint step.kind) c.loop-place.work (taken_back o step (text_after step.patch now.text) c.loop-place.work)) own done.back)
    (subst (λ o. (now : Ground) → IsReadyFor now o step c.first_hash-hash.result c.loop-place.work → c.length_after-length.result ≡ length (text_after step.patch now.text) → IsOnGround (behind step now) c.go_back.new.work) own done.stands)
    (back_turn grounds sent c.args.moves.now c.loop-place.place step c.loop-place.length c.args.end.now c.loop-place.work c.args.work.now c.loop-place-test.true c.index-moves-place.is (c.loop-place.invariant grounds ready))

pub returns-clause-back : goal.returns-clause-back
returns-clause-back c grounds ready =
    (back_done grounds c.args.sent.now.entries c.args.moves.now c.loop-place.length c.args.end.now c.loop-place.work c.args.work.now
    (subst (λ rest. StillBack grounds c.args.sent.now.entries c.args.moves.now rest c.loop-place.length c.args.end.now c.loop-place.work c.args.work.now)
    (drop_all c.loop-place.place c.args.moves.now c.loop-place-test.false) (c.loop-place.invariant grounds ready))).1

pub returns-clause-stands : goal.returns-clause-stands
returns-clause-stands c grounds ready =
    (back_done grounds c.args.sent.now.entries c.args.moves.now c.loop-place.length c.args.end.now c.loop-place.work c.args.work.now
    (subst (λ rest. StillBack grounds c.args.sent.now.entries c.args.moves.now rest c.loop-place.length c.args.end.now c.loop-place.work c.args.work.now)
    (drop_all c.loop-place.place c.args.moves.now c.loop-place-test.false) (c.loop-place.invariant grounds ready))).0

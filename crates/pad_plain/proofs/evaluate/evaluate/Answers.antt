use Rattle.std.proofs.Common.{◌≡◌, ◌+◌, ◌⊎◌, inl, inr, true, false, ◌∙◌, sym, true≢false}
use Rattle.pad_message.specs.Kind.{is_checkpoint}
use Rattle.pad_plain.proofs.Evaluated.{unsound_here, stands_more, stands_on_all, stands_at_base, since_is}
use Rattle.pad_plain.proofs.evaluate.evaluate.Goals as goal
use Rattle.pad_plain.proofs.evaluate.evaluate.Goals.{then-is_checkpoint, else-is_checkpoint}

pub loop-height-init : goal.loop-height-init
loop-height-init g c = stands_at_base _ _ _ _ c.in_ok-store.ensures

pub returns-then-not-is_sound-clause-none : goal.returns-then-not-is_sound-clause-none
returns-then-not-is_sound-clause-none g c _ =
    unsound_here c.args.base.now _ _ _ _ _ _ _ c.loop-height-test.true c.requires c.index-received-places.is c.loop-height.invariant
    (λ s. true≢false (sym (c.is_sound.ensures.sound.1 s) ∙ c.if-not-is_sound.true))

pub loop-height-preserved : goal.loop-height-preserved
loop-height-preserved g c =
    let which : ((is_checkpoint c.index-received-places.result.kind ≡ true) × (c.if-is_checkpoint.since ≡ 0)) ⊎ ((is_checkpoint c.index-received-places.result.kind ≡ false) × (c.if-is_checkpoint.since ≡ c.loop-height.since + 1)) =
    elim c.if-is_checkpoint.branch [
      | then-is_checkpoint w ↦ inl (sym c.is_checkpoint.ensures ∙ w.if-is_checkpoint.true, w.since-is)
      | else-is_checkpoint w ↦ inr (sym c.is_checkpoint.ensures ∙ w.if-is_checkpoint.false, w.since-is)
    ] in
    stands_more c.args.base.now _ _ _ _ _ _ _ c.loop-height-test.true c.requires c.index-received-places.is c.loop-height.invariant _ _ _
    (c.is_sound.ensures.sound.0 c.if-not-is_sound.false) c.in_ok-store-2.ensures c.interval_after-interval.ensures (since_is _ _ _ which)

pub returns-clause-some : goal.returns-clause-some
returns-clause-some g c = stands_on_all c.args.base.now _ _ _ _ _ _ c.loop-height-test.false c.loop-height.invariant

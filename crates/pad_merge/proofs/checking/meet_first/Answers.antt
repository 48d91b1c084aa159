use Rattle.std.proofs.Common.{◌≡◌, ◌∙◌, sym, refl, ap, subst, arith, inl, inr, length, ◌<◌, slice_index_or}
use Rattle.std.specs.Prelude.{slice_get}
use Rattle.std.proofs.lemmas.Bool.{cases_lt}
use Rattle.std.proofs.lemmas.Option.{slice_get-get_or, get_or_from_slice_get}
use Rattle.pad_merge.specs.Inside.Meeting.{MeetsFirst}
use Rattle.pad_merge.proofs.checking.meet_first.Goals as goal

pub loop-op-preserved : goal.loop-op-preserved
loop-op-preserved c index operation below is = elim (cases_lt index c.loop-op.op-index) [
  | inl earlier ↦ c.loop-op.invariant index operation earlier is
  | inr last ↦
      let here : index ≡ c.loop-op.op-index = omega (arith, last, below) in
      let items = c.as_slice-op-items.result.now in
      let same = c.op-item.is ∙ ap (λ n. slice_index_or items n c.op-item.result) (sym here) ∙ get_or_from_slice_get items index operation c.op-item.result is in
      subst (MeetsFirst c.args.p.now c.args.len) same (c.meets_first.ensures.0 c.if-not-meets_first.false)
]

pub returns : goal.returns
returns c =
    let same = c.as_slice-op-items.ensures in (
      (λ is k d below.
          let items = c.as_slice-op-items.result.now in
          let within : k < c.loop-op.op-index = omega (arith, below, ap length same, c.loop-op-test.false) in
          subst (λ os. MeetsFirst c.args.p.now c.args.len (slice_index_or os k d)) same
          (c.loop-op.invariant k (slice_index_or items k d) within (slice_get-get_or items k d (omega (arith, below, ap length same))))),
      (λ all. refl),
    )

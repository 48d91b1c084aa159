use Rattle.std.proofs.Common.{◌∙◌, All, arith}
use Rattle.std.specs.List.Sorted.{IsSorted}
use Rattle.std.proofs.lemmas.List.Sorted.{All-permutation, Contains-permutation}
use Rattle.std.proofs.lemmas.Option.{slice_get-get_or, slice_get_within}
use Rattle.pad_plain.specs.Inside.Links.{IsCandidate, HasEveryLinked}
use Rattle.pad_plain.proofs.Choosing.{candidate_cmp, best_found, none_found, none_more}
use Rattle.pad_plain.proofs.Places.{none_if}
use Rattle.pad_plain.proofs.best.best_through.Goals as goal

pub sound_path-requires-clause-is : goal.sound_path-requires-clause-is
sound_path-requires-clause-is c =
    let each : All (IsCandidate c.args.base.now c.args.received.now) c.deref-candidate-items.result.now = rw c.deref-candidate-items.ensures.value (All-permutation (IsCandidate c.args.base.now c.args.received.now) _ _ c.in_ok-sort.ensures.permutation c.requires.each) in
    each c.loop-candidate.candidate-index _ c.loop-candidate-test.true

pub returns-in-Some-clause-best : goal.returns-in-Some-clause-best
returns-in-Some-clause-best c d through root =
    let value = c.deref-candidate-items.ensures.value in
    let each : All (IsCandidate c.args.base.now c.args.received.now) c.deref-candidate-items.result.now = rw value (All-permutation (IsCandidate c.args.base.now c.args.received.now) _ _ c.in_ok-sort.ensures.permutation c.requires.each) in
    let every : HasEveryLinked c.args.base.now c.args.received.now c.deref-candidate-items.result.now = rw value (λ m linked. let e = c.requires.every d m linked in (e.0, Contains-permutation _ _ e.0 c.in_ok-sort.ensures.permutation e.1, e.2)) in
    let sorted : IsSorted candidate_cmp c.deref-candidate-items.result.now = rw value c.in_ok-sort.ensures.sorted in
    let runs = rw c.in-Some.is at c.in_ok-found.ensures.through in
    best_found c.args.base.now c.args.received.now through _ d each every sorted c.loop-candidate.candidate-index _ (slice_get-get_or _ _ _ c.loop-candidate-test.true) (c.loop-candidate.invariant d through root) c.in-Some.path (rw c.in-Some.is at c.in_ok-found.ensures.some) (runs d through root)

pub loop-candidate-preserved : goal.loop-candidate-preserved
loop-candidate-preserved c d through root =
    none_more c.args.base.now c.args.received.now through _ _ _ (slice_get-get_or _ _ _ c.loop-candidate-test.true) (c.in_ok-found.ensures.none (none_if _ c.in_default.not-Some) d through root) (c.loop-candidate.invariant d through root)

pub returns-clause-none : goal.returns-clause-none
returns-clause-none c _ d through root =
    let value = c.deref-candidate-items.ensures.value in
    let each : All (IsCandidate c.args.base.now c.args.received.now) c.deref-candidate-items.result.now = rw value (All-permutation (IsCandidate c.args.base.now c.args.received.now) _ _ c.in_ok-sort.ensures.permutation c.requires.each) in
    let every : HasEveryLinked c.args.base.now c.args.received.now c.deref-candidate-items.result.now = rw value (λ m linked. let e = c.requires.every d m linked in (e.0, Contains-permutation _ _ e.0 c.in_ok-sort.ensures.permutation e.1, e.2)) in
    none_found c.args.base.now c.args.received.now through c.deref-candidate-items.result.now d each every
    (λ k e at. c.loop-candidate.invariant d through root k e (omega (arith, slice_get_within c.deref-candidate-items.result.now k e at, c.loop-candidate-test.false)) at)

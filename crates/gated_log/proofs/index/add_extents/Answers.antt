use Rattle.std.proofs.Common.{◌+◌, ◌++◌, ◌∷◌, [], List, take, get_or, ◌∙◌, sym, ap, arith}
use Rattle.std.proofs.lemmas.List.{append_assoc, take_all}
use Rattle.gated_log.specs.declared.extent.Extent.{Extent}
use Rattle.gated_log.proofs.Indexes.{extents_by, by_sizes, place_behind, place_fits, place_push, extents_push, take_next}
use Rattle.gated_log.proofs.index.add_extents.Goals as goal

pub overflow_add-place : goal.overflow_add-place
overflow_add-place c = omega (arith, c.loop-at.invariant.place, place_fits c.args.gate c.args.sizes.now c.loop-at.at c.loop-at-test.true, c.requires.small)

pub overflow_cast-place : goal.overflow_cast-place
overflow_cast-place c = omega (arith, c.loop-at.invariant.place, place_fits c.args.gate c.args.sizes.now c.loop-at.at c.loop-at-test.true, c.requires.small)

pub overflow_add-place-in-loop-at-2 : goal.overflow_add-place-in-loop-at-2
overflow_add-place-in-loop-at-2 c =
    omega (arith, c.from.ensures, c.loop-at.invariant.place, place_fits c.args.gate c.args.sizes.now c.loop-at.at c.loop-at-test.true, c.requires.small)

pub loop-at-preserved : goal.loop-at-preserved
loop-at-preserved c =
    let before = c.loop-at.invariant in
    let sizes = c.args.sizes.now in
    let at = c.loop-at.at in
    let size = get_or sizes at 0 in
    record {
      items = c.push_reserved.ensures.items
          ∙ ap (λ (l : List Extent). l ++ record { place = c.loop-at.place + 5; size = size } ∷ []) before.items
          ∙ append_assoc c.args.index.now.items (extents_by c.args.gate (take at sizes)) (record { place = c.loop-at.place + 5; size = size } ∷ [])
          ∙ ap (λ (l : List Extent). c.args.index.now.items ++ l)
          (ap (λ n. extents_by c.args.gate (take at sizes) ++ record { place = n + 5; size = size } ∷ []) before.place
          ∙ sym (extents_push c.args.gate (take at sizes) size)
          ∙ ap (extents_by c.args.gate) (sym (take_next sizes at c.loop-at-test.true)));
      place = ap (λ n. n + (5 + c.from.result)) before.place ∙ ap (λ n. place_behind c.args.gate (take at sizes) + (5 + n)) c.from.ensures
          ∙ sym (place_push c.args.gate (take at sizes) size) ∙ ap (place_behind c.args.gate) (sym (take_next sizes at c.loop-at-test.true));
      within = omega (arith, c.loop-at-test.true);
      len = omega (arith, c.push_reserved.ensures.len, before.len);
      capacity = c.push_reserved.ensures.capacity ∙ before.capacity;
    }

pub returns-clause-added : goal.returns-clause-added
returns-clause-added c = λ payloads sizes.
    c.loop-at.invariant.items
    ∙ ap (λ (l : List Extent). c.args.index.now.items ++ l)
    (ap (extents_by c.args.gate) (take_all c.loop-at.at c.args.sizes.now (omega (arith, c.loop-at-test.false)) ∙ sizes) ∙ by_sizes c.args.gate payloads)

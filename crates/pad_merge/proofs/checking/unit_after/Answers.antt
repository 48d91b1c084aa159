use Rattle.std.proofs.Common.{◌≡◌, ◌+◌, ◌-◌, ◌<◌, ◌≤◌, drop, length, refl, sym, ◌∙◌, ap, subst, arith, slice_index_or}
use Rattle.std.specs.Prelude.{Some, slice_get}
use Rattle.std.specs.Option.{option_map}
use Rattle.std.proofs.lemmas.List.{drop_all}
use Rattle.std.proofs.lemmas.Option.{slice_get-get_or}
use Rattle.pad_patch.specs.Piece.{end_of}
use Rattle.pad_patch.proofs.CallerLemmas.{IsLaid, laid}
use Rattle.pad_merge.specs.UnitSource.{sources_of}
use Rattle.pad_merge.specs.Inside.Meeting.{new_of}
use Rattle.pad_merge.proofs.Sources.{drop-next}
use Rattle.pad_merge.proofs.Standing.{shown_at, at_kept, at_new, at_rest, at_end, past_end, shown_whole}
use Rattle.pad_merge.proofs.checking.unit_after.Goals as goal

pub loop-op-init : goal.loop-op-init
loop-op-init c =
    rw c.as_slice-op-items.ensures (record {
      laid_out = laid c.args.patch.now c.args.len c.requires.ordered c.requires.inside;
      shown = sym (shown_whole c.args.patch.now c.args.len c.args.at);
    })

pub returns-then-left-kept : goal.returns-then-left-kept
returns-then-left-kept c =
    let items = c.as_slice-op-items.result.now in
    let index = c.loop-op.op-index in
    let place = c.loop-op.place in
    let left = c.loop-op.left in
    let operation = c.op-item.result in
    let split = drop-next items index operation c.loop-op-test.true c.op-item.is in
    let laid_out = subst (IsLaid place c.args.len) split c.loop-op.invariant.laid_out in
    sym (at_kept c.args.len place operation (drop (index + 1) items) laid_out.0 laid_out.1 left (omega (arith, c.if-left-kept.true, c.start.ensures)))
    ∙ ap (λ os. shown_at c.args.len place os left) (sym split) ∙ c.loop-op.invariant.shown

pub returns-then-left-inserted : goal.returns-then-left-inserted
returns-then-left-inserted c =
    let items = c.as_slice-op-items.result.now in
    let index = c.loop-op.op-index in
    let place = c.loop-op.place in
    let left = c.loop-op.left in
    let operation = c.op-item.result in
    let there = left - (c.start.result - place) in
    let unit = slice_index_or c.as_units-inserted.result.now there 0 in
    let split = drop-next items index operation c.loop-op-test.true c.op-item.is in
    let laid_out = subst (IsLaid place c.args.len) split c.loop-op.invariant.laid_out in
    let below = c.if-left-inserted.true in
    let units = c.as_units-inserted.ensures.units in
    sym (at_new c.args.len place operation (drop (index + 1) items) laid_out.0 laid_out.1 left there unit (omega (arith, c.if-left-kept.false, c.start.ensures)) (omega (arith, c.start.ensures))
    (ap (λ us. slice_get us there) (sym units) ∙ slice_get-get_or c.as_units-inserted.result.now there 0 below) (omega (arith, below, ap length units)))
    ∙ ap (λ os. shown_at c.args.len place os left) (sym split) ∙ c.loop-op.invariant.shown

pub loop-op-preserved : goal.loop-op-preserved
loop-op-preserved c =
    let items = c.as_slice-op-items.result.now in
    let index = c.loop-op.op-index in
    let place = c.loop-op.place in
    let left = c.loop-op.left in
    let operation = c.op-item.result in
    let later = drop (index + 1) items in
    let there = left - (c.start.result - place) in
    let split = drop-next items index operation c.loop-op-test.true c.op-item.is in
    let laid_out = subst (IsLaid place c.args.len) split c.loop-op.invariant.laid_out in
    let units = c.as_units-inserted.ensures.units in
    let more : length operation.insert ≤ there = omega (arith, c.if-left-inserted.false, ap length units) in
    record {
      laid_out = subst (λ n. IsLaid n c.args.len later) (sym c.end-place.ensures) laid_out.2;
      shown = ap (λ n. shown_at c.args.len n later (there - length c.as_units-inserted.result.now)) c.end-place.ensures
          ∙ ap (λ n. shown_at c.args.len (end_of operation) later (there - n)) (ap length units)
          ∙ sym (at_rest c.args.len place operation later laid_out.0 laid_out.1 left there (omega (arith, c.if-left-kept.false, c.start.ensures)) (omega (arith, c.start.ensures)) more)
          ∙ ap (λ os. shown_at c.args.len place os left) (sym split) ∙ c.loop-op.invariant.shown;
    }

pub returns-then-left-len : goal.returns-then-left-len
returns-then-left-len c =
    let items = c.as_slice-op-items.result.now in
    let none = drop_all c.loop-op.op-index items (omega (arith, c.loop-op-test.false)) in
    sym (at_end c.args.len c.loop-op.place c.loop-op.left (subst (IsLaid c.loop-op.place c.args.len) none c.loop-op.invariant.laid_out) c.if-left-len.true)
    ∙ ap (λ os. shown_at c.args.len c.loop-op.place os c.loop-op.left) (sym none) ∙ c.loop-op.invariant.shown

pub returns-else-left-len : goal.returns-else-left-len
returns-else-left-len c =
    let items = c.as_slice-op-items.result.now in
    let none = drop_all c.loop-op.op-index items (omega (arith, c.loop-op-test.false)) in
    sym (past_end c.args.len c.loop-op.place c.loop-op.left (subst (IsLaid c.loop-op.place c.args.len) none c.loop-op.invariant.laid_out) (omega (arith, c.if-left-len.false)))
    ∙ ap (λ os. shown_at c.args.len c.loop-op.place os c.loop-op.left) (sym none) ∙ c.loop-op.invariant.shown

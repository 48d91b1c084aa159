use Rattle.std.proofs.Common.{◌≡◌, ◌+◌, ◌-◌, ◌++◌, [], length, drop, refl, sym, ◌∙◌, ap, subst, arith, slice_index_or}
use Rattle.std.proofs.lemmas.List.{drop_all, append-nil}
use Rattle.std.proofs.lemmas.Option.{slice_get_within, slice_get_read}
use Rattle.std.specs.Prelude.{slice_get}
use Rattle.pad_text.specs.Hash.{document_hash}
use Rattle.pad_patch.specs.Piece.{text_after, end_of}
use Rattle.pad_patch.specs.UnitStore.{between}
use Rattle.pad_patch.specs.Inverse.{inverse, inverse_operation, inverse_operations}
use Rattle.pad_patch.proofs.Copies.{IsRange-operation, InsertsTexts}
use Rattle.pad_patch.proofs.Inverses.{IsInverting, inverting_first, inverting_next, operation_of, patch_of, same_operation, same_patch, drop-operation, built_next, texts_next, text_after-inverse, CanApply-inverse}
use Rattle.pad_patch.proofs.patch.Patch.invert.Goals as goal

pub loop-op-init : goal.loop-op-init
loop-op-init g c =
    let text = g.S.UnitStore.units c.args.text.now in
    rw (c.in_ok-ops.ensures.items, c.as_slice-op-items.ensures) (record {
      built = refl;
      state = inverting_first c.args.self.now text c.requires.can;
      texts = λ index operation below. absurd (omega arith);
    })

pub read-requires : goal.read-requires
read-requires g c =
    let text = g.S.UnitStore.units c.args.text.now in
    let member = slice_get_read c.args.self.now.ops (length c.as_slice-op-items.result.now) c.loop-op.op-index c.op-item.result (ap length c.as_slice-op-items.ensures) c.loop-op-test.true
    (c.op-item.is ∙ ap (λ os. slice_index_or os c.loop-op.op-index c.op-item.result) c.as_slice-op-items.ensures) in
    rw (c.start.ensures, c.end.ensures) (IsRange-operation c.args.self.now text c.loop-op.op-index c.op-item.result c.requires.can member)

pub loop-op-preserved : goal.loop-op-preserved
loop-op-preserved g c =
    let text = g.S.UnitStore.units c.args.text.now in
    let items = c.as_slice-op-items.result.now in
    let index = c.loop-op.op-index in
    let operation = c.op-item.result in
    let later = drop (index + 1) items in
    let split = drop-operation items index operation c.loop-op-test.true c.op-item.is in
    let state = subst (IsInverting text (text_after c.args.self.now text) c.loop-op.inserted c.loop-op.removed) split c.loop-op.invariant.state in
    let pushed = operation_of (c.start-in-loop-op.result + c.loop-op.inserted - c.loop-op.removed) (length c.as_units-count.result.now) c.in_ok-insert.insert in
    let removes : length c.as_units-count.result.now ≡ length operation.insert = ap length c.as_units-count.ensures.units in
    let offsets : c.start-in-loop-op.result + c.loop-op.inserted - c.loop-op.removed ≡ operation.offset + c.loop-op.inserted - c.loop-op.removed =
    ap (λ n. n + c.loop-op.inserted - c.loop-op.removed) c.start-in-loop-op.ensures in
    let inserts : c.in_ok-insert.insert ≡ between operation.offset (end_of operation) text =
    c.in_ok-insert.ensures ∙ ap (λ n. between n c.end.result text) c.start.ensures ∙ ap (λ n. between operation.offset n text) c.end.ensures in
    let is = same_operation pushed (inverse_operation c.loop-op.inserted c.loop-op.removed text operation) offsets removes inserts in
    let built = built_next text c.loop-op.inserted c.loop-op.removed operation pushed later c.loop-op.ops.items c.push.new.self.items c.in_ok-push.ensures.items is in
    let before = ap (λ os. c.loop-op.ops.items ++ inverse_operations c.loop-op.inserted c.loop-op.removed text os) (sym split) in
    rw removes (record {
      built = built ∙ before ∙ c.loop-op.invariant.built;
      state = inverting_next text (text_after c.args.self.now text) c.loop-op.inserted c.loop-op.removed operation later state;
      texts = texts_next items index operation c.op-item.is c.as_units-count.ensures.text c.loop-op.invariant.texts;
    })

pub returns-clause-inverse : goal.returns-clause-inverse
unfolding inverse
returns-clause-inverse g c =
    let text = g.S.UnitStore.units c.args.text.now in
    let items = c.as_slice-op-items.result.now in
    let none : drop c.loop-op.op-index items ≡ [] = drop_all c.loop-op.op-index items c.loop-op-test.false in
    let built : c.new.result ≡ inverse_operations 0 0 text c.args.self.now.ops =
    c.new.ensures ∙ sym (append-nil c.loop-op.ops.items)
    ∙ ap (λ os. c.loop-op.ops.items ++ inverse_operations c.loop-op.inserted c.loop-op.removed text os) (sym none) ∙ c.loop-op.invariant.built in
    same_patch (patch_of c.new.result c.args.after.now) (patch_of (inverse_operations 0 0 text c.args.self.now.ops) (document_hash (text_after c.args.self.now text))) built c.requires.hash

pub returns-clause-undoes : goal.returns-clause-undoes
returns-clause-undoes g c =
    let text = g.S.UnitStore.units c.args.text.now in
    rw (returns-clause-inverse g c) (text_after-inverse c.args.self.now text c.requires.can.ordered c.requires.can.inside)

pub returns-clause-applies : goal.returns-clause-applies
returns-clause-applies g c =
    let text = g.S.UnitStore.units c.args.text.now in
    let items = c.as_slice-op-items.result.now in
    let inserts : InsertsTexts c.args.self.now.ops = λ index operation is.
    let stands = ap (λ os. slice_get os index) c.as_slice-op-items.ensures ∙ is in
    c.loop-op.invariant.texts index operation (omega (arith, slice_get_within items index operation stands)) stands in
    rw (returns-clause-inverse g c) (CanApply-inverse c.args.self.now text (g.met.S.UnitStore.is_text c.args.text.now) inserts c.requires.can)

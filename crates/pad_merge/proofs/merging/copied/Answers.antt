use Rattle.std.proofs.Common.{◌+◌, ◌-◌, ◌++◌, drop, take, map, refl, sym, ◌∙◌, ap, subst, arith, length, slice_index_or}
use Rattle.std.specs.Prelude.{slice_get}
use Rattle.std.specs.List.{flat_map}
use Rattle.std.proofs.lemmas.List.{drop_all, length-map}
use Rattle.std.proofs.lemmas.Option.{slice_get-get_or}
use Rattle.pad_patch.specs.Piece.{pieces_from}
use Rattle.pad_patch.proofs.CallerLemmas.{IsLaid, laid}
use Rattle.pad_patch.proofs.CallerLemmas.{texts_next}
use Rattle.pad_merge.specs.UnitSource.{new_unit, sources_after}
use Rattle.pad_merge.specs.Origin.{numbered, origins_after}
use Rattle.pad_merge.proofs.Numbers.{origins_of_pieces, origins-pieces}
use Rattle.pad_merge.specs.CopiedUnit.{source_of, origin_of, origin_in}
use Rattle.pad_merge.proofs.Sources.{sources_of_piece, sources-pieces, drop-next, copied_next}
use Rattle.pad_merge.proofs.Units.{grown_range, grown_length, numbered_operation, copied_end}
use Rattle.pad_merge.proofs.merging.copied.Goals as goal

pub loop-op-init : goal.loop-op-init
loop-op-init c =
    rw (c.new-copy.ensures.items, c.as_slice-op-items.ensures) (record {
      sources = sym (sources-pieces c.args.patch.now (map source_of c.args.units.now));
      origins = sym (origins-pieces (origin_in c.args.side) c.args.patch.now (map origin_of c.args.units.now));
      laid_out = laid c.args.patch.now (length c.args.units.now) c.requires.ordered c.requires.inside;
      texts = λ index operation below. absurd (omega arith);
      few = omega arith;
    })

pub loop-op-preserved : goal.loop-op-preserved
loop-op-preserved c =
    let units = c.args.units.now in
    let sources = map source_of units in
    let origins = map origin_of units in
    let number = origin_in c.args.side in
    let items = c.as_slice-op-items.result.now in
    let index = c.loop-op.op-index in
    let place = c.loop-op.place in
    let inserted = c.loop-op.inserted in
    let operation = c.op-item.result in
    let later = drop (index + 1) items in
    let start = c.start.result in
    let new = c.as_units.result.now in
    let before = c.loop-op.copy.items in
    let middle = c.extend_from_slice.new.self.items in
    let after = c.push_new.new.copy.items in
    let split = drop-next items index operation c.loop-op-test.true c.op-item.is in
    let kept = c.in_ok-extend_from_slice.ensures.items in
    let laid_out = subst (IsLaid place (length units)) split c.loop-op.invariant.laid_out in
    let count = ap length c.as_units.ensures.units ∙ sym c.len-inserted.ensures in
    record {
      sources = copied_next sources place start c.end-place.result operation later (drop index items) new
          (map source_of before) (map source_of middle) (map source_of after)
          split c.start.ensures c.end-place.ensures c.as_units.ensures.units
          (grown_range source_of before middle units (start - place) place kept) c.in_ok-push_new.ensures.sources
          ∙ c.loop-op.invariant.sources;
      origins = numbered_operation number origins place start c.end-place.result inserted (inserted + c.len-inserted.result) c.len-inserted.result operation later (drop index items)
          (map origin_of before) (map origin_of middle) (map origin_of after)
          split c.start.ensures c.end-place.ensures c.len-inserted.ensures refl
          (grown_range origin_of before middle units (start - place) place kept)
          (c.in_ok-push_new.ensures.origins ∙ ap (λ n. map origin_of middle ++ numbered number inserted n) count)
          ∙ c.loop-op.invariant.origins;
      laid_out = subst (λ n. IsLaid n (length units) later) (sym c.end-place.ensures) laid_out.2;
      texts = texts_next items index operation c.op-item.is c.as_units.ensures.text c.loop-op.invariant.texts;
      few = omega (
        arith,
        grown_length source_of before middle after (take (start - place) (drop place units)) (map new_unit new) kept c.in_ok-push_new.ensures.sources,
        length-map new new_unit,
        count,
      );
    }

pub returns-clause-sources : goal.returns-clause-sources
returns-clause-sources c =
    let units = c.args.units.now in
    let sources = map source_of units in
    let left = drop_all c.loop-op.op-index c.as_slice-op-items.result.now c.loop-op-test.false in
    let before = c.loop-op.copy.items in
    let after = c.extend_from_slice-2.new.self.items in
    let place = c.loop-op.place in
    copied_end (map source_of before) (map source_of after) sources (sources_after c.args.patch.now sources) place (length units) (length-map units source_of)
    (ap (λ os. map source_of before ++ flat_map (sources_of_piece sources) (pieces_from place (length sources) os)) (sym left) ∙ c.loop-op.invariant.sources)
    (grown_range source_of before after units (length units - place) place c.in_ok-extend_from_slice-2.ensures.items)

pub returns-clause-origins : goal.returns-clause-origins
returns-clause-origins c =
    let units = c.args.units.now in
    let origins = map origin_of units in
    let number = origin_in c.args.side in
    let left = drop_all c.loop-op.op-index c.as_slice-op-items.result.now c.loop-op-test.false in
    let before = c.loop-op.copy.items in
    let after = c.extend_from_slice-2.new.self.items in
    let place = c.loop-op.place in
    copied_end (map origin_of before) (map origin_of after) origins (origins_after number c.args.patch.now origins) place (length units) (length-map units origin_of)
    (ap (λ os. map origin_of before ++ origins_of_pieces number origins c.loop-op.inserted (pieces_from place (length origins) os)) (sym left) ∙ c.loop-op.invariant.origins)
    (grown_range origin_of before after units (length units - place) place c.in_ok-extend_from_slice-2.ensures.items)

pub returns-clause-texts : goal.returns-clause-texts
returns-clause-texts c k default below =
    let items = c.as_slice-op-items.result.now in
    let ops = c.args.patch.now.ops in
    let stands = ap (λ os. slice_get os k) c.as_slice-op-items.ensures ∙ slice_get-get_or ops k default below in
    c.loop-op.invariant.texts k (slice_index_or ops k default) (omega (arith, ap length c.as_slice-op-items.ensures)) stands

-- the copy so far, and that of the rest, whose operations stand in order; what was inserted are texts
use Rattle.std.proofs.Common.{◌≡◌, ℕ, ◌<◌, ◌≤◌, ◌++◌, map, drop, length}
use Rattle.std.specs.Prelude.{Some, slice_get}
use Rattle.std.specs.List.{flat_map}
use Rattle.pad_text.specs.Text.{IsText}
use Rattle.pad_patch.specs.declared.operation.Operation.{Operation}
use Rattle.pad_patch.specs.Piece.{pieces_from}
use Rattle.pad_patch.proofs.CallerLemmas.{IsLaid}
use Rattle.pad_merge.specs.UnitSource.{sources_after}
use Rattle.pad_merge.specs.Origin.{origins_after}
use Rattle.pad_merge.proofs.Numbers.{origins_of_pieces}
use Rattle.pad_merge.specs.CopiedUnit.{source_of, origin_of, origin_in}
use Rattle.pad_merge.proofs.merging.copied.Given as goal
use Rattle.pad_merge.proofs.Sources.{sources_of_piece}

abbrev pub invariant-loop-op : goal.invariant-loop-op
invariant-loop-op l =
    let left = drop l.op-index l.op-items in
    let sources = map source_of l.units in
    let origins = map origin_of l.units in
    record {
      sources : map source_of l.copy.items ++ flat_map (sources_of_piece sources) (pieces_from l.place (length sources) left) ≡ sources_after l.patch sources;
      origins : map origin_of l.copy.items ++ origins_of_pieces (origin_in l.side) origins l.inserted (pieces_from l.place (length origins) left)
          ≡ origins_after (origin_in l.side) l.patch origins;
      laid_out : IsLaid l.place (length l.units) left;
      texts : (index : ℕ) (operation : Operation) → index < l.op-index → slice_get l.op-items index ≡ Some operation → IsText operation.insert;
      few : l.inserted ≤ length l.copy.items;
    }

use Rattle.std.proofs.Common.{◌≡◌, ◌+◌, ◌*◌, ◌<◌, ◌^◌, ◌++◌, length, map, reverse, vec_len, All, IsSome}
use Rattle.std.specs.BTreeMap.{get}
use Rattle.pad_graph.specs.State.{name_cmp}
use Rattle.pad_branch.specs.Tip.{tip_after}
use Rattle.pad_branch.specs.Undo.{undone_name}
use Rattle.pad_branch.specs.Branch.{LeadsTo}
use Rattle.pad_branch.proofs.forward.go_forward.Given as goal

abbrev pub decreases-loop-name : goal.decreases-loop-name
decreases-loop-name g l = vec_len l.names

abbrev pub invariant-loop-name : goal.invariant-loop-name
invariant-loop-name g l = record {
  held : All (λ name. IsSome (get name_cmp l.messages name)) l.names.items;
  leads : LeadsTo (get name_cmp l.messages) (g.S.UnitStore.units l.fn.start.text) l.fn.start.tip (reverse l.undos.items) (g.S.UnitStore.units l.position.text);
  tip : l.position.tip ≡ tip_after l.fn.start.tip (reverse l.undos.items);
  names : l.initial.names.items ≡ l.names.items ++ map undone_name (reverse l.undos.items);
  room : l.position.tip.since + length l.names.items + 1 < 2 ^ 64;
  count : length l.undos.items + length l.names.items ≡ length l.initial.names.items;
  taken : l.steps + 2 * length l.names.items ≡ l.initial.steps + 2 * length l.initial.names.items;
}

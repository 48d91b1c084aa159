use Rattle.std.proofs.Common.{[], refl, arith}
use Rattle.pad_graph.proofs.Starting.{started}
use Rattle.pad_graph.proofs.Fields.{nothing_listed, put_alone}
use Rattle.pad_graph.proofs.graph.Graph.new.Goals as goal

pub invariant_of-result : goal.invariant_of-result
invariant_of-result c = record {
  base = c.args.base;
  links = [];
  root = [];
  stands = started _ c.args.base (put_alone c.new-nodes.result c.insert.new.self c.args.base _ c.new-nodes.ensures.empty c.in-Ok.ensures.updates) (nothing_listed c.new.result c.new.ensures.empty) refl refl refl refl refl;
  few = omega arith;
}

pub returns : goal.returns
returns c = started _ c.args.base (put_alone c.new-nodes.result c.insert.new.self c.args.base _ c.new-nodes.ensures.empty c.in-Ok.ensures.updates) (nothing_listed c.new.result c.new.ensures.empty) refl refl refl refl refl

use Rattle.pad_graph.proofs.Entries.{put_back}
use Rattle.pad_graph.proofs.tables.hold.Goals as goal

pub returns-then-is_err-clause-same_nodes : goal.returns-then-is_err-clause-same_nodes
returns-then-is_err-clause-same_nodes c q =
    put_back c.args.nodes.now c.insert.new.self c.remove.new.self c.args.name c.args.node c.in-Ok.ensures.updates c.remove.ensures.updates c.requires q

use Rattle.std.proofs.Common.{◌≡◌, ℕ, List, take, drop}
use Rattle.serve_loop.specs.Hangs.{HangsAfter}
use Rattle.serve_loop.specs.Inside.Load.{KeepsLoad}
use Rattle.serve_loop.specs.Inside.MayHang.{MayHang}
use Rattle.serve_loop.specs.Inside.Taken.{IsDelivered}
use Rattle.serve_loop.proofs.delivering.deliver.Given as goal

abbrev pub invariant-loop-out : goal.invariant-loop-out
invariant-loop-out g l = let port = g.P.Port in record {
  delivered : IsDelivered port.tells l.fn.waiting.items l.waiting.items (take l.out-index l.outs) (port.sent l.fn.port) (port.sent l.port) (port.failed l.fn.port) (port.failed l.port);
  events : port.tells → port.events l.port ≡ port.events l.fn.port;
  counts : (port.faults l.port ≡ port.faults l.fn.port) × (port.ends l.port ≡ port.ends l.fn.port);
  load : KeepsLoad (take l.out-index l.outs) l.fn.waiting.items l.waiting.items;
  hangs : (last : List ℕ) × HangsAfter last (drop l.out-index l.outs) × MayHang last l.waiting.items (port.spare l.port);
}

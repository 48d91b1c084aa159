-- Laws of deliveries.
use Rattle.std.specs.Prelude.{ℕ, List, []}
use Rattle.pad_edge.specs.declared.sent.Sent.{Sent}
use Rattle.serve_loop.specs.Delivery.{Delivers}
use Rattle.serve_loop.specs.declared.out.Out.{Out}

-- all outputs may go out, and no send fail
abbrev pub OutputsMayGo : Type 0
OutputsMayGo = (waiting : List ℕ) (outs : List Out) → (gone : List Sent) × Delivers waiting outs gone []

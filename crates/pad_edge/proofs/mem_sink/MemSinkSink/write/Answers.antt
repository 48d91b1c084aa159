-- What stands in front of the room after a piece was written over it.
use Rattle.std.proofs.Common.{◌≡◌, ◌++◌, ◌≤◌, ◌+◌, length, take, arith, ap, ◌∙◌}
use Rattle.std.proofs.lemmas.List.{length-take-le}
use Rattle.pad_edge.proofs.Lists.{take-written}
use Rattle.pad_edge.proofs.mem_sink.MemSinkSink.write.Goals as goal

pub returns-clause-grown : goal.returns-clause-grown
returns-clause-grown c =
    let filled = c.self.inside.filled in
    let count = c.min-count.result in
    let old = c.deref_mut.result.now in
    let piece = c.copy_from_slice.new.self in
    let within : filled ≤ length old = omega arith in
    let taken : length (take count c.args.piece.now) ≡ count = length-take-le count c.args.piece.now (omega arith) in
    let long : length piece ≡ count = ap length c.copy_from_slice.ensures.after ∙ taken in
    let fits : filled + count ≤ c.self.inside.room.len = omega arith in
    let front : take filled old ≡ c.args.self.now.written = ap (take filled) c.deref_mut.ensures.value ∙ ap (λ w. w.written) c.self.view_is in
    let same : take filled old ++ piece ≡ c.args.self.now.written ++ take count c.args.piece.now = cc in
    take-written filled count c.self.inside.room.len old piece _ _ within long fits ∙ same

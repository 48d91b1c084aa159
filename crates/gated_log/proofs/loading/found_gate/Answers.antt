use Rattle.std.proofs.Common.{arith}
use Rattle.gated_log.proofs.Opening.{gate_found, many_found}
use Rattle.gated_log.proofs.loading.found_gate.Goals as goal

pub returns-then-count-most_entries-clause-found : goal.returns-then-count-most_entries-clause-found
returns-then-count-most_entries-clause-found c = λ name bytes disk index count rests small magic last.
    many_found c.args.form bytes _ index c.args.gate small magic last (omega (arith, count, c.most_entries.ensures, c.if-count-most_entries.true))

pub returns-clause-found : goal.returns-clause-found
returns-clause-found c = λ name bytes disk index count rests small magic last.
    gate_found c.args.form name bytes disk index c.args.gate small magic last (omega (arith, count, c.most_entries.ensures, c.if-count-most_entries.false)) rests

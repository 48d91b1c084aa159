use Rattle.std.proofs.Common.{◌≡◌, length, arith}
use Rattle.pad_plain.proofs.Candidates.{candidate_from}
use Rattle.pad_plain.proofs.links.candidate_at.Goals as goal

pub returns-clause-some : goal.returns-clause-some
returns-clause-some c =
    let to = rw c.in-Some.is at c.in_ok-path.ensures.some in
    let within = rw c.in-Some.is at c.in_ok-path.ensures.within in
    let many : c.len.result ≡ length c.in-Some.path.items = omega arith in
    candidate_from c.args.base.now c.args.received.now c.args.place _ _ _ to within many c.requires.named

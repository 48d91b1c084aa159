use Rattle.std.proofs.Common.{Contains}
use Rattle.pad_branch.specs.declared.candidate.Candidate.{Candidate}
use Rattle.pad_branch.specs.Inside.Candidates.{IsOneOf}
use Rattle.pad_branch.proofs.Better.{HasFirst}
use Rattle.pad_branch.proofs.candidates.those_better.Given as goal

abbrev pub invariant-loop-linking : goal.invariant-loop-linking
invariant-loop-linking l = record {
  each : (candidate : Candidate) → Contains l.candidates.items candidate → IsOneOf l.linkings l.name l.height l.longest candidate;
  first : HasFirst l.linkings l.name l.height l.longest l.candidates.items l.linking-index;
}

use Rattle.std.proofs.lemmas.List.Sorted.{Contains-permutation, IsPermutation-sym}
use Rattle.pad_branch.specs.Inside.Candidates.{candidate_of}
use Rattle.pad_branch.proofs.Better.{few_of}
use Rattle.pad_branch.proofs.candidates.better.Goals as goal

pub returns-clause-each : goal.returns-clause-each
returns-clause-each c candidate member =
    c.in_ok-candidates.ensures.each candidate (Contains-permutation _ _ candidate (IsPermutation-sym _ _ c.in_ok-sort.ensures.permutation) member)

pub returns-clause-few : goal.returns-clause-few
returns-clause-few c =
    few_of c.args.linkings.now c.args.name.now c.args.height c.args.longest c.sort.new.self.items c.requires
    (λ candidate member. c.in_ok-candidates.ensures.each candidate (Contains-permutation _ _ candidate (IsPermutation-sym _ _ c.in_ok-sort.ensures.permutation) member))

pub returns-clause-every : goal.returns-clause-every
returns-clause-every c linking member better = Contains-permutation _ _ (candidate_of linking) c.in_ok-sort.ensures.permutation (c.in_ok-candidates.ensures.every linking member better)

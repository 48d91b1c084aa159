use Rattle.std.proofs.Common.{[]}
use Rattle.std.proofs.lemmas.Option.{slice_get-get_or}
use Rattle.pad_branch.proofs.Better.{takes, each_new, has_every}
use Rattle.pad_branch.proofs.candidates.those_better.Goals as goal

pub loop-linking-preserved : goal.loop-linking-preserved
loop-linking-preserved c =
    let at = slice_get-get_or c.args.linkings.now c.loop-linking.linking-index (record { height = 0; name = record { 0 = [] } }) c.loop-linking-test.true in
    record {
      each = each_new _ _ _ _ c.loop-linking.candidates.items _ _ at c.loop-linking.invariant.first c.push.new.self.items c.in_ok-push.ensures.items (c.is_better.ensures.0 c.if-not-is_better.false) c.loop-linking.invariant.each;
      first = takes _ _ _ _ c.loop-linking.candidates.items _ _ at c.loop-linking.invariant.first c.push.new.self.items c.in_ok-push.ensures.items;
    }

pub returns-clause-every : goal.returns-clause-every
returns-clause-every c x member better = has_every _ _ _ _ _ c.loop-linking.linking-index c.loop-linking-test.false c.loop-linking.invariant.first x member better

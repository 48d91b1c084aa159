use Rattle.std.proofs.Common.{◌+◌, List, drop, ◌∙◌, sym, subst, arith}
use Rattle.std.proofs.lemmas.List.{length-drop}
use Rattle.gated_log.specs.declared.extent.Extent.{Extent}
use Rattle.gated_log.proofs.Walks.{IsWithin, shown_is, within_on, byte_shown}
use Rattle.gated_log.proofs.walking.go_over.Goals as goal

pub loop-walk-preserved : goal.loop-walk-preserved
loop-walk-preserved c =
    let before = c.loop-walk.invariant in
    let walk = c.loop-walk.walk in
    let next = walk.gate + (5 + c.in-Some.size) in
    let P : List Extent → Type 0 = λ items. IsWithin c.args.piece.now c.args.walk.gate walk.end next c.args.index.now.items items in
    record {
      so_far = subst P (sym c.in_ok-push-in-Some.ensures.items)
          (within_on c.args.piece.now c.args.walk.gate walk.end walk.gate c.in-Some.size c.args.index.now.items c.loop-walk.index.items before.so_far
          (omega (arith, c.loop-walk-test.true)) c.in-Some.ensures.fits c.in-Some.ensures.entry);
      inside = record {
        behind_magic = omega (arith, before.inside.behind_magic, before.inside.forward);
        forward = omega arith;
        inside = omega (arith, c.in-Some.ensures.fits);
        small = before.inside.small;
      };
      end = before.end;
    }

pub returns-in-None-clause-step : goal.returns-in-None-clause-step
returns-in-None-clause-step c = λ bytes long is.
    let before = c.loop-walk.invariant in
    let walk = c.loop-walk.walk in
    let shown = shown_is c.args.piece.now bytes c.args.walk.gate walk.gate is before.so_far.forward (omega (arith, c.loop-walk-test.true)) in (
      before.so_far.over bytes (long ∙ sym before.end) is,
      record {
        byte_is = byte_shown c.args.piece.now bytes c.args.walk.gate walk.gate is before.so_far.forward (omega (arith, c.loop-walk-test.true));
        ends = λ few. c.in-None.ensures.entry (drop walk.gate bytes) shown (omega (arith, long, before.end, length-drop walk.gate bytes));
      },
    )

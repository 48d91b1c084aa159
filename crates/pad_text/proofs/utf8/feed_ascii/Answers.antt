use Rattle.std.proofs.Common.{◌≡◌, ◌+◌, ◌-◌, ◌++◌, take, drop, sym, ◌∙◌, ap, subst, append_assoc, arith}
use Rattle.std.proofs.Math.Seq.{take-add}
use Rattle.sha2.specs.Hashers.{Holds256}
use Rattle.pad_text.proofs.utf8.feed_ascii.Goals as goal

pub loop-fed-preserved : goal.loop-fed-preserved
loop-fed-preserved c =
    let units = c.args.units.now in
    let fed = c.loop-fed.fed in
    let next = c.min-next.result in
    let size : fed + (next - fed) ≡ next = omega arith in
    let more : take fed units ++ take (next - fed) (drop fed units) ≡ take next units = sym (take-add fed (next - fed) units) ∙ ap (λ n. take n units) size in
    record {
      inside = omega arith;
      held = λ message holds.
          subst (Holds256 c.feed_piece.new.hasher) (append_assoc message (take fed units) (take (next - fed) (drop fed units)) ∙ ap (λ xs. message ++ xs) more)
          (c.feed_piece.ensures (message ++ take fed units) (c.loop-fed.invariant.held message holds));
    }

-- The next piece stands behind what was written before.
use Rattle.std.proofs.Common.{◌≡◌, ◌+◌, ◌-◌, ◌≤◌, ◌++◌, length, length-drop, take, drop, refl, arith, ap, sym, subst, ◌∙◌}
use Rattle.std.proofs.Math.Seq.{take-add}
use Rattle.std.proofs.lemmas.List.{take_all}
use Rattle.std.specs.Io.KnownBytes.{Appends}
use Rattle.std.proofs.KnownBytes.{Appends-trans}
use Rattle.pad_output.proofs.output.write_all.Goals as goal

pub loop-done-preserved : goal.loop-done-preserved
loop-done-preserved g c =
    let text = c.args.text.now in
    let done = c.loop-done.done in
    let count = c.in_ok-done.field-0 in
    let rest : take (length text - done) (drop done text) ≡ drop done text = take_all _ _ (omega (arith, length-drop done text)) in
    let within : done + count ≤ length text = omega (arith, c.in_ok-done.ensures.bound, ap length rest, length-drop done text) in
    let piece : Appends (g.O.Sink.written c.loop-done.output) (g.O.Sink.written c.write.new.self) (take count (drop done text)) =
    subst (λ l. Appends (g.O.Sink.written c.loop-done.output) (g.O.Sink.written c.write.new.self) (take count l)) rest c.in_ok-done.ensures.grown in
    let both : Appends (g.O.Sink.written c.args.output.now) (g.O.Sink.written c.write.new.self) (take done text ++ take count (drop done text)) =
    Appends-trans _ _ _ (take done text) (take count (drop done text)) c.loop-done.invariant.grown piece in
    record {
      within = within;
      grown = subst (Appends (g.O.Sink.written c.args.output.now) (g.O.Sink.written c.write.new.self)) (sym (take-add done count text)) both;
      kept = c.in_ok-done.ensures.cause.kept refl ∙ c.loop-done.invariant.kept;
    }

-- One line more is received, or is the one at which a replay stops.
use Rattle.std.proofs.Common.{◌≡◌, ◌-◌, ◌<◌, ◌∷◌, length, drop, ap, sym, subst, ◌∙◌, arith}
use Rattle.std.proofs.lemmas.Result.{err_from_is_err_and}
use Rattle.pad_lines.specs.Line.{lines_of}
use Rattle.pad_top.proofs.Taking.{IsHere, here_first, here_more, here_end, IsLinesRefusal-at}
use Rattle.pad_top.proofs.replay.receive_lines.Goals as goal

pub loop-line-init : goal.loop-line-init
loop-line-init g c =
    subst (λ rest. IsHere c.args.text.items rest c.in_ok-received.received) (sym c.new-rest.ensures)
    (here_first c.args.text.items c.in_ok-received.received c.in_ok-received.ensures)

pub loop-line-preserved : goal.loop-line-preserved
loop-line-preserved g c =
    let rest = c.loop-line.rest in
    let after = c.in-Some.after.now in
    let split : lines_of rest ≡ c.in-Some.line.now ∷ lines_of after = ap lines_of (sym c.as_slice.ensures) ∙ c.in-Some.ensures.lines in
    let shorter : length after < length rest = omega (arith, c.in-Some.ensures.shorter, ap length c.as_slice.ensures) in
    let end : drop (length rest - length after) rest ≡ after = ap (λ text. drop (length text - length after) text) (sym c.as_slice.ensures) ∙ sym c.in-Some.ensures.end in
    let left : c.go_on.new.self ≡ after = c.go_on.ensures ∙ end in
    subst (λ text. IsHere c.args.text.items text c.receive_line.new.self) (sym left)
    (here_more c.args.text.items rest c.in-Some.line.now after c.loop-line.received c.receive_line.new.self
    c.loop-line.invariant split shorter c.in_ok-receive_line.ensures.received)

pub returns-in_err-receive_line-clause-refused : goal.returns-in_err-receive_line-clause-refused
returns-in_err-receive_line-clause-refused g c =
    let here = c.loop-line.invariant in
    let gone = err_from_is_err_and c.from_residual-in_err-receive_line.result c.from_residual-in_err-receive_line.ensures.1 in
    let split : lines_of c.loop-line.rest ≡ c.in-Some.line.now ∷ lines_of c.in-Some.after.now = ap lines_of (sym c.as_slice.ensures) ∙ c.in-Some.ensures.lines in
    rw (gone.1, gone.2) (IsLinesRefusal-at c.args.text.items c.loop-line.rest c.in-Some.line.now c.in-Some.after.now here.progress c.in_err-receive_line.field-0.0
    here.so_far split (c.in_err-receive_line.ensures.refused here.progress here.at))

pub returns-clause-received : goal.returns-clause-received
returns-clause-received g c =
    here_end c.args.text.items c.loop-line.rest c.loop-line.received c.loop-line.invariant (ap lines_of (sym c.as_slice.ensures) ∙ c.in_default.ensures.lines)

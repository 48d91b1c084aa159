-- The first line ends at the first newline, or with the text.
use Rattle.std.proofs.Common.{◌≡◌, ◌+◌, ◌-◌, length, take, drop, arith, ap, sym, ◌∙◌, ◌∷◌, length-drop}
use Rattle.std.proofs.lemmas.Bool.Decides.{nat_tests}
use Rattle.std.proofs.lemmas.List.{take_all}
use Rattle.pad_lines.specs.Line.{lines_of}
use Rattle.pad_lines.proofs.LineLemmas.{lines_of-split, lines_of-whole}
use Rattle.pad_lines.proofs.line.split_line.Goals as goal

pub returns-in-Some-clause-lines : goal.returns-in-Some-clause-lines
returns-in-Some-clause-lines c =
    let text = c.args.text.now in
    let end = c.in-Some.end in
    let all : take (length text - (end + 1)) (drop (end + 1) text) ≡ drop (end + 1) text = take_all _ _ (omega (arith, length-drop (end + 1) text)) in
    lines_of-split text end c.in-Some.ensures.first ∙ ap (λ rest. take end text ∷ lines_of rest) (sym all)

pub returns-in-None-2-clause-lines : goal.returns-in-None-2-clause-lines
returns-in-None-2-clause-lines c = lines_of-whole c.args.text.now (grind (arith, nat_tests, c.if-is_empty.ensures)) c.in-None-2.ensures.first

pub returns-in-Some-clause-end : goal.returns-in-Some-clause-end
returns-in-Some-clause-end c =
    let text = c.args.text.now in
    let end = c.in-Some.end in
    let all : take (length text - (end + 1)) (drop (end + 1) text) ≡ drop (end + 1) text = take_all _ _ (omega (arith, length-drop (end + 1) text)) in
    let size : length text - length (drop (end + 1) text) ≡ end + 1 = omega (arith, length-drop (end + 1) text, c.in-Some.ensures.within) in
    all ∙ ap (λ n. drop n text) (sym size) ∙ ap (λ after. drop (length text - length after) text) (sym all)

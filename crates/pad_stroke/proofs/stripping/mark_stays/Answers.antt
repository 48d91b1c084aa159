use Rattle.std.proofs.Common.{sym, ◌∙◌, ap}
use Rattle.pad_stroke.specs.Strip.{stays}
use Rattle.pad_stroke.proofs.Search.{stays-found, stays-none, stays-behind, stays-front, stays-both}
use Rattle.pad_stroke.proofs.stripping.mark_stays.Goals as goal

pub returns-in-Some : goal.returns-in-Some
returns-in-Some c =
    let mark = c.args.mark.now in
    let found = stays-found c.split_at.result.1.now mark c.in-Some.place (sym c.in-Some.ensures) in
    sym (stays-behind c.args.gone.now mark c.min.result (ap (λ marks. stays marks mark) (sym c.split_at.ensures.back) ∙ found))

pub returns-in-Some-place_of : goal.returns-in-Some-place_of
returns-in-Some-place_of c =
    let mark = c.args.mark.now in
    let found = stays-found c.split_at.result.0.now mark c.in-Some-place_of.place (sym c.in-Some-place_of.ensures) in
    sym (stays-front c.args.gone.now mark c.min.result (ap (λ marks. stays marks mark) (sym c.split_at.ensures.front) ∙ found))

pub returns-in-None-place_of : goal.returns-in-None-place_of
returns-in-None-place_of c =
    let mark = c.args.mark.now in
    let front = stays-none c.split_at.result.0.now mark (sym c.in-None-place_of.ensures) in
    let back = stays-none c.split_at.result.1.now mark (sym c.in-None.ensures) in
    sym (stays-both c.args.gone.now mark c.min.result
    (ap (λ marks. stays marks mark) (sym c.split_at.ensures.front) ∙ front)
    (ap (λ marks. stays marks mark) (sym c.split_at.ensures.back) ∙ back))

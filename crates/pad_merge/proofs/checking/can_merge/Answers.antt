use Rattle.std.proofs.Common.{◌∙◌, sym}
use Rattle.pad_patch.specs.Misfit.{Overlaps, EndsAfter}
use Rattle.pad_merge.proofs.Standing.{none_found, some_found, of_meeting, meets_all}
use Rattle.pad_merge.proofs.checking.can_merge.Goals as goal

pub returns-then-is_some : goal.returns-then-is_some
returns-then-is_some c =
    let found = some_found (Overlaps c.args.p.now) c.first_overlap.result c.first_overlap.ensures (sym c.is_some.ensures ∙ c.if-is_some.true) in
    (λ is. cc, λ can. absurd (can.first_ordered found.0 found.1))

pub returns-then-is_some-2 : goal.returns-then-is_some-2
returns-then-is_some-2 c =
    let found = some_found (EndsAfter c.args.p.now c.args.len) c.first_past.result c.first_past.ensures (sym c.is_some-2.ensures ∙ c.if-is_some-2.true) in
    (λ is. cc, λ can. absurd (can.first_inside found.0 found.1))

pub returns-then-is_some-3 : goal.returns-then-is_some-3
returns-then-is_some-3 c =
    let found = some_found (Overlaps c.args.q.now) c.first_overlap-2.result c.first_overlap-2.ensures (sym c.is_some-3.ensures ∙ c.if-is_some-3.true) in
    (λ is. cc, λ can. absurd (can.second_ordered found.0 found.1))

pub meet_first-requires-clause-ordered : goal.meet_first-requires-clause-ordered
meet_first-requires-clause-ordered c = none_found (Overlaps c.args.p.now) c.first_overlap.result c.first_overlap.ensures (sym c.is_some.ensures ∙ c.if-is_some.false)

pub meet_first-requires-clause-inside : goal.meet_first-requires-clause-inside
meet_first-requires-clause-inside c = none_found (EndsAfter c.args.p.now c.args.len) c.first_past.result c.first_past.ensures (sym c.is_some-2.ensures ∙ c.if-is_some-2.false)

pub returns : goal.returns
returns c =
    let ordered = none_found (Overlaps c.args.p.now) c.first_overlap.result c.first_overlap.ensures (sym c.is_some.ensures ∙ c.if-is_some.false) in
    let inside = none_found (EndsAfter c.args.p.now c.args.len) c.first_past.result c.first_past.ensures (sym c.is_some-2.ensures ∙ c.if-is_some-2.false) in
    let second = none_found (Overlaps c.args.q.now) c.first_overlap-2.result c.first_overlap-2.ensures (sym c.is_some-3.ensures ∙ c.if-is_some-3.false) in (
      (λ is. of_meeting c.args.p.now c.args.q.now c.args.len ordered inside second (c.meet_first.ensures.0 is)),
      (λ can. c.meet_first.ensures.1 (meets_all c.args.p.now c.args.q.now c.args.len can)),
    )

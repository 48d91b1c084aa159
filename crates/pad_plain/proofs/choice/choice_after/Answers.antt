use Rattle.std.proofs.Common.{◌≡◌, ◌∙◌, ◌+◌, ◌<◌, ◌≤◌, ◌^◌, length, take, ap, sym, subst, arith}
use Rattle.std.proofs.lemmas.List.{length-take-le}
use Rattle.pad_model.specs.Path.{NamesDiffer}
use Rattle.pad_list.specs.Number.{NoRepeat}
use Rattle.pad_model.specs.Choice.{cut, higher}
use Rattle.pad_plain.specs.Tip.{IsTipOf}
use Rattle.pad_plain.specs.Inside.Walk.{messages_at}
use Rattle.pad_plain.specs.Inside.Candidate.{names_of}
use Rattle.pad_plain.specs.Inside.Links.{HasEveryLinked, AreLinkedOf}
use Rattle.pad_plain.specs.Inside.Chosen.{IsChosen}
use Rattle.pad_plain.proofs.Stepping.{earlier_is, differ_first, differ_earlier, stepped}
use Rattle.pad_plain.proofs.choice.choice_after.Goals as goal

pub count_overtaking-requires-clause-past : goal.count_overtaking-requires-clause-past
count_overtaking-requires-clause-past c d earlier m whole =
    let first = c.first-received.ensures in
    let e = earlier_is c.args.messages.now c.args.newest earlier m c.requires.few (sym first ∙ whole) in
    let before = differ_earlier c.args.messages.now c.args.newest c.requires.few (subst NamesDiffer first d) in
    subst (λ l. AreLinkedOf c.args.base.now l c.as_slice-old.result.now) (sym e)
    (subst (AreLinkedOf c.args.base.now (take c.args.newest c.args.messages.now)) (sym c.as_slice-old.ensures.value) (c.in_ok-past.ensures.each, (c.in_ok-past.ensures.links before).every))

pub count_overtaking-requires-clause-every : goal.count_overtaking-requires-clause-every
count_overtaking-requires-clause-every c d =
    let first = c.first-received.ensures in
    subst (HasEveryLinked c.args.base.now c.first-received.result.now) (sym c.as_slice-new.ensures.value)
    (subst (λ l. HasEveryLinked c.args.base.now l c.in_ok-links.links.candidates.items) (sym first) (c.in_ok-links.ensures.links (subst NamesDiffer first d)).every)

pub count_overtaking-requires-clause-once : goal.count_overtaking-requires-clause-once
count_overtaking-requires-clause-once c d =
    subst (λ l. NoRepeat (names_of l)) (sym c.as_slice-new.ensures.value) (c.in_ok-links.ensures.links (subst NamesDiffer c.first-received.ensures d)).once

pub path_after-requires-clause-every : goal.path_after-requires-clause-every
path_after-requires-clause-every c d =
    let first = c.first-received.ensures in
    subst (λ l. HasEveryLinked c.args.base.now l c.in_ok-links.links.candidates.items) (sym first) (c.in_ok-links.ensures.links (subst NamesDiffer first d)).every

pub returns-clause-chosen : goal.returns-clause-chosen
returns-clause-chosen c d =
    let first = c.first-received.ensures in
    let received = c.first-received.result.now in
    let differ : NamesDiffer received = subst NamesDiffer (sym first) (differ_first c.args.messages.now (c.args.newest + 1) d) in
    let fits : c.args.newest + 1 ≤ length c.args.messages.now = omega (arith, c.requires.few) in
    let short : length received < 2 ^ 64 = omega (arith, ap length first, length-take-le (c.args.newest + 1) c.args.messages.now fits, c.requires.small) in
    subst (λ l. IsChosen c.args.base.now l (record { path = c.in_ok-path.path; root = c.root_after-root.result; overtaken = c.saturating_add.result })) first
    (stepped c.args.base.now c.args.messages.now received c.args.newest c.requires.few first short c.args.before (c.requires.chosen d) c.requires.within c.in_ok-path.path c.root_after-root.result c.in_ok-more.more c.saturating_add.result
    (λ through root. c.in_ok-path.ensures.best differ through root)
    (λ through tip. subst (λ v. IsTipOf c.args.base.now (higher through (cut (messages_at received v))) c.root_after-root.result) c.as_slice.ensures.value (c.root_after-root.ensures through tip))
    (c.in_ok-more.ensures differ) c.saturating_add.ensures)

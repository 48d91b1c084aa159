use Rattle.std.proofs.Common.{◌<◌, ℕ, length, take, ap, sym, subst, ◌∙◌, arith}
use Rattle.std.proofs.lemmas.Option.{slice_get_within}
use Rattle.pad_text.specs.declared.name.Name.{Name}
use Rattle.pad_message.specs.Message.{name_of}
use Rattle.pad_plain.specs.Inside.Table.{IsTableOf}
use Rattle.pad_plain.proofs.Candidates.{Sorting, sorting_start, first_placed, among_first, behind_first, sorting_base, sorting_behind, sorting_linked, sorting_waiting, sorting_each, sorting_end}
use Rattle.pad_plain.proofs.Places.{none_if, some_same, name_yes, name_no}
use Rattle.pad_plain.proofs.links.linked_paths.Goals as goal

pub loop-name-init : goal.loop-name-init
loop-name-init c =
    let gives = c.into_iter-name-iterator.ensures.into_iter_gives in
    record {
      sorting = rw (c.first-received.ensures, gives.0) (sorting_start c.args.messages.now c.places-name-items.result.now c.places-name-items.ensures c.args.base.now c.args.count c.requires gives.5 gives.6 _ c.new-candidates.ensures.items);
      few = rw gives.0 (omega (arith, gives.1));
    }

pub loop-name-preserved-then-eq : goal.loop-name-preserved-then-eq
loop-name-preserved-then-eq c =
    let steps = c.in-Some.ensures.steps in
    let sorting = subst (λ left. Sorting c.args.base.now c.first-received.result.now left c.loop-name.candidates.items c.loop-name.waiting) steps c.loop-name.invariant.sorting in
    record {
      sorting = sorting_base _ _ _ _ _ _ _ sorting (name_yes c.in-Some.name.now c.args.base.now.name c.if-eq.ensures);
      few = omega (arith, c.loop-name.invariant.few, ap (length {A = Name × ℕ}) steps);
    }

pub loop-name-preserved-then-place-count : goal.loop-name-preserved-then-place-count
loop-name-preserved-then-place-count c =
    let steps = c.in-Some.ensures.steps in
    let sorting = subst (λ left. Sorting c.args.base.now c.first-received.result.now left c.loop-name.candidates.items c.loop-name.waiting) steps c.loop-name.invariant.sorting in
    record {
      sorting = sorting_behind _ _ _ _ _ _ _ sorting (behind_first c.args.messages.now _ c.args.count c.in-Some.place.now c.first-received.ensures c.requires c.if-place-count.true);
      few = omega (arith, c.loop-name.invariant.few, ap (length {A = Name × ℕ}) steps);
    }

pub candidate_at-requires-clause-within : goal.candidate_at-requires-clause-within
candidate_at-requires-clause-within c = among_first c.args.messages.now _ c.args.count c.in-Some.place.now c.first-received.ensures c.requires c.if-place-count.false

pub candidate_at-requires-clause-above : goal.candidate_at-requires-clause-above
candidate_at-requires-clause-above c m at same =
    let inside = among_first c.args.messages.now _ c.args.count c.in-Some.place.now c.first-received.ensures c.requires c.if-place-count.false in
    let entry = first_placed _ _ _ _ _ _ _ c.loop-name.invariant.sorting c.in-Some.ensures.steps inside in
    name_no c.in-Some.name.now c.args.base.now.name c.if-eq.ensures (sym entry.2 ∙ ap name_of (some_same entry.0 m (sym entry.1 ∙ at)) ∙ same)

pub candidate_at-requires-clause-named : goal.candidate_at-requires-clause-named
candidate_at-requires-clause-named c m at =
    let inside = among_first c.args.messages.now _ c.args.count c.in-Some.place.now c.first-received.ensures c.requires c.if-place-count.false in
    let entry = first_placed _ _ _ _ _ _ _ c.loop-name.invariant.sorting c.in-Some.ensures.steps inside in
    ap name_of (some_same m entry.0 (sym at ∙ entry.1)) ∙ entry.2

pub loop-name-preserved-in_default : goal.loop-name-preserved-in_default
loop-name-preserved-in_default c =
    let inside = among_first c.args.messages.now _ c.args.count c.in-Some.place.now c.first-received.ensures c.requires c.if-place-count.false in
    let steps = c.in-Some.ensures.steps in
    let sorting = subst (λ left. Sorting c.args.base.now c.first-received.result.now left c.loop-name.candidates.items c.loop-name.waiting) steps c.loop-name.invariant.sorting in
    record {
      sorting = sorting_waiting _ _ _ _ _ _ _ sorting inside (name_no c.in-Some.name.now c.args.base.now.name c.if-eq.ensures) (c.in_ok-found.ensures.none (none_if _ c.in_default.not-Some));
      few = omega (arith, c.loop-name.invariant.few, ap (length {A = Name × ℕ}) steps);
    }

pub loop-name-preserved : goal.loop-name-preserved
loop-name-preserved c =
    let steps = c.in-Some.ensures.steps in
    let sorting = subst (λ left. Sorting c.args.base.now c.first-received.result.now left c.loop-name.candidates.items c.loop-name.waiting) steps c.loop-name.invariant.sorting in
    let is = rw c.in-Some-found.is at c.in_ok-found.ensures.some in
    let named = rw c.in-Some-found.is at c.in_ok-found.ensures.name in
    record {
      sorting = rw c.in_ok-push.ensures.items (sorting_linked _ _ _ _ _ _ _ sorting c.in-Some-found.candidate is named);
      few = omega (arith, c.loop-name.invariant.few, ap (length {A = Name × ℕ}) steps);
    }

pub returns : goal.returns
returns c =
    let steps = c.in-None.ensures.steps.0 in
    let sorting = subst (λ left. Sorting c.args.base.now c.first-received.result.now left c.loop-name.candidates.items c.loop-name.waiting) steps c.loop-name.invariant.sorting in
    rw (← c.first-received.ensures) (record {
      parents = rw c.first-received.ensures c.in_ok-parents.ensures;
      each = sorting_each _ _ _ _ _ sorting;
      links = sorting_end _ _ (record { parents = c.in_ok-parents.parents; candidates = c.loop-name.candidates; waiting = c.loop-name.waiting }) sorting;
    })

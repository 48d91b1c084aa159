use Rattle.std.proofs.Common.{◌≡◌, length, sym, ap, subst, ◌∙◌}
use Rattle.pad_model.specs.Path.{IsLinkedPath, EachSound}
use Rattle.pad_model.specs.Choice.{RunsThrough}
use Rattle.pad_plain.specs.Inside.Walk.{messages_at}
use Rattle.pad_plain.proofs.Places.{none_if, messages_length}
use Rattle.pad_plain.proofs.Throughs.{same_path, leads_named}
use Rattle.pad_plain.proofs.best.sound_path.Goals as goal

pub returns-in_default-clause-none : goal.returns-in_default-clause-none
returns-in_default-clause-none c _ d through root m before at path runs =
    let beside = rw c.in_default.is at c.in_ok-found.ensures.through in
    beside d through root m before at path.0 runs

pub returns-in_default-2-clause-none : goal.returns-in_default-2-clause-none
returns-in_default-2-clause-none c _ d through root m before at path runs =
    let to = rw c.in-Some.is at c.in_ok-found.ensures.some in
    let same = same_path c.args.base.now c.args.received.now _ _ to d m before at path.0 in
    let unsound = c.in_ok-_text.ensures.none (none_if _ c.in_default-2.not-Some) in
    unsound (subst (λ v. EachSound c.args.base.now (messages_at c.args.received.now v)) (sym c.as_slice.ensures.value) (subst (EachSound c.args.base.now) same path.1))

pub returns-clause-some : goal.returns-clause-some
returns-clause-some c =
    let to = rw c.in-Some.is at c.in_ok-found.ensures.some in
    let within = rw c.in-Some.is at c.in_ok-found.ensures.within in
    let sound = rw c.in-Some-2.is at c.in_ok-_text.ensures.some in
    let many : c.len.result ≡ length c.in-Some.places.items = c.len.ensures ∙ sym c.as_slice.ensures.len ∙ ap length c.as_slice.ensures.value in
    record {
      to = to;
      sound = subst (λ v. EachSound c.args.base.now (messages_at c.args.received.now v)) c.as_slice.ensures.value sound.0;
      tip = record { named = leads_named c.args.base.now c.args.received.now c.args.candidate.now _ c.requires.is to; high = many ∙ sym (messages_length c.args.received.now c.in-Some.places.items within) };
    }

pub returns-clause-through : goal.returns-clause-through
returns-clause-through c d through root =
    let to = rw c.in-Some.is at c.in_ok-found.ensures.some in
    let beside = rw c.in-Some.is at c.in_ok-found.ensures.through in
    subst (RunsThrough through) (sym to.whole) (beside d through root to.last to.before to.at_place (subst (IsLinkedPath c.args.base.now c.args.received.now) to.whole to.linked))

use Rattle.std.proofs.Common.{◌≡◌, ◌∙◌, List, length, take, ap, ap₂, sym, refl, subst}
use Rattle.std.proofs.Math.Seq.{take-length}
use Rattle.pad_message.specs.declared.message.Message.{Message}
use Rattle.pad_model.specs.Path.{NamesDiffer, EachSound, text}
use Rattle.pad_list.specs.Number.{NoRepeat, IsNumberOf}
use Rattle.pad_model.specs.Count.{IsWaiting, IsKept}
use Rattle.pad_plain.specs.Inside.Walk.{messages_at}
use Rattle.pad_plain.specs.Inside.Candidate.{names_of}
use Rattle.pad_plain.specs.Inside.Links.{HasEveryLinked}
use Rattle.pad_plain.specs.Inside.Through.{IsRoot}
use Rattle.pad_plain.proofs.Stepping.{chosen_path_all, root_is_all}
use Rattle.pad_plain.proofs.summary.Summary.of.Goals as goal

pub count_kept-requires-clause-every : goal.count_kept-requires-clause-every
count_kept-requires-clause-every c d =
    let first = c.first-received.ensures in
    subst (HasEveryLinked c.args.base.now c.first-received.result.now) (sym c.as_slice-candidates.ensures.value)
    (subst (λ l. HasEveryLinked c.args.base.now l c.in_ok-links.links.candidates.items) (sym first) (c.in_ok-links.ensures.links (subst NamesDiffer first d)).every)

pub count_kept-requires-clause-once : goal.count_kept-requires-clause-once
count_kept-requires-clause-once c d =
    subst (λ l. NoRepeat (names_of l)) (sym c.as_slice-candidates.ensures.value) (c.in_ok-links.ensures.links (subst NamesDiffer c.first-received.ensures d)).once

pub returns : goal.returns
returns c d =
    let base = c.args.base.now in
    let messages = c.args.messages.now in
    let links = c.in_ok-links.links in
    let chosen = c.in_ok-chosen.chosen in
    let all : take (length c.as_slice-count.result.now) messages ≡ messages = ap (λ l. take (length l) messages) c.as_slice-count.ensures ∙ take-length messages in
    let first : c.first-received.result.now ≡ messages = c.first-received.ensures ∙ all in
    let (choice, is) = c.in_ok-chosen.ensures.chosen d in
    let path : messages_at c.first-received.result.now c.as_slice.result.now ≡ choice.chosen = ap₂ messages_at first c.as_slice.ensures.value ∙ is.path in
    let root = subst (λ l. IsRoot base l chosen.root choice.root) (sym first) (root_is_all base messages chosen choice is) in
    record {
      choice = choice;
      is_choice = is.is_choice;
      best_tip = is.tip;
      after = c.in_ok-text.ensures (subst (EachSound base) (sym path) (chosen_path_all base messages chosen choice is).1) ∙ ap (text base) path;
      root_tip = is.root_tip;
      overtook = is.overtook;
      counts = record {
        known_names = c.known.ensures;
        waiting_messages = subst (λ l. IsNumberOf (IsWaiting base l) links.waiting) all (c.in_ok-links.ensures.links (subst NamesDiffer (sym all) d)).waits;
        above_root = c.in_ok-above.above;
        kept_messages = subst (λ l. IsNumberOf (IsKept base l choice.root) c.in_ok-above.above) first (c.in_ok-above.ensures.kept (subst NamesDiffer (sym first) d) choice.root root);
        with_root = refl;
      };
    }

-- A line that reads as a message of a line before it changes nothing.
use Rattle.std.proofs.Common.{◌≡◌, ℕ, ◌+◌, ◌⊎◌, inl, inr, List, [], ◌∷◌, ◌++◌, Option, Some, is_none, count_by, cond, Contains, refl, sym, ap, subst, ◌∙◌}
use Rattle.std.proofs.lemmas.List.Elements.{Contains-append_left, Contains-append_right, Contains-append_cases}
use Rattle.std.proofs.lemmas.List.Sums.{sum_by-append}
use Rattle.std.specs.List.{AllZip}
use Rattle.pad_message.specs.declared.message.Message.{Message}
use Rattle.pad_model.specs.Base.{first_base}
use Rattle.pad_model.specs.Path.{NamesDiffer}
use Rattle.pad_model.specs.Report.{IsReport}
use Rattle.pad_list.proofs.CallerLemmas.{contains_more, contains_cases}
use Rattle.pad_model.proofs.CallerLemmas.{repeat_changes_no_report}
use Rattle.pad_received.specs.Contents.{ReadsAs, AreReadAs, HasFewNames}
use Rattle.pad_top.specs.Replay.{IsReplayed}
use Rattle.pad_top.specs.Laws.{RepeatsChangeNothing}
use Rattle.pad_top.proofs.Once.{one_list, one_outcome, read_of, read-append}
use Rattle.pad_top.proofs.Ending.{replayed}

-- the outcomes of lines are those of the first lines, and then those of the others
split : (before after : List (List ℕ)) (all : List (Option Message)) → AllZip ReadsAs (before ++ after) all
    → (firsts : List (Option Message)) × (lasts : List (Option Message)) × (all ≡ firsts ++ lasts) × AllZip ReadsAs before firsts × AllZip ReadsAs after lasts
split [] after all each = ([], all, refl, tt, each)
split (line ∷ before) after [] each = absurd each
split (line ∷ before) after (o ∷ all) each =
    let rest = split before after all each.1 in
    (o ∷ rest.0, rest.1, ap (λ os. o ∷ os) rest.2, (each.0, rest.3), rest.4)

join : (before after : List (List ℕ)) (firsts lasts : List (Option Message)) → AllZip ReadsAs before firsts → AllZip ReadsAs after lasts
    → AllZip ReadsAs (before ++ after) (firsts ++ lasts)
join [] after [] lasts first last = last
join [] after (o ∷ firsts) lasts first last = absurd first
join (line ∷ before) after [] lasts first last = absurd first
join (line ∷ before) after (o ∷ firsts) lasts first last = (first.0, join before after firsts lasts first.1 last)

abbrev others_of : List (Option Message) → ℕ
others_of outcomes = count_by is_none outcomes

others-append : (outcomes others : List (Option Message)) → others_of (outcomes ++ others) ≡ others_of outcomes + others_of others
others-append outcomes others = sum_by-append (λ o. cond (is_none o) 1 0) outcomes others

-- what is received behind first lines
behind : (before after : List (List ℕ)) (messages all : List Message) (unreadable number : ℕ) → AreReadAs before messages unreadable → AreReadAs (before ++ after) all number
    → (lasts : List (Option Message)) × AllZip ReadsAs after lasts × (all ≡ messages ++ read_of lasts) × (number ≡ unreadable + others_of lasts)
behind before after messages all unreadable number first whole =
    let parts = split before after whole.outcomes whole.each in
    let same : parts.0 ≡ first.outcomes = one_list before parts.0 first.outcomes parts.3 first.each in (
      parts.1,
      parts.4,
      whole.read ∙ ap read_of (parts.2 ∙ ap (λ os. os ++ parts.1) same) ∙ read-append first.outcomes parts.1 ∙ ap (λ ms. ms ++ read_of parts.1) (sym first.read),
      whole.others ∙ ap others_of (parts.2 ∙ ap (λ os. os ++ parts.1) same) ∙ others-append first.outcomes parts.1 ∙ ap (λ n. n + others_of parts.1) (sym first.others),
    )

received : (before after : List (List ℕ)) (messages : List Message) (unreadable : ℕ) (lasts : List (Option Message)) → AreReadAs before messages unreadable → AllZip ReadsAs after lasts
    → AreReadAs (before ++ after) (messages ++ read_of lasts) (unreadable + others_of lasts)
received before after messages unreadable lasts first each = record {
  outcomes = first.outcomes ++ lasts;
  each = join before after first.outcomes lasts first.each each;
  read = ap (λ ms. ms ++ read_of lasts) first.read ∙ sym (read-append first.outcomes lasts);
  others = ap (λ n. n + others_of lasts) first.others ∙ sym (others-append first.outcomes lasts);
}

-- one more of a message changes no members
to_more : (messages rest : List Message) (message x : Message) → Contains (messages ++ rest) x → Contains (messages ++ message ∷ rest) x
to_more messages rest message x has = go (Contains-append_cases messages rest x has)
  where
    go : Contains messages x ⊎ Contains rest x → Contains (messages ++ message ∷ rest) x
    go (inl front) = Contains-append_left messages (message ∷ rest) x front
    go (inr back) = Contains-append_right messages (message ∷ rest) x (contains_more message rest x back)

from_more : (messages rest : List Message) (message x : Message) → Contains messages message → Contains (messages ++ message ∷ rest) x → Contains (messages ++ rest) x
from_more messages rest message x old has = go (Contains-append_cases messages (message ∷ rest) x has)
  where
    last : (message ≡ x) ⊎ Contains rest x → Contains (messages ++ rest) x
    last (inl here) = Contains-append_left messages rest x (subst (Contains messages) here old)
    last (inr back) = Contains-append_right messages rest x back

    go : Contains messages x ⊎ Contains (message ∷ rest) x → Contains (messages ++ rest) x
    go (inl front) = Contains-append_left messages rest x front
    go (inr back) = last (contains_cases message rest x back)

-- fewer messages have few names
few_of : (messages others : List Message) → ((x : Message) → Contains others x → Contains messages x) → HasFewNames messages → HasFewNames others
few_of messages others within few names once known = few names once (λ name has. let k = known name has in (k.0, within k.0 k.1, k.2, k.3))

differ_of : (messages others : List Message) → ((x : Message) → Contains others x → Contains messages x) → NamesDiffer messages → NamesDiffer others
differ_of messages others within differ one other has has_other same = differ one other (within one has) (within other has_other) same

pub repeats_change_nothing : RepeatsChangeNothing
repeats_change_nothing input other output before after line messages unreadable message is was short small first old spelled = (forth, back)
  where
    forth : IsReplayed input output → IsReplayed other output
    forth one =
        let rest = behind before after messages one.messages unreadable one.unreadable first (subst (λ ls. AreReadAs ls one.messages one.unreadable) is one.taken.received) in
        let more = messages ++ message ∷ read_of rest.0 in
        let fewer : HasFewNames (messages ++ read_of rest.0) = subst HasFewNames rest.2 one.taken.names in
        replayed other output more (unreadable + others_of rest.0) small
        (subst (λ ls. AreReadAs ls more (unreadable + others_of rest.0)) (sym was) (received before (line ∷ after) messages unreadable (Some message ∷ rest.0) first (spelled, rest.1)))
        (few_of (messages ++ read_of rest.0) more (λ x has. from_more messages (read_of rest.0) message x old has) fewer)
        (λ differ.
        let differs = differ_of more (messages ++ read_of rest.0) (λ x has. to_more messages (read_of rest.0) message x has) differ in
        let report = subst (λ n. IsReport first_base (messages ++ read_of rest.0) n output) rest.3
        (subst (λ ms. IsReport first_base ms one.unreadable output) rest.2 (one.report (subst NamesDiffer (sym rest.2) differs))) in
        (repeat_changes_no_report first_base messages (read_of rest.0) message (unreadable + others_of rest.0) output differs old).0 report)

    back : IsReplayed other output → IsReplayed input output
    back two =
        let all = behind before (line ∷ after) messages two.messages unreadable two.unreadable first (subst (λ ls. AreReadAs ls two.messages two.unreadable) was two.taken.received) in
        go all.0 all.1 all.2 all.3
      where
        go : (lasts : List (Option Message)) → AllZip ReadsAs (line ∷ after) lasts → two.messages ≡ messages ++ read_of lasts → two.unreadable ≡ unreadable + others_of lasts → IsReplayed input output
        go [] each are number = absurd each
        go (o ∷ lasts) each are number = here o lasts (one_outcome line o (Some message) each.0 spelled) each.1 are number
          where
            here : (o : Option Message) (lasts : List (Option Message)) → o ≡ Some message → AllZip ReadsAs after lasts → two.messages ≡ messages ++ read_of (o ∷ lasts)
                → two.unreadable ≡ unreadable + others_of (o ∷ lasts) → IsReplayed input output
            here o lasts same each are number =
                let more = messages ++ message ∷ read_of lasts in
                let all_are : two.messages ≡ more = are ∙ ap (λ p. messages ++ read_of (p ∷ lasts)) same in
                let as_many : two.unreadable ≡ unreadable + others_of lasts = number ∙ ap (λ p. unreadable + others_of (p ∷ lasts)) same in
                let few : HasFewNames more = subst HasFewNames all_are two.taken.names in
                replayed input output (messages ++ read_of lasts) (unreadable + others_of lasts) short
                (subst (λ ls. AreReadAs ls (messages ++ read_of lasts) (unreadable + others_of lasts)) (sym is) (received before after messages unreadable lasts first each))
                (few_of more (messages ++ read_of lasts) (λ x has. to_more messages (read_of lasts) message x has) few)
                (λ differ.
                let differs = differ_of (messages ++ read_of lasts) more (λ x has. from_more messages (read_of lasts) message x old has) differ in
                let report = subst (λ n. IsReport first_base more n output) as_many
                (subst (λ ms. IsReport first_base ms two.unreadable output) all_are (two.report (subst NamesDiffer (sym all_are) differs))) in
                (repeat_changes_no_report first_base messages (read_of lasts) message (unreadable + others_of lasts) output differ old).1 report)

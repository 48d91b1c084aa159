-- There is at most one report, and repeats and order change nothing of what it tells of the best chain.
use Rattle.std.proofs.Common.{◌≡◌, ◌↔◌, ℕ, ◌+◌, ◌⊎◌, inl, inr, List, [], ◌∷◌, ◌++◌, reverse, Contains, sym, ap, ◌∙◌, subst, append_assoc}
use Rattle.std.proofs.lemmas.List.{reverse-append, reverse-reverse}
use Rattle.std.proofs.lemmas.List.Elements.{Contains-append_right, Contains-append_left}
use Rattle.pad_text.specs.declared.name.Name.{Name}
use Rattle.pad_message.specs.declared.message.Message.{Message}
use Rattle.pad_model.specs.declared.base.Base.{Base}
use Rattle.pad_model.specs.Path.{IsLinked, NamesDiffer}
use Rattle.pad_model.specs.Choice.{Choice, IsChoice, IsNextChoice, Overtakes, IsBestThrough}
use Rattle.pad_model.specs.Count.{IsKnown, IsWaiting, IsKept, AreCounts}
use Rattle.pad_model.specs.Report.{report_lines, report_values, IsReport}
use Rattle.pad_model.specs.Laws.{SameMembers, AtMostOneReport, RepeatChangesNoReport, OrderChangesNoBest}
use Rattle.pad_list.proofs.CallerLemmas.{contains_head, contains_more, contains_cases, contains_none, contains_middle, one_number, number_same, contains_around}
use Rattle.pad_model.proofs.Chains.{linked_more, path_more, differ_before}
use Rattle.pad_model.proofs.OneBest.{one_best, same_members}
use Rattle.pad_model.proofs.OneChoice.{one_next, one_choice}
use Rattle.pad_model.proofs.Chosen.{nothing_overtook}
use Rattle.pad_model.proofs.Stays.{repeat_changes_no_choice}

-- ---- lists with the same members

pub in_reverse : (R : List Message) (x : Message) → Contains R x → Contains (reverse R) x
in_reverse [] x h = absurd (contains_none x h)
in_reverse (m ∷ R) x h = subst (λ l. Contains l x) (sym (reverse-append (m ∷ []) R)) (go (contains_cases m R x h) (in_reverse R x))
  where
    go : (m ≡ x) ⊎ Contains R x → (Contains R x → Contains (reverse R) x) → Contains (reverse R ++ m ∷ []) x
    go (inl e) rest = Contains-append_right (reverse R) (m ∷ []) x (subst (Contains (m ∷ [])) e (contains_head m []))
    go (inr k) rest = Contains-append_left (reverse R) (m ∷ []) x (rest k)

pub same_reversed : (R : List Message) → SameMembers R (reverse R)
same_reversed R x = (in_reverse R x, λ h. subst (λ l. Contains l x) (reverse-reverse R) (in_reverse (reverse R) x h))

same_back : (R S : List Message) → SameMembers R S → SameMembers S R
same_back R S same x = ((same x).1, (same x).0)

same_more : (m : Message) (R S : List Message) → SameMembers R S → SameMembers (m ∷ R) (m ∷ S)
same_more m R S same x = (λ h. to R S (λ y. (same y).0) (contains_cases m R x h), λ h. to S R (λ y. (same y).1) (contains_cases m S x h))
  where
    to : (R S : List Message) → ((y : Message) → Contains R y → Contains S y) → (m ≡ x) ⊎ Contains R x → Contains (m ∷ S) x
    to R S more (inl e) = subst (Contains (m ∷ S)) e (contains_head m S)
    to R S more (inr k) = contains_more m S x (more x k)

-- a message in front of others that have it
same_again : (later R : List Message) (m : Message) → Contains R m → SameMembers (later ++ R) (later ++ m ∷ R)
same_again later R m k x = (contains_around m x later R, λ h. go (contains_middle m x later R h))
  where
    go : (m ≡ x) ⊎ Contains (later ++ R) x → Contains (later ++ R) x
    go (inl e) = subst (Contains (later ++ R)) e (Contains-append_right later R m k)
    go (inr c) = c

pub differ_same : (R S : List Message) → SameMembers R S → NamesDiffer R → NamesDiffer S
differ_same R S same d x y cx cy = d x y ((same x).1 cx) ((same y).1 cy)

-- ---- what the same members have in common

module _ (b : Base) (R S : List Message) (same : SameMembers R S) where
  linked_same : (m : Message) → IsLinked b R m ↔ IsLinked b S m
  linked_same m = (λ h. (h.0, linked_more b R S (m ∷ h.0) (λ x. (same x).0) h.1), λ h. (h.0, linked_more b S R (m ∷ h.0) (λ x. (same x).1) h.1))

  pub known_same : (n : Name) → IsKnown b R n ↔ IsKnown b S n
  known_same n = (λ h. (h.0, (same h.0).0 h.1, h.2, h.3), λ h. (h.0, (same h.0).1 h.1, h.2, h.3))

  pub waiting_same : (m : Message) → IsWaiting b R m ↔ IsWaiting b S m
  waiting_same m = (λ h. ((same m).0 h.0, h.1, λ l. h.2 ((linked_same m).1 l)), λ h. ((same m).1 h.0, h.1, λ l. h.2 ((linked_same m).0 l)))

  kept_same : (r : List Message) (m : Message) → IsKept b R r m ↔ IsKept b S r m
  kept_same r m = (λ h. (h.0, linked_more b R S (m ∷ h.0) (λ x. (same x).0) h.1, h.2), λ h. (h.0, linked_more b S R (m ∷ h.0) (λ x. (same x).1) h.1, h.2))

  pub counts_same : (r : List Message) (known waiting kept : ℕ) → AreCounts b R r known waiting kept → AreCounts b S r known waiting kept
  counts_same r known waiting kept h = record {
    known_names = number_same (IsKnown b R) (IsKnown b S) known known_same h.known_names;
    waiting_messages = number_same (IsWaiting b R) (IsWaiting b S) waiting waiting_same h.waiting_messages;
    above_root = h.above_root;
    kept_messages = number_same (IsKept b R r) (IsKept b S r) h.above_root (kept_same r) h.kept_messages;
    with_root = h.with_root;
  }

  pub through_same : (r p : List Message) → IsBestThrough b R r p → IsBestThrough b S r p
  through_same r p h = record {
    path = path_more b R S p (λ x. (same x).0) h.path;
    through = h.through;
    none_better = λ q path through. h.none_better q (path_more b S R q (λ x. (same x).1) path) through;
  }

overtakes_to : (b : Base) (R S : List Message) (m : Message) (c : Choice) (x : Message) → SameMembers R S → Overtakes b R m c x → Overtakes b S m c x
overtakes_to b R S m c x same o = record {
  was_not_linked = λ l. o.was_not_linked ((linked_same b R S same x).1 l);
  before = o.before;
  below = (linked_more b (m ∷ R) (m ∷ S) (x ∷ o.before) (λ y. (same_more m R S same y).0) o.below.0, o.below.1);
  better = o.better;
}

pub next_same : (b : Base) (R S : List Message) (m : Message) (c d : Choice) → SameMembers R S → IsNextChoice b R m c d → IsNextChoice b S m c d
next_same b R S m c d same h = record {
  chosen = through_same b (m ∷ R) (m ∷ S) (same_more m R S same) c.root d.chosen h.chosen;
  root = h.root;
  more = h.more;
  overtook = number_same (Overtakes b R m c) (Overtakes b S m c) h.more (λ x. (overtakes_to b R S m c x same, overtakes_to b S R m c x (same_back R S same))) h.overtook;
  overtaken = h.overtaken;
}

-- ---- the laws

pub one_report : AtMostOneReport
one_report b R unreadable bytes other d h g =
    let choice : h.choice ≡ g.choice = one_choice b (reverse R) h.choice g.choice (differ_same R (reverse R) (same_reversed R) d) h.is_choice g.is_choice in
    let known = one_number (IsKnown b R) h.known g.known h.counts.known_names g.counts.known_names in
    let waiting = one_number (IsWaiting b R) h.waiting g.waiting h.counts.waiting_messages g.counts.waiting_messages in
    let moved = subst (λ (c : Choice). AreCounts b R c.root h.known h.waiting h.kept) choice h.counts in
    let above = one_number (IsKept b R g.choice.root) moved.above_root g.counts.above_root moved.kept_messages g.counts.kept_messages in
    let kept : h.kept ≡ g.kept = moved.with_root ∙ ap (λ n. n + 1) above ∙ sym g.counts.with_root in
    h.lines ∙ (λ i. report_lines (report_values b (choice i) (known i) (waiting i) unreadable (kept i))) ∙ sym g.lines

choice_again : (b : Base) (later R : List Message) (m : Message) (c : Choice) → Contains R m → IsChoice b (later ++ R) c → IsChoice b (later ++ m ∷ R) c
choice_again b [] R m c k h = (c, h, repeat_changes_no_choice b R m c h k)
choice_again b (x ∷ later) R m c k (before, h, next) =
    (before, choice_again b later R m before k h, next_same b (later ++ R) (later ++ m ∷ R) x before c (same_again later R m k) next)

choice_once : (b : Base) (later R : List Message) (m : Message) (c : Choice) → NamesDiffer (later ++ m ∷ R) → Contains R m → IsChoice b (later ++ m ∷ R) c → IsChoice b (later ++ R) c
choice_once b [] R m c d k (before, h, next) =
    subst (IsChoice b R) (one_next b R m before before c d (repeat_changes_no_choice b R m before h k) next) h
choice_once b (x ∷ later) R m c d k (before, h, next) = (
  before,
  choice_once b later R m before (differ_before x (later ++ m ∷ R) d) k h,
  next_same b (later ++ m ∷ R) (later ++ R) x before c (same_back (later ++ R) (later ++ m ∷ R) (same_again later R m k)) next,
)

pub repeat_changes_no_report : RepeatChangesNoReport
repeat_changes_no_report b before after m unreadable bytes d k = (to, from)
  where
    there : SameMembers (before ++ after) (before ++ m ∷ after)
    there x = (contains_around m x before after, λ h. go (contains_middle m x before after h))
      where
        go : (m ≡ x) ⊎ Contains (before ++ after) x → Contains (before ++ after) x
        go (inl e) = subst (Contains (before ++ after)) e (Contains-append_left before after m k)
        go (inr c) = c

    once : reverse (before ++ after) ≡ reverse after ++ reverse before
    once = reverse-append before after

    again : reverse (before ++ m ∷ after) ≡ reverse after ++ m ∷ reverse before
    again = reverse-append before (m ∷ after) ∙ ap (λ l. l ++ reverse before) (reverse-append (m ∷ []) after) ∙ append_assoc (reverse after) (m ∷ []) (reverse before)

    to : IsReport b (before ++ after) unreadable bytes → IsReport b (before ++ m ∷ after) unreadable bytes
    to h = record {
      choice = h.choice;
      is_choice = subst (λ l. IsChoice b l h.choice) (sym again) (choice_again b (reverse after) (reverse before) m h.choice (in_reverse before m k) (subst (λ l. IsChoice b l h.choice) once h.is_choice));
      known = h.known;
      waiting = h.waiting;
      kept = h.kept;
      counts = counts_same b (before ++ after) (before ++ m ∷ after) there h.choice.root h.known h.waiting h.kept h.counts;
      lines = h.lines;
    }

    differ : NamesDiffer (reverse after ++ m ∷ reverse before)
    differ = subst NamesDiffer again (differ_same (before ++ m ∷ after) (reverse (before ++ m ∷ after)) (same_reversed (before ++ m ∷ after)) (differ_same (before ++ after) (before ++ m ∷ after) there d))

    from : IsReport b (before ++ m ∷ after) unreadable bytes → IsReport b (before ++ after) unreadable bytes
    from h = record {
      choice = h.choice;
      is_choice = subst (λ l. IsChoice b l h.choice) (sym once) (choice_once b (reverse after) (reverse before) m h.choice differ (in_reverse before m k) (subst (λ l. IsChoice b l h.choice) again h.is_choice));
      known = h.known;
      waiting = h.waiting;
      kept = h.kept;
      counts = counts_same b (before ++ m ∷ after) (before ++ after) (same_back (before ++ after) (before ++ m ∷ after) there) h.choice.root h.known h.waiting h.kept h.counts;
      lines = h.lines;
    }

pub order_changes_no_best : OrderChangesNoBest
order_changes_no_best b R S unreadable lines bytes texts d same h g none_h none_g =
    let turned : SameMembers (reverse S) (reverse R) = λ x. (λ k. (same_reversed R x).0 ((same x).1 ((same_reversed S x).1 k)), λ k. (same_reversed S x).0 ((same x).0 ((same_reversed R x).1 k))) in
    let differ_R = differ_same R (reverse R) (same_reversed R) d in
    let differ_S = differ_same S (reverse S) (same_reversed S) (differ_same R S same d) in
    let best_h = nothing_overtook b (reverse R) h.choice differ_R h.is_choice none_h in
    let best_g = nothing_overtook b (reverse S) g.choice differ_S g.is_choice none_g in (
      one_best b (reverse R) h.choice.chosen g.choice.chosen differ_R best_h (same_members b (reverse S) (reverse R) g.choice.chosen turned best_g),
      one_number (IsKnown b R) h.known g.known h.counts.known_names (number_same (IsKnown b S) (IsKnown b R) g.known (λ n. ((known_same b R S same n).1, (known_same b R S same n).0)) g.counts.known_names),
      one_number (IsWaiting b R) h.waiting g.waiting h.counts.waiting_messages (number_same (IsWaiting b S) (IsWaiting b R) g.waiting (λ m. ((waiting_same b R S same m).1, (waiting_same b R S same m).0)) g.counts.waiting_messages),
    )

-- Under no clash of names there is a choice, and there is a report.
use Rattle.std.proofs.Common.{◌≡◌, ◌≢◌, ℕ, ◌+◌, ◌⊎◌, inl, inr, List, [], ◌∷◌, ◌++◌, length, map, reverse, Contains, refl, sym, ap, subst}
use Rattle.pad_text.specs.declared.name.Name.{Name}
use Rattle.pad_message.specs.declared.message.Message.{Message}
use Rattle.pad_message.specs.Message.{name_of}
use Rattle.pad_model.specs.declared.base.Base.{Base}
use Rattle.pad_model.specs.Path.{last_name, IsLinkedPath, IsLinked, IsPath, NamesDiffer}
use Rattle.pad_model.specs.Best.{IsBetter}
use Rattle.pad_model.specs.Choice.{higher, cut, RunsThrough, IsBestThrough, IsBelow, Choice, Overtakes, IsNextChoice, IsChoice, first_choice}
use Rattle.pad_model.specs.Count.{IsKnown, IsWaiting, IsKept, AreCounts}
use Rattle.pad_model.specs.Report.{report_lines, report_values, IsReport}
use Rattle.pad_model.specs.Laws.{OneChoiceExists, OneReportExists}
use Rattle.pad_list.specs.Number.{IsNumberOf}
use Rattle.pad_list.proofs.CallerLemmas.{contains_head, contains_more, contains_dec, number_decided, contains_map, mapped_from}
use Rattle.pad_model.proofs.Chains.{path_more, linked_unique, linked_below, sound_below, differ_before}
use Rattle.pad_model.proofs.Decide.{name_dec}
use Rattle.pad_model.proofs.Exists.{better_dec, is_linked_dec, through_dec, best_through}
use Rattle.pad_model.proofs.Roots.{best_through_its_root}
use Rattle.pad_model.proofs.Chosen.{root_on_chosen, chosen_path}
use Rattle.pad_model.proofs.Reports.{same_reversed, differ_same}

message_dec : (R : List Message) → NamesDiffer R → (x y : Message) → Contains R x → Contains R y → Dec (x ≡ y)
message_dec R d x y cx cy = go (name_dec (name_of x) (name_of y))
  where
    go : Dec (name_of x ≡ name_of y) → Dec (x ≡ y)
    go (yes e) = yes (d x y cx cy e)
    go (no k) = no (λ e. k (ap name_of e))

-- the path up to the root is a path of the messages before, and of those after
root_path : (b : Base) (R : List Message) (c : Choice) → IsBestThrough b R c.root c.chosen → IsPath b R c.root
root_path b R c h =
    let (above, e) = h.through in
    let whole : IsPath b R (above ++ c.root) = subst (IsPath b R) e h.path in
    (linked_below b R above c.root whole.0, sound_below b above c.root whole.1)

-- ---- what overtakes

module _ (b : Base) (R : List Message) (m : Message) (c : Choice) (d : NamesDiffer (m ∷ R)) (h : IsBestThrough b R c.root c.chosen) where
  after : List Message
  after = m ∷ R

  root_after : IsPath b (m ∷ R) c.root
  root_after = path_more b R (m ∷ R) c.root (contains_more m R) (root_path b R c h)

  was_linked_dec : (o : Message) → Contains (m ∷ R) o → Dec (IsLinked b R o)
  was_linked_dec o k = go (contains_dec R o (λ y cy. message_dec (m ∷ R) d y o (contains_more m R y cy) k))
    where
      go : Dec (Contains R o) → Dec (IsLinked b R o)
      go (yes i) = is_linked_dec b R (differ_before m R d) o i
      go (no j) = no (λ (p, l). j l.0.member)

  overtakes_dec : (o : Message) → Contains (m ∷ R) o → Dec (Overtakes b R m c o)
  overtakes_dec o k = go (was_linked_dec o k) (is_linked_dec b (m ∷ R) d o k)
    where
      same : (p q : List Message) → IsLinkedPath b (m ∷ R) (o ∷ p) → IsLinkedPath b (m ∷ R) (o ∷ q) → o ∷ q ≡ o ∷ p
      same p q one two = linked_unique b (m ∷ R) (o ∷ q) (o ∷ p) d two one refl

      below_and_better : ¬ (IsLinked b R o) → (p : List Message) → IsLinkedPath b (m ∷ R) (o ∷ p) → Dec (RunsThrough c.root (o ∷ p)) → Dec (IsBetter b (o ∷ p) c.chosen) → Dec (Overtakes b R m c o)
      below_and_better new p l (no t) (yes better) = yes (record { was_not_linked = new; before = p; below = (l, t); better = better })
      below_and_better new p l (yes t) better = no (λ o. o.below.1 (subst (RunsThrough c.root) (same o.before p o.below.0 l) t))
      below_and_better new p l t (no j) = no (λ o. j (subst (λ w. IsBetter b w c.chosen) (same p o.before l o.below.0) o.better))

      go : Dec (IsLinked b R o) → Dec (IsLinked b (m ∷ R) o) → Dec (Overtakes b R m c o)
      go (yes l) i = no (λ o. o.was_not_linked l)
      go (no k) (no j) = no (λ o. j (o.before, o.below.0))
      go (no k) (yes (p, l)) = below_and_better k p l (through_dec b (m ∷ R) d c.root (o ∷ p) root_after.0 l) (better_dec b (o ∷ p) c.chosen)

  next_exists : (next : Choice) × IsNextChoice b R m c next
  next_exists =
      let (best, through) = best_through b (m ∷ R) d c.root root_after in
      let (more, overtook) = number_decided (m ∷ R) (Overtakes b R m c) (message_dec (m ∷ R) d) overtakes_dec (λ o is. is.below.0.0.member) in (
        record { root = higher c.root (cut best); chosen = best; overtaken = c.overtaken + more },
        record { chosen = through; root = refl; more = more; overtook = overtook; overtaken = refl },
      )

choice_exists : (b : Base) (R : List Message) → NamesDiffer R → (c : Choice) × IsChoice b R c
choice_exists b [] d = (first_choice, refl)
choice_exists b (m ∷ R) d = go (choice_exists b R (differ_before m R d))
  where
    go : (c : Choice) × IsChoice b R c → (next : Choice) × IsChoice b (m ∷ R) next
    go (c, h) = let (next, is) = next_exists b R m c d (best_through_its_root b R c h) in (next, (c, h, is))

pub one_choice_exists : OneChoiceExists
one_choice_exists b R d = choice_exists b R d

-- ---- the counts

module _ (b : Base) (R : List Message) (d : NamesDiffer R) (root : List Message) (hr : IsPath b R root) where
  known_dec : (n : Name) → Contains (map name_of R) n → Dec (IsKnown b R n)
  known_dec n k = go (mapped_from name_of R n k) (name_dec n b.name)
    where
      go : (x : Message) × Contains R x × (name_of x ≡ n) → Dec (n ≡ b.name) → Dec (IsKnown b R n)
      go x (yes e) = no (λ h. h.3 e)
      go (x, c, e) (no j) = yes (x, c, e, j)

  waiting_dec : (m : Message) → Contains R m → Dec (IsWaiting b R m)
  waiting_dec m c = go (name_dec (name_of m) b.name) (is_linked_dec b R d m c)
    where
      go : Dec (name_of m ≡ b.name) → Dec (IsLinked b R m) → Dec (IsWaiting b R m)
      go (yes e) l = no (λ h. h.1 e)
      go n (yes l) = no (λ h. h.2 l)
      go (no j) (no k) = yes (c, j, k)

  kept_dec : (m : Message) → Contains R m → Dec (IsKept b R root m)
  kept_dec m c = go (is_linked_dec b R d m c)
    where
      next : (p : List Message) → IsLinkedPath b R (m ∷ p) → Dec (RunsThrough root p) → Dec (IsKept b R root m)
      next p l (yes t) = yes (p, l, t)
      next p l (no j) = no (λ (q, g, t). j (subst (RunsThrough root) (below_same (linked_unique b R (m ∷ q) (m ∷ p) d g l refl)) t))
        where
          below_same : {q : List Message} → m ∷ q ≡ m ∷ p → q ≡ p
          below_same e = cc

      go : Dec (IsLinked b R m) → Dec (IsKept b R root m)
      go (yes (p, l)) = next p l (through_dec b R d root p hr.0 l.1)
      go (no k) = no (λ h. k (h.0, h.1))

  counts_exist : (known : ℕ) × (waiting : ℕ) × (kept : ℕ) × AreCounts b R root known waiting kept
  counts_exist =
      let (known, known_names) = number_decided (map name_of R) (IsKnown b R) (λ x y cx cy. name_dec x y) known_dec (λ n h. subst (Contains (map name_of R)) h.2 (contains_map name_of R h.0 h.1)) in
      let (waiting, waiting_messages) = number_decided R (IsWaiting b R) (message_dec R d) waiting_dec (λ m h. h.0) in
      let (above, kept_messages) = number_decided R (IsKept b R root) (message_dec R d) kept_dec (λ m h. h.1.0.member) in
      (known, waiting, above + 1, record { known_names = known_names; waiting_messages = waiting_messages; above_root = above; kept_messages = kept_messages; with_root = refl })

pub one_report_exists : OneReportExists
one_report_exists b R unreadable d = go (choice_exists b (reverse R) (differ_same R (reverse R) (same_reversed R) d))
  where
    go : (c : Choice) × IsChoice b (reverse R) c → (bytes : List ℕ) × IsReport b R unreadable bytes
    go (c, h) =
        let root = path_more b (reverse R) R c.root (λ x. (same_reversed R x).1) (root_path b (reverse R) c (best_through_its_root b (reverse R) c h)) in
        let (known, waiting, kept, counts) = counts_exist b R d c.root root in (
          report_lines (report_values b c known waiting unreadable kept),
          record { choice = c; is_choice = h; known = known; waiting = waiting; kept = kept; counts = counts; lines = refl },
        )

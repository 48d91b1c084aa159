-- What is known pathless stays so, and passes on.
use Rattle.std.proofs.Common.{◌≡◌, ◌⊎◌, inl, inr, List, [], ◌∷◌, ◌++◌, Contains, Bool, true, false, true≢false, append_assoc, refl, sym, ap, ◌∙◌, subst}
use Rattle.pad_text.specs.declared.name.Name.{Name}
use Rattle.pad_message.specs.declared.message.Message.{Message}
use Rattle.pad_model.specs.declared.base.Base.{Base}
use Rattle.pad_message.specs.Message.{name_of}
use Rattle.pad_model.specs.Path.{last_name, IsLinkedPath, EachSound, NamesDiffer}
use Rattle.pad_model.specs.Choice.{RunsThrough}
use Rattle.pad_branch.specs.Pathless.{HangsOn, KnowsPathless, IsFirstUnsound, AreFound}
use Rattle.pad_branch.specs.Inside.Passing.{PassesOn}
use Rattle.pad_list.proofs.CallerLemmas.{contains_cases}
use Rattle.pad_model.proofs.CallerLemmas.{linked_unique, linked_below, sound_below}

-- on the path to a message that is alive each message above the root is alive
pub alive_below : (b : Base) (R root : List Message) (pathless : Name → Bool) → KnowsPathless b R root pathless → (above : List Message) (m : Message) (below : List Message)
    → IsLinkedPath b R (above ++ m ∷ below) → RunsThrough root below → pathless (last_name b (above ++ m ∷ below)) ≡ false → pathless (name_of m) ≡ false
alive_below b R root pathless k [] m below h t alive = alive
alive_below b R root pathless k (x ∷ above) m below h t alive = go (pathless (last_name b (above ++ m ∷ below))) refl (alive_below b R root pathless k above m below h.1 t)
  where
    through : RunsThrough root (above ++ m ∷ below)
    through = (above ++ m ∷ t.0, ap (λ p. above ++ m ∷ p) t.1 ∙ sym (append_assoc above (m ∷ t.0) root))

    go : (d : Bool) → pathless (last_name b (above ++ m ∷ below)) ≡ d → (pathless (last_name b (above ++ m ∷ below)) ≡ false → pathless (name_of m) ≡ false) → pathless (name_of m) ≡ false
    go true e rest = absurd (true≢false (sym (k.passed x (above ++ m ∷ below) h through e) ∙ alive))
    go false e rest = rest e

-- a path through a message that is not sound is not sound
pub hangs_unsound : (b : Base) (R : List Message) → NamesDiffer R → (lower upper : Name) → IsFirstUnsound b R lower → HangsOn b R lower upper → (p : List Message) → IsLinkedPath b R p → last_name b p ≡ upper → ¬ (EachSound b p)
hangs_unsound b R d lower upper first h p linked last sound =
    let same : p ≡ h.above ++ h.message ∷ h.below = linked_unique b R p (h.above ++ h.message ∷ h.below) d linked h.linked (last ∙ sym h.last) in
    let lower_path : h.message ∷ h.below ≡ first.message ∷ first.below =
    linked_unique b R (h.message ∷ h.below) (first.message ∷ first.below) d (linked_below b R h.above (h.message ∷ h.below) h.linked) first.linked (h.named ∙ sym first.named) in
    first.unsound (subst (EachSound b) lower_path (sound_below b h.above (h.message ∷ h.below) (subst (EachSound b) same sound))).0

-- what is doomed is known pathless
pub doomed : (b : Base) (R root : List Message) (name : Name) (before after : Name → Bool) → NamesDiffer R → IsLinkedPath b R root → EachSound b root → KnowsPathless b R root before → IsFirstUnsound b R name → PassesOn b R root name before after → KnowsPathless b R root after
doomed b R root name before after d root_linked root_sound k first passes = record { at_root = at_root (after (last_name b root)) refl; really = really; passed = passed }
  where
    at_root : (t : Bool) → after (last_name b root) ≡ t → after (last_name b root) ≡ false
    at_root false e = e
    at_root true e = which (passes.only (last_name b root) e)
      where
        which : (before (last_name b root) ≡ true) ⊎ HangsOn b R name (last_name b root) → after (last_name b root) ≡ false
        which (inl was) = absurd (true≢false (sym was ∙ k.at_root))
        which (inr hangs) = absurd (hangs_unsound b R d name (last_name b root) first hangs root root_linked refl root_sound)

    really : (m : Message) (p : List Message) → IsLinkedPath b R (m ∷ p) → after (name_of m) ≡ true → ¬ (EachSound b (m ∷ p))
    really m p linked e = which (passes.only (name_of m) e)
      where
        which : (before (name_of m) ≡ true) ⊎ HangsOn b R name (name_of m) → ¬ (EachSound b (m ∷ p))
        which (inl was) = k.really m p linked was
        which (inr hangs) = hangs_unsound b R d name (name_of m) first hangs (m ∷ p) linked refl

    passed : (m : Message) (p : List Message) → IsLinkedPath b R (m ∷ p) → RunsThrough root p → after (last_name b p) ≡ true → after (name_of m) ≡ true
    passed m p linked through e = which (passes.only (last_name b p) e)
      where
        which : (before (last_name b p) ≡ true) ⊎ HangsOn b R name (last_name b p) → after (name_of m) ≡ true
        which (inl was) = passes.still (name_of m) (k.passed m p linked through was)
        which (inr h) =
            let same : h.above ++ h.message ∷ h.below ≡ p = linked_unique b R (h.above ++ h.message ∷ h.below) p d h.linked linked.1 h.last in
            passes.above (name_of m) (record {
              above = m ∷ h.above;
              message = h.message;
              below = h.below;
              linked = subst (λ q. IsLinkedPath b R (m ∷ q)) (sym same) linked;
              named = h.named;
              last = refl;
            })

-- a message that was found on the path to a message that was alive was not found before
pub not_found : (b : Base) (R root : List Message) (pathless : Name → Bool) (found : List Name) → AreFound b R root pathless found → (m : Message) (p : List Message) → IsLinkedPath b R (m ∷ p) → RunsThrough root p → pathless (name_of m) ≡ false → ¬ (Contains found (name_of m))
not_found b R root pathless found are m p linked through alive was = true≢false (sym (are.marked (name_of m) m p was refl linked through) ∙ alive)

-- one more was found, and doomed
pub found_more : (b : Base) (R root : List Message) (before after : Name → Bool) (found : List Name) (name : Name) → AreFound b R root before found → ¬ (Contains found name) → IsFirstUnsound b R name → PassesOn b R root name before after → AreFound b R root after (name ∷ found)
found_more b R root before after found name are new first passes = record {
  once = (new, are.once);
  each = λ n c. each n (contains_cases name found n c);
  marked = λ n m p c. marked n m p (contains_cases name found n c);
}
  where
    each : (n : Name) → (name ≡ n) ⊎ Contains found n → IsFirstUnsound b R n
    each n (inl e) = subst (IsFirstUnsound b R) e first
    each n (inr c) = are.each n c

    marked : (n : Name) (m : Message) (p : List Message) → (name ≡ n) ⊎ Contains found n → name_of m ≡ n → IsLinkedPath b R (m ∷ p) → RunsThrough root p → after n ≡ true
    marked n m p (inl e) named linked through = passes.above n (record { above = []; message = m; below = p; linked = linked; named = named ∙ sym e; last = named })
    marked n m p (inr c) named linked through = passes.still n (are.marked n m p c named linked through)

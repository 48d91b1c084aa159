-- The test of a path: back to the fork, and on from there.
use Rattle.std.proofs.Common.{◌≡◌, ◌≢◌, ℕ, ◌^◌, ◌+◌, ◌-◌, ◌≤◌, ◌<◌, List, [], ◌∷◌, ◌++◌, length, take, drop, map, reverse, Option, Some, IsSome, IfSome, All, slice_get, append_assoc, sym, ap, ◌∙◌, subst, arith, length-drop}
use Rattle.std.proofs.lemmas.List.{reverse-append, length-reverse}
use Rattle.pad_text.specs.declared.name.Name.{Name}
use Rattle.pad_message.specs.declared.message.Message.{Message}
use Rattle.pad_model.specs.declared.base.Base.{Base}
use Rattle.pad_model.specs.Path.{text, IsLinkedPath, EachSound}
use Rattle.pad_model.proofs.CallerLemmas.{linked_below}
use Rattle.pad_branch.specs.declared.held.Held.{Held}
use Rattle.pad_branch.specs.declared.tip.Tip.{Tip}
use Rattle.pad_branch.specs.declared.undo.Undo.{Undo}
use Rattle.pad_branch.specs.Tip.{IsTip, IsTipOf, tip_after}
use Rattle.pad_branch.specs.Undo.{Rewinds, AreUndos, undone, undone_name}
use Rattle.pad_branch.specs.Held.{IsHeldAs, messages_at}
use Rattle.pad_branch.specs.Branch.{IsTrunk, IsWon, IsStopped, CanSwitch, LeadsTo, state}
use Rattle.pad_branch.specs.Inside.Forward.{IsAt, StopsAt}
use Rattle.pad_branch.proofs.Growing.{undos_sound, Stand, stand}
use Rattle.pad_branch.proofs.Rewinding.{tip_stands}
use Rattle.pad_branch.proofs.Trunk.{drop_undos, undone_text, tip_of_path, undos_join, undos_length, undos_named, reverse_take}
use Rattle.pad_branch.proofs.Apart.{names_held, joined_named, apart}

pub fork_stands : (root tip : Tip) (low keep : ℕ) (undos : List Undo) (units : List ℕ) → keep ≤ length undos → tip ≡ tip_after root (reverse (take keep undos)) → Rewinds root low (drop (length undos - keep) (reverse undos)) units → IsTipOf tip (low + keep) units
fork_stands root tip low keep undos units fits tip_is h =
    let n : low + length (drop (length undos - keep) (reverse undos)) ≡ low + keep = omega (arith, fits, length-drop (length undos - keep) (reverse undos), length-reverse undos) in
    subst (λ t. IsTipOf t (low + keep) units) (ap (tip_after root) (sym (reverse_take undos keep fits)) ∙ sym tip_is)
    (subst (λ k. IsTipOf (tip_after root (drop (length undos - keep) (reverse undos))) k units) n (tip_stands root low (drop (length undos - keep) (reverse undos)) units h))

pub leads_from : (table : Name → Option Held) (us : List Undo) (after one other : List ℕ) (tip next : Tip) → one ≡ other → tip ≡ next → LeadsTo table one tip us after → LeadsTo table other next us after
leads_from table us after one other tip next e f h = subst (λ t. LeadsTo table other t us after) f (subst (λ u. LeadsTo table u tip us after) e h)

-- it can be switched to what leads on from the fork
pub can_switch : (root tip : Tip) (low above keep : ℕ) (undos : List Undo) (end_units units : List ℕ) → keep ≤ length undos → tip ≡ tip_after root (reverse (take keep undos)) → Rewinds root low (drop (length undos - keep) (reverse undos)) units
    → (new : List Undo) (after : List ℕ) → ((low : ℕ) (under : List Undo) → tip ≡ tip_after root under → Rewinds root low under units → Rewinds root low (reverse new ++ under) after)
    → keep + length new ≤ above → low + above + 1 < 2 ^ 64 → CanSwitch (state root low undos end_units) keep new after
can_switch root tip low above keep undos end_units units fits tip_is h new after on short room =
    let under : drop (length undos - keep) (reverse undos) ≡ reverse (take keep undos) = sym (reverse_take undos keep fits) in
    let r : Rewinds root low (reverse (take keep undos)) units = subst (λ us. Rewinds root low us units) under h in
    record {
      keeps = fits;
      rewinds = subst (λ us. Rewinds root low us after) (sym (reverse-append (take keep undos) new)) (on low (reverse (take keep undos)) tip_is r);
      few = omega (arith, short, room);
    }

module _ (b : Base) (R below chosen path : List Message) (table : Name → Option Held) (undos : List Undo) (root : Tip) (low : ℕ) (end_units : List ℕ) (trunk : IsTrunk b R below chosen (state root low undos end_units)) (linked : IsLinkedPath b R (path ++ below))
    (keep : ℕ) (fits : keep ≤ length undos) (names : List Name) (whole : path ≡ messages_at table names ++ drop (length chosen - keep) chosen)
  where
    many : length undos - keep ≡ length chosen - keep
    many = omega (arith, undos_length b below chosen (reverse undos) trunk.undone, length-reverse undos)

    lower_undos : AreUndos b below (drop (length chosen - keep) chosen) (reverse (take keep undos))
    lower_undos =
        subst (AreUndos b below (drop (length chosen - keep) chosen)) (ap (λ j. drop j (reverse undos)) (sym many) ∙ sym (reverse_take undos keep fits))
        (drop_undos b below chosen (reverse undos) (length chosen - keep) trunk.undone)

    lower_sound : EachSound b (drop (length chosen - keep) chosen ++ below)
    lower_sound = undos_sound b below (drop (length chosen - keep) chosen) (reverse (take keep undos)) lower_undos trunk.root_sound

    pub at_fork : (units : List ℕ) (tip : Tip) → units ≡ undone (take (length undos - keep) (reverse undos)) end_units → tip ≡ tip_after root (reverse (take keep undos)) → IsAt b (drop (length chosen - keep) chosen ++ below) units tip
    at_fork units tip units_are tip_is = record {
      text = units_are ∙ undone_text b below chosen (reverse undos) end_units (length undos - keep) trunk.undone trunk.text ∙ ap (λ j. text b (drop j chosen ++ below)) many;
      tip_is = subst (IsTip b (drop (length chosen - keep) chosen ++ below)) (sym tip_is) (tip_of_path b below (drop (length chosen - keep) chosen) (reverse (take keep undos)) root lower_undos trunk.at_root);
    }

    joined : path ++ below ≡ messages_at table names ++ (drop (length chosen - keep) chosen ++ below)
    joined = ap (λ q. q ++ below) whole ∙ append_assoc (messages_at table names) (drop (length chosen - keep) chosen) below

    module _ (kept : (name : Name) → IfSome (table name) (IsHeldAs name)) (held : All (λ (name : Name). IsSome (table name)) names)
        (fork : (front : List Name) (last : Name) (undo : Undo) → names ≡ front ++ last ∷ [] → slice_get undos keep ≡ Some undo → undone_name undo ≢ last)
      where
        won_with : (new : List Undo) (units : List ℕ) → map undone_name (reverse new) ≡ names → AreUndos b (drop (length chosen - keep) chosen ++ below) (messages_at table names) (reverse new) → units ≡ text b (messages_at table names ++ (drop (length chosen - keep) chosen ++ below))
            → IsWon b R below chosen path (state root low undos end_units) table keep new units
        won_with new units named u e = record {
          trunk = record {
            differ = trunk.differ;
            linked = linked;
            undone = subst (λ us. AreUndos b below path us) (sym (reverse-append (take keep undos) new))
                (subst (λ p. AreUndos b below p (reverse new ++ reverse (take keep undos))) (sym whole) (undos_join b below (drop (length chosen - keep) chosen) (messages_at table names) (reverse (take keep undos)) (reverse new) lower_undos u));
            at_root = trunk.at_root;
            root_sound = trunk.root_sound;
            height = trunk.height;
            text = e ∙ ap (text b) (sym joined);
          };
          sound = subst (EachSound b) (sym joined) (undos_sound b (drop (length chosen - keep) chosen ++ below) (messages_at table names) (reverse new) u lower_sound);
          joined = messages_at table names;
          whole = whole;
          named = joined_named table new names named;
          apart = apart b R below chosen trunk.differ trunk.linked undos (undos_named b below chosen (reverse undos) trunk.undone) keep fits (messages_at table names) names (names_held table names kept held) (subst (IsLinkedPath b R) joined linked) fork;
        }

        pub won : (new : List Undo) (units before : List ℕ) (tip : Tip) → map undone_name (reverse new) ≡ names → IsAt b (drop (length chosen - keep) chosen ++ below) before tip → LeadsTo table before tip (reverse new) units
            → IsWon b R below chosen path (state root low undos end_units) table keep new units
        won new units before tip named at leads =
            let s : Stand b (drop (length chosen - keep) chosen ++ below) table before tip at (reverse new) units = stand b (drop (length chosen - keep) chosen ++ below) table before tip at (reverse new) units leads in
            won_with new units named
            (subst (λ ns. AreUndos b (drop (length chosen - keep) chosen ++ below) (messages_at table ns) (reverse new)) named s.undos)
            (s.end.text ∙ ap (λ ns. text b (messages_at table ns ++ (drop (length chosen - keep) chosen ++ below))) named)

    pub stopped : (first : Name) → StopsAt b (drop (length chosen - keep) chosen ++ below) (messages_at table names) first → IsStopped b R below path first
    stopped first s =
        let parts : path ≡ s.above ++ s.message ∷ (s.below ++ drop (length chosen - keep) chosen) =
        whole ∙ ap (λ q. q ++ drop (length chosen - keep) chosen) s.whole ∙ append_assoc s.above (s.message ∷ s.below) (drop (length chosen - keep) chosen) in
        let all : path ++ below ≡ s.above ++ s.message ∷ (s.below ++ (drop (length chosen - keep) chosen ++ below)) =
        joined ∙ ap (λ q. q ++ (drop (length chosen - keep) chosen ++ below)) s.whole ∙ append_assoc s.above (s.message ∷ s.below) (drop (length chosen - keep) chosen ++ below) in
        record {
          over = s.above;
          message = s.message;
          under = s.below ++ drop (length chosen - keep) chosen;
          whole = parts;
          named = s.named;
          first = record {
            message = s.message;
            below = s.below ++ (drop (length chosen - keep) chosen ++ below);
            named = s.named;
            linked = linked_below b R s.above (s.message ∷ s.below ++ (drop (length chosen - keep) chosen ++ below)) (subst (IsLinkedPath b R) all linked);
            sound = s.sound lower_sound;
            unsound = s.unsound;
          };
        }

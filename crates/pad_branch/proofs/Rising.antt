-- A branch as a message comes, and as its root rises.
use Rattle.std.proofs.Common.{◌≡◌, ℕ, suc, ◌+◌, ◌-◌, ◌≤◌, List, [], ◌∷◌, ◌++◌, length, take, drop, reverse, append_assoc, refl, sym, ap, ◌∙◌, subst, arith, length-append, length-take}
use Rattle.std.proofs.lemmas.List.{length-reverse}
use Rattle.pad_message.specs.declared.message.Message.{Message}
use Rattle.pad_model.specs.declared.base.Base.{Base}
use Rattle.pad_model.specs.Path.{text, IsLinkedPath}
use Rattle.pad_list.proofs.CallerLemmas.{contains_more}
use Rattle.pad_model.proofs.CallerLemmas.{linked_more}
use Rattle.pad_branch.specs.declared.tip.Tip.{Tip}
use Rattle.pad_branch.specs.declared.undo.Undo.{Undo}
use Rattle.pad_branch.specs.Tip.{IsTipOf, tip_after}
use Rattle.pad_branch.specs.Undo.{Rewinds, TakesBack, AreUndos, undone}
use Rattle.pad_branch.specs.Branch.{State, IsTrunk, risen}
use Rattle.pad_branch.specs.Laws.{TrunkStays, RootText}
use Rattle.pad_branch.proofs.Growing.{undos_sound}
use Rattle.pad_branch.proofs.Rewinding.{tip_stands}
use Rattle.pad_branch.proofs.Trunk.{drop_undos, undone_text, tip_of_path, undos_length, drop_first, turned, reverse_take, take_reverse}

pub trunk_stays : TrunkStays
trunk_stays b R below chosen m branch differ t = record {
  differ = differ;
  linked = linked_more b R (m ∷ R) (chosen ++ below) (contains_more m R) t.linked;
  undone = t.undone;
  at_root = t.at_root;
  root_sound = t.root_sound;
  height = t.height;
  text = t.text;
}

pub take_all : {A : Type 0} (xs : List A) → take (length xs) xs ≡ xs
take_all [] = refl
take_all (x ∷ xs) = ap (λ q. x ∷ q) (take_all xs)

drop_all : {A : Type 0} (xs : List A) → drop (length xs) xs ≡ []
drop_all [] = refl
drop_all (x ∷ xs) = drop_all xs

pub root_text : RootText
root_text b R below chosen branch t =
    ap (λ us. undone us branch.units) (sym (take_all (reverse branch.undos)))
    ∙ undone_text b below chosen (reverse branch.undos) branch.units (length (reverse branch.undos)) t.undone t.text
    ∙ ap (λ n. text b (drop n chosen ++ below)) (undos_length b below chosen (reverse branch.undos) t.undone)
    ∙ ap (λ q. text b (q ++ below)) (drop_all chosen)

-- ---- the root rises

-- the undos of the newest messages
front_undos : (b : Base) (below chosen joined : List Message) (us : List Undo) → AreUndos b below (chosen ++ joined) us → AreUndos b (joined ++ below) chosen (take (length chosen) us)
front_undos b below [] joined us h = refl
front_undos b below (m ∷ chosen) joined us h =
    (h.0, take (length chosen) h.1, ap (take (suc (length chosen))) h.2, subst (λ p. TakesBack b p m h.0) (append_assoc chosen joined below) h.3, front_undos b below chosen joined h.1 h.4)

module _ (b : Base) (R below chosen joined : List Message) (branch : State) (by : ℕ) (t : IsTrunk b R below (chosen ++ joined) branch) (many : length joined ≡ by) where
  total : length branch.undos ≡ length chosen + length joined
  total = sym (length-reverse branch.undos) ∙ undos_length b below (chosen ++ joined) (reverse branch.undos) t.undone ∙ length-append chosen joined

  fits : by ≤ length branch.undos
  fits = omega (arith, total, many)

  left : length branch.undos - by ≡ length chosen
  left = omega (arith, total, many)

  lower : AreUndos b below joined (reverse (take by branch.undos))
  lower =
      subst (AreUndos b below joined) (ap (λ n. drop n (reverse branch.undos)) (sym left) ∙ sym (reverse_take branch.undos by fits))
      (subst (λ q. AreUndos b below q (drop (length chosen) (reverse branch.undos))) (drop_first chosen joined) (drop_undos b below (chosen ++ joined) (reverse branch.undos) (length chosen) t.undone))

  upper : AreUndos b (joined ++ below) chosen (reverse (drop by branch.undos))
  upper =
      subst (AreUndos b (joined ++ below) chosen) (ap (λ n. take n (reverse branch.undos)) (sym left) ∙ take_reverse branch.undos by)
      (front_undos b below chosen joined (reverse branch.undos) t.undone)

  pub stands_risen : IsTrunk b R (joined ++ below) chosen (risen by branch)
  stands_risen = record {
    differ = t.differ;
    linked = subst (IsLinkedPath b R) (append_assoc chosen joined below) t.linked;
    undone = upper;
    at_root = tip_of_path b below joined (reverse (take by branch.undos)) branch.root lower t.at_root;
    root_sound = undos_sound b below joined (reverse (take by branch.undos)) lower t.root_sound;
    height = omega (arith, t.height, many, length-append joined below);
    text = t.text ∙ ap (text b) (append_assoc chosen joined below);
  }

-- the newest undos rewind from the end down to where the others begin
rewinds_above : (root : Tip) (low : ℕ) (us vs : List Undo) (units : List ℕ) → Rewinds root low (us ++ vs) units → Rewinds (tip_after root vs) (low + length vs) us units
rewinds_above root low [] vs units h = tip_stands root low vs units h
rewinds_above root low (u ∷ us) vs units h =
    let n : low + length (us ++ vs) + 1 ≡ low + length vs + length us + 1 = omega (arith, length-append us vs) in
    (subst (λ k. IsTipOf u.after k units) n h.0, h.1, rewinds_above root low us vs _ h.2)

pub rewinds_risen : (root : Tip) (low by : ℕ) (undos : List Undo) (units : List ℕ) → by ≤ length undos → Rewinds root low (reverse undos) units → Rewinds (tip_after root (reverse (take by undos))) (low + by) (reverse (drop by undos)) units
rewinds_risen root low by undos units fits h =
    let n : low + length (reverse (take by undos)) ≡ low + by = omega (arith, length-reverse (take by undos), length-take by undos, fits) in
    subst (λ k. Rewinds (tip_after root (reverse (take by undos))) k (reverse (drop by undos)) units) n
    (rewinds_above root low (reverse (drop by undos)) (reverse (take by undos)) units (subst (λ us. Rewinds root low us units) (sym (turned undos by)) h))

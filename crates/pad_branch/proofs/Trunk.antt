-- The best branch with its undos: what stays of it below a fork, and what goes on from there.
use Rattle.std.proofs.Common.{◌≡◌, ℕ, zero, suc, ◌-◌, ◌≤◌, List, [], ◌∷◌, ◌++◌, length, take, drop, map, reverse, take-append-drop, append_assoc, refl, sym, ap, ap₂, ◌∙◌, subst, length-drop}
use Rattle.std.proofs.lemmas.List.{reverse-append, length-reverse}
use Rattle.pad_patch.specs.Piece.{text_after}
use Rattle.pad_message.specs.declared.message.Message.{Message}
use Rattle.pad_model.specs.declared.base.Base.{Base}
use Rattle.pad_model.specs.Path.{text}
use Rattle.pad_branch.specs.declared.tip.Tip.{Tip}
use Rattle.pad_branch.specs.declared.undo.Undo.{Undo}
use Rattle.pad_branch.specs.Tip.{IsTip, tip_after}
use Rattle.pad_branch.specs.Undo.{TakesBack, AreUndos, undone, undone_name}
use Rattle.pad_branch.specs.Inside.Candidates.{AreNamed}

pub drop_undos : (b : Base) (below chosen : List Message) (us : List Undo) (j : ℕ) → AreUndos b below chosen us → AreUndos b below (drop j chosen) (drop j us)
drop_undos b below chosen us zero h = h
drop_undos b below [] us (suc j) h = ap (drop (suc j)) h
drop_undos b below (m ∷ chosen) us (suc j) h = subst (λ v. AreUndos b below (drop j chosen) (drop (suc j) v)) (sym h.2) (drop_undos b below chosen h.1 j h.4)

pub undone_text : (b : Base) (below chosen : List Message) (us : List Undo) (units : List ℕ) (j : ℕ) → AreUndos b below chosen us → units ≡ text b (chosen ++ below) → undone (take j us) units ≡ text b (drop j chosen ++ below)
undone_text b below chosen us units zero h e = e
undone_text b below [] us units (suc j) h e = ap (λ v. undone (take (suc j) v) units) h ∙ e
undone_text b below (m ∷ chosen) us units (suc j) h e =
    ap (λ v. undone (take (suc j) v) units) h.2 ∙ undone_text b below chosen h.1 (text_after h.0.inverse units) j h.4 (ap (text_after h.0.inverse) e ∙ h.3.undoes)

pub tip_of_path : (b : Base) (below chosen : List Message) (us : List Undo) (root : Tip) → AreUndos b below chosen us → IsTip b below root → IsTip b (chosen ++ below) (tip_after root us)
tip_of_path b below [] us root h r = subst (λ v. IsTip b below (tip_after root v)) (sym h) r
tip_of_path b below (m ∷ chosen) us root h r = subst (λ v. IsTip b (m ∷ chosen ++ below) (tip_after root v)) (sym h.2) h.3.after

pub undos_join : (b : Base) (below lower line : List Message) (us vs : List Undo) → AreUndos b below lower us → AreUndos b (lower ++ below) line vs → AreUndos b below (line ++ lower) (vs ++ us)
undos_join b below lower [] us vs l h = subst (λ w. AreUndos b below lower (w ++ us)) (sym h) l
undos_join b below lower (m ∷ line) us vs l h =
    (h.0, h.1 ++ us, ap (λ w. w ++ us) h.2, subst (λ p. TakesBack b p m h.0) (sym (append_assoc line lower below)) h.3, undos_join b below lower line us h.1 l h.4)

pub undos_length : (b : Base) (below chosen : List Message) (us : List Undo) → AreUndos b below chosen us → length us ≡ length chosen
undos_length b below [] us h = ap length h
undos_length b below (m ∷ chosen) us h = ap length h.2 ∙ ap suc (undos_length b below chosen h.1 h.4)

pub undos_named : (b : Base) (below chosen : List Message) (us : List Undo) → AreUndos b below chosen us → AreNamed chosen us
undos_named b below [] us h = sym (ap (map undone_name) h)
undos_named b below (m ∷ chosen) us h = ap₂ ◌∷◌ (sym h.3.after.name) (undos_named b below chosen h.1 h.4) ∙ sym (ap (map undone_name) h.2)

pub drop_first : {A : Type 0} (xs ys : List A) → drop (length xs) (xs ++ ys) ≡ ys
drop_first [] ys = refl
drop_first (x ∷ xs) ys = drop_first xs ys

take_first : {A : Type 0} (xs ys : List A) → take (length xs) (xs ++ ys) ≡ xs
take_first [] ys = refl
take_first (x ∷ xs) ys = ap (λ q. x ∷ q) (take_first xs ys)

pub turned : {A : Type 0} (xs : List A) (k : ℕ) → reverse (drop k xs) ++ reverse (take k xs) ≡ reverse xs
turned xs k = sym (reverse-append (take k xs) (drop k xs)) ∙ ap reverse (take-append-drop k xs)

-- the newest first, what the first k are is what is left without the others
pub reverse_take : {A : Type 0} (xs : List A) (k : ℕ) → k ≤ length xs → reverse (take k xs) ≡ drop (length xs - k) (reverse xs)
reverse_take xs k h =
    let n : length (reverse (drop k xs)) ≡ length xs - k = length-reverse (drop k xs) ∙ length-drop k xs in
    sym (drop_first (reverse (drop k xs)) (reverse (take k xs)))
    ∙ ap (λ j. drop j (reverse (drop k xs) ++ reverse (take k xs))) n
    ∙ ap (drop (length xs - k)) (turned xs k)

-- and the others are the first of them
pub take_reverse : {A : Type 0} (xs : List A) (k : ℕ) → take (length xs - k) (reverse xs) ≡ reverse (drop k xs)
take_reverse xs k =
    let n : length (reverse (drop k xs)) ≡ length xs - k = length-reverse (drop k xs) ∙ length-drop k xs in
    sym (ap (take (length xs - k)) (turned xs k))
    ∙ ap (λ j. take j (reverse (drop k xs) ++ reverse (take k xs))) (sym n)
    ∙ take_first (reverse (drop k xs)) (reverse (take k xs))

-- Checkpoints among the first marks.
use Rattle.std.proofs.Common.{◌≡◌, ℕ, suc, ◌<◌, ◌≤◌, List, [], ◌∷◌, ◌++◌, length, take, take-suc, get_or, Bool, true, false, cond, Some, None, slice_get, reverse, sym, ap, ◌∙◌, arith, append-nil}
use Rattle.std.proofs.lemmas.List.{reverse-append, take_all}
use Rattle.std.proofs.lemmas.List.Elements.{filter-append}
use Rattle.std.proofs.lemmas.Option.{slice_get-get_or}
use Rattle.pad_checkpoint.specs.declared.path_mark.PathMark.{PathMark}
use Rattle.pad_checkpoint.specs.Cut.{checkpoints, last_but_one}

-- what one mark adds
abbrev alone : PathMark → List PathMark
alone mark = cond mark.checkpoint (mark ∷ []) []

pub pushed : (marks : List PathMark) (mark : PathMark) → checkpoints (marks ++ mark ∷ []) ≡ checkpoints marks ++ alone mark
pushed marks mark = filter-append (λ (m : PathMark). m.checkpoint) marks (mark ∷ [])

pub pushed_yes : (marks : List PathMark) (mark : PathMark) → mark.checkpoint ≡ true → checkpoints (marks ++ mark ∷ []) ≡ checkpoints marks ++ mark ∷ []
pushed_yes marks mark e = pushed marks mark ∙ ap (λ (t : Bool). checkpoints marks ++ cond t (mark ∷ []) []) e

pub pushed_no : (marks : List PathMark) (mark : PathMark) → mark.checkpoint ≡ false → checkpoints (marks ++ mark ∷ []) ≡ checkpoints marks
pushed_no marks mark e = pushed marks mark ∙ ap (λ (t : Bool). checkpoints marks ++ cond t (mark ∷ []) []) e ∙ append-nil (checkpoints marks)

-- the last checkpoint among the first `end` marks is at an index
abbrev pub IsLastAt : List PathMark → ℕ → ℕ → Type 0
IsLastAt marks end at = (at < end) × ((mark : PathMark) × (slice_get marks at ≡ Some mark) × (checkpoints (take end marks) ≡ checkpoints (take at marks) ++ mark ∷ []))

module _ (marks : List PathMark) (end at i : ℕ) (d : PathMark) (next : at ≡ suc i) (within : at ≤ end) (short : end ≤ length marks) (so_far : checkpoints (take end marks) ≡ checkpoints (take at marks)) where
  below : i < length marks
  below = omega (arith, next, within, short)

  split : checkpoints (take end marks) ≡ checkpoints (take i marks ++ get_or marks i d ∷ [])
  split = so_far ∙ ap (λ k. checkpoints (take k marks)) next ∙ ap checkpoints (take-suc marks i d below)

  pub found_here : (get_or marks i d).checkpoint ≡ true → IsLastAt marks end i
  found_here e = (omega (arith, next, within), (get_or marks i d, slice_get-get_or marks i d below, split ∙ pushed_yes (take i marks) (get_or marks i d) e))

  pub none_here : (get_or marks i d).checkpoint ≡ false → checkpoints (take end marks) ≡ checkpoints (take i marks)
  none_here e = split ∙ pushed_no (take i marks) (get_or marks i d) e

pub none_left : (marks : List PathMark) (end at : ℕ) → at ≡ 0 → checkpoints (take end marks) ≡ checkpoints (take at marks) → checkpoints (take end marks) ≡ []
none_left marks end at e so_far = so_far ∙ ap (λ k. checkpoints (take k marks)) e

-- ---- the last but one

whole : (marks : List PathMark) → take (length marks) marks ≡ marks
whole marks = take_all (length marks) marks (omega arith)

back : (xs : List PathMark) (x : PathMark) → reverse (xs ++ x ∷ []) ≡ x ∷ reverse xs
back xs x = reverse-append xs (x ∷ [])

pub no_last : (marks : List PathMark) → checkpoints (take (length marks) marks) ≡ [] → None ≡ last_but_one marks
no_last marks e = sym (ap (λ (xs : List PathMark). slice_get (reverse xs) 1) (ap checkpoints (sym (whole marks)) ∙ e))

module _ (marks : List PathMark) (last : ℕ) (h : IsLastAt marks (length marks) last) where
  reversed : reverse (checkpoints marks) ≡ h.1.0 ∷ reverse (checkpoints (take last marks))
  reversed = ap (λ xs. reverse (checkpoints xs)) (sym (whole marks)) ∙ ap reverse h.1.2 ∙ back (checkpoints (take last marks)) h.1.0

  pub no_other : checkpoints (take last marks) ≡ [] → None ≡ last_but_one marks
  no_other e = sym (ap (λ (xs : List PathMark). slice_get xs 1) (reversed ∙ ap (λ xs. h.1.0 ∷ reverse xs) e))

  pub other_at : (at : ℕ) (mark : PathMark) → IsLastAt marks last at → slice_get marks at ≡ Some mark → Some mark ≡ last_but_one marks
  other_at at mark g here = sym (ap (λ (xs : List PathMark). slice_get xs 1) (reversed ∙ ap (λ xs. h.1.0 ∷ xs) (ap reverse g.1.2 ∙ back (checkpoints (take at marks)) g.1.0)) ∙ sym g.1.1 ∙ here)

-- Undos in turn, the newest first.
use Rattle.std.proofs.Common.{◌≡◌, ℕ, suc, ◌-◌, ◌<◌, ◌≤◌, List, [], ◌∷◌, ◌++◌, length, get_or, take, drop, drop-cons, reverse, refl, sym, ap, ◌∙◌, subst, arith}
use Rattle.std.proofs.Math.Seq.{take-suc}
use Rattle.std.proofs.lemmas.List.{get_or-reverse, length-reverse}
use Rattle.pad_patch.specs.Piece.{text_after}
use Rattle.pad_patch.specs.Misfit.{CanApply}
use Rattle.pad_branch.specs.declared.tip.Tip.{Tip}
use Rattle.pad_branch.specs.declared.undo.Undo.{Undo}
use Rattle.pad_branch.specs.Undo.{Rewinds, undone}

pub undone-push : (us : List Undo) (u : Undo) (t : List ℕ) → undone (us ++ u ∷ []) t ≡ text_after u.inverse (undone us t)
undone-push [] u t = refl
undone-push (x ∷ us) u t = undone-push us u (text_after x.inverse t)

-- the undo at the place below `at`, in the list that has the newest first
module _ (xs : List Undo) (at : ℕ) (u : Undo) (above : 0 < at) (inside : at ≤ length xs) (is : u ≡ get_or xs (at - 1) u) where
  here : get_or (reverse xs) (length xs - at) u ≡ u
  here =
      let place : length xs - 1 - (length xs - at) ≡ at - 1 = omega (arith, above, inside) in
      get_or-reverse xs (length xs - at) u (omega (arith, above, inside)) ∙ ap (λ k. get_or xs k u) place ∙ sym is

  next : suc (length xs - at) ≡ length xs - (at - 1)
  next = omega (arith, above, inside)

  within : length xs - at < length (reverse xs)
  within = omega (arith, above, inside, length-reverse xs)

  pub drop_step : drop (length xs - at) (reverse xs) ≡ u ∷ drop (length xs - (at - 1)) (reverse xs)
  drop_step = drop-cons (reverse xs) (length xs - at) u within ∙ ap (λ x. x ∷ drop (suc (length xs - at)) (reverse xs)) here ∙ ap (λ k. u ∷ drop k (reverse xs)) next

  pub take_step : take (length xs - (at - 1)) (reverse xs) ≡ take (length xs - at) (reverse xs) ++ u ∷ []
  take_step = ap (λ k. take k (reverse xs)) (sym next) ∙ take-suc (reverse xs) (length xs - at) u within ∙ ap (λ x. take (length xs - at) (reverse xs) ++ x ∷ []) here

  pub rewinds_here : (root : Tip) (low : ℕ) (t : List ℕ) → Rewinds root low (drop (length xs - at) (reverse xs)) t → CanApply u.inverse t × Rewinds root low (drop (length xs - (at - 1)) (reverse xs)) (text_after u.inverse t)
  rewinds_here root low t h = let k : Rewinds root low (u ∷ drop (length xs - (at - 1)) (reverse xs)) t = subst (λ us. Rewinds root low us t) drop_step h in (k.1.applies, k.2)

  pub units_here : (t before : List ℕ) → before ≡ undone (take (length xs - at) (reverse xs)) t → text_after u.inverse before ≡ undone (take (length xs - (at - 1)) (reverse xs)) t
  units_here t before e = ap (text_after u.inverse) e ∙ sym (undone-push (take (length xs - at) (reverse xs)) u t) ∙ ap (λ us. undone us t) (sym take_step)

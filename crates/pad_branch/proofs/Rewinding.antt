-- What was applied can be taken back.
use Rattle.std.proofs.Common.{◌≡◌, ℕ, ◌+◌, ◌-◌, ◌≤◌, List, [], ◌∷◌, ◌++◌, length, take, drop, reverse, Option, IfSome, refl, sym, ap, ◌∙◌, subst, arith, append-nil}
use Rattle.std.specs.List.{flat_map}
use Rattle.std.proofs.lemmas.List.{length-reverse}
use Rattle.pad_text.specs.declared.name.Name.{Name}
use Rattle.pad_text.specs.Hash.{document_hash}
use Rattle.pad_patch.specs.declared.patch.Patch.{Patch}
use Rattle.pad_patch.specs.Piece.{pieces_from, text_after}
use Rattle.pad_patch.specs.Inverse.{inverse}
use Rattle.pad_patch.specs.Misfit.{longest_text}
use Rattle.pad_patch.proofs.CallerLemmas.{units_of_piece, text_after-copy}
use Rattle.pad_message.specs.declared.kind.Kind.{Kind}
use Rattle.pad_message.specs.declared.kind.Kind.TheVariants as kind
use Rattle.pad_message.specs.declared.message.Message.{Message}
use Rattle.pad_message.specs.Kind.{is_checkpoint, HasInterval, IsInterval}
use Rattle.pad_model.specs.Sound.{interval_of}
use Rattle.pad_branch.specs.declared.held.Held.{Held}
use Rattle.pad_branch.specs.declared.tip.Tip.{Tip}
use Rattle.pad_branch.specs.declared.undo.Undo.{Undo}
use Rattle.pad_branch.specs.Tip.{IsTipOf, tip_after}
use Rattle.pad_branch.specs.Undo.{Rewinds, FitsBack}
use Rattle.pad_branch.specs.Held.{IsHeldAs}
use Rattle.pad_branch.specs.Branch.{Grows, LeadsTo}
use Rattle.pad_branch.proofs.Growing.{short_after, short_since}

-- ---- a patch that puts the whole text in its own place

copied : (t : List ℕ) → flat_map (units_of_piece t) (pieces_from 0 (length t) (record { offset = 0; remove = length t; insert = t } ∷ [])) ≡ t
copied t =
    let none : length t - (0 + length t) ≡ 0 = omega arith in
    ap (λ k. t ++ (take k (drop (0 + length t) t) ++ [])) none ∙ append-nil t

whole_stays : (p : Patch) (t : List ℕ) → p.ops ≡ record { offset = 0; remove = length t; insert = t } ∷ [] → text_after p t ≡ t
whole_stays p t e = text_after-copy p t ∙ ap (λ ops. flat_map (units_of_piece t) (pieces_from 0 (length t) ops)) e ∙ copied t

-- ---- tips

-- what stands at the end of undos that rewind
pub tip_stands : (root : Tip) (low : ℕ) (us : List Undo) (units : List ℕ) → Rewinds root low us units → IsTipOf (tip_after root us) (low + length us) units
tip_stands root low [] units h = subst (λ n. IsTipOf root n units) (omega arith) h
tip_stands root low (u ∷ us) units h = subst (λ n. IsTipOf u.after n units) (omega arith) h.0

pub tip_joined : (root tip : Tip) (us under : List Undo) → tip ≡ tip_after root under → tip_after tip us ≡ tip_after root (us ++ under)
tip_joined root tip [] under e = e
tip_joined root tip (u ∷ us) under e = refl

interval_next : (k : Kind) (n : ℕ) → HasInterval k → IsInterval n → IsInterval (interval_of k n)
interval_next kind.Patch n h i = i
interval_next (kind.Checkpoint m) n h i = h

made_for : (p : Patch) (t : List ℕ) → (inverse p t).before ≡ document_hash (text_after p t)
unfolding inverse
made_for p t = refl

-- ---- one message more

module _ (m : Message) (before : List ℕ) (tip : Tip) (u : Undo) (after : List ℕ) (g : Grows m before tip u after) where
  back : FitsBack u after
  back = record {
    applies = g.applies;
    made = ap (λ p. p.before) g.inverse ∙ made_for m.patch before ∙ ap document_hash (sym g.text);
    whole = λ e. g.undoes ∙ sym (whole_stays m.patch before (g.sound.checkpoint (sym (ap is_checkpoint g.kind) ∙ e)).1) ∙ sym g.text;
  }

  stands_next : (height : ℕ) → HasInterval m.kind → IsTipOf tip height before → IsTipOf u.after (height + 1) after
  stands_next height timed t =
      let short = short_after m.patch before g.sound.fits in
      let since = short_since m.kind tip.since in
      record {
        hash = g.hash;
        short = subst (λ units. length units ≤ longest_text) (sym g.text) short;
        interval = subst IsInterval (sym g.interval) (interval_next m.kind tip.interval timed t.interval);
        few = omega (arith, g.since, since, t.few);
      }

-- messages that were applied one after another
pub rewinds_on : (table : Name → Option Held) → ((name : Name) → IfSome (table name) (IsHeldAs name)) → (root tip : Tip) (low : ℕ) (under : List Undo) (units : List ℕ) → tip ≡ tip_after root under → Rewinds root low under units
    → (us : List Undo) (after : List ℕ) → LeadsTo table units tip us after → Rewinds root low (us ++ under) after
rewinds_on table kept root tip low under units tip_is r [] after e = subst (Rewinds root low under) (sym e) r
rewinds_on table kept root tip low under units tip_is r (u ∷ us) after (held, before, found, g, rest) =
    let below = rewinds_on table kept root tip low under units tip_is r us before rest in
    let stands : IsTipOf (tip_after tip us) (low + length (us ++ under)) before = subst (λ t. IsTipOf t (low + length (us ++ under)) before) (sym (tip_joined root tip us under tip_is)) (tip_stands root low (us ++ under) before below) in
    let kept_as : IsHeldAs u.after.name held = subst (λ o. IfSome o (IsHeldAs u.after.name)) found (kept u.after.name) in (
      stands_next held.message before (tip_after tip us) u after g (low + length (us ++ under)) kept_as.interval stands,
      back held.message before (tip_after tip us) u after g,
      subst (Rewinds root low (us ++ under)) (sym g.undoes) below,
    )

-- at the end of a branch that rewinds
pub end_stands : (root : Tip) (low : ℕ) (undos : List Undo) (units : List ℕ) → Rewinds root low (reverse undos) units → IsTipOf (tip_after root (reverse undos)) (low + length undos) units
end_stands root low undos units h = subst (λ n. IsTipOf (tip_after root (reverse undos)) (low + n) units) (length-reverse undos) (tip_stands root low (reverse undos) units h)

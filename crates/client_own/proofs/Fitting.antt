-- A work is made for the text on which it stands, so it fits it if the text after it is short enough.
use Rattle.std.proofs.Common.{◌≡◌, ◌≤◌, inl, inr, ℕ, Bool, true, false, cond, List, [], ◌∷◌, ◌++◌, length, refl, sym, ◌∙◌, ap, subst, Option, Some, None, arith}
use Rattle.pad_text.specs.declared.name.Name.{Name}
use Rattle.pad_text.specs.Hash.{document_hash}
use Rattle.pad_patch.specs.declared.patch.Patch.{Patch}
use Rattle.pad_patch.specs.declared.misfit.Misfit.TheVariants.{Order, Range, Pair, TooLong, BeforeHash}
use Rattle.pad_patch.specs.Piece.{text_after}
use Rattle.pad_patch.specs.Inverse.{inverse}
use Rattle.pad_patch.specs.Misfit.{CanApply, Fits, longest_text}
use Rattle.pad_merge.specs.Merge.{merged}
use Rattle.pad_message.specs.declared.message.Message.{Message}
use Rattle.pad_message.specs.Kind.{is_checkpoint}
use Rattle.pad_message.specs.Message.{name_of}
use Rattle.pad_model.specs.declared.base.Base.{Base}
use Rattle.pad_model.specs.Path.{text, EachSound, IsSoundOn}
use Rattle.pad_stroke.specs.declared.mark.Mark.{Mark}
use Rattle.pad_stroke.specs.Work.{Marked}
use Rattle.pad_stroke.specs.InTurn.{in_turn}
use Rattle.pad_stroke.specs.Through.{carried}
use Rattle.pad_branch.specs.Move.{move_on}
use Rattle.pad_chain.specs.declared.moved.Moved.{Moved}
use Rattle.pad_chain.specs.Moved.{IsMoved, moves_back, moves_on}
use Rattle.pad_chain.proofs.CallerLemmas.{name_dec}
use Rattle.client_work.specs.Switch.{SentWorks, sent_as, Draft, taken_back, without_own, reverted, applied, in_order, switched, draft_at}
use Rattle.client_own.specs.Stands.{IsStep, AreSteps}
use Rattle.client_own.proofs.Steps.{StepLaws, move_back, again}
use Rattle.client_own.proofs.Switching.{in_parts, last_on}

-- ---- what it is to fit

made_for : (patch : Patch) (text : List ℕ) → Fits patch text → patch.before ≡ document_hash text
unfolding Fits
made_for patch text fits = elim (name_dec patch.before (document_hash text)) [ inl same ↦ same | inr other ↦ absurd (fits BeforeHash other) ]

pub fits_by : (patch : Patch) (text : List ℕ) → CanApply patch text → patch.before ≡ document_hash text → length (text_after patch text) ≤ longest_text → Fits patch text
unfolding Fits
fits_by patch text can made short (Order index) is = can.ordered index is
fits_by patch text can made short (Range index) is = can.inside index is
fits_by patch text can made short (Pair index) is = can.whole index is
fits_by patch text can made short TooLong is = omega (arith, short, is)
fits_by patch text can made short BeforeHash is = is made

-- ---- along moves

-- the draft is on the text after the path, and its work is made for it
record IsMadeOn (base : Base) (path : List Message) (draft : Draft) : Type 0 where
  at : draft.text ≡ text base path
  made : draft.work.patch.before ≡ document_hash (text base path)

carried_before : (work : Marked) (by : Patch) (after : Name) → (carried work by after).patch.before ≡ after
unfolding carried
carried_before work by after = refl

pub in_turn_before : (first second : Marked) (size : ℕ) → (in_turn first second size).patch.before ≡ first.patch.before
unfolding in_turn merged
in_turn_before first second size = refl

back_of : (gone typed : List Mark) (base : Base) (sent : SentWorks) (message : Message) (path : List Message) → IsStep gone typed base sent message path → IsSoundOn base path message
    → is_checkpoint message.kind ≡ false → (work : Marked) (t : List ℕ) → t ≡ text base path → (o : Option Marked) → sent_as sent (name_of message) ≡ o
    → (taken_back o (move_back base message path) t work).patch.before ≡ document_hash (text base path)
back_of gone typed base sent message path step sound plain work t at None is = carried_before work (inverse message.patch (text base path)) (document_hash t) ∙ ap document_hash at
back_of gone typed base sent message path step sound plain work t at (Some own) is =
    in_turn_before own work (length t) ∙ ap (λ (p : Patch). p.before) (step.own_patch own is plain) ∙ made_for message.patch (text base path) sound.fits

back_by : (gone typed : List Mark) (base : Base) (sent : SentWorks) (message : Message) (path : List Message) → IsStep gone typed base sent message path → IsSoundOn base path message
    → (draft : Draft) → IsMadeOn base (message ∷ path) draft → (t : List ℕ) → t ≡ text base path → (b : Bool) → is_checkpoint message.kind ≡ b
    → (cond b draft.work (taken_back (sent_as sent (name_of message)) (move_back base message path) t draft.work)).patch.before ≡ document_hash (text base path)
back_by gone typed base sent message path step sound draft on t at true is = on.made ∙ ap document_hash (step.still is)
back_by gone typed base sent message path step sound draft on t at false is = back_of gone typed base sent message path step sound is draft.work t at (sent_as sent (name_of message)) refl

back_made : StepLaws → (gone typed : List Mark) (base : Base) (sent : SentWorks) (common left : List Message) → AreSteps gone typed base sent (left ++ common) → EachSound base (left ++ common)
    → (draft : Draft) → IsMadeOn base (left ++ common) draft → IsMadeOn base common (in_order (reverted sent) (moves_back base common left) draft)
back_made laws gone typed base sent common [] steps sound draft on = on
back_made laws gone typed base sent common (message ∷ left) steps sound draft on =
    let path = left ++ common in
    let at : text_after (inverse message.patch (text base path)) draft.text ≡ text base path
    = ap (text_after (inverse message.patch (text base path))) on.at ∙ again laws gone typed base sent message path steps.0 in
    back_made laws gone typed base sent common left steps.1 sound.1 (reverted sent (move_back base message path) draft) (record {
      at = at;
      made = back_by gone typed base sent message path steps.0 sound.0 draft on (text_after (inverse message.patch (text base path)) draft.text) at (is_checkpoint message.kind) refl;
    })

on_by : (gone typed : List Mark) (base : Base) (sent : SentWorks) (message : Message) (path : List Message) → IsStep gone typed base sent message path → (draft : Draft) → IsMadeOn base path draft
    → (t : List ℕ) → t ≡ text base (message ∷ path) → (b : Bool) → is_checkpoint message.kind ≡ b
    → (cond b draft.work (carried (without_own (sent_as sent (name_of message)) draft.work) message.patch (document_hash t))).patch.before ≡ document_hash (text base (message ∷ path))
on_by gone typed base sent message path step draft on t at true is = on.made ∙ ap document_hash (sym (step.still is))
on_by gone typed base sent message path step draft on t at false is = carried_before (without_own (sent_as sent (name_of message)) draft.work) message.patch (document_hash t) ∙ ap document_hash at

on_made : (gone typed : List Mark) (base : Base) (sent : SentWorks) (common joined : List Message) → AreSteps gone typed base sent (joined ++ common)
    → (draft : Draft) → IsMadeOn base common draft → IsMadeOn base (joined ++ common) (in_order (applied sent) (moves_on joined) draft)
on_made gone typed base sent common [] steps draft on = on
on_made gone typed base sent common (message ∷ joined) steps draft on =
    let path = joined ++ common in
    let below = in_order (applied sent) (moves_on joined) draft in
    let was = on_made gone typed base sent common joined steps.1 draft on in
    let at : text_after message.patch below.text ≡ text base (message ∷ path) = ap (text_after message.patch) was.at in
    let last : IsMadeOn base (message ∷ path) (applied sent (move_on message) below) = record {
      at = at;
      made = on_by gone typed base sent message path steps.0 below was (text_after message.patch below.text) at (is_checkpoint message.kind) refl;
    } in
    let order : in_order (applied sent) (moves_on (message ∷ joined)) draft ≡ applied sent (move_on message) below
    = ap (λ moves. in_order (applied sent) moves draft) (last_on message joined) ∙ in_parts (applied sent) (moves_on joined) (move_on message ∷ []) draft in
    subst (IsMadeOn base (message ∷ path)) (sym order) last

-- the work is made for the text after the new path
pub switched_made : StepLaws → (gone typed : List Mark) (base : Base) (sent : SentWorks) (old new : List Message) (moved : Moved) (work : Marked) → IsMoved base old new moved
    → AreSteps gone typed base sent old → EachSound base old → AreSteps gone typed base sent new → work.patch.before ≡ document_hash (text base old)
    → (switched sent moved (draft_at base old work)).work.patch.before ≡ document_hash (text base new)
switched_made laws gone typed base sent old new moved work moves old_steps sound new_steps made =
    let back = back_made laws gone typed base sent moves.common moves.left (subst (AreSteps gone typed base sent) moves.was old_steps) (subst (EachSound base) moves.was sound)
    (draft_at base (moves.left ++ moves.common) work) (record { at = refl; made = made ∙ ap (λ path. document_hash (text base path)) moves.was }) in
    let on = on_made gone typed base sent moves.common moves.joined (subst (AreSteps gone typed base sent) moves.is new_steps)
    (in_order (reverted sent) (moves_back base moves.common moves.left) (draft_at base (moves.left ++ moves.common) work)) back in
    let same : switched sent moved (draft_at base old work) ≡ in_order (applied sent) (moves_on moves.joined) (in_order (reverted sent) (moves_back base moves.common moves.left) (draft_at base (moves.left ++ moves.common) work))
    = ap (λ path. switched sent moved (draft_at base path work)) moves.was
    ∙ ap (λ list. in_order (applied sent) moved.applied (in_order (reverted sent) list (draft_at base (moves.left ++ moves.common) work))) moves.back
    ∙ ap (λ list. in_order (applied sent) list (in_order (reverted sent) (moves_back base moves.common moves.left) (draft_at base (moves.left ++ moves.common) work))) moves.on in
    ap (λ (d : Draft). d.work.patch.before) same ∙ on.made ∙ ap (λ path. document_hash (text base path)) (sym moves.is)

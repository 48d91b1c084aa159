-- Own messages that leave the best chain: each is taken back as the work that was sent as it, and the work is made for each text
-- to which it comes.
use Rattle.std.proofs.Common.{◌≡◌, ℕ, inl, inr, Bool, true, false, cond, List, [], ◌∷◌, ◌++◌, refl, sym, ◌∙◌, ap, subst, Option, Some, None}
use Rattle.std.specs.List.{Contains}
use Rattle.pad_text.specs.declared.name.Name.{Name}
use Rattle.pad_text.specs.Hash.{document_hash}
use Rattle.pad_patch.specs.declared.patch.Patch.{Patch}
use Rattle.pad_patch.specs.declared.misfit.Misfit.TheVariants.{BeforeHash}
use Rattle.pad_patch.specs.Inverse.{inverse}
use Rattle.pad_patch.specs.Piece.{text_after}
use Rattle.pad_patch.specs.Misfit.{CanApply, Fits}
use Rattle.pad_patch.specs.Laws.{FittingApplies, InverseGivesBack}
use Rattle.pad_message.specs.declared.message.Message.{Message}
use Rattle.pad_message.specs.Kind.{is_checkpoint}
use Rattle.pad_message.specs.Message.{name_of}
use Rattle.pad_merge.specs.Merge.{merged}
use Rattle.pad_model.specs.declared.base.Base.{Base}
use Rattle.pad_model.specs.Path.{text, NamesDiffer, IsLinkedPath, EachSound}
use Rattle.pad_stroke.specs.Work.{Marked}
use Rattle.pad_stroke.specs.InTurn.{in_turn}
use Rattle.pad_stroke.specs.Through.{carried}
use Rattle.pad_branch.specs.declared.moved.Move.{Move}
use Rattle.pad_chain.specs.Moved.{moves_back}
use Rattle.pad_chain.specs.Leads.{Leads}
use Rattle.pad_chain.proofs.CallerLemmas.{name_dec}
use Rattle.client_work.specs.Switch.{SentWorks, sent_as, Draft, taken_back, without_own, reverted, applied, in_order}
use Rattle.client_work.specs.Carrying.{TakesBack, IsInverse, AreInverses}
use Rattle.client_copy.specs.View.{AreSentAs}

-- the work that was sent as the message that a move takes back was made for the text after the move
abbrev pub IsMadeThere : Option Marked → Move → List ℕ → Type 0
IsMadeThere None move text = Unit {0}
IsMadeThere (Some own) move text = own.patch.before ≡ document_hash (text_after move.patch text)

abbrev pub AreMade : SentWorks → List Move → List ℕ → Type 0
AreMade sent [] text = Unit {0}
AreMade sent (move ∷ moves) text = IsMadeThere (sent_as sent move.name) move text × AreMade sent moves (text_after move.patch text)

-- a patch that fits a text was made for it
made_for : (patch : Patch) (text : List ℕ) → Fits patch text → patch.before ≡ document_hash text
unfolding Fits
made_for patch text fits = elim (name_dec patch.before (document_hash text)) [ inl same ↦ same | inr other ↦ absurd (fits BeforeHash other) ]

-- ---- what is taken back

-- the move that takes a message back, which stands on this text
abbrev back_move : Message → List ℕ → Move
back_move message below = record { name = name_of message; kind = message.kind; patch = inverse message.patch below }

takes_back : (message : Message) (below : List ℕ) (own : Marked) → CanApply message.patch below → text_after (inverse message.patch below) (text_after message.patch below) ≡ below
    → message.patch ≡ own.patch → TakesBack own (back_move message below) (text_after message.patch below)
takes_back message below own applies gone same =
    let back : List ℕ = text_after (inverse message.patch below) (text_after message.patch below) in
    record {
      applies = subst (λ (p : Patch). CanApply p back) same (subst (CanApply message.patch) (sym gone) applies);
      was = subst (λ (p : Patch). text_after message.patch below ≡ text_after p back) same (ap (text_after message.patch) (sym gone));
      inverse_of = subst (λ (p : Patch). inverse message.patch below ≡ inverse p back) same (ap (inverse message.patch) (sym gone));
    }

made_there : (message : Message) (below : List ℕ) (own : Marked) → message.patch.before ≡ document_hash below → text_after (inverse message.patch below) (text_after message.patch below) ≡ below
    → message.patch ≡ own.patch → own.patch.before ≡ document_hash (text_after (inverse message.patch below) (text_after message.patch below))
made_there message below own made gone same = ap (λ (p : Patch). p.before) (sym same) ∙ made ∙ ap document_hash (sym gone)

own_back : (all : List Message) (sent : SentWorks) → NamesDiffer all → AreSentAs all sent → (message : Message) → Contains all message → (below : List ℕ) → CanApply message.patch below
    → message.patch.before ≡ document_hash below → text_after (inverse message.patch below) (text_after message.patch below) ≡ below → (o : Option Marked) → sent_as sent (name_of message) ≡ o
    → IsInverse o (back_move message below) (text_after message.patch below) × IsMadeThere o (back_move message below) (text_after message.patch below)
own_back all sent differ are message has below applies made gone None is = (tt, tt)
own_back all sent differ are message has below applies made gone (Some own) is =
    let found = are (name_of message) own is in
    let same : message.patch ≡ own.patch = ap (λ (m : Message). m.patch) (sym (differ found.0 message found.1 has found.2)) ∙ found.4 in
    (takes_back message below own applies gone same, made_there message below own made gone same)

pub took_back : FittingApplies → InverseGivesBack → (base : Base) (all received : List Message) (sent : SentWorks) → NamesDiffer all → AreSentAs all sent
    → ((message : Message) → Contains received message → Contains all message) → (common left : List Message) → IsLinkedPath base received (left ++ common) → EachSound base (left ++ common)
    → AreInverses sent (moves_back base common left) (text base (left ++ common)) × AreMade sent (moves_back base common left) (text base (left ++ common))
took_back applies gives base all received sent differ are among common [] linked sound = (tt, tt)
took_back applies gives base all received sent differ are among common (message ∷ left) linked sound =
    let below : List ℕ = text base (left ++ common) in
    let can : CanApply message.patch below = applies message.patch below sound.0.fits in
    let gone : text_after (inverse message.patch below) (text_after message.patch below) ≡ below = gives message.patch below can.ordered can.inside in
    let own = own_back all sent differ are message (among message linked.0.member) below can (made_for message.patch below sound.0.fits) gone (sent_as sent (name_of message)) refl in
    let rest = took_back applies gives base all received sent differ are among common left linked.1 sound.1 in (
      (own.0, subst (AreInverses sent (moves_back base common left)) (sym gone) rest.0),
      (own.1, subst (AreMade sent (moves_back base common left)) (sym gone) rest.1),
    )

-- ---- the text for which the work is made

abbrev pub IsMadeFor : Draft → Type 0
IsMadeFor draft = draft.work.patch.before ≡ document_hash draft.text

back_made : (move : Move) (draft : Draft) (b : Bool) → (b ≡ true → text_after move.patch draft.text ≡ draft.text) → (o : Option Marked) → IsMadeThere o move draft.text → IsMadeFor draft
    → (cond b draft.work (taken_back o move (text_after move.patch draft.text) draft.work)).patch.before ≡ document_hash (text_after move.patch draft.text)
unfolding in_turn carried merged
back_made move draft true whole o there made = made ∙ ap document_hash (sym (whole refl))
back_made move draft false whole None there made = refl
back_made move draft false whole (Some own) there made = there

on_made : (move : Move) (draft : Draft) (b : Bool) → (b ≡ true → text_after move.patch draft.text ≡ draft.text) → (o : Option Marked) → IsMadeFor draft
    → (cond b draft.work (carried (without_own o draft.work) move.patch (document_hash (text_after move.patch draft.text)))).patch.before ≡ document_hash (text_after move.patch draft.text)
unfolding carried
on_made move draft true whole o made = made ∙ ap document_hash (sym (whole refl))
on_made move draft false whole o made = refl

came_made : (sent : SentWorks) (on : List Move) (draft : Draft) (to : List ℕ) → Leads on draft.text to → IsMadeFor draft → (in_order (applied sent) on draft).work.patch.before ≡ document_hash to
came_made sent [] draft to leads made = made ∙ ap document_hash leads
came_made sent (move ∷ on) draft to leads made =
    came_made sent on (applied sent move draft) to leads.1 (on_made move draft (is_checkpoint move.kind) leads.0.whole (sent_as sent move.name) made)

-- after all moves it is made for the text to which they lead
pub switch_made : (sent : SentWorks) (back on : List Move) (draft : Draft) (to : List ℕ) → Leads (back ++ on) draft.text to → AreMade sent back draft.text → IsMadeFor draft
    → (in_order (applied sent) on (in_order (reverted sent) back draft)).work.patch.before ≡ document_hash to
switch_made sent [] on draft to leads are made = came_made sent on draft to leads made
switch_made sent (move ∷ back) on draft to leads are made =
    switch_made sent back on (reverted sent move draft) to leads.1 are.1 (back_made move draft (is_checkpoint move.kind) leads.0.whole (sent_as sent move.name) are.0 made)

-- ---- tables that have the same works

reverted_alike : (one other : SentWorks) → ((name : Name) → sent_as one name ≡ sent_as other name) → (move : Move) (draft : Draft) → reverted one move draft ≡ reverted other move draft
reverted_alike one other same move draft =
    ap (λ (o : Option Marked). record { text = text_after move.patch draft.text; work = cond (is_checkpoint move.kind) draft.work (taken_back o move (text_after move.patch draft.text) draft.work) }) (same move.name)

applied_alike : (one other : SentWorks) → ((name : Name) → sent_as one name ≡ sent_as other name) → (move : Move) (draft : Draft) → applied one move draft ≡ applied other move draft
applied_alike one other same move draft =
    ap (λ (o : Option Marked). record {
      text = text_after move.patch draft.text;
      work = cond (is_checkpoint move.kind) draft.work (carried (without_own o draft.work) move.patch (document_hash (text_after move.patch draft.text)));
    }) (same move.name)

pub steps_alike : (one other : Move → Draft → Draft) → ((move : Move) (draft : Draft) → one move draft ≡ other move draft) → (moves : List Move) (draft : Draft)
    → in_order one moves draft ≡ in_order other moves draft
steps_alike one other same [] draft = refl
steps_alike one other same (move ∷ moves) draft = ap (in_order one moves) (same move draft) ∙ steps_alike one other same moves (other move draft)

pub switched_alike : (one other : SentWorks) → ((name : Name) → sent_as one name ≡ sent_as other name) → (back on : List Move) (draft : Draft)
    → in_order (applied one) on (in_order (reverted one) back draft) ≡ in_order (applied other) on (in_order (reverted other) back draft)
switched_alike one other same back on draft =
    ap (in_order (applied one) on) (steps_alike (reverted one) (reverted other) (reverted_alike one other same) back draft)
    ∙ steps_alike (applied one) (applied other) (applied_alike one other same) on (in_order (reverted other) back draft)

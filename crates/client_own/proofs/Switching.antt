-- All that moved: own work stands once from the old path to the new one.
use Rattle.std.proofs.Common.{◌≡◌, List, [], ◌∷◌, ◌++◌, map, reverse, refl, sym, ◌∙◌, ap, subst}
use Rattle.std.proofs.lemmas.List.{map-append, reverse-append}
use Rattle.pad_message.specs.declared.message.Message.{Message}
use Rattle.pad_model.specs.declared.base.Base.{Base}
use Rattle.pad_stroke.specs.declared.mark.Mark.{Mark}
use Rattle.pad_stroke.specs.Work.{Marked}
use Rattle.pad_branch.specs.declared.moved.Move.{Move}
use Rattle.pad_branch.specs.Move.{move_on}
use Rattle.pad_chain.specs.Moved.{moves_back, moves_on}
use Rattle.client_work.specs.Switch.{SentWorks, Draft, reverted, applied, in_order, switched, draft_at}
use Rattle.client_own.specs.Stands.{AreSteps, StandsOn}
use Rattle.client_own.specs.Laws.{MovedStands}
use Rattle.client_own.proofs.Steps.{StepLaws, reverted_stands, applied_stands}

-- all that left
all_reverted : StepLaws → (gone typed : List Mark) (base : Base) (sent : SentWorks) (common left : List Message) (work : Marked)
    → AreSteps gone typed base sent (left ++ common) → StandsOn gone typed base sent (left ++ common) work
    → (next : Marked) × (in_order (reverted sent) (moves_back base common left) (draft_at base (left ++ common) work) ≡ draft_at base common next) × StandsOn gone typed base sent common next
all_reverted laws gone typed base sent common [] work steps stands = (work, refl, stands)
all_reverted laws gone typed base sent common (message ∷ left) work steps stands =
    let (one, is, after) = reverted_stands laws gone typed base sent message (left ++ common) work steps.0 stands in
    let (next, more, last) = all_reverted laws gone typed base sent common left one steps.1 after in
    (next, ap (in_order (reverted sent) (moves_back base common left)) is ∙ more, last)

-- moves in two parts
pub in_parts : (step : Move → Draft → Draft) (moves others : List Move) (draft : Draft) → in_order step (moves ++ others) draft ≡ in_order step others (in_order step moves draft)
in_parts step [] others draft = refl
in_parts step (move ∷ moves) others draft = in_parts step moves others (step move draft)

-- the newest message comes last
pub last_on : (message : Message) (joined : List Message) → moves_on (message ∷ joined) ≡ moves_on joined ++ move_on message ∷ []
last_on message joined = ap (map move_on) (reverse-append (message ∷ []) joined) ∙ map-append move_on (reverse joined) (message ∷ [])

-- all that came
all_applied : StepLaws → (gone typed : List Mark) (base : Base) (sent : SentWorks) (common joined : List Message) (work : Marked)
    → AreSteps gone typed base sent (joined ++ common) → StandsOn gone typed base sent common work
    → (next : Marked) × (in_order (applied sent) (moves_on joined) (draft_at base common work) ≡ draft_at base (joined ++ common) next) × StandsOn gone typed base sent (joined ++ common) next
all_applied laws gone typed base sent common [] work steps stands = (work, refl, stands)
all_applied laws gone typed base sent common (message ∷ joined) work steps stands =
    let (one, is, after) = all_applied laws gone typed base sent common joined work steps.1 stands in
    let (next, more, last) = applied_stands laws gone typed base sent message (joined ++ common) one steps.0 after in (
      next,
      ap (λ moves. in_order (applied sent) moves (draft_at base common work)) (last_on message joined)
          ∙ in_parts (applied sent) (moves_on joined) (move_on message ∷ []) (draft_at base common work)
          ∙ ap (applied sent (move_on message)) is
          ∙ more,
      last,
    )

-- all that moved
pub all_moved : StepLaws → MovedStands
all_moved laws gone typed base sent old new moved work moves old_steps new_steps stands =
    let there : StandsOn gone typed base sent (moves.left ++ moves.common) work = subst (λ path. StandsOn gone typed base sent path work) moves.was stands in
    let (middle, is, after) = all_reverted laws gone typed base sent moves.common moves.left work (subst (AreSteps gone typed base sent) moves.was old_steps) there in
    let (next, more, last) = all_applied laws gone typed base sent moves.common moves.joined middle (subst (AreSteps gone typed base sent) moves.is new_steps) after in (
      next,
      ap (λ path. switched sent moved (draft_at base path work)) moves.was
          ∙ ap (λ list. in_order (applied sent) moved.applied (in_order (reverted sent) list (draft_at base (moves.left ++ moves.common) work))) moves.back
          ∙ ap (in_order (applied sent) moved.applied) is
          ∙ ap (λ list. in_order (applied sent) list (draft_at base moves.common middle)) moves.on
          ∙ more
          ∙ ap (λ path. draft_at base path next) (sym moves.is),
      subst (λ path. StandsOn gone typed base sent path next) (sym moves.is) last,
    )

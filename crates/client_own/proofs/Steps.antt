-- One message that leaves a path or comes onto it.
use Rattle.std.proofs.Common.{◌≡◌, Bool, true, false, cond, List, ◌∷◌, ◌++◌, length, map, refl, sym, ◌∙◌, ap, subst, Option, Some, None}
use Rattle.std.proofs.lemmas.List.{length-replicate}
use Rattle.pad_text.specs.Hash.{document_hash}
use Rattle.pad_patch.specs.declared.patch.Patch.{Patch}
use Rattle.pad_patch.specs.Piece.{text_after, inserted}
use Rattle.pad_patch.specs.Inverse.{inverse}
use Rattle.pad_patch.specs.Laws.{InverseGivesBack}
use Rattle.pad_message.specs.declared.message.Message.{Message}
use Rattle.pad_message.specs.Kind.{is_checkpoint}
use Rattle.pad_message.specs.Message.{name_of}
use Rattle.pad_model.specs.declared.base.Base.{Base}
use Rattle.pad_model.specs.Path.{text}
use Rattle.pad_stroke.specs.declared.mark.Mark.{Mark}
use Rattle.pad_stroke.specs.Work.{Marked}
use Rattle.pad_stroke.specs.Row.{Row, no_marks, row_after}
use Rattle.pad_stroke.specs.Through.{carried}
use Rattle.pad_stroke.specs.Strip.{stripped}
use Rattle.pad_row.specs.Own.{StandsOnce, OwnReverted, OwnApplied, OtherReverted, OtherApplied}
use Rattle.pad_branch.specs.declared.moved.Move.{Move}
use Rattle.pad_branch.specs.Move.{move_on}
use Rattle.client_work.specs.Switch.{SentWorks, sent_as, Draft, taken_back, without_own, reverted, applied, draft_at}
use Rattle.client_own.specs.Rows.{entries_of, row_on, own_marks, marks_on}
use Rattle.client_own.specs.Stands.{IsStep, StandsOn}

-- what is cited of the crates below
pub record StepLaws : Type 0 where
  pub own_back : OwnReverted
  pub own_on : OwnApplied
  pub other_back : OtherReverted
  pub other_on : OtherApplied
  pub gives_back : InverseGivesBack

-- ---- rows and marks on one message more

pub checkpoint_row : (base : Base) (sent : SentWorks) (message : Message) (path : List Message) → is_checkpoint message.kind ≡ true → row_on base sent (message ∷ path) ≡ row_on base sent path
checkpoint_row base sent message path is =
    ap (λ b. cond b (row_on base sent path) (row_after message.patch (entries_of (sent_as sent (name_of message)) message) (row_on base sent path))) is

pub checkpoint_marks : (sent : SentWorks) (message : Message) (path : List Message) → is_checkpoint message.kind ≡ true → marks_on sent (message ∷ path) ≡ marks_on sent path
checkpoint_marks sent message path is = ap (λ b. cond b (marks_on sent path) (own_marks (sent_as sent (name_of message)) ++ marks_on sent path)) is

pub patch_row : (base : Base) (sent : SentWorks) (message : Message) (path : List Message) (o : Option Marked) → is_checkpoint message.kind ≡ false → sent_as sent (name_of message) ≡ o
    → row_on base sent (message ∷ path) ≡ row_after message.patch (entries_of o message) (row_on base sent path)
patch_row base sent message path o plain is =
    ap (λ b. cond b (row_on base sent path) (row_after message.patch (entries_of (sent_as sent (name_of message)) message) (row_on base sent path))) plain
    ∙ ap (λ s. row_after message.patch (entries_of s message) (row_on base sent path)) is

pub patch_marks : (sent : SentWorks) (message : Message) (path : List Message) (o : Option Marked) → is_checkpoint message.kind ≡ false → sent_as sent (name_of message) ≡ o
    → marks_on sent (message ∷ path) ≡ own_marks o ++ marks_on sent path
patch_marks sent message path o plain is =
    ap (λ b. cond b (marks_on sent path) (own_marks (sent_as sent (name_of message)) ++ marks_on sent path)) plain
    ∙ ap (λ s. own_marks s ++ marks_on sent path) is

-- own work stands on one message more, in other words
pub stands_by : {gone typed : List Mark} (base : Base) (sent : SentWorks) (message : Message) (path : List Message) (marks : List Mark) (row : Row) {work : Marked}
    → marks_on sent (message ∷ path) ≡ marks → row_on base sent (message ∷ path) ≡ row
    → StandsOnce gone typed marks (text base (message ∷ path)) row work → StandsOn gone typed base sent (message ∷ path) work
stands_by {gone} {typed} base sent message path marks row {work} same_marks same_row stands =
    subst (λ m. StandsOnce gone typed m (text base (message ∷ path)) (row_on base sent (message ∷ path)) work) (sym same_marks)
    (subst (λ r. StandsOnce gone typed marks (text base (message ∷ path)) r work) (sym same_row) stands)

pub stands_as : {gone typed : List Mark} (base : Base) (sent : SentWorks) (message : Message) (path : List Message) (marks : List Mark) (row : Row) {work : Marked}
    → marks_on sent (message ∷ path) ≡ marks → row_on base sent (message ∷ path) ≡ row
    → StandsOn gone typed base sent (message ∷ path) work → StandsOnce gone typed marks (text base (message ∷ path)) row work
stands_as {gone} {typed} base sent message path marks row {work} same_marks same_row stands =
    subst (λ m. StandsOnce gone typed m (text base (message ∷ path)) row work) same_marks
    (subst (λ r. StandsOnce gone typed (marks_on sent (message ∷ path)) (text base (message ∷ path)) r work) same_row stands)

-- ---- a message leaves

-- a message as a move that takes it back
abbrev pub move_back : Base → Message → List Message → Move
move_back base message path = record { name = name_of message; kind = message.kind; patch = inverse message.patch (text base path) }

-- the text after it
pub again : StepLaws → (gone typed : List Mark) (base : Base) (sent : SentWorks) (message : Message) (path : List Message) → IsStep gone typed base sent message path
    → text_after (inverse message.patch (text base path)) (text base (message ∷ path)) ≡ text base path
again laws gone typed base sent message path step = laws.gives_back message.patch (text base path) step.on.applies.ordered step.on.applies.inside

back_by : StepLaws → (gone typed : List Mark) (base : Base) (sent : SentWorks) (message : Message) (path : List Message) (work : Marked)
    → IsStep gone typed base sent message path → is_checkpoint message.kind ≡ false → StandsOn gone typed base sent (message ∷ path) work
    → (o : Option Marked) → sent_as sent (name_of message) ≡ o → StandsOn gone typed base sent path (taken_back o (move_back base message path) (text base path) work)
back_by laws gone typed base sent message path work step plain stands None is =
    laws.other_back gone typed (marks_on sent path) (text base path) (row_on base sent path) (no_marks (length (inserted message.patch))) message.patch work (document_hash (text base path))
    step.on (length-replicate (length (inserted message.patch)) None)
    (stands_as base sent message path (marks_on sent path) (row_after message.patch (no_marks (length (inserted message.patch))) (row_on base sent path))
    (patch_marks sent message path None plain is) (patch_row base sent message path None plain is) stands)
back_by laws gone typed base sent message path work step plain stands (Some own) is =
    let same = step.own_patch own is plain in
    let here = stands_as base sent message path (own.marks ++ marks_on sent path) (row_after message.patch (map Some own.marks) (row_on base sent path))
    (patch_marks sent message path (Some own) plain is) (patch_row base sent message path (Some own) plain is) stands in
    laws.own_back gone typed (marks_on sent path) (text base path) (row_on base sent path) own work (step.own_sent own is plain)
    (subst (λ p. StandsOnce gone typed (own.marks ++ marks_on sent path) (text_after p (text base path)) (row_after p (map Some own.marks) (row_on base sent path)) work) (sym same) here)

back_step : StepLaws → (gone typed : List Mark) (base : Base) (sent : SentWorks) (message : Message) (path : List Message) (work : Marked)
    → IsStep gone typed base sent message path → StandsOn gone typed base sent (message ∷ path) work → (b : Bool) → is_checkpoint message.kind ≡ b
    → StandsOn gone typed base sent path (cond b work (taken_back (sent_as sent (name_of message)) (move_back base message path) (text base path) work))
back_step laws gone typed base sent message path work step stands true is =
    subst (λ t. StandsOnce gone typed (marks_on sent path) t (row_on base sent path) work) (step.still is)
    (stands_as base sent message path (marks_on sent path) (row_on base sent path) (checkpoint_marks sent message path is) (checkpoint_row base sent message path is) stands)
back_step laws gone typed base sent message path work step stands false is = back_by laws gone typed base sent message path work step is stands (sent_as sent (name_of message)) refl

-- one message is reverted
pub reverted_stands : StepLaws → (gone typed : List Mark) (base : Base) (sent : SentWorks) (message : Message) (path : List Message) (work : Marked)
    → IsStep gone typed base sent message path → StandsOn gone typed base sent (message ∷ path) work
    → (next : Marked) × (reverted sent (move_back base message path) (draft_at base (message ∷ path) work) ≡ draft_at base path next) × StandsOn gone typed base sent path next
reverted_stands laws gone typed base sent message path work step stands = (
  cond (is_checkpoint message.kind) work (taken_back (sent_as sent (name_of message)) (move_back base message path) (text base path) work),
  ap (λ t. let draft : Draft = record { text = t; work = cond (is_checkpoint message.kind) work (taken_back (sent_as sent (name_of message)) (move_back base message path) t work) } in draft)
      (again laws gone typed base sent message path step),
  back_step laws gone typed base sent message path work step stands (is_checkpoint message.kind) refl,
)

-- ---- a message comes

on_by : StepLaws → (gone typed : List Mark) (base : Base) (sent : SentWorks) (message : Message) (path : List Message) (work : Marked)
    → IsStep gone typed base sent message path → is_checkpoint message.kind ≡ false → StandsOn gone typed base sent path work
    → (o : Option Marked) → sent_as sent (name_of message) ≡ o
    → StandsOn gone typed base sent (message ∷ path) (carried (without_own o work) message.patch (document_hash (text base (message ∷ path))))
on_by laws gone typed base sent message path work step plain stands None is =
    stands_by base sent message path (marks_on sent path) (row_after message.patch (no_marks (length (inserted message.patch))) (row_on base sent path))
    (patch_marks sent message path None plain is) (patch_row base sent message path None plain is)
    (laws.other_on gone typed (marks_on sent path) (text base path) (row_on base sent path) (no_marks (length (inserted message.patch))) message.patch work
    (document_hash (text base (message ∷ path))) step.on (length-replicate (length (inserted message.patch)) None) stands)
on_by laws gone typed base sent message path work step plain stands (Some own) is =
    let same = step.own_patch own is plain in
    let after = document_hash (text base (message ∷ path)) in
    let P : Patch → Type 0 = λ p. StandsOnce gone typed (own.marks ++ marks_on sent path) (text_after p (text base path)) (row_after p (map Some own.marks) (row_on base sent path))
    (carried (stripped work own) p after) in
    stands_by base sent message path (own.marks ++ marks_on sent path) (row_after message.patch (map Some own.marks) (row_on base sent path))
    (patch_marks sent message path (Some own) plain is) (patch_row base sent message path (Some own) plain is)
    (subst P same (laws.own_on gone typed (marks_on sent path) (text base path) (row_on base sent path) own work after (step.own_sent own is plain) stands))

on_step : StepLaws → (gone typed : List Mark) (base : Base) (sent : SentWorks) (message : Message) (path : List Message) (work : Marked)
    → IsStep gone typed base sent message path → StandsOn gone typed base sent path work → (b : Bool) → is_checkpoint message.kind ≡ b
    → StandsOn gone typed base sent (message ∷ path) (cond b work (carried (without_own (sent_as sent (name_of message)) work) message.patch (document_hash (text base (message ∷ path)))))
on_step laws gone typed base sent message path work step stands true is =
    stands_by base sent message path (marks_on sent path) (row_on base sent path) (checkpoint_marks sent message path is) (checkpoint_row base sent message path is)
    (subst (λ t. StandsOnce gone typed (marks_on sent path) t (row_on base sent path) work) (sym (step.still is)) stands)
on_step laws gone typed base sent message path work step stands false is = on_by laws gone typed base sent message path work step is stands (sent_as sent (name_of message)) refl

-- one message is applied
pub applied_stands : StepLaws → (gone typed : List Mark) (base : Base) (sent : SentWorks) (message : Message) (path : List Message) (work : Marked)
    → IsStep gone typed base sent message path → StandsOn gone typed base sent path work
    → (next : Marked) × (applied sent (move_on message) (draft_at base path work) ≡ draft_at base (message ∷ path) next) × StandsOn gone typed base sent (message ∷ path) next
applied_stands laws gone typed base sent message path work step stands = (
  cond (is_checkpoint message.kind) work (carried (without_own (sent_as sent (name_of message)) work) message.patch (document_hash (text base (message ∷ path)))),
  refl,
  on_step laws gone typed base sent message path work step stands (is_checkpoint message.kind) refl,
)

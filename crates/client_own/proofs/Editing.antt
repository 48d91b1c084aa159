-- An edit.
use Rattle.std.proofs.Common.{◌∙◌}
use Rattle.client_own.proofs.Fitting.{in_turn_before}
use Rattle.std.proofs.Common.{◌≡◌, ◌≤◌, ◌+◌, inl, inr, ℕ, Bool, true, false, List, [], ◌∷◌, ◌++◌, length, refl, sym, ap, subst, Option, Some, None, Contains, arith}
use Rattle.std.specs.Prelude.{slice_get}
use Rattle.std.proofs.lemmas.List.Elements.{Contains-append_left, Contains-append_cases}
use Rattle.pad_text.specs.declared.name.Name.{Name}
use Rattle.pad_patch.proofs.CallerLemmas.{has_contains, at_has, contains_has, Has}
use Rattle.pad_patch.specs.declared.operation.Operation.{Operation}
use Rattle.pad_message.specs.declared.message.Message.{Message}
use Rattle.pad_message.specs.Kind.{is_checkpoint}
use Rattle.pad_message.specs.Message.{name_of}
use Rattle.pad_model.specs.Path.{text, IsPath}
use Rattle.pad_model.proofs.CallerLemmas.{path_more}
use Rattle.pad_stroke.specs.declared.mark.Mark.{Mark}
use Rattle.pad_stroke.specs.Mark.{marks_of}
use Rattle.pad_stroke.specs.Work.{Marked}
use Rattle.pad_stroke.specs.Row.{Row}
use Rattle.pad_stroke.specs.Edit.{typed, edited}
use Rattle.pad_stroke.specs.Laws.{somes}
use Rattle.pad_row.specs.Own.{Edited, SentStays}
use Rattle.pad_row.specs.Edits.{EditIsTyped}
use Rattle.client_work.specs.Switch.{SentWorks, sent_as}
use Rattle.client_copy.specs.Pad.{committed}
use Rattle.client_copy.specs.State.{Copy}
use Rattle.client_copy.specs.Calls.{Edits}
use Rattle.client_own.specs.Rows.{row_on, own_marks, marks_on}
use Rattle.client_own.specs.Life.{Life, AreAll, removed_marks, edited_life}
use Rattle.client_own.proofs.Steps.{checkpoint_marks, patch_marks}
use Rattle.client_own.proofs.Paths.{PathLaws, IsSentMark, own_patch, row_long, row_mark}
use Rattle.client_own.proofs.Given.{MarkLaws, AreGiven, AreSentGiven, given_more, fresh, turned}
use Rattle.client_own.proofs.Holding.{Keeps, Holds, counted_of, steps_by, step_by}

pub record EditLaws : Type 0 where
  pub is_typed : EditIsTyped
  pub turned : Edited
  pub stays : SentStays

-- ---- what was given out before is of older strokes

given_by : (strokes : ℕ) (sent : SentWorks) → AreSentGiven strokes sent → (mark : Mark) → IsSentMark sent mark → mark.stroke ≤ strokes
given_by strokes sent given mark (name, own, at, has) = (given name own at).marks mark has

in_own : (strokes : ℕ) (sent : SentWorks) → AreSentGiven strokes sent → (name : Name) (o : Option Marked) → sent_as sent name ≡ o → AreGiven strokes (own_marks o)
in_own strokes sent given name None at mark (k, below, is) = omega arith
in_own strokes sent given name (Some own) at mark has = (given name own at).marks mark has

marks_by : (strokes : ℕ) (sent : SentWorks) → AreSentGiven strokes sent → (message : Message) (path : List Message) → AreGiven strokes (marks_on sent path) → AreGiven strokes (marks_on sent (message ∷ path))
marks_by strokes sent given message path below mark has = go (is_checkpoint message.kind) refl
  where
    go : (b : Bool) → is_checkpoint message.kind ≡ b → mark.stroke ≤ strokes
    go true is = below mark (subst (λ ms. Contains ms mark) (checkpoint_marks sent message path is) has)
    go false plain = elim (Contains-append_cases (own_marks (sent_as sent (name_of message))) (marks_on sent path) mark
        (subst (λ ms. Contains ms mark) (patch_marks sent message path (sent_as sent (name_of message)) plain refl) has)) [
          | inl own ↦ in_own strokes sent given (name_of message) (sent_as sent (name_of message)) refl mark own
          | inr later ↦ below mark later
        ]

marks_given : (strokes : ℕ) (sent : SentWorks) → AreSentGiven strokes sent → (path : List Message) → AreGiven strokes (marks_on sent path)
marks_given strokes sent given [] mark (k, below, is) = omega arith
marks_given strokes sent given (message ∷ path) mark has = marks_by strokes sent given message path (marks_given strokes sent given path) mark has

-- an entry of a row
entry : (row : Row) (place : ℕ) (mark : Mark) → slice_get row place ≡ Some (Some mark) → Contains row (Some mark)
entry row place mark is = has_contains (Some mark) row (at_has (Some mark) row place is)

some_entry : (row : Row) (mark : Mark) → Has mark (somes row) → Has (Some mark) row
some_entry [] mark has = has
some_entry (None ∷ row) mark has = inr (some_entry row mark has)
some_entry (Some other ∷ row) mark (inl is) = inl (ap Some is)
some_entry (Some other ∷ row) mark (inr later) = inr (some_entry row mark later)

row_given : PathLaws → (all : List Message) (life : Life) → AreAll all → Keeps all life → (path : List Message) → IsPath life.copy.pad.base all path
    → AreGiven life.copy.strokes (somes (row_on life.copy.pad.base life.copy.sent path))
row_given laws all life are keeps path is mark has =
    let row = row_on life.copy.pad.base life.copy.sent path in
    given_by life.copy.strokes life.copy.sent keeps.sent_given mark
    (row_mark laws life.copy.pad.base all life.copy.sent are keeps.sent_are (counted_of life.copy.strokes life.copy.sent keeps.sent_given) path is mark
    (has_contains (Some mark) row (some_entry row mark (contains_has mark (somes row) has))))

-- the marks of a stroke
of_stroke : MarkLaws → (stroke count : ℕ) (mark : Mark) → Contains (marks_of stroke count) mark → mark.stroke ≡ stroke
of_stroke marks stroke count mark has = ((marks.of_stroke stroke count mark).0 has).0

-- ---- an edit

keeps_edited : PathLaws → MarkLaws → EditLaws → (all : List Message) (life : Life) → AreAll all → Keeps all life → (operation : Operation) (after : Copy) → Edits (committed life.copy.pad) life.copy operation after
    → Keeps all (edited_life life operation (record life.copy { work = edited life.copy.work operation (life.copy.strokes + 1) (length (committed life.copy.pad)); strokes = life.copy.strokes + 1 }))
keeps_edited laws marks edits all life are keeps operation after is =
    let base = life.copy.pad.base in let sent = life.copy.sent in let chosen = life.copy.pad.choice.chosen in
    let strokes = life.copy.strokes in let stroke = strokes + 1 in let count = length operation.insert in
    let work = life.copy.work in let edit = typed work operation stroke in
    let counted = counted_of strokes sent keeps.sent_given in
    let path : IsPath base all chosen = path_more base life.copy.pad.received all chosen keeps.among keeps.best.path in
    let new_gone = life.gone ++ removed_marks life.copy operation in let new_typed = life.marks ++ marks_of stroke count in
    let is_typed = edits.is_typed life.gone life.marks (marks_on sent chosen) (text base chosen) (row_on base sent chosen) work operation stroke
    (row_long laws base all sent are keeps.sent_are counted chosen path) keeps.stands.applies keeps.stands.counted is.allowed
    (fresh strokes work.marks keeps.work_given.marks) (fresh strokes (marks_on sent chosen) (marks_given strokes sent keeps.sent_given chosen))
    (fresh strokes (somes (row_on base sent chosen)) (row_given laws all life are keeps chosen path)) in
    let newer : (mark : Mark) → Contains (marks_of stroke count) mark → ¬ (mark.stroke ≤ strokes) = λ mark has less. let one = of_stroke marks stroke count mark has in omega (arith, one, less) in
    record {
      base_is = keeps.base_is;
      of_all = keeps.of_all;
      among = keeps.among;
      root = keeps.root;
      best = keeps.best;
      sent_are = keeps.sent_are;
      work_given = turned marks stroke work edit (length (text base chosen)) (given_more strokes stroke (omega arith) work keeps.work_given)
          (record { counted = is_typed.in_turn_on.second_counted; marks = λ mark has. let one = of_stroke marks stroke count mark has in omega (arith, one) });
      sent_given = λ name own at. given_more strokes stroke (omega arith) own (keeps.sent_given name own at);
      typed_or_made = λ name own at. elim (keeps.typed_or_made name own at) [
        | inl made ↦ inl made
        | inr none ↦ inr (λ mark has in_own. elim (Contains-append_cases life.marks (marks_of stroke count) mark has) [
          | inl old ↦ none mark old in_own
          | inr new ↦ newer mark new ((keeps.sent_given name own at).marks mark in_own)
        ])
      ];
      since_repair = keeps.since_repair;
      holds = steps_by new_gone new_typed base sent all (λ message below is_path.
          step_by laws new_gone new_typed base sent all are keeps.sent_are counted keeps.base_is message below is_path (λ own at same.
          let plain : is_checkpoint message.kind ≡ false = ap is_checkpoint (own_patch all sent are keeps.sent_are message is_path.0.0.member own at).0 in
          edits.stays life.gone life.marks new_gone new_typed (marks_of stroke count) (marks_on sent below) (text base below) (row_on base sent below) own
          ((keeps.holds (message ∷ below) is_path).0.own_sent own at plain)
          (λ mark has. Contains-append_left life.gone (removed_marks life.copy operation) mark has)
          (λ mark has. Contains-append_cases life.marks (marks_of stroke count) mark has)
          (λ mark new in_own. newer mark new ((keeps.sent_given (name_of message) own at).marks mark in_own))
          (λ mark place new at_place. newer mark new (given_by strokes sent keeps.sent_given mark
          (row_mark laws base all sent are keeps.sent_are counted below (is_path.0.1, is_path.1.1) mark (entry (row_on base sent below) place mark at_place))))));
      stands = edits.turned life.gone life.marks new_gone new_typed (marks_on sent chosen) (text base chosen) (row_on base sent chosen) work edit is_typed keeps.stands;
      made_here = in_turn_before work edit (length (text base chosen)) ∙ keeps.made_here;
    }

pub edits_hold : PathLaws → MarkLaws → EditLaws → (all : List Message) (life : Life) → AreAll all → Holds all life → (operation : Operation) (after : Copy) → Edits (committed life.copy.pad) life.copy operation after
    → Holds all (edited_life life operation after)
edits_hold laws marks edits all life are holds operation after is =
    subst (λ (c : Copy). Holds all (edited_life life operation c)) (sym is.state)
    (record { keeps = keeps_edited laws marks edits all life are holds.keeps operation after is; linked = holds.linked })

-- A repair ends: all begins anew, with nothing typed yet.
use Rattle.std.proofs.Common.{ap, ◌∙◌}
use Rattle.client_own.proofs.Fitting.{switched_made}
use Rattle.client_own.proofs.Steps.{StepLaws}
use Rattle.std.proofs.Common.{◌≡◌, inl, inr, Bool, true, false, List, [], refl, sym, subst, Contains, append-nil}
use Rattle.pad_list.proofs.CallerLemmas.{contains_none}
use Rattle.pad_text.specs.Text.{IsText}
use Rattle.pad_text.specs.Hash.{document_hash}
use Rattle.pad_patch.specs.declared.patch.Patch.{Patch}
use Rattle.pad_patch.specs.Misfit.{CanApply}
use Rattle.pad_message.specs.declared.message.Message.{Message}
use Rattle.pad_message.specs.Message.{name_of}
use Rattle.pad_model.specs.declared.base.Base.{Base}
use Rattle.pad_model.specs.Base.{first_base}
use Rattle.pad_model.specs.Path.{text}
use Rattle.pad_model.specs.Choice.{Choice}
use Rattle.pad_model.proofs.CallerLemmas.{path_more}
use Rattle.pad_stroke.specs.declared.mark.Mark.{Mark}
use Rattle.pad_stroke.specs.Work.{Marked, empty}
use Rattle.pad_row.specs.Own.{IsOn, NothingTyped}
use Rattle.pad_chain.specs.declared.moved.Moved.{Moved}
use Rattle.pad_chain.specs.Moved.{IsMoved}
use Rattle.pad_chain.specs.Tie.{IsWholeChoice}
use Rattle.client_work.specs.Switch.{SentWorks, Draft, switched, draft_at}
use Rattle.client_copy.specs.Pad.{Pad, committed}
use Rattle.client_copy.specs.State.{Copy}
use Rattle.client_copy.specs.Repair.{noted, IsRepaired, LeadsToOldBest, EndsRepair, AreAmong}
use Rattle.client_copy.specs.View.{AreSentAs}
use Rattle.client_copy.proofs.CallerLemmas.{same_text}
use Rattle.client_own.specs.Rows.{row_on, marks_on}
use Rattle.client_own.specs.Stands.{HoldsOnPaths, StandsOn}
use Rattle.client_own.specs.Laws.{MovedStands}
use Rattle.client_own.specs.Life.{Life, AreAll}
use Rattle.client_own.proofs.Paths.{PathLaws, AreCounted, is_on}
use Rattle.client_own.proofs.Given.{MarkLaws, IsGiven, switched_given}
use Rattle.client_own.proofs.Holding.{Keeps, Holds, counted_of, steps_by, step_by, empty_applies}
use Rattle.client_own.proofs.Receiving.{same_pad}

-- ---- a message that a repair heard

pub notes : (all : List Message) (life : Life) (message : Message) → Holds all life → Holds all (record life { copy = noted message life.copy })
notes all life message holds = let keeps = holds.keeps in record {
  keeps = record {
    base_is = keeps.base_is;
    of_all = keeps.of_all;
    among = keeps.among;
    root = keeps.root;
    best = keeps.best;
    sent_are = keeps.sent_are;
    work_given = keeps.work_given;
    sent_given = keeps.sent_given;
    typed_or_made = keeps.typed_or_made;
    since_repair = keeps.since_repair;
    holds = keeps.holds;
    stands = keeps.stands;
    made_here = keeps.made_here;
  };
  linked = holds.linked;
}

-- ---- nothing was typed yet

none_typed : {A : Type 0} (mark : Mark) → Contains [] mark → A
none_typed mark has = absurd (contains_none mark has)

pub holds_anew : PathLaws → (all : List Message) → AreAll all → (base : Base) (sent : SentWorks) → AreSentAs all sent → AreCounted sent → IsText base.text → HoldsOnPaths [] [] base sent all
holds_anew laws all are base sent sent_are counted first = steps_by [] [] base sent all (λ message path is.
    step_by laws [] [] base sent all are sent_are counted first message path is (λ own at same. record {
      on = subst (λ (p : Patch). IsOn p (text base path) (row_on base sent path)) (sym same) (is_on laws base all sent are sent_are counted first message path is);
      counted = counted (name_of message) own at;
      removed = λ mark typed removes. none_typed mark typed;
      single = λ mark typed. none_typed mark typed;
      once = λ mark typed of_own. none_typed mark typed;
    }))

-- the pad of a chain that never truncates
abbrev new_pad : Pad → List Message → Choice → Pad
new_pad pad received choice = record { all = pad.all; base = first_base; received = received; whole = true; choice = choice }

abbrev anew : Life → Pad → Marked → Life
anew life pad work = record { copy = record life.copy { pad = pad; work = work }; marks = []; gone = []; made = [] }

begins_anew : PathLaws → NothingTyped → IsText [] → (all : List Message) (life : Life) → AreAll all → Keeps all life → (received : List Message) → AreAmong received all
    → (choice : Choice) → IsWholeChoice first_base received choice → (work : Marked) → IsGiven life.copy.strokes work → CanApply work.patch (text first_base choice.chosen)
    → work.patch.before ≡ document_hash (text first_base choice.chosen) → Holds all (anew life (new_pad life.copy.pad received choice) work)
begins_anew laws nothing no_text all life are keeps received among choice whole work given applies made =
    let sent = life.copy.sent in
    record {
      keeps = record {
        base_is = no_text;
        of_all = inl refl;
        among = among;
        root = [];
        best = record { path = whole.best.path; through = (choice.chosen, sym (append-nil choice.chosen)); none_better = λ other path through. whole.best.none_better other path };
        sent_are = keeps.sent_are;
        work_given = given;
        sent_given = keeps.sent_given;
        typed_or_made = λ name own at. inr (λ mark typed of_own. none_typed mark typed);
        since_repair = λ not_whole name own at. let clash : true ≡ false = not_whole in cc;
        holds = holds_anew laws all are first_base sent keeps.sent_are (counted_of life.copy.strokes sent keeps.sent_given) no_text;
        stands = nothing [] (marks_on sent choice.chosen) (text first_base choice.chosen) (row_on first_base sent choice.chosen) work applies given.counted;
        made_here = made;
      };
      linked = λ name made. absurd (contains_none name made);
    }

-- the work goes on from the path to the old best message
goes_on : StepLaws → MovedStands → PathLaws → MarkLaws → NothingTyped → IsText [] → (all : List Message) (life : Life) → AreAll all → Keeps all life → (received : List Message) → AreAmong received all
    → (choice : Choice) → IsWholeChoice first_base received choice → (path : List Message) → LeadsToOldBest life.copy.pad received path → (moved : Moved) → IsMoved first_base path choice.chosen moved
    → Holds all (anew life (new_pad life.copy.pad received choice) (switched life.copy.sent moved (draft_at first_base path life.copy.work)).work)
goes_on steps switches laws marks nothing no_text all life are keeps received among choice whole path leads moved moves =
    let sent = life.copy.sent in let work = life.copy.work in
    let anew_holds = holds_anew laws all are first_base sent keeps.sent_are (counted_of life.copy.strokes sent keeps.sent_given) no_text in
    let same : text life.copy.pad.base life.copy.pad.choice.chosen ≡ text first_base path
    = same_text all are.names life.copy.pad.base keeps.of_all life.copy.pad.received received keeps.among among life.copy.pad.choice.chosen path keeps.best.path.0 leads.is_path (sym leads.last) in
    let there = nothing [] (marks_on sent path) (text first_base path) (row_on first_base sent path) work (subst (CanApply work.patch) same keeps.stands.applies) keeps.work_given.counted in
    let switch = switches [] [] first_base sent path choice.chosen moved work moves (anew_holds path (path_more first_base received all path among leads.is_path))
    (anew_holds choice.chosen (path_more first_base received all choice.chosen among whole.best.path)) there in
    let next = (switched sent moved (draft_at first_base path work)).work in
    let stands : StandsOn [] [] first_base sent choice.chosen next = subst (λ (d : Draft). StandsOn [] [] first_base sent choice.chosen d.work) (sym switch.1) switch.2 in
    begins_anew laws nothing no_text all life are keeps received among choice whole next
    (switched_given marks life.copy.strokes sent keeps.sent_given moved (draft_at first_base path work) keeps.work_given) stands.applies
    (switched_made steps [] [] first_base sent path choice.chosen moved work moves (anew_holds path (path_more first_base received all path among leads.is_path)) leads.is_path.1
    (anew_holds choice.chosen (path_more first_base received all choice.chosen among whole.best.path)) (keeps.made_here ∙ ap document_hash same))

repaired_pad : (before : Pad) (received : List Message) (pad : Pad) → IsRepaired before received pad → pad ≡ new_pad before received pad.choice
repaired_pad before received pad is = same_pad pad before.all first_base received true is.all is.base is.received_all is.whole

pub repairs : StepLaws → MovedStands → PathLaws → MarkLaws → NothingTyped → IsText [] → (all : List Message) (life : Life) → AreAll all → Holds all life → (received : List Message) → AreAmong received all
    → (found : Bool) (after : Copy) → EndsRepair life.copy received found after → Holds all (record { copy = after; marks = []; gone = []; made = [] })
repairs steps switches laws marks nothing no_text all life are holds received among found after (EndsRepair.goes_on pad path moved is leads moves) =
    let work = (switched life.copy.sent moved (draft_at first_base path life.copy.work)).work in
    subst (λ (p : Pad). Holds all (anew life p work)) (sym (repaired_pad life.copy.pad received pad is))
    (goes_on steps switches laws marks nothing no_text all life are holds.keeps received among pad.choice is.choice path leads moved moves)
repairs steps switches laws marks nothing no_text all life are holds received among found after (EndsRepair.starts_anew pad is none) =
    let T : Pad → Marked → Type 0 = λ p w. Holds all (anew life p w) in
    let hash = document_hash (committed pad) in
    subst (λ (p : Pad). T p (empty hash)) (sym (repaired_pad life.copy.pad received pad is))
    (begins_anew laws nothing no_text all life are holds.keeps received among pad.choice is.choice (empty hash)
    (record { counted = refl; marks = λ mark has. none_typed mark has }) (empty_applies (text first_base pad.choice.chosen) hash) (ap (λ (b : Base). document_hash (text b pad.choice.chosen)) is.base))

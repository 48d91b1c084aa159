-- What holds of a life, and that it holds at its beginning.
use Rattle.pad_text.specs.Hash.{document_hash}
use Rattle.std.proofs.Common.{◌≡◌, ◌⊎◌, inl, ℕ, false, List, [], ◌∷◌, refl, Some, None, Contains}
use Rattle.pad_list.proofs.CallerLemmas.{contains_none}
use Rattle.pad_text.specs.Text.{IsText}
use Rattle.pad_text.specs.declared.name.Name.{Name}
use Rattle.pad_patch.specs.Misfit.{CanApply}
use Rattle.pad_message.specs.declared.message.Message.{Message}
use Rattle.pad_message.specs.Message.{name_of}
use Rattle.pad_model.specs.declared.base.Base.{Base}
use Rattle.pad_model.specs.Base.{first_base}
use Rattle.pad_model.specs.Path.{text, IsPath, IsLinkedPath}
use Rattle.pad_model.specs.Best.{IsBetter}
use Rattle.pad_model.specs.Choice.{IsBestThrough}
use Rattle.pad_model.proofs.CallerLemmas.{through_itself, never_better_itself}
use Rattle.pad_stroke.specs.declared.mark.Mark.{Mark}
use Rattle.pad_stroke.specs.Work.{Marked, empty}
use Rattle.pad_row.specs.Own.{IsSent, NothingTyped}
use Rattle.client_work.specs.Switch.{SentWorks, sent_as}
use Rattle.client_copy.specs.State.{new_copy}
use Rattle.client_copy.specs.View.{AreSentAs, IsBaseOf}
use Rattle.client_own.specs.Rows.{row_on, marks_on}
use Rattle.client_own.specs.Stands.{IsStep, HoldsOnPaths, StandsOn}
use Rattle.client_own.specs.Life.{Life, new_life, AreAll}
use Rattle.client_own.proofs.Paths.{PathLaws, AreCounted, still, own_patch, is_on}
use Rattle.client_own.proofs.Given.{IsGiven, AreSentGiven}

-- what was made since the last repair ended is linked
abbrev pub AreLinked : Life → Type 0
AreLinked life = (name : Name) → Contains life.made name → (message : Message) × (path : List Message) × (name_of message ≡ name) × IsLinkedPath life.copy.pad.base life.copy.pad.received (message ∷ path)

pub record Keeps (all : List Message) (life : Life) : Type 0 where
  pub base_is : IsText life.copy.pad.base.text
  pub of_all : IsBaseOf all life.copy.pad.base
  pub among : (message : Message) → Contains life.copy.pad.received message → Contains all message
  pub root : List Message
  pub best : IsBestThrough life.copy.pad.base life.copy.pad.received root life.copy.pad.choice.chosen
  pub sent_are : AreSentAs all life.copy.sent
  pub work_given : IsGiven life.copy.strokes life.copy.work
  pub sent_given : AreSentGiven life.copy.strokes life.copy.sent
  -- a work that was sent is that of a message made since the last repair ended, or has no mark that was typed since
  pub typed_or_made : (name : Name) (own : Marked) → sent_as life.copy.sent name ≡ Some own → Contains life.made name ⊎ ((mark : Mark) → Contains life.marks mark → ¬ (Contains own.marks mark))
  pub since_repair : life.copy.pad.whole ≡ false → (name : Name) (own : Marked) → sent_as life.copy.sent name ≡ Some own → Contains life.made name
  pub holds : HoldsOnPaths life.gone life.marks life.copy.pad.base life.copy.sent all
  pub stands : StandsOn life.gone life.marks life.copy.pad.base life.copy.sent life.copy.pad.choice.chosen life.copy.work
  pub made_here : life.copy.work.patch.before ≡ document_hash (text life.copy.pad.base life.copy.pad.choice.chosen)

pub record Holds (all : List Message) (life : Life) : Type 0 where
  pub keeps : Keeps all life
  pub linked : AreLinked life

pub counted_of : (strokes : ℕ) (sent : SentWorks) → AreSentGiven strokes sent → AreCounted sent
counted_of strokes sent given name own is = (given name own is).counted

-- each message of each path
pub steps_by : (gone typed : List Mark) (base : Base) (sent : SentWorks) (all : List Message)
    → ((message : Message) (path : List Message) → IsPath base all (message ∷ path) → IsStep gone typed base sent message path) → HoldsOnPaths gone typed base sent all
steps_by gone typed base sent all step [] is = tt
steps_by gone typed base sent all step (message ∷ path) is = (step message path is, steps_by gone typed base sent all step path (is.0.1, is.1.1))

-- a step, but for what is said of an own message's marks
pub step_by : PathLaws → (gone typed : List Mark) (base : Base) (sent : SentWorks) (all : List Message) → AreAll all → AreSentAs all sent → AreCounted sent → IsText base.text
    → (message : Message) (path : List Message) → IsPath base all (message ∷ path)
    → ((own : Marked) → sent_as sent (name_of message) ≡ Some own → own.patch ≡ message.patch → IsSent gone typed (marks_on sent path) (text base path) (row_on base sent path) own)
    → IsStep gone typed base sent message path
step_by laws gone typed base sent all are sent_are counted first message path is own_sent = record {
  still = still base message path is.1.0;
  on = is_on laws base all sent are sent_are counted first message path is;
  own_patch = λ own at plain. (own_patch all sent are sent_are message is.0.0.member own at).1;
  own_sent = λ own at plain. own_sent own at (own_patch all sent are sent_are message is.0.0.member own at).1;
}

-- ---- the beginning

pub none_some : {A B : Type 0} (x : A) → None ≡ Some x → B
none_some x is = cc

pub empty_applies : (text : List ℕ) (hash : Name) → CanApply (empty hash).patch text
empty_applies text hash = record {
  ordered = λ index overlaps. none_some overlaps.0 overlaps.4;
  inside = λ index ends. none_some ends.0 ends.1;
  whole = λ index cuts. none_some cuts.0 cuts.1;
}

pub none_best : (base : Base) → IsBestThrough base [] [] []
none_best base = record { path = (tt, tt); through = through_itself []; none_better = λ other is through. only other is }
  where
    only : (other : List Message) → IsPath base [] other → ¬ (IsBetter base other [])
    only [] is = never_better_itself base []
    only (message ∷ path) is = absurd (contains_none message is.0.0.member)

pub begins : PathLaws → NothingTyped → (all : List Message) → AreAll all → IsText [] → Holds all new_life
begins laws nothing all are no_text = record {
  keeps = record {
    base_is = no_text;
    of_all = inl refl;
    among = λ message has. absurd (contains_none message has);
    root = [];
    best = none_best first_base;
    sent_are = λ name own is. none_some own is;
    work_given = record { counted = refl; marks = λ mark has. absurd (contains_none mark has) };
    sent_given = λ name own is. none_some own is;
    typed_or_made = λ name own is. none_some own is;
    since_repair = λ whole name own is. none_some own is;
    holds = steps_by [] [] first_base [] all (λ message path is.
        step_by laws [] [] first_base [] all are (λ name own at. none_some own at) (λ name own at. none_some own at) no_text message path is (λ own at same. none_some own at));
    stands = nothing [] [] [] [] new_copy.work (empty_applies [] new_copy.work.patch.before) refl;
    made_here = refl;
  };
  linked = λ name has. absurd (contains_none name has);
}

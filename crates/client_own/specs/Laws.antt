-- What becomes of own work at each event.
use Rattle.std.specs.Prelude.{◌≡◌, ◌≤◌, List, ◌++◌, Contains}
use Rattle.pad_message.specs.declared.message.Message.{Message}
use Rattle.pad_model.specs.declared.base.Base.{Base}
use Rattle.pad_stroke.specs.declared.mark.Mark.{Mark}
use Rattle.pad_stroke.specs.Work.{Marked}
use Rattle.pad_chain.specs.declared.moved.Moved.{Moved}
use Rattle.pad_chain.specs.Moved.{IsMoved}
use Rattle.client_work.specs.Switch.{SentWorks, switched, draft_at}
use Rattle.pad_row.specs.Laws.{how_often}
use Rattle.client_own.specs.Rows.{marks_on}
use Rattle.client_own.specs.Stands.{AreSteps, StandsOn}
use Rattle.client_own.specs.Life.{Life, AreAll, Lives}

-- one path becomes another, and the work is switched along: own work stands once after it
abbrev pub MovedStands : Type 0
MovedStands =
    (gone typed : List Mark) (base : Base) (sent : SentWorks) (old new : List Message) (moved : Moved) (work : Marked)
    → IsMoved base old new moved → AreSteps gone typed base sent old → AreSteps gone typed base sent new → StandsOn gone typed base sent old work
    → (next : Marked) × (switched sent moved (draft_at base old work) ≡ draft_at base new next) × StandsOn gone typed base sent new next

-- Own work stands once: a mark that was typed since the last repair ended stands at most once in the work and in the works that were
-- sent as the messages of the best chain, and once if no edit removed it from the shown text.
abbrev pub OwnWorkStandsOnce : Type 0
OwnWorkStandsOnce =
    (all : List Message) (life : Life) (mark : Mark) → AreAll all → Lives all life → Contains life.marks mark
    → let times = how_often mark (life.copy.work.marks ++ marks_on life.copy.sent life.copy.pad.choice.chosen) in
    (times ≤ 1) × (¬ (Contains life.gone mark) → times ≡ 1)

-- All that befalls a working copy.
use Rattle.client_own.proofs.Steps.{StepLaws}
use Rattle.std.proofs.Common.{List, []}
use Rattle.pad_text.specs.Text.{IsText}
use Rattle.pad_message.specs.declared.message.Message.{Message}
use Rattle.pad_row.specs.Own.{Adopted, MadeIsSent, NothingTyped, TypedOnce}
use Rattle.client_own.specs.Rows.{row_on, marks_on}
use Rattle.client_own.specs.Laws.{MovedStands, OwnWorkStandsOnce}
use Rattle.client_own.specs.Life.{Life, Lives, AreAll}
use Rattle.pad_model.specs.Path.{text}
use Rattle.client_own.proofs.Paths.{PathLaws}
use Rattle.client_own.proofs.Given.{MarkLaws}
use Rattle.client_own.proofs.Holding.{Holds, begins as at_first}
use Rattle.client_own.proofs.Receiving.{hears as heard}
use Rattle.client_own.proofs.Editing.{EditLaws, edits_hold}
use Rattle.client_own.proofs.Making.{makes as was_made}
use Rattle.client_own.proofs.Adopting.{adopts as was_adopted}
use Rattle.client_own.proofs.Repairing.{notes as was_noted, repairs as was_repaired}

pub record LifeLaws : Type 0 where
  pub steps : StepLaws
  pub switches : MovedStands
  pub paths : PathLaws
  pub marks : MarkLaws
  pub edits : EditLaws
  pub made_is_sent : MadeIsSent
  pub adopted : Adopted
  pub nothing : NothingTyped
  pub once : TypedOnce
  pub no_text : IsText []

pub lives_hold : LifeLaws → (all : List Message) → AreAll all → (life : Life) → Lives all life → Holds all life
lives_hold laws all are life Lives.begins = at_first laws.paths laws.nothing all are laws.no_text
lives_hold laws all are life (Lives.edits before operation after lives is) = edits_hold laws.paths laws.marks laws.edits all before are (lives_hold laws all are before lives) operation after is
lives_hold laws all are life (Lives.hears before message moved after lives has is) = heard laws.steps laws.switches laws.marks all before (lives_hold laws all are before lives) message has moved after is
lives_hold laws all are life (Lives.makes before message moved after lives has made short older is) =
    was_made laws.steps laws.switches laws.paths laws.marks laws.made_is_sent all before are (lives_hold laws all are before lives) message has made short older moved after is
lives_hold laws all are life (Lives.adopts before message after lives has may is) = was_adopted laws.paths laws.adopted all before are (lives_hold laws all are before lives) message has may after is
lives_hold laws all are life (Lives.notes before message lives) = was_noted all before message (lives_hold laws all are before lives)
lives_hold laws all are life (Lives.repairs before received found after lives among ends) =
    was_repaired laws.steps laws.switches laws.paths laws.marks laws.nothing laws.no_text all before are (lives_hold laws all are before lives) received among found after ends

pub stands_once : LifeLaws → OwnWorkStandsOnce
stands_once laws all life mark are lives typed =
    let holds = lives_hold laws all are life lives in
    laws.once life.gone life.marks (marks_on life.copy.sent life.copy.pad.choice.chosen) (text life.copy.pad.base life.copy.pad.choice.chosen)
    (row_on life.copy.pad.base life.copy.sent life.copy.pad.choice.chosen) life.copy.work mark holds.keeps.stands typed

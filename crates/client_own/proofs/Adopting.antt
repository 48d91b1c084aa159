-- A checkpoint becomes the base.
use Rattle.std.proofs.Common.{◌≡◌, inl, inr, List, [], ◌∷◌, length, refl, sym, ◌∙◌, subst, Some, All, Contains}
use Rattle.std.proofs.lemmas.List.Elements.{All-head}
use Rattle.pad_list.proofs.CallerLemmas.{contains_none}
use Rattle.pad_text.specs.Text.{IsText}
use Rattle.pad_text.specs.Hash.{document_hash}
use Rattle.pad_text.specs.declared.name.Name.{Name}
use Rattle.pad_patch.specs.declared.operation.Operation.{Operation}
use Rattle.pad_message.specs.declared.message.Message.{Message}
use Rattle.pad_message.specs.Message.{name_of}
use Rattle.pad_model.specs.declared.base.Base.{Base}
use Rattle.pad_model.specs.Base.{first_base, Gives}
use Rattle.pad_model.specs.Path.{text, IsPath, IsLinkedPath}
use Rattle.pad_model.specs.Count.{IsKnown}
use Rattle.pad_stroke.specs.Work.{Marked}
use Rattle.pad_row.specs.Own.{StandsOnce, Adopted}
use Rattle.client_work.specs.Switch.{sent_as}
use Rattle.client_copy.specs.Pad.{Pad}
use Rattle.client_copy.specs.State.{Copy}
use Rattle.client_copy.specs.Adopt.{Adopts, MayAdopt}
use Rattle.client_copy.specs.View.{IsBaseOf}
use Rattle.client_own.specs.Rows.{row_on, marks_on}
use Rattle.client_own.specs.Life.{Life, AreAll}
use Rattle.client_own.proofs.Paths.{PathLaws}
use Rattle.client_own.proofs.Holding.{Holds, counted_of, steps_by, step_by, none_best}

-- where no message is known, none is on a path, and none of one's own was made
none_linked : (pad : Pad) → ((name : Name) → ¬ (IsKnown pad.base pad.received name)) → (message : Message) (path : List Message) → ¬ (IsLinkedPath pad.base pad.received (message ∷ path))
none_linked pad none message path is = none (name_of message) (message, is.0.member, refl, is.0.not_base)

none_sent : (all : List Message) (life : Life) → Holds all life → MayAdopt life.copy.pad → (name : Name) (own : Marked) → ¬ (sent_as life.copy.sent name ≡ Some own)
none_sent all life holds may name own at =
    let found = holds.linked name (holds.keeps.since_repair may.not_repaired name own at) in
    none_linked life.copy.pad may.none_known found.0 found.1 found.3

none_made : (all : List Message) (life : Life) → Holds all life → MayAdopt life.copy.pad → (name : Name) → ¬ (Contains life.made name)
none_made all life holds may name has = let found = holds.linked name has in none_linked life.copy.pad may.none_known found.0 found.1 found.3

none_chosen : (pad : Pad) → ((name : Name) → ¬ (IsKnown pad.base pad.received name)) → (path : List Message) → IsPath pad.base pad.received path → path ≡ []
none_chosen pad none [] is = refl
none_chosen pad none (message ∷ path) is = absurd (none_linked pad none message path is.0)

-- the base is the first one
at_first : (all : List Message) → AreAll all → (base : Base) → IsBaseOf all base → base.name ≡ first_base.name → base ≡ first_base
at_first all are base (inl is) same = is
at_first all are base (inr (giver, has, gives)) same = absurd (are.names.not_base giver has (sym gives.named ∙ same))

gives_text : (all : List Message) → AreAll all → (message : Message) → Contains all message → (base : Base) → Gives message base → IsText base.text
gives_text all are message has base gives =
    All-head (λ (operation : Operation). IsText operation.insert) (record { offset = 0; remove = length base.text; insert = base.text }) []
    (subst (All (λ (operation : Operation). IsText operation.insert)) gives.adoptable.whole (are.texts message has))

pub adopts : PathLaws → Adopted → (all : List Message) (life : Life) → AreAll all → Holds all life → (message : Message) → Contains all message → MayAdopt life.copy.pad → (after : Copy) → Adopts life.copy message after
    → Holds all (record life { copy = after })
adopts laws adopted all life are holds message has may after is =
    let keeps = holds.keeps in let base = is.base in let sent = life.copy.sent in let work = life.copy.work in let hash = document_hash base.text in
    let first = at_first all are life.copy.pad.base keeps.of_all may.at_first_base in
    let nothing = none_chosen life.copy.pad may.none_known life.copy.pad.choice.chosen keeps.best.path in
    let T : Base → List Message → Type 0 = λ b path. StandsOnce life.gone life.marks (marks_on sent path) (text b path) (row_on b sent path) work in
    let there : T first_base [] = subst (λ (b : Base). T b []) first (subst (T life.copy.pad.base) nothing keeps.stands) in
    let none = none_sent all life holds may in
    let first_text = gives_text all are message has base is.gives in
    subst (λ (c : Copy). Holds all (record life { copy = c })) (sym is.state) (record {
      keeps = record {
        base_is = first_text;
        of_all = inr (message, has, is.gives);
        among = λ other member. absurd (contains_none other member);
        root = [];
        best = none_best base;
        sent_are = keeps.sent_are;
        work_given = record { counted = keeps.work_given.counted; marks = keeps.work_given.marks };
        sent_given = keeps.sent_given;
        typed_or_made = keeps.typed_or_made;
        since_repair = λ whole name own at. absurd (none name own at);
        holds = steps_by life.gone life.marks base sent all (λ other path is_path.
            step_by laws life.gone life.marks base sent all are keeps.sent_are (counted_of life.copy.strokes sent keeps.sent_given) first_text other path is_path (λ own at same. absurd (none (name_of other) own at)));
        stands = adopted life.gone life.marks base.text work hash there;
        made_here = refl;
      };
      linked = λ name made. absurd (none_made all life holds may name made);
    })

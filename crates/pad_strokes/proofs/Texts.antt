-- Strokes in turn, and the texts between them.
use Rattle.std.proofs.Common.{◌≡◌, ℕ, List, [], ◌∷◌, ◌++◌, refl, sym, ◌∙◌, ap, subst}
use Rattle.std.specs.Prelude.{reverse}
use Rattle.std.proofs.lemmas.List.{reverse-append}
use Rattle.pad_text.specs.Text.{IsText}
use Rattle.pad_patch.specs.declared.operation.Operation.{Operation}
use Rattle.pad_stroke.specs.Edit.{shown_after}
use Rattle.pad_strokes.specs.declared.stroke.Stroke.{Stroke}
use Rattle.pad_strokes.specs.Stroke.{taking_back, IsEdit, IsStroke}
use Rattle.pad_strokes.specs.Strokes.{Strokes, Undoes, LeadFrom, CanFollow}
use Rattle.pad_strokes.specs.Laws.{GivesBack, EditStands, IsUndone, UndoStands, RedoStands, ChangeStands}
use Rattle.pad_strokes.proofs.Edits.{back_gives_back}

-- the last of some strokes, and the text on which it was typed
record LastOf (from : List ℕ) (strokes : List Stroke) (stroke : Stroke) (to : List ℕ) : Type 0 where
  middle : List ℕ
  text : IsText middle
  lead : LeadFrom from strokes middle
  operation : Operation
  is_stroke : IsStroke middle operation stroke
  shows : to ≡ shown_after operation middle

last_of : (from : List ℕ) (strokes : List Stroke) (stroke : Stroke) (to : List ℕ) → IsText from → LeadFrom from (strokes ++ stroke ∷ []) to → LastOf from strokes stroke to
last_of from [] stroke to text (operation, is, shows) = record { middle = from; text = text; lead = refl; operation = operation; is_stroke = is; shows = shows }
last_of from (first ∷ strokes) stroke to text (operation, is, leads) =
    let next = (back_gives_back from operation text is.edit).0 in
    let found = last_of (shown_after operation from) strokes stroke to next leads in
    record { middle = found.middle; text = found.text; lead = (operation, is, found.lead); operation = found.operation; is_stroke = found.is_stroke; shows = found.shows }

add_last : (from : List ℕ) (strokes : List Stroke) (stroke : Stroke) (middle : List ℕ) (operation : Operation) → LeadFrom from strokes middle → IsStroke middle operation stroke
    → LeadFrom from (strokes ++ stroke ∷ []) (shown_after operation middle)
add_last from [] stroke middle operation same is =
    subst (λ text. (op : Operation) × IsStroke text op stroke × (shown_after operation middle ≡ shown_after op text)) same (operation, is, refl)
add_last from (first ∷ strokes) stroke middle operation (typed, is_first, leads) is = (typed, is_first, add_last (shown_after typed from) strokes stroke middle operation leads is)

turned : (operations : List Operation) (operation : Operation) → reverse (operations ++ operation ∷ []) ≡ operation ∷ reverse operations
turned operations operation = reverse-append operations (operation ∷ [])

pub edit_stands : EditStands
edit_stands strokes since shown number operation stands edit = record {
  text = stands.text;
  typed = add_last since strokes.done (record { number = number; back = taking_back operation shown }) shown operation stands.typed (record { edit = edit; back = refl });
  again = tt;
}

-- the text before the stroke, which takes its edit back on the text after it
undone_at : (before : Strokes) (since middle : List ℕ) (operation : Operation) (stroke : Stroke) (after : Strokes) → IsText since → IsText middle → LeadFrom since after.done middle
    → IsStroke middle operation stroke → CanFollow (shown_after operation middle) (reverse before.undone) → Undoes before (shown_after operation middle) stroke after
    → IsUndone before since (shown_after operation middle) stroke after
undone_at before since middle operation stroke after since_text text lead is again undoes = record {
  operation = operation;
  edit = subst (λ us. IsEdit us operation) (sym back_is) is.edit;
  shown_again = ap (shown_after operation) (sym back_is);
  gives_back = subst (λ us. GivesBack us operation shown stroke.back) (sym back_is) gives;
  stands = record {
    text = since_text;
    typed = subst (LeadFrom since after.done) (sym back_is) lead;
    again = subst (CanFollow (shown_after stroke.back shown)) (sym undone_is) (subst (λ us. CanFollow us (operation ∷ reverse before.undone)) (sym back_is) (is.edit, again));
  };
}
  where
    shown : List ℕ
    shown = shown_after operation middle

    gives : GivesBack middle operation shown stroke.back
    gives = subst (GivesBack middle operation shown) (sym is.back) (back_gives_back middle operation text is.edit).1

    back_is : shown_after stroke.back shown ≡ middle
    back_is = gives.before_again

    undone_is : reverse after.undone ≡ operation ∷ reverse before.undone
    undone_is =
        ap reverse (undoes.kept ∙ ap (λ (op : Operation). before.undone ++ op ∷ []) gives.again) ∙ turned before.undone operation

pub undo_stands : UndoStands
undo_stands before since shown stroke after stands undoes =
    let last = last_of since after.done stroke shown stands.text (subst (λ strokes. LeadFrom since strokes shown) undoes.last stands.typed) in
    subst (λ us. CanFollow us (reverse before.undone) → Undoes before us stroke after → IsUndone before since us stroke after) (sym last.shows)
    (λ again undoes. undone_at before since last.middle last.operation stroke after stands.text last.text last.lead last.is_stroke again undoes)
    stands.again undoes

pub redo_stands : RedoStands
redo_stands before since shown number operation after stands redoes =
    let again : CanFollow shown (operation ∷ reverse after.undone) = subst (CanFollow shown) (ap reverse redoes.last ∙ turned after.undone operation) stands.again in
    let stroke : Stroke = record { number = number; back = taking_back operation shown } in (
      again.0,
      record {
        text = stands.text;
        typed = subst (λ strokes. LeadFrom since strokes (shown_after operation shown)) (sym redoes.stroke)
            (add_last since before.done stroke shown operation stands.typed (record { edit = again.0; back = refl }));
        again = again.1;
      },
    )

pub change_stands : ChangeStands
change_stands strokes shown text = record { text = text; typed = refl; again = tt }

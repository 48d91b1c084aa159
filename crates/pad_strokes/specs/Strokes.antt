-- The strokes of a user, and the texts between them.
use Rattle.std.specs.Prelude.{◌≡◌, ℕ, ◌-◌, List, [], ◌∷◌, ◌++◌, length, map, reverse, slice_get, Option}
use Rattle.pad_text.specs.Text.{IsText}
use Rattle.pad_patch.specs.declared.operation.Operation.{Operation}
use Rattle.pad_stroke.specs.Edit.{shown_after}
use Rattle.pad_strokes.specs.declared.stroke.Stroke.{Stroke}
use Rattle.pad_strokes.specs.Stroke.{taking_back, IsEdit, IsStroke}

-- the strokes that were not undone, and those that can be redone. Another change is one that is neither an edit of the user's nor an exact undo or a redo
pub record Strokes : Type 0 where
  -- the numbers of those typed before the last other change, the oldest first
  pub earlier : List ℕ
  -- those typed since, the oldest first
  pub done : List Stroke
  -- the operations of those undone since and not redone, the one undone last at the end
  pub undone : List Operation

abbrev pub no_strokes : Strokes
no_strokes = record { earlier = []; done = []; undone = [] }

-- the last of a list
abbrev pub newest : {A : Type 0} → List A → Option A
newest items = slice_get items (length items - 1)

-- the numbers of strokes
abbrev pub numbers_of : List Stroke → List ℕ
numbers_of strokes = map (λ (stroke : Stroke). stroke.number) strokes

-- nothing can be redone
abbrev pub without_redo : Strokes → Strokes
without_redo strokes = record strokes { undone = [] }

-- another change has come
abbrev pub after_change : Strokes → Strokes
after_change strokes = record { earlier = strokes.earlier ++ numbers_of strokes.done; done = []; undone = [] }

-- the user edits the shown text, by this operation and under this number
abbrev pub after_edit : ℕ → Operation → List ℕ → Strokes → Strokes
after_edit number operation shown strokes =
    record strokes { done = strokes.done ++ record { number = number; back = taking_back operation shown } ∷ []; undone = [] }

-- the last stroke is undone exactly, where this text is shown: its operation is kept, to be redone
pub record Undoes (before : Strokes) (shown : List ℕ) (stroke : Stroke) (after : Strokes) : Type 0 where
  pub earlier : after.earlier ≡ before.earlier
  pub last : before.done ≡ after.done ++ stroke ∷ []
  pub kept : after.undone ≡ before.undone ++ taking_back stroke.back shown ∷ []

-- the stroke that was undone last is redone, where this text is shown: it has this number from now on
pub record Redoes (before : Strokes) (shown : List ℕ) (number : ℕ) (operation : Operation) (after : Strokes) : Type 0 where
  pub earlier : after.earlier ≡ before.earlier
  pub last : before.undone ≡ after.undone ++ operation ∷ []
  pub stroke : after.done ≡ before.done ++ record { number = number; back = taking_back operation shown } ∷ []

-- ---- the texts between them

-- the strokes are edits in turn, from one text to another
abbrev pub LeadFrom : List ℕ → List Stroke → List ℕ → Type 0
LeadFrom from [] to = to ≡ from
LeadFrom from (stroke ∷ strokes) to = (operation : Operation) × IsStroke from operation stroke × LeadFrom (shown_after operation from) strokes to

-- the operations are allowed edits in turn, the first one of the shown text
abbrev pub CanFollow : List ℕ → List Operation → Type 0
CanFollow shown [] = Unit {0}
CanFollow shown (operation ∷ operations) = IsEdit shown operation × CanFollow (shown_after operation shown) operations

-- the strokes stand on the shown text, where `since` is the text after the last other change: those typed since lead from that one to the shown one, and those
-- that were undone can be redone, the last one first
pub record StandOn (strokes : Strokes) (since shown : List ℕ) : Type 0 where
  pub text : IsText since
  pub typed : LeadFrom since strokes.done shown
  pub again : CanFollow shown (reverse strokes.undone)

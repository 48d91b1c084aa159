-- Texts and rows along paths of sound messages.
use Rattle.std.proofs.Common.{◌≡◌, inl, inr, ℕ, zero, suc, ◌+◌, ◌-◌, Bool, true, false, List, [], ◌∷◌, ◌++◌, length, map, replicate, take, drop, refl, sym, ◌∙◌, ap, subst, Option, Some, None, Contains, arith, append-nil}
use Rattle.std.specs.List.{flat_map}
use Rattle.std.proofs.lemmas.List.{length-replicate, length-map}
use Rattle.pad_text.specs.Text.{IsText}
use Rattle.pad_text.specs.declared.name.Name.{Name}
use Rattle.pad_patch.specs.Piece.{pieces_from, text_after, inserted}
use Rattle.pad_patch.specs.Laws.{FittingApplies, TextsStayTexts}
use Rattle.pad_patch.proofs.CallerLemmas.{units_of_piece, text_after-copy, Has, contains_has, has_contains, map_has}
use Rattle.pad_message.specs.declared.kind.Kind.TheVariants as kind
use Rattle.pad_message.specs.declared.message.Message.{Message}
use Rattle.pad_message.specs.Kind.{is_checkpoint}
use Rattle.pad_message.specs.Message.{name_of}
use Rattle.pad_model.specs.declared.base.Base.{Base}
use Rattle.pad_model.specs.Path.{text, IsPath, IsSoundOn}
use Rattle.pad_stroke.specs.declared.mark.Mark.{Mark}
use Rattle.pad_stroke.specs.Work.{Marked}
use Rattle.pad_stroke.specs.Row.{no_marks}
use Rattle.pad_row.specs.Laws.{IsCounted, RowIsAsLong, RowMarks}
use Rattle.pad_row.specs.Own.{IsOn}
use Rattle.client_work.specs.Switch.{SentWorks, sent_as}
use Rattle.client_copy.specs.View.{AreSentAs}
use Rattle.client_own.specs.Rows.{entries_of, row_on}
use Rattle.client_own.specs.Life.{AreAll}
use Rattle.client_own.proofs.Steps.{checkpoint_row, patch_row}

pub record PathLaws : Type 0 where
  pub applies : FittingApplies
  pub texts : TextsStayTexts
  pub long : RowIsAsLong
  pub row_marks : RowMarks

-- ---- a checkpoint leaves the text

copied : (t : List ℕ) → flat_map (units_of_piece t) (pieces_from 0 (length t) (record { offset = 0; remove = length t; insert = t } ∷ [])) ≡ t
copied t =
    let none : length t - (0 + length t) ≡ 0 = omega arith in
    ap (λ k. t ++ (take k (drop (0 + length t) t) ++ [])) none ∙ append-nil t

pub still : (base : Base) (message : Message) (path : List Message) → IsSoundOn base path message → is_checkpoint message.kind ≡ true → text_after message.patch (text base path) ≡ text base path
still base message path sound is =
    let t = text base path in
    text_after-copy message.patch t ∙ ap (λ ops. flat_map (units_of_piece t) (pieces_from 0 (length t) ops)) (sound.checkpoint is).1 ∙ copied t

-- ---- texts

pub is_text : PathLaws → (base : Base) (all : List Message) → AreAll all → IsText base.text → (path : List Message) → IsPath base all path → IsText (text base path)
is_text laws base all are first [] is = first
is_text laws base all are first (message ∷ path) is =
    laws.texts message.patch (text base path) (is_text laws base all are first path (is.0.1, is.1.1)) (are.texts message is.0.0.member) (laws.applies message.patch (text base path) is.1.0.fits).whole

-- ---- own messages

-- each work that was sent has one mark for each unit that it inserts
abbrev pub AreCounted : SentWorks → Type 0
AreCounted sent = (name : Name) (own : Marked) → sent_as sent name ≡ Some own → IsCounted own

-- a message of the name of an own one is that one
pub own_patch : (all : List Message) (sent : SentWorks) → AreAll all → AreSentAs all sent → (message : Message) → Contains all message → (own : Marked) → sent_as sent (name_of message) ≡ Some own
    → (message.kind ≡ kind.Patch) × (own.patch ≡ message.patch)
own_patch all sent are sent_are message has own is =
    let found = sent_are (name_of message) own is in
    let same : found.0 ≡ message = are.names.differ found.0 message found.1 has found.2 in
    (subst (λ m. m.kind ≡ kind.Patch) same found.3, sym (subst (λ m. m.patch ≡ own.patch) same found.4))

pub entries_long : (all : List Message) (sent : SentWorks) → AreAll all → AreSentAs all sent → AreCounted sent → (message : Message) → Contains all message → (o : Option Marked) → sent_as sent (name_of message) ≡ o
    → length (entries_of o message) ≡ length (inserted message.patch)
entries_long all sent are sent_are counted message has None is = length-replicate (length (inserted message.patch)) None
entries_long all sent are sent_are counted message has (Some own) is =
    length-map own.marks Some ∙ counted (name_of message) own is ∙ ap (λ p. length (inserted p)) (own_patch all sent are sent_are message has own is).1

-- ---- rows

long_by : PathLaws → (base : Base) (all : List Message) (sent : SentWorks) → AreAll all → AreSentAs all sent → AreCounted sent → (message : Message) (path : List Message) → Contains all message → IsSoundOn base path message
    → length (row_on base sent path) ≡ length (text base path) → (b : Bool) → is_checkpoint message.kind ≡ b → length (row_on base sent (message ∷ path)) ≡ length (text base (message ∷ path))
long_by laws base all sent are sent_are counted message path has sound below true is =
    ap length (checkpoint_row base sent message path is) ∙ below ∙ ap length (sym (still base message path sound is))
long_by laws base all sent are sent_are counted message path has sound below false is =
    ap length (patch_row base sent message path (sent_as sent (name_of message)) is refl)
    ∙ laws.long message.patch (text base path) (row_on base sent path) (entries_of (sent_as sent (name_of message)) message) below
    (entries_long all sent are sent_are counted message has (sent_as sent (name_of message)) refl)

pub row_long : PathLaws → (base : Base) (all : List Message) (sent : SentWorks) → AreAll all → AreSentAs all sent → AreCounted sent → (path : List Message) → IsPath base all path
    → length (row_on base sent path) ≡ length (text base path)
row_long laws base all sent are sent_are counted [] is = length-replicate (length base.text) None
row_long laws base all sent are sent_are counted (message ∷ path) is =
    long_by laws base all sent are sent_are counted message path is.0.0.member is.1.0 (row_long laws base all sent are sent_are counted path (is.0.1, is.1.1)) (is_checkpoint message.kind) refl

-- what a message on a path meets
pub is_on : PathLaws → (base : Base) (all : List Message) (sent : SentWorks) → AreAll all → AreSentAs all sent → AreCounted sent → IsText base.text → (message : Message) (path : List Message) → IsPath base all (message ∷ path)
    → IsOn message.patch (text base path) (row_on base sent path)
is_on laws base all sent are sent_are counted first message path is = record {
  is_text = is_text laws base all are first path (is.0.1, is.1.1);
  is_text_after = is_text laws base all are first (message ∷ path) is;
  texts = are.texts message is.0.0.member;
  applies = laws.applies message.patch (text base path) is.1.0.fits;
  long = row_long laws base all sent are sent_are counted path (is.0.1, is.1.1);
}

-- ---- marks of a row are those of works that were sent

-- a work that was sent has this mark
abbrev pub IsSentMark : SentWorks → Mark → Type 0
IsSentMark sent mark = (name : Name) × (own : Marked) × (sent_as sent name ≡ Some own) × Contains own.marks mark

no_mark : (size : ℕ) (mark : Mark) → ¬ (Has (Some mark) (replicate size None))
no_mark zero mark has = has
no_mark (suc size) mark (inl is) = cc
no_mark (suc size) mark (inr later) = no_mark size mark later

same_mark : (one other : Mark) → Some one ≡ Some other → one ≡ other
same_mark one other is = cc

of_entries : (sent : SentWorks) (message : Message) (mark : Mark) (o : Option Marked) → sent_as sent (name_of message) ≡ o → Contains (entries_of o message) (Some mark) → IsSentMark sent mark
of_entries sent message mark None is has = absurd (no_mark (length (inserted message.patch)) mark (contains_has (Some mark) (entries_of None message) has))
of_entries sent message mark (Some own) is has =
    let found = map_has Some (Some mark) own.marks (contains_has (Some mark) (map Some own.marks) has) in
    (name_of message, own, is, has_mark own.marks mark found)
  where
    has_mark : (marks : List Mark) (mark : Mark) → ((e : Mark) × Has e marks × (Some e ≡ Some mark)) → Contains marks mark
    has_mark marks mark (e, has, same) = subst (Contains marks) (same_mark e mark same) (has_contains e marks has)

mark_by : PathLaws → (base : Base) (all : List Message) (sent : SentWorks) → AreAll all → AreSentAs all sent → AreCounted sent → (message : Message) (path : List Message) → Contains all message → (mark : Mark)
    → (Contains (row_on base sent path) (Some mark) → IsSentMark sent mark) → (b : Bool) → is_checkpoint message.kind ≡ b → Contains (row_on base sent (message ∷ path)) (Some mark) → IsSentMark sent mark
mark_by laws base all sent are sent_are counted message path has mark below true is contains = below (subst (λ r. Contains r (Some mark)) (checkpoint_row base sent message path is) contains)
mark_by laws base all sent are sent_are counted message path has mark below false is contains =
    elim (laws.row_marks message.patch (entries_of (sent_as sent (name_of message)) message) (row_on base sent path) mark
    (entries_long all sent are sent_are counted message has (sent_as sent (name_of message)) refl)
    (subst (λ r. Contains r (Some mark)) (patch_row base sent message path (sent_as sent (name_of message)) is refl) contains)) [
      | inl new ↦ of_entries sent message mark (sent_as sent (name_of message)) refl new
      | inr old ↦ below old
    ]

pub row_mark : PathLaws → (base : Base) (all : List Message) (sent : SentWorks) → AreAll all → AreSentAs all sent → AreCounted sent → (path : List Message) → IsPath base all path → (mark : Mark)
    → Contains (row_on base sent path) (Some mark) → IsSentMark sent mark
row_mark laws base all sent are sent_are counted [] is mark contains = absurd (no_mark (length base.text) mark (contains_has (Some mark) (no_marks (length base.text)) contains))
row_mark laws base all sent are sent_are counted (message ∷ path) is mark contains =
    mark_by laws base all sent are sent_are counted message path is.0.0.member mark (row_mark laws base all sent are sent_are counted path (is.0.1, is.1.1) mark) (is_checkpoint message.kind) refl contains

-- The grounds after a move, and the works on it.
use Rattle.std.proofs.Common.{◌≡◌, ℕ, ◌+◌, ◌<◌, ◌≤◌, ◌^◌, ◌⊎◌, Bool, true, false, cond, List, [], ◌∷◌, length, refl, sym, ◌∙◌, ap, subst, inl, inr, arith, Option, Some, None}
use Rattle.std.specs.List.{All, Contains}
use Rattle.std.proofs.lemmas.List.Elements.{All-contains, All-contains_itself, All-weaker}
use Rattle.pad_text.specs.declared.name.Name.{Name}
use Rattle.pad_text.specs.Text.{IsText}
use Rattle.pad_text.specs.Hash.{document_hash}
use Rattle.pad_patch.specs.declared.operation.Operation.{Operation}
use Rattle.pad_patch.specs.declared.patch.Patch.{Patch}
use Rattle.pad_patch.specs.Inverse.{inverse}
use Rattle.pad_patch.specs.Piece.{text_after}
use Rattle.pad_patch.specs.Misfit.{CanApply, longest_text}
use Rattle.pad_patch.specs.Laws.{TextsStayTexts}
use Rattle.pad_merge.specs.Merge.{CanMergeBack}
use Rattle.pad_stroke.specs.declared.mark.Mark.{Mark}
use Rattle.pad_stroke.specs.Work.{Marked}
use Rattle.pad_stroke.specs.InTurn.{in_turn}
use Rattle.pad_stroke.specs.Through.{carried}
use Rattle.pad_stroke.specs.Strip.{stripped}
use Rattle.pad_stroke.specs.Laws.{MarksComeFromEither, StrippedMarks}
use Rattle.pad_row.specs.Pairs.{IsPairedWork, AreTyped, TurnWhole, TurnTyped, CarriedWhole, CarriedTyped, StrippedWhole, StrippedTyped, StripsWhole}
use Rattle.pad_row.specs.TakenBack.{TakenBackApplies, InverseMergesBack}
use Rattle.pad_branch.specs.declared.moved.Move.{Move}
use Rattle.pad_chain.specs.Leads.{MoveFits}
use Rattle.client_work.specs.Switch.{taken_back, without_own}
use Rattle.client_work.specs.Carrying.{Ground, behind, IsOwnWork, IsOnGround, IsCarried, TakesBack, IsInverse}
use Rattle.client_work.specs.Inside.Steps.{IsReady, MergesBack}

abbrev pub InsertsText : Operation → Type 0
InsertsText operation = IsText operation.insert

-- the stroke of the mark was given out
abbrev pub IsGiven : ℕ → Mark → Type 0
IsGiven strokes mark = mark.stroke ≤ strokes

-- what holds of each member
pub all_of : {X : Type 0} (P : X → Type 0) (xs : List X) → ((x : X) → Contains xs x → P x) → All P xs
all_of P xs each = All-weaker (Contains xs) P each xs (All-contains_itself xs)

-- a work of one's own is one on the ground behind a move
pub own_behind : (move : Move) (grounds : Ground) (work : Marked) → IsOwnWork grounds work → IsOwnWork (behind move grounds) work
own_behind move grounds work own = record { paired = own.paired; typed = own.typed; strokes = own.strokes }

pub carried_behind : (move : Move) (grounds : Ground) (own : Option Marked) → IsCarried grounds own → IsCarried (behind move grounds) own
carried_behind move grounds None is = tt
carried_behind move grounds (Some work) is = own_behind move grounds work is

-- the text after a move that fits is one
pub text_behind : TextsStayTexts → (move : Move) (text : List ℕ) → All InsertsText move.patch.ops → IsText text → MoveFits move text → IsText (text_after move.patch text)
text_behind stay move text texts is fits = stay move.patch text is texts fits.applies.whole

-- a checkpoint leaves the ground
pub ground_stays : (move : Move) (grounds : Ground) (work : Marked) → text_after move.patch grounds.text ≡ grounds.text → IsOnGround grounds work → IsOnGround (behind move grounds) work
ground_stays move grounds work same on = record {
  is_text = subst IsText (sym same) on.is_text;
  short = subst (λ (t : List ℕ). length t ≤ longest_text) (sym same) on.short;
  applies = subst (CanApply work.patch) (sym same) on.applies;
  own = own_behind move grounds work on.own;
}

-- two texts are short together
pub both_short : (first second : List ℕ) → length first ≤ longest_text → length second ≤ longest_text → length first + length second < 2 ^ 32
both_short first second a b = omega arith

pub short_fits : (text : List ℕ) → length text ≤ longest_text → length text < 2 ^ 32
short_fits text short = omega arith

pub size_fits : (size : ℕ) (text : List ℕ) → size ≡ length text → length text ≤ longest_text → size < 2 ^ 32
size_fits size text long short = omega arith

-- a carried work is one's own
pub carried_own : CarriedWhole → CarriedTyped → (grounds : Ground) (move : Move) (hash : Name) (work : Marked) → IsOwnWork grounds work → IsOwnWork (behind move grounds) (carried work move.patch hash)
unfolding carried
carried_own whole typed grounds move hash work own = record {
  paired = whole work move.patch hash own.paired;
  typed = typed work move.patch hash grounds.typed own.typed;
  strokes = own.strokes;
}

pub carried_on_ground : TextsStayTexts → CarriedWhole → CarriedTyped → (grounds : Ground) (move : Move) (hash : Name) (work : Marked) → All InsertsText move.patch.ops → IsReady grounds move hash work
    → CanApply (carried work move.patch hash).patch (text_after move.patch grounds.text) → IsOnGround (behind move grounds) (carried work move.patch hash)
carried_on_ground stay whole typed grounds move hash work texts ready applies = record {
  is_text = text_behind stay move grounds.text texts ready.on_ground.is_text ready.fits;
  short = ready.fits.short;
  applies = applies;
  own = carried_own whole typed grounds move hash work ready.on_ground.own;
}

-- two works in turn are one's own
marks_given : (strokes : ℕ) (first second : Marked) (mark : Mark) → All (IsGiven strokes) first.marks → All (IsGiven strokes) second.marks
    → Contains first.marks mark ⊎ Contains second.marks mark → IsGiven strokes mark
marks_given strokes first second mark a b which =
    elim which [ inl h ↦ All-contains (IsGiven strokes) first.marks mark a h | inr h ↦ All-contains (IsGiven strokes) second.marks mark b h ]

pub turn_on_ground : TextsStayTexts → TakenBackApplies → TurnWhole → TurnTyped → MarksComeFromEither → (grounds : Ground) (own : Marked) (move : Move) (size : ℕ) (work : Marked)
    → All InsertsText move.patch.ops → MergesBack grounds own move size work
    → ((text : List ℕ) → length text ≡ size → CanApply own.patch text → CanApply work.patch (text_after own.patch text) → CanApply (in_turn own work size).patch text)
    → IsOnGround (behind move grounds) (in_turn own work size)
turn_on_ground stay back whole typed marks grounds own move size work texts merges applies =
    let after : List ℕ = text_after move.patch grounds.text in
    let both = back own.patch move.patch work.patch grounds.text merges.on_ground.is_text merges.is_own.paired.texts texts merges.fits.applies merges.on_ground.applies
    (subst (CanMergeBack own.patch move.patch work.patch) merges.long merges.merges) in
    record {
      is_text = text_behind stay move grounds.text texts merges.on_ground.is_text merges.fits;
      short = merges.fits.short;
      applies = applies after (sym merges.long) both.0 both.1;
      own = record {
        paired = whole own work size merges.merges.merges merges.is_own.paired merges.on_ground.own.paired;
        typed = typed own work size grounds.typed merges.is_own.paired.counted merges.on_ground.own.paired.counted merges.is_own.typed merges.on_ground.own.typed;
        strokes = all_of (IsGiven grounds.strokes) (in_turn own work size).marks
            (λ mark has. marks_given grounds.strokes own work mark merges.is_own.strokes merges.on_ground.own.strokes
            (marks own work size mark merges.is_own.paired.counted merges.on_ground.own.paired.counted has));
      };
    }

-- a stripped work is one's own
pub stripped_on_ground : StripsWhole → StrippedWhole → StrippedTyped → StrippedMarks → (grounds : Ground) (work own : Marked) → IsOnGround grounds work → IsOwnWork grounds own
    → CanApply (stripped work own).patch grounds.text → IsOnGround grounds (stripped work own)
stripped_on_ground strips whole typed marks grounds work own on is_own applies = record {
  is_text = on.is_text;
  short = on.short;
  applies = applies;
  own = record {
    paired = whole work own on.own.paired (strips work own grounds.typed on.own.paired is_own.paired on.own.typed is_own.typed);
    typed = typed work own grounds.typed on.own.paired.counted on.own.typed;
    strokes = all_of (IsGiven grounds.strokes) (stripped work own).marks
        (λ mark has. All-contains (IsGiven grounds.strokes) work.marks mark on.own.strokes ((marks work own mark).0 has).0);
  };
}

-- ---- one move

pub not_both : (b : Bool) → b ≡ true → b ≡ false → ⊥
not_both b p q = cc

is_then : (b : Bool) (first second : Marked) → b ≡ true → first ≡ cond b first second
is_then b first second is = subst (λ (t : Bool). first ≡ cond t first second) (sym is) refl

is_else : (b : Bool) (first second : Marked) → b ≡ false → second ≡ cond b first second
is_else b first second is = subst (λ (t : Bool). second ≡ cond t first second) (sym is) refl

-- a checkpoint leaves the work
pub checkpoint_leaves : (b : Bool) (work other : Marked) → b ≡ true → work ≡ cond b work other
checkpoint_leaves b work other is = is_then b work other is

-- what was sent is one's own, and what takes it back is its inverse
pub own_of : (grounds : Ground) (o : Option Marked) (own : Marked) → o ≡ Some own → IsCarried grounds o → IsOwnWork grounds own
own_of grounds o own is carried = subst (IsCarried grounds) is carried

pub takes_of : (move : Move) (text : List ℕ) (o : Option Marked) (own : Marked) → o ≡ Some own → IsInverse o move text → TakesBack own move text
takes_of move text o own is inverse = subst (λ (p : Option Marked). IsInverse p move text) is inverse

-- if it is, the work that was sent can be merged back
pub merges_taken : InverseMergesBack → (grounds : Ground) (own : Marked) (move : Move) (size : ℕ) (hash : Name) (work : Marked) → IsReady grounds move hash work
    → size ≡ length (text_after move.patch grounds.text) → TakesBack own move grounds.text → CanMergeBack own.patch move.patch work.patch size
merges_taken law grounds own move size hash work ready long takes =
    let before : List ℕ = text_after move.patch grounds.text in
    let merges : CanMergeBack own.patch (inverse own.patch before) work.patch (length before)
    = law own.patch work.patch before takes.applies (subst (CanApply work.patch) takes.was ready.on_ground.applies) in
    subst (λ (p : Patch). CanMergeBack own.patch p work.patch size) (sym takes.inverse_of)
    (subst (λ (n : ℕ). CanMergeBack own.patch (inverse own.patch before) work.patch n) (sym long) merges)

-- an own message is taken back, or another's
pub taken_own : (b : Bool) (o : Option Marked) (own : Marked) (move : Move) (text : List ℕ) (size : ℕ) (work next : Marked) → b ≡ false → o ≡ Some own → size ≡ length text
    → next ≡ in_turn own work size → next ≡ cond b work (taken_back o move text work)
taken_own b o own move text size work next plain is long same =
    same ∙ ap (in_turn own work) long ∙ ap (λ (p : Option Marked). taken_back p move text work) (sym is) ∙ is_else b work (taken_back o move text work) plain

pub taken_other : (b : Bool) (o : Option Marked) (move : Move) (text : List ℕ) (hash : Name) (work next : Marked) → b ≡ false → o ≡ None → hash ≡ document_hash text
    → next ≡ carried work move.patch hash → next ≡ cond b work (taken_back o move text work)
taken_other b o move text hash work next plain is after same =
    same ∙ ap (carried work move.patch) after ∙ ap (λ (p : Option Marked). taken_back p move text work) (sym is) ∙ is_else b work (taken_back o move text work) plain

-- an own message comes, or another's
pub came_own : (b : Bool) (o : Option Marked) (own : Marked) (move : Move) (hash : Name) (work middle next : Marked) → b ≡ false → o ≡ Some own → middle ≡ stripped work own
    → next ≡ carried middle move.patch hash → next ≡ cond b work (carried (without_own o work) move.patch hash)
came_own b o own move hash work middle next plain is without same =
    same ∙ ap (λ (w : Marked). carried w move.patch hash) without ∙ ap (λ (p : Option Marked). carried (without_own p work) move.patch hash) (sym is)
    ∙ is_else b work (carried (without_own o work) move.patch hash) plain

pub came_other : (b : Bool) (o : Option Marked) (move : Move) (hash : Name) (work next : Marked) → b ≡ false → o ≡ None → next ≡ carried work move.patch hash
    → next ≡ cond b work (carried (without_own o work) move.patch hash)
came_other b o move hash work next plain is same =
    same ∙ ap (λ (p : Option Marked). carried (without_own p work) move.patch hash) (sym is) ∙ is_else b work (carried (without_own o work) move.patch hash) plain

-- A work that was typed at once, and the ground after moves that lead on.
use Rattle.std.proofs.Common.{◌≡◌, ◌≢◌, ℕ, ◌≤◌, ◌⊎◌, inl, inr, List, [], ◌∷◌, length, Contains, Bool, true, false, cond, is_eq, Option, Some, None, refl, sym, ap, ◌∙◌, subst, arith}
use Rattle.std.specs.Prelude.{slice_get}
use Rattle.std.specs.Map.{lookup}
use Rattle.std.specs.BTreeMap.{BTreeMap, is_at, Updates}
use Rattle.std.proofs.lemmas.Option.{slice_get_within}
use Rattle.std.proofs.lemmas.List.Elements.{All-weaker}
use Rattle.pad_text.specs.declared.name.Name.{Name}
use Rattle.pad_text.specs.Text.{IsText}
use Rattle.pad_text.specs.Hash.{document_hash}
use Rattle.pad_patch.specs.declared.operation.Operation.{Operation}
use Rattle.pad_patch.specs.Piece.{text_after, inserted}
use Rattle.pad_patch.specs.Misfit.{CanApply, longest_text}
use Rattle.pad_merge.specs.Merge.{CanMerge}
use Rattle.pad_merge.specs.Laws.{AppliedPatchesMerge}
use Rattle.pad_stroke.specs.declared.mark.Mark.{Mark}
use Rattle.pad_stroke.specs.Work.{Marked, empty}
use Rattle.pad_stroke.specs.Edit.{IsAllowed, typed, edited}
use Rattle.pad_stroke.specs.Laws.{MarksComeFromEither}
use Rattle.pad_row.specs.Pairs.{IsPairedWork, TurnWhole, TurnTyped}
use Rattle.pad_row.specs.Edits.{with_stroke, AllowedApplies, TypedWhole, MarksOfStroke, EditTyped, OthersStayTyped}
use Rattle.pad_graph.specs.State.{name_cmp}
use Rattle.pad_branch.specs.declared.moved.Move.{Move}
use Rattle.pad_chain.specs.Leads.{Leads}
use Rattle.client_work.specs.Switch.{SentWorks, sent_as}
use Rattle.client_work.specs.Carrying.{Ground, behind_all, IsOwnWork, IsOnGround, IsCarried, AreCarried, AreReady}
use Rattle.client_work.proofs.Grounds.{InsertsText, IsGiven, all_of}

no_member : {X : Type 0} (xs : List X) (place : ℕ) (x : X) → xs ≡ [] → slice_get xs place ≡ Some x → ⊥
no_member xs place x none at = omega (arith, slice_get_within xs place x at, ap length none)

nothing_in : {X : Type 0} (x : X) → Contains [] x → ⊥
nothing_in x h = omega (arith, h.1)

-- a work without operations can be applied, and is one's own
pub empty_applies : (hash : Name) (text : List ℕ) → CanApply (empty hash).patch text
empty_applies hash text = record {
  ordered = λ index (earlier, later, before, e, first, second, low). no_member (empty hash).patch.ops before earlier refl first;
  inside = λ index (operation, is, late). no_member (empty hash).patch.ops index operation refl is;
  whole = λ index (operation, is, cut). no_member (empty hash).patch.ops index operation refl is;
}

empty_whole : (hash : Name) → IsPairedWork (empty hash)
empty_whole hash = record {
  texts = all_of InsertsText (empty hash).patch.ops (λ operation has. absurd (nothing_in operation has));
  counted = refl;
  paired = λ place high low first second at after is_high is_low m n. absurd (no_member (inserted (empty hash).patch) place high refl at);
}

-- what was typed into a text to which nothing was done
pub typed_own : AppliedPatchesMerge → AllowedApplies → TypedWhole → MarksOfStroke → EditTyped → TurnWhole → TurnTyped → MarksComeFromEither → (units : Mark → ℕ) (text : List ℕ) (hash : Name) (operation : Operation) (stroke : ℕ)
    → IsText operation.insert → IsAllowed (text_after (empty hash).patch text) operation
    → IsOwnWork (record { text = text; typed = with_stroke units stroke operation.insert; strokes = stroke }) (edited (empty hash) operation stroke (length text))
typed_own merge applies whole of_stroke is_typed turn_whole turn_typed either units text hash operation stroke is_text allowed = record {
  paired = turn_whole (empty hash) new (length text) merges (empty_whole hash) new_whole;
  typed = turn_typed (empty hash) new (length text) (with_stroke units stroke operation.insert) refl new_whole.counted refl (is_typed units (empty hash) operation stroke);
  strokes = all_of (IsGiven stroke) (edited (empty hash) operation stroke (length text)).marks
      (λ mark has. given mark (either (empty hash) new (length text) mark refl new_whole.counted has));
}
  where
    new : Marked
    new = typed (empty hash) operation stroke

    new_whole : IsPairedWork (typed (empty hash) operation stroke)
    new_whole = whole (empty hash) operation stroke is_text

    merges : CanMerge (empty hash).patch (typed (empty hash) operation stroke).patch (length text)
    merges = merge (empty hash).patch (typed (empty hash) operation stroke).patch text (empty_applies hash text) (applies (empty hash) operation stroke (text_after (empty hash).patch text) allowed)

    given : (mark : Mark) → Contains (empty hash).marks mark ⊎ Contains (typed (empty hash) operation stroke).marks mark → IsGiven stroke mark
    given mark (inl none) = absurd (nothing_in mark none)
    given mark (inr has) = omega (arith, ((of_stroke stroke (length operation.insert) mark).0 has).0)

-- it stays one's own where another letter is typed later
pub earlier_own : OthersStayTyped → (units : Mark → ℕ) (insert text other : List ℕ) (own : Marked) → IsOwnWork (record { text = text; typed = units; strokes = 1 }) own
    → IsOwnWork (record { text = other; typed = with_stroke units 2 insert; strokes = 2 }) own
earlier_own stay units insert text other own is = record {
  paired = is.paired;
  typed = stay units 2 insert own (All-weaker (IsGiven 1) (λ (mark : Mark). mark.stroke ≢ 2) (λ mark low two. omega (arith, low, two)) own.marks is.strokes) is.typed;
  strokes = All-weaker (IsGiven 1) (IsGiven 2) (λ mark low. omega (arith, low)) own.marks is.strokes;
}

-- the one work that was sent is one's own
pub one_carried : (old new : BTreeMap Name Marked) (name : Name) (own : Marked) → Updates name_cmp old new name (Some own) → old.entries ≡ [] → (grounds : Ground) → IsOwnWork grounds own → AreCarried grounds new.entries
one_carried old new name own updates none grounds is other = subst (IsCarried grounds) (sym at) (go (is_eq (name_cmp name other)))
  where
    before : sent_as old.entries other ≡ None
    before = ap (λ (entries : List (Name × Marked)). lookup (is_at (name_cmp other)) entries) none

    at : sent_as new.entries other ≡ cond (is_eq (name_cmp name other)) (Some own) None
    at = updates.0 other ∙ ap (λ (o : Option Marked). cond (is_eq (name_cmp name other)) (Some own) o) before

    go : (t : Bool) → IsCarried grounds (cond t (Some own) None)
    go true = is
    go false = tt

-- the ground after moves that lead to a text
pub behind_is : (moves : List Move) (from to : List ℕ) (units : Mark → ℕ) (strokes : ℕ) → Leads moves from to → behind_all moves (record { text = from; typed = units; strokes = strokes }) ≡ record { text = to; typed = units; strokes = strokes }
behind_is [] from to units strokes same = ap (λ (text : List ℕ). record { text = text; typed = units; strokes = strokes }) same
behind_is (move ∷ moves) from to units strokes leads = behind_is moves (text_after move.patch from) to units strokes leads.1

-- it stands on that text
pub letter_on_ground : AppliedPatchesMerge → AllowedApplies → TypedWhole → MarksOfStroke → EditTyped → TurnWhole → TurnTyped → MarksComeFromEither
    → (units : Mark → ℕ) (text shown letter : List ℕ) (hash : Name) (operation : Operation) (stroke : ℕ) (begun work : Marked)
    → shown ≡ text → IsText shown → length shown ≤ longest_text → operation.insert ≡ letter → IsText operation.insert → begun ≡ empty hash
    → IsAllowed (text_after begun.patch shown) operation → work ≡ edited begun operation stroke (length shown) → CanApply work.patch shown
    → IsOnGround (record { text = text; typed = with_stroke units stroke letter; strokes = stroke }) work
letter_on_ground merge applies whole of_stroke is_typed turn_whole turn_typed either units text shown letter hash operation stroke begun work same is_text short is insert_is_text from_empty allowed is_edited can = record {
  is_text = subst IsText same is_text;
  short = subst (λ (t : List ℕ). length t ≤ longest_text) same short;
  applies = subst (CanApply work.patch) same can;
  own = subst (λ (i : List ℕ). IsOwnWork (record { text = text; typed = with_stroke units stroke i; strokes = stroke }) work) is
      (subst (IsOwnWork (record { text = text; typed = with_stroke units stroke operation.insert; strokes = stroke })) (sym now)
      (typed_own merge applies whole of_stroke is_typed turn_whole turn_typed either units text hash operation stroke insert_is_text
      (subst (λ (t : List ℕ). IsAllowed (text_after (empty hash).patch t) operation) same (subst (λ (b : Marked). IsAllowed (text_after b.patch shown) operation) from_empty allowed))));
}
  where
    now : work ≡ edited (empty hash) operation stroke (length text)
    now = is_edited ∙ (ap (λ (b : Marked). edited b operation stroke (length shown)) from_empty ∙ ap (λ (t : List ℕ). edited (empty hash) operation stroke (length t)) same)

-- works are one's own on any text
pub own_elsewhere : (from to : List ℕ) (units : Mark → ℕ) (strokes : ℕ) (own : Option Marked)
    → IsCarried (record { text = from; typed = units; strokes = strokes }) own → IsCarried (record { text = to; typed = units; strokes = strokes }) own
own_elsewhere from to units strokes None is = tt
own_elsewhere from to units strokes (Some work) is = record { paired = is.paired; typed = is.typed; strokes = is.strokes }

-- what a chain says of the moves of a message is what a carrying asks
pub ready_for : (moves : List Move) (from to : List ℕ) (units : Mark → ℕ) (strokes : ℕ) (sent : SentWorks) (size : ℕ) (end : Name) (work : Marked)
    → Leads moves from to → size ≡ length from → end ≡ document_hash to → IsOnGround (record { text = from; typed = units; strokes = strokes }) work
    → AreCarried (record { text = from; typed = units; strokes = strokes }) sent → AreReady (record { text = from; typed = units; strokes = strokes }) sent moves size end work
ready_for moves from to units strokes sent size end work leads long last on carried = record {
  leads = subst (λ (grounds : Ground). Leads moves from grounds.text) (sym behind) leads;
  long = long;
  last = last ∙ ap (λ (grounds : Ground). document_hash grounds.text) (sym behind);
  on_ground = on;
  carried = carried;
}
  where
    behind : behind_all moves (record { text = from; typed = units; strokes = strokes }) ≡ record { text = to; typed = units; strokes = strokes }
    behind = behind_is moves from to units strokes leads

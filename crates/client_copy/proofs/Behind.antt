-- The ground behind moves, and works on it.
use Rattle.std.proofs.Common.{◌≡◌, ℕ, ◌<◌, ◌≤◌, ◌^◌, List, [], ◌∷◌, length, refl, sym, ◌∙◌, ap, subst, arith, Option, Some, None}
use Rattle.std.specs.List.{All}
use Rattle.std.proofs.lemmas.List.Elements.{All-nil}
use Rattle.pad_text.specs.declared.name.Name.{Name}
use Rattle.pad_text.specs.Text.{IsText}
use Rattle.pad_text.specs.Hash.{document_hash}
use Rattle.pad_patch.specs.declared.operation.Operation.{Operation}
use Rattle.pad_patch.specs.Piece.{text_after}
use Rattle.pad_patch.specs.Misfit.{longest_text}
use Rattle.pad_stroke.specs.declared.mark.Mark.{Mark}
use Rattle.pad_stroke.specs.Work.{Marked, empty}
use Rattle.pad_branch.specs.declared.moved.Move.{Move}
use Rattle.pad_chain.specs.Leads.{Leads}
use Rattle.client_work.specs.Switch.{SentWorks, sent_as}
use Rattle.client_work.specs.Carrying.{Ground, behind_all, IsOnGround, IsCarried, AreCarried, AreReady}
use Rattle.client_copy.specs.Held.{IsHeldOn}

abbrev pub InsertsText : Operation → Type 0
InsertsText operation = IsText operation.insert

-- the stroke of the mark was given out
abbrev pub IsGiven : ℕ → Mark → Type 0
IsGiven strokes mark = mark.stroke ≤ strokes

abbrev pub ground_on : List ℕ → (Mark → ℕ) → ℕ → Ground
ground_on text typed strokes = record { text = text; typed = typed; strokes = strokes }

-- a text that is short enough has fewer than 2^32 units
pub short_fits : (text : List ℕ) → length text ≤ longest_text → length text < 2 ^ 32
short_fits text short = omega arith

-- the ground behind moves is that on the text to which they lead
pub behind_is : (moves : List Move) (text to : List ℕ) (typed : Mark → ℕ) (strokes : ℕ) → Leads moves text to → behind_all moves (ground_on text typed strokes) ≡ ground_on to typed strokes
behind_is [] text to typed strokes leads = ap (λ (t : List ℕ). ground_on t typed strokes) leads
behind_is (move ∷ moves) text to typed strokes leads = behind_is moves (text_after move.patch text) to typed strokes leads.1

-- what carrying asks
pub ready_of : (text to : List ℕ) (work : Marked) (sent : SentWorks) (strokes : ℕ) (moves : List Move) (size : ℕ) (end : Name) (held : IsHeldOn text work sent strokes) → Leads moves text to
    → size ≡ length text → end ≡ document_hash to → AreReady (ground_on text held.typed strokes) sent moves size end work
ready_of text to work sent strokes moves size end held leads long last =
    let same : (behind_all moves (ground_on text held.typed strokes)).text ≡ to = ap (λ (g : Ground). g.text) (behind_is moves text to held.typed strokes leads) in
    record {
      leads = subst (Leads moves text) (sym same) leads;
      long = long;
      last = last ∙ ap document_hash (sym same);
      on_ground = held.work_is;
      carried = held.sent_are;
    }

-- what was sent is carried on each text
carried_to : (text to : List ℕ) (typed : Mark → ℕ) (strokes : ℕ) (own : Option Marked) → IsCarried (ground_on text typed strokes) own → IsCarried (ground_on to typed strokes) own
carried_to text to typed strokes None is = tt
carried_to text to typed strokes (Some own) is = record { paired = is.paired; typed = is.typed; strokes = is.strokes }

pub sent_to : (text to : List ℕ) (typed : Mark → ℕ) (strokes : ℕ) (sent : SentWorks) → AreCarried (ground_on text typed strokes) sent → AreCarried (ground_on to typed strokes) sent
sent_to text to typed strokes sent are name = carried_to text to typed strokes (sent_as sent name) (are name)

pub none_some : {X : Type 0} (x : X) → None ≡ Some x → ⊥
none_some x is = cc

-- a work without operations stands on each text
pub empty_on : (text : List ℕ) (typed : Mark → ℕ) (strokes : ℕ) (hash : Name) → IsText text → length text ≤ longest_text → IsOnGround (ground_on text typed strokes) (empty hash)
empty_on text typed strokes hash is short = record {
  is_text = is;
  short = short;
  applies = record {
    ordered = λ index overlaps. none_some overlaps.0 overlaps.4;
    inside = λ index ends. none_some ends.0 ends.1;
    whole = λ index cuts. none_some cuts.0 cuts.1;
  };
  own = record {
    paired = record { texts = All-nil InsertsText; counted = refl; paired = λ place high low first second is_high is_low high_is low_is first_is second_is. absurd (none_some high is_high) };
    typed = refl;
    strokes = All-nil (IsGiven strokes);
  };
}

-- the work comes along to the text to which the moves lead, or is an empty one there
pub along_held : (text to : List ℕ) (work : Marked) (sent : SentWorks) (strokes : ℕ) (moves : List Move) (size : ℕ) (end : Name) (spare new : Marked) → IsHeldOn text work sent strokes
    → Leads moves text to → size ≡ length text → end ≡ document_hash to → IsText to → length to ≤ longest_text → spare ≡ empty end
    → ((grounds : Ground) → AreReady grounds sent moves size end work → IsOnGround (behind_all moves grounds) spare → IsOnGround (behind_all moves grounds) new)
    → (spare.patch.before ≡ end → new.patch.before ≡ end) → IsHeldOn to new sent strokes
along_held text to work sent strokes moves size end spare new held leads long last is short spare_is stands made =
    let same = behind_is moves text to held.typed strokes leads in
    let spare_on = subst (λ (w : Marked). IsOnGround (ground_on to held.typed strokes) w) (sym spare_is) (empty_on to held.typed strokes end is short) in
    record {
      typed = held.typed;
      work_is = subst (λ (g : Ground). IsOnGround g new) same
          (stands (ground_on text held.typed strokes) (ready_of text to work sent strokes moves size end held leads long last)
          (subst (λ (g : Ground). IsOnGround g spare) (sym same) spare_on));
      sent_are = sent_to text to held.typed strokes sent held.sent_are;
      made = made (ap (λ (w : Marked). w.patch.before) spare_is) ∙ last;
    }

-- a work without operations removes nothing
pub removes_none : (work : Marked) (hash : Name) → work ≡ empty hash → All (λ (operation : Operation). operation.remove ≡ 0) work.patch.ops
removes_none work hash is = subst (λ (w : Marked). All (λ (operation : Operation). operation.remove ≡ 0) w.patch.ops) (sym is) (All-nil (λ (operation : Operation). operation.remove ≡ 0))

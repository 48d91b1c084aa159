-- The work is moved from the empty text to another one.
use Rattle.std.proofs.Common.{◌≡◌, ℕ, ◌<◌, ◌≤◌, inr, true, false, true≢false, List, [], ◌∷◌, suc, length, refl, sym, ◌∙◌, ap, subst, arith, Some}
use Rattle.std.specs.Prelude.{slice_get}
use Rattle.std.specs.List.{All, Contains}
use Rattle.std.proofs.lemmas.List.Elements.{All-nil, All-cons, Contains-append_left, Contains-push}
use Rattle.pad_text.specs.declared.name.Name.{Name}
use Rattle.pad_text.specs.Text.{IsText}
use Rattle.pad_text.specs.Hash.{document_hash}
use Rattle.pad_patch.specs.declared.operation.Operation.{Operation}
use Rattle.pad_patch.specs.declared.patch.Patch.{Patch}
use Rattle.pad_patch.specs.Piece.{end_of}
use Rattle.pad_patch.specs.Misfit.{CanApply, longest_text}
use Rattle.pad_message.specs.declared.kind.Kind.{Kind}
use Rattle.pad_message.specs.declared.kind.Kind.TheVariants as kind
use Rattle.pad_message.specs.declared.message.Message.{Message}
use Rattle.pad_message.specs.Adopt.{CanAdopt, IsAdoptableWith}
use Rattle.pad_message.specs.Kind.{is_checkpoint}
use Rattle.pad_message.specs.Message.{name_of}
use Rattle.pad_model.specs.declared.base.Base.{Base}
use Rattle.pad_model.specs.Base.{Gives}
use Rattle.pad_model.specs.Choice.{first_choice}
use Rattle.pad_stroke.specs.Work.{Marked, moved_to}
use Rattle.pad_row.specs.Pairs.{IsPairedWork, AreTyped, MovedWhole, MovedTyped}
use Rattle.pad_chain.specs.Tie.{StandsFor}
use Rattle.client_work.specs.Switch.{SentWorks, sent_as}
use Rattle.client_copy.specs.Held.{IsHeldOn}
use Rattle.client_copy.specs.Pad.{begun}
use Rattle.client_copy.specs.State.{Copy}
use Rattle.client_copy.specs.Adopt.{Adopts}
use Rattle.client_copy.specs.View.{View, StandsAs}
use Rattle.client_copy.proofs.Behind.{sent_to}
use Rattle.client_copy.proofs.Following.{sent_among}

abbrev pub RemovesNothing : Operation → Type 0
RemovesNothing operation = operation.remove ≡ 0

ends_at_once : (operation : Operation) → (0 < end_of operation → ⊥) → operation.remove ≡ 0
ends_at_once operation none = omega arith

none_removed : (operations : List Operation) → ((index : ℕ) (operation : Operation) → slice_get operations index ≡ Some operation → operation.remove ≡ 0) → All RemovesNothing operations
none_removed [] each = All-nil RemovesNothing
none_removed (operation ∷ operations) each =
    All-cons RemovesNothing operation operations (each 0 operation refl) (none_removed operations (λ index other is. each (suc index) other is))

-- a work on the empty text removes nothing
pub nothing_removed : (patch : Patch) → CanApply patch [] → All RemovesNothing patch.ops
nothing_removed patch can = none_removed patch.ops (λ index operation is. ends_at_once operation (λ some. can.inside index (operation, is, some)))

pub moved_held : MovedWhole → MovedTyped → (text to : List ℕ) (work : Marked) (sent : SentWorks) (strokes : ℕ) (hash : Name) (new : Marked) → IsHeldOn text work sent strokes → IsText to
    → length to ≤ longest_text → hash ≡ document_hash to → new ≡ moved_to work hash → CanApply new.patch to → IsHeldOn to new sent strokes
moved_held whole typed text to work sent strokes hash new held is short hash_is new_is applies =
    let own = held.work_is.own in
    record {
      typed = held.typed;
      work_is = record {
        is_text = is;
        short = short;
        applies = applies;
        own = record {
          paired = subst (λ (w : Marked). IsPairedWork w) (sym new_is) (whole work hash own.paired);
          typed = subst (λ (w : Marked). AreTyped held.typed w) (sym new_is) (typed work hash held.typed own.typed);
          strokes = subst (λ (w : Marked). All (λ mark. mark.stroke ≤ strokes) w.marks) (sym new_is) own.strokes;
        };
      };
      sent_are = sent_to text to held.typed strokes sent held.sent_are;
      made = ap (λ (w : Marked). w.patch.before) new_is ∙ hash_is;
    }

-- ---- the message that becomes the base

gives_by : (message : Message) (units : List ℕ) (k : Kind) → message.kind ≡ k → is_checkpoint k ≡ true → IsAdoptableWith message units → (base : Base) × Gives message base
gives_by message units kind.Patch is checkpoint adoptable = absurd (true≢false (sym checkpoint))
gives_by message units (kind.Checkpoint interval) is checkpoint adoptable =
    (record { name = name_of message; text = units; interval = interval }, record { adoptable = adoptable; named = refl; timed = is })

-- it gives a base if it can be one
pub gives_of : (message : Message) → CanAdopt message → (base : Base) × Gives message base
gives_of message can = gives_by message can.0 message.kind refl can.1.checkpoint can.1

none_in : (message : Message) → Contains [] message → ⊥
none_in message has = omega (arith, has.1)

pub adopted_stands : (old new : View) (copy : Copy) (message : Message) (base : Base) (hash : Name) → Gives message base → StandsAs old copy → StandsFor new.pad.chain base [] first_choice
    → new.pad.chain.whole ≡ false → new.pad.base ≡ base.name → new.pad.repaired ≡ false → hash ≡ document_hash base.text → new.work ≡ moved_to old.work hash → new.sent ≡ old.sent
    → new.strokes ≡ old.strokes → (after : Copy) × Adopts copy message after × StandsAs new after
adopted_stands old new copy message base hash gives stands chain whole base_is repaired hash_is work sent strokes = (
  record copy { pad = begun (message ∷ copy.pad.all) base; work = moved_to copy.work (document_hash base.text) },
  record { base = base; gives = gives; state = refl },
  record {
    pad = record {
      stands = chain;
      base = base_is;
      whole = whole;
      repaired = repaired;
      of_all = inr (message, Contains-append_left (message ∷ []) copy.pad.all message (Contains-push [] message), gives);
      among_all = λ other has. absurd (none_in other has);
    };
    sent = λ name. ap (λ (s : SentWorks). sent_as s name) sent ∙ stands.sent name;
    are_sent = sent_among message copy.pad.all copy.sent stands.are_sent;
    work = work ∙ ap (moved_to old.work) hash_is ∙ ap (λ (w : Marked). moved_to w (document_hash base.text)) stands.work;
    strokes = strokes ∙ stands.strokes;
  },
)

-- An edit of the working copy is one of the client.
use Rattle.std.proofs.Common.{◌≡◌, ◌+◌, false, Option, List, ℕ, length, refl, sym, ◌∙◌, ap, subst}
use Rattle.pad_patch.specs.declared.operation.Operation.{Operation}
use Rattle.pad_patch.specs.Piece.{text_after}
use Rattle.pad_stroke.specs.declared.edit_refused.EditRefused as stroke
use Rattle.pad_stroke.specs.declared.edit_refused.EditRefused.TheVariants as work
use Rattle.pad_stroke.specs.Edit.{IsAllowed, IsCause, edited}
use Rattle.pad_stroke.specs.Work.{Marked}
use Rattle.client_work.specs.Switch.{sent_as}
use Rattle.client_copy.specs.State.{Copy}
use Rattle.client_copy.specs.Pad.{committed}
use Rattle.client_copy.specs.Calls as copies
use Rattle.client_copy.specs.View as seen
use Rattle.client_copy.specs.View.{HeldPad}
use Rattle.client_requests.specs.State as requested
use Rattle.client_requests.specs.State.{repairs}
use Rattle.pad_client.specs.State.{ClientState}
use Rattle.pad_client.specs.Refusal.{IsEditCause}
use Rattle.pad_client.specs.Calls.{Edits}
use Rattle.pad_client.specs.Inside.Refused.{is_edit_refused}
use Rattle.pad_client.specs.View.{View, StandsAs, StandsAsRepairs}
use Rattle.pad_chain.specs.State as chains
use Rattle.pad_client.proofs.Standing.{HasRest}

pub edit_cause : (requests : requested.State) (shown : List ℕ) (operation : Operation) (cause : stroke.EditRefused) → repairs requests.asked ≡ false → IsCause shown operation cause
    → IsEditCause requests shown operation (is_edit_refused cause)
edit_cause requests shown operation work.Range quiet is = (quiet, is)
edit_cause requests shown operation work.Pair quiet is = (quiet, is)
edit_cause requests shown operation work.TooLong quiet is = (quiet, is)
edit_cause requests shown operation (work.NoMemory error) quiet is = tt

copy_edited : (held new : seen.View) (copy : Copy) (operation : Operation) → seen.StandsAs held copy → held.pad.chain.branch.branch.units ≡ committed copy.pad
    → copies.Edits held.pad.chain.branch.branch.units held operation new → (after : Copy) × copies.Edits (committed copy.pad) copy operation after × seen.StandsAs new after
copy_edited held new copy operation stands same edits =
    let units = held.pad.chain.branch.branch.units in (
      record copy { work = edited copy.work operation (copy.strokes + 1) (length (committed copy.pad)); strokes = copy.strokes + 1 },
      record {
        allowed = subst (λ (w : Marked). IsAllowed (text_after w.patch (committed copy.pad)) operation) stands.work
            (subst (λ (t : List ℕ). IsAllowed (text_after held.work.patch t) operation) same edits.allowed);
        state = refl;
      },
      record {
        pad = subst (λ (p : HeldPad). seen.StandsAsPad p copy.pad) (sym (ap (λ (v : seen.View). v.pad) edits.state)) stands.pad;
        sent = λ name. ap (λ (v : seen.View). sent_as v.sent name) edits.state ∙ stands.sent name;
        are_sent = stands.are_sent;
        work = ap (λ (v : seen.View). v.work) edits.state ∙ ap (λ (w : Marked). edited w operation (held.strokes + 1) (length units)) stands.work
            ∙ ap (λ (n : ℕ). edited copy.work operation (n + 1) (length units)) stands.strokes ∙ ap (λ (t : List ℕ). edited copy.work operation (copy.strokes + 1) (length t)) same;
        strokes = ap (λ (v : seen.View). v.strokes) edits.state ∙ ap (λ (n : ℕ). n + 1) stands.strokes;
      },
    )

-- the client stands for the state after the edit
pub client_edited : (held new : View) (client : ClientState) (operation : Operation) → StandsAs held client → held.copy.pad.chain.branch.branch.units ≡ committed client.copy.pad
    → repairs held.requests.asked ≡ false → copies.Edits held.copy.pad.chain.branch.branch.units held.copy operation new.copy → HasRest held new → new.requests ≡ held.requests
    → (after : ClientState) × Edits (committed client.copy.pad) client operation after × StandsAs new after
unfolding copy_edited
client_edited held new client operation stands same quiet edits rest requests =
    let given = copy_edited held.copy new.copy client.copy operation stands.copy same edits in (
      record client { copy = given.0 },
      record { quiet = ap (λ (r : requested.State). repairs r.asked) (sym stands.requests) ∙ quiet; edited = given.0; edits = given.1; state = refl },
      record { copy = given.2; unreadable = rest.unreadable ∙ stands.unreadable; wanted = rest.wanted ∙ stands.wanted; requests = requests ∙ stands.requests; repair = subst (λ (r : Option chains.View). StandsAsRepairs client.copy.pad.all r client.repair) (sym rest.repair) stands.repair; synced = rest.synced ∙ stands.synced },
    )

-- A new working copy.
use Rattle.std.proofs.Common.{◌≡◌, ℕ, ◌≤◌, false, inl, List, [], length, refl, sym, ◌∙◌, ap, subst}
use Rattle.pad_text.specs.declared.name.Name.{Name}
use Rattle.pad_text.specs.Text.{IsText}
use Rattle.pad_text.specs.Hash.{document_hash}
use Rattle.pad_patch.specs.Misfit.{longest_text}
use Rattle.pad_model.specs.Base.{first_base}
use Rattle.pad_model.specs.Choice.{first_choice}
use Rattle.pad_stroke.specs.Work.{Marked, empty}
use Rattle.pad_chain.specs.Tie.{StandsFor}
use Rattle.client_work.specs.Switch.{SentWorks, sent_as}
use Rattle.client_copy.specs.Held.{IsHeldOn}
use Rattle.client_copy.specs.State.{new_copy}
use Rattle.client_copy.specs.View.{View, StandsAs}
use Rattle.client_copy.proofs.Behind.{none_some, empty_on}

-- without work, and with nothing sent
pub nothing_held : (text : List ℕ) (hash : Name) → IsText text → length text ≤ longest_text → hash ≡ document_hash text → IsHeldOn text (empty hash) [] 0
nothing_held text hash is short hash_is = record { typed = λ mark. 0; work_is = empty_on text (λ mark. 0) 0 hash is short; sent_are = λ name. tt; made = hash_is }

pub new_held : (text : List ℕ) (work : Marked) (sent : SentWorks) (hash : Name) → IsText text → length text ≤ longest_text → hash ≡ document_hash text → work ≡ empty hash → sent ≡ []
    → IsHeldOn text work sent 0
new_held text work sent hash is short hash_is work_is sent_is =
    subst (λ (w : Marked). IsHeldOn text w sent 0) (sym work_is) (subst (λ (s : SentWorks). IsHeldOn text (empty hash) s 0) (sym sent_is) (nothing_held text hash is short hash_is))

pub new_stands : (held : View) (hash : Name) → StandsFor held.pad.chain first_base [] first_choice → held.pad.chain.whole ≡ false → held.pad.base ≡ first_base.name → held.pad.repaired ≡ false
    → hash ≡ document_hash first_base.text → held.work ≡ empty hash → held.sent ≡ [] → held.strokes ≡ 0 → StandsAs held new_copy
new_stands held hash stands whole base repaired hash_is work_is sent_is strokes_is = record {
  pad = record {
    stands = stands;
    base = base;
    whole = whole;
    repaired = repaired;
    of_all = inl refl;
    among_all = λ message has. has;
  };
  sent = λ name. ap (λ (s : SentWorks). sent_as s name) sent_is;
  are_sent = λ name own is. absurd (none_some own is);
  work = work_is ∙ ap empty hash_is;
  strokes = strokes_is;
}

-- The chain has received a message, and the work came along: the working copy stands for the machine's next state.
use Rattle.std.proofs.Common.{◌≡◌, ℕ, inl, inr, Bool, true, false, List, [], ◌∷◌, ◌++◌, refl, sym, ◌∙◌, ap, subst}
use Rattle.std.specs.List.{Contains}
use Rattle.std.proofs.lemmas.List.Elements.{Contains-append_left, Contains-append_right, Contains-append_cases}
use Rattle.pad_text.specs.declared.name.Name.{Name}
use Rattle.pad_text.specs.Hash.{document_hash}
use Rattle.pad_patch.specs.Laws.{FittingApplies, InverseGivesBack}
use Rattle.pad_message.specs.declared.message.Message.{Message}
use Rattle.pad_model.specs.declared.base.Base.{Base}
use Rattle.pad_model.specs.Path.{text, NamesDiffer, IsPath}
use Rattle.pad_model.specs.Choice.{Choice}
use Rattle.pad_stroke.specs.Work.{Marked}
use Rattle.pad_branch.specs.declared.moved.Move.{Move}
use Rattle.pad_chain.specs.declared.moved.Moved.{Moved}
use Rattle.pad_chain.specs.Moved.{moves_back}
use Rattle.pad_chain.specs.Leads.{Leads}
use Rattle.pad_chain.specs.Tie.{IsChosen, IsChosenNext}
use Rattle.pad_chain.specs.Receive.{IsReceived}
use Rattle.client_work.specs.Switch.{SentWorks, sent_as, Draft, switched}
use Rattle.client_work.specs.Carrying.{AreInverses, all_moves}
use Rattle.client_copy.specs.Pad.{Pad, committed}
use Rattle.client_copy.specs.State.{Copy}
use Rattle.client_copy.specs.Receive.{Follows}
use Rattle.client_copy.specs.View.{View, NoClash, IsBaseOf, AreSentAs, StandsAs}
use Rattle.client_copy.proofs.Own.{AreMade, took_back, switch_made, switched_alike}

-- one message more
pub there : (message : Message) (all : List Message) (other : Message) → Contains all other → Contains (message ∷ all) other
there message all other has = Contains-append_right (message ∷ []) all other has

pub more_among : (message : Message) (received all : List Message) → ((m : Message) → Contains received m → Contains all m) → (other : Message) → Contains (message ∷ received) other
    → Contains (message ∷ all) other
more_among message received all among other has =
    elim (Contains-append_cases (message ∷ []) received other has) [
      | inl first ↦ Contains-append_left (message ∷ []) all other first
      | inr later ↦ there message all other (among other later)
    ]

pub differ_among : (some all : List Message) → ((m : Message) → Contains some m → Contains all m) → NamesDiffer all → NamesDiffer some
differ_among some all among differ one other a b = differ one other (among one a) (among other b)

pub base_among : (message : Message) (all : List Message) (base : Base) → IsBaseOf all base → IsBaseOf (message ∷ all) base
base_among message all base (inl first) = inl first
base_among message all base (inr given) = inr (given.0, there message all given.0 given.1, given.2)

pub sent_among : (message : Message) (all : List Message) (sent : SentWorks) → AreSentAs all sent → AreSentAs (message ∷ all) sent
sent_among message all sent are name own is = let found = are name own is in (found.0, there message all found.0 found.1, found.2, found.3, found.4)

-- what is chosen is a path
pub chosen_path : (whole : Bool) (base : Base) (received : List Message) (choice : Choice) → IsChosen whole base received choice → IsPath base received choice.chosen
chosen_path true base received choice chosen = chosen.best.path
chosen_path false base [] choice chosen = subst (λ (c : Choice). IsPath base [] c.chosen) (sym chosen) (tt, tt)
chosen_path false base (message ∷ received) choice chosen = chosen.2.chosen.path

-- the work is that of the rule
pub came_along : FittingApplies → InverseGivesBack → (base : Base) (all received old : List Message) (held sent : SentWorks) (moved : Moved) (units to : List ℕ) (work next : Marked)
    → NamesDiffer all → AreSentAs all sent → ((name : Name) → sent_as held name ≡ sent_as sent name) → ((m : Message) → Contains received m → Contains all m)
    → (common left : List Message) → old ≡ left ++ common → moved.reverted ≡ moves_back base common left → IsPath base received old → units ≡ text base old
    → Leads (all_moves moved) units to → work.patch.before ≡ document_hash units
    → (AreInverses held moved.reverted units → (switched held moved (record { text = units; work = work })).work.patch.before ≡ document_hash to
    → next ≡ (switched held moved (record { text = units; work = work })).work)
    → next ≡ (switched sent moved (record { text = text base old; work = work })).work
came_along applies gives base all received old held sent moved units to work next differ are same among common left was back path units_is leads made carry =
    let held_are : AreSentAs all held = λ name own is. are name own (sym (same name) ∙ is) in
    let linked = subst (λ p. IsPath base received p) was path in
    let took = took_back applies gives base all received held differ held_are among common left linked.0 linked.1 in
    let at : units ≡ text base (left ++ common) = units_is ∙ ap (text base) was in
    let inverses : AreInverses held moved.reverted units =
    subst (λ (ms : List Move). AreInverses held ms units) (sym back) (subst (AreInverses held (moves_back base common left)) (sym at) took.0) in
    let are_made : AreMade held moved.reverted units = subst (λ (ms : List Move). AreMade held ms units) (sym back) (subst (AreMade held (moves_back base common left)) (sym at) took.1) in
    carry inverses (switch_made held moved.reverted moved.applied (record { text = units; work = work }) to leads are_made made)
    ∙ ap (λ (d : Draft). d.work) (switched_alike held sent same moved.reverted moved.applied (record { text = units; work = work }))
    ∙ ap (λ (t : List ℕ). (switched sent moved (record { text = t; work = work })).work) units_is

pub followed : FittingApplies → InverseGivesBack → (old new : View) (copy : Copy) (message : Message) (moved : Moved) → StandsAs old copy → NoClash (message ∷ copy.pad.all)
    → IsReceived old.pad.chain new.pad.chain copy.pad.base copy.pad.received message copy.pad.choice moved → new.pad.chain.whole ≡ old.pad.chain.whole
    → old.pad.chain.branch.branch.units ≡ committed copy.pad → Leads (all_moves moved) old.pad.chain.branch.branch.units new.pad.chain.branch.branch.units
    → old.work.patch.before ≡ document_hash old.pad.chain.branch.branch.units
    → (AreInverses old.sent moved.reverted old.pad.chain.branch.branch.units
    → (switched old.sent moved (record { text = old.pad.chain.branch.branch.units; work = old.work })).work.patch.before ≡ document_hash new.pad.chain.branch.branch.units
    → new.work ≡ (switched old.sent moved (record { text = old.pad.chain.branch.branch.units; work = old.work })).work)
    → new.pad.base ≡ old.pad.base → new.pad.repaired ≡ old.pad.repaired → new.sent ≡ old.sent → new.strokes ≡ old.strokes
    → (after : Copy) × Follows copy message moved after × StandsAs new after
followed applies gives old new copy message moved stands clash received whole units_is leads made carry base_is repaired_is sent_is strokes_is =
    let pad : Pad = record copy.pad { all = message ∷ copy.pad.all; received = message ∷ copy.pad.received; choice = received.next } in
    let after : Copy = record copy { pad = pad; work = (switched copy.sent moved (record { text = committed copy.pad; work = copy.work })).work } in
    let path = chosen_path old.pad.chain.whole copy.pad.base copy.pad.received copy.pad.choice stands.pad.stands.chosen in
    let differ : NamesDiffer copy.pad.all = differ_among copy.pad.all (message ∷ copy.pad.all) (there message copy.pad.all) clash.differ in (
      after,
      record {
        pad = pad;
        received = record {
          all = refl;
          base = refl;
          received = refl;
          whole = refl;
          chosen = subst (λ (b : Bool). IsChosenNext b copy.pad.base copy.pad.received message copy.pad.choice received.next) stands.pad.whole received.chosen;
          moves = received.path;
        };
        state = refl;
      },
      record {
        pad = record {
          stands = received.stands;
          base = base_is ∙ stands.pad.base;
          whole = whole ∙ stands.pad.whole;
          repaired = repaired_is ∙ stands.pad.repaired;
          of_all = base_among message copy.pad.all copy.pad.base stands.pad.of_all;
          among_all = more_among message copy.pad.received copy.pad.all stands.pad.among_all;
        };
        sent = λ name. ap (λ (s : SentWorks). sent_as s name) sent_is ∙ stands.sent name;
        are_sent = sent_among message copy.pad.all copy.sent stands.are_sent;
        work = came_along applies gives copy.pad.base copy.pad.all copy.pad.received copy.pad.choice.chosen old.sent copy.sent moved
            old.pad.chain.branch.branch.units new.pad.chain.branch.branch.units old.work new.work differ stands.are_sent stands.sent stands.pad.among_all received.path.common received.path.left
            received.path.was received.path.back path units_is leads made carry
            ∙ ap (λ (w : Marked). (switched copy.sent moved (record { text = committed copy.pad; work = w })).work) stands.work;
        strokes = strokes_is ∙ stands.strokes;
      },
    )

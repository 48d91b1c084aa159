-- A repair's chain has taken the old one's place: the working copy stands for the state at the end of the repair.
use Rattle.std.proofs.Common.{◌≡◌, ℕ, ◌+◌, ◌-◌, inl, inr, Bool, true, false, List, [], ◌∷◌, ◌++◌, length, take, drop, refl, sym, ◌∙◌, ap, subst, arith}
use Rattle.std.specs.Prelude.{flat_map}
use Rattle.std.proofs.lemmas.List.{append-nil}
use Rattle.pad_text.specs.declared.name.Name.{Name}
use Rattle.pad_text.specs.Hash.{document_hash}
use Rattle.pad_patch.specs.Laws.{FittingApplies, InverseGivesBack}
use Rattle.pad_patch.specs.declared.operation.Operation.{Operation}
use Rattle.pad_patch.specs.declared.patch.Patch.{Patch}
use Rattle.pad_patch.specs.Piece.{pieces_from, text_after}
use Rattle.pad_patch.proofs.CallerLemmas.{units_of_piece, text_after-copy}
use Rattle.pad_message.specs.declared.message.Message.{Message}
use Rattle.pad_model.specs.declared.base.Base.{Base}
use Rattle.pad_model.specs.Base.{first_base, Gives}
use Rattle.pad_model.specs.Path.{text, last_name, IsLinkedPath, IsPath}
use Rattle.pad_model.specs.Choice.{Choice}
use Rattle.pad_stroke.specs.Work.{Marked, empty}
use Rattle.pad_chain.specs.declared.moved.Moved.{Moved}
use Rattle.pad_chain.specs.Leads.{Leads}
use Rattle.pad_chain.specs.Moved.{EndsIn, IsMoved}
use Rattle.pad_chain.specs.State as chains
use Rattle.pad_chain.specs.Tie.{StandsFor, IsChosen, IsWholeChoice}
use Rattle.client_work.specs.Switch.{SentWorks, sent_as, switched, draft_at}
use Rattle.client_work.specs.Carrying.{AreInverses, all_moves}
use Rattle.client_copy.specs.Pad.{Pad, committed, best_name}
use Rattle.client_copy.specs.State.{Copy}
use Rattle.client_copy.specs.Repair.{noted, IsRepaired, LeadsToOldBest, EndsRepair, AreAmong}
use Rattle.client_copy.specs.View.{View, NoClash, IsBaseOf, StandsAs}
use Rattle.client_copy.proofs.Following.{there, base_among, sent_among, chosen_path, came_along}

-- ---- paths that end in one name have one text, from an adopted base or from the first one

copied : (units : List ℕ) → flat_map (units_of_piece units) (pieces_from 0 (length units) (record { offset = 0; remove = length units; insert = units } ∷ [])) ≡ units
copied units =
    let none : length units - (0 + length units) ≡ 0 = omega arith in
    ap (λ k. units ++ (take k (drop (0 + length units) units) ++ [])) none ∙ append-nil units

whole_stays : (patch : Patch) (units : List ℕ) → patch.ops ≡ record { offset = 0; remove = length units; insert = units } ∷ [] → text_after patch units ≡ units
whole_stays patch units whole = text_after-copy patch units ∙ ap (λ ops. flat_map (units_of_piece units) (pieces_from 0 (length units) ops)) whole ∙ copied units

first_insert : List Operation → List ℕ
first_insert [] = []
first_insert (operation ∷ operations) = operation.insert

-- the checkpoint that gave a base leaves the text, which is the base's
whole_text : (message : Message) (base : Base) (below : List Message) (received : List Message) → Gives message base → IsPath first_base received (message ∷ below) → base.text ≡ text first_base (message ∷ below)
unfolding first_insert
whole_text message base below received gives path =
    let whole = (path.1.0.checkpoint gives.adoptable.checkpoint).1 in
    ap first_insert (sym gives.adoptable.whole ∙ whole) ∙ sym (whole_stays message.patch (text first_base below) whole)

pub same_text : (all : List Message) → NoClash all → (base : Base) → IsBaseOf all base → (received repaired : List Message) → AreAmong received all → AreAmong repaired all
    → (path other : List Message) → IsLinkedPath base received path → IsPath first_base repaired other → last_name base path ≡ last_name first_base other → text base path ≡ text first_base other
same_text all clash base (inl is) received repaired among others [] [] linked path last = ap (λ (b : Base). b.text) is
same_text all clash base (inl is) received repaired among others [] (message ∷ other) linked path last =
    absurd (clash.not_base message (others message path.0.0.member) (sym last ∙ ap (λ (b : Base). b.name) is))
same_text all clash base (inr given) received repaired among others [] [] linked path last = absurd (clash.not_base given.0 given.1 (sym given.2.named ∙ last))
same_text all clash base (inr given) received repaired among others [] (message ∷ other) linked path last =
    let same : given.0 ≡ message = clash.differ given.0 message given.1 (others message path.0.0.member) (sym given.2.named ∙ last) in
    whole_text message base other repaired (subst (λ (m : Message). Gives m base) same given.2) path
same_text all clash base of received repaired among others (message ∷ path) [] linked is last = absurd (clash.not_base message (among message linked.0.member) last)
same_text all clash base of received repaired among others (message ∷ path) (next ∷ other) linked is last =
    let same : message ≡ next = clash.differ message next (among message linked.0.member) (others next is.0.0.member) last in
    let parents = sym linked.0.parent ∙ ap (λ (m : Message). m.parent) same ∙ is.0.0.parent in
    let below = same_text all clash base of received repaired among others path other linked.1 (is.0.1, is.1.1) parents in
    ap (λ (m : Message). text_after m.patch (text base path)) same ∙ ap (text_after next.patch) below

-- ---- what is chosen of a chain that never truncates

whole_choice : (whole : Bool) (base : Base) (received : List Message) (choice : Choice) → whole ≡ true → IsChosen whole base received choice → IsWholeChoice base received choice
whole_choice true base received choice is chosen = chosen
whole_choice false base received choice is chosen = cc

abbrev pub repaired_pad : Pad → List Message → Choice → Pad
repaired_pad before received choice = record { all = before.all; base = first_base; received = received; whole = true; choice = choice }

is_repaired : (before : Pad) (received : List Message) (chain : chains.View) (choice : Choice) → StandsFor chain first_base received choice → chain.whole ≡ true
    → IsRepaired before received (repaired_pad before received choice)
is_repaired before received chain choice stands whole =
    record { all = refl; base = refl; received_all = refl; whole = refl; choice = whole_choice chain.whole first_base received choice whole stands.chosen }

-- the new chain stands for what it received, and the works that were sent stay
repaired_stands : (old new : View) (copy : Copy) (received : List Message) (choice : Choice) (work : Marked) → StandsAs old copy → StandsFor new.pad.chain first_base received choice
    → new.pad.chain.whole ≡ true → AreAmong received copy.pad.all → new.pad.base ≡ first_base.name → new.pad.repaired ≡ true → new.sent ≡ old.sent → new.strokes ≡ old.strokes → new.work ≡ work
    → StandsAs new (record copy { pad = repaired_pad copy.pad received choice; work = work })
repaired_stands old new copy received choice work stands chain whole among base repaired sent strokes work_is = record {
  pad = record { stands = chain; base = base; whole = whole; repaired = repaired; of_all = inl refl; among_all = among };
  sent = λ name. ap (λ (s : SentWorks). sent_as s name) sent ∙ stands.sent name;
  are_sent = stands.are_sent;
  work = work_is;
  strokes = strokes ∙ stands.strokes;
}

-- a path that ends in the old best name goes through the root, which is the base
ends_in : (before : Pad) (received : List Message) (chain : chains.View) (choice : Choice) (best : Name) → StandsFor chain first_base received choice → chain.whole ≡ true → best ≡ best_name before
    → (path : List Message) → LeadsToOldBest before received path → EndsIn first_base received choice.root path best
ends_in before received chain choice best stands whole best_is path leads =
    let root = (whole_choice chain.whole first_base received choice whole stands.chosen).root in
    record { is_path = leads.is_path; through = (path, sym (append-nil path) ∙ ap (λ (r : List Message). path ++ r) (sym root)); last = leads.last ∙ sym best_is }

pub ended_anew : (old new : View) (copy : Copy) (received : List Message) (choice : Choice) (best : Name) → StandsAs old copy → StandsFor new.pad.chain first_base received choice
    → new.pad.chain.whole ≡ true → AreAmong received copy.pad.all → best ≡ best_name copy.pad → ((path : List Message) → ¬ (EndsIn first_base received choice.root path best))
    → new.pad.base ≡ first_base.name → new.pad.repaired ≡ true → new.sent ≡ old.sent → new.strokes ≡ old.strokes → new.work ≡ empty (document_hash (text first_base choice.chosen))
    → (after : Copy) × EndsRepair copy received false after × StandsAs new after
ended_anew old new copy received choice best stands chain whole among best_is none base repaired sent strokes work = (
  record copy { pad = repaired_pad copy.pad received choice; work = empty (document_hash (text first_base choice.chosen)) },
  EndsRepair.starts_anew (repaired_pad copy.pad received choice) (is_repaired copy.pad received new.pad.chain choice chain whole)
      (λ path leads. none path (ends_in copy.pad received new.pad.chain choice best chain whole best_is path leads)),
  repaired_stands old new copy received choice (empty (document_hash (text first_base choice.chosen))) stands chain whole among base repaired sent strokes work,
)

pub ended_on : FittingApplies → InverseGivesBack → (old new : View) (copy : Copy) (received : List Message) (choice : Choice) (best : Name) (from : List ℕ) (path : List Message) (moved : Moved)
    → StandsAs old copy → NoClash copy.pad.all → StandsFor new.pad.chain first_base received choice → new.pad.chain.whole ≡ true → AreAmong received copy.pad.all → best ≡ best_name copy.pad
    → old.pad.chain.branch.branch.units ≡ committed copy.pad → EndsIn first_base received choice.root path best → from ≡ text first_base path → IsMoved first_base path choice.chosen moved
    → Leads (all_moves moved) from new.pad.chain.branch.branch.units → old.work.patch.before ≡ document_hash old.pad.chain.branch.branch.units
    → (from ≡ old.pad.chain.branch.branch.units → Leads (all_moves moved) from new.pad.chain.branch.branch.units → AreInverses old.sent moved.reverted old.pad.chain.branch.branch.units
    → (switched old.sent moved (record { text = old.pad.chain.branch.branch.units; work = old.work })).work.patch.before ≡ document_hash new.pad.chain.branch.branch.units
    → new.work ≡ (switched old.sent moved (record { text = old.pad.chain.branch.branch.units; work = old.work })).work)
    → new.pad.base ≡ first_base.name → new.pad.repaired ≡ true → new.sent ≡ old.sent → new.strokes ≡ old.strokes
    → (after : Copy) × EndsRepair copy received true after × StandsAs new after
ended_on applies gives old new copy received choice best from path moved stands clash chain whole among best_is units ends from_is moves leads made carry base repaired sent strokes =
    let chosen = chosen_path old.pad.chain.whole copy.pad.base copy.pad.received copy.pad.choice stands.pad.stands.chosen in
    let same = same_text copy.pad.all clash copy.pad.base stands.pad.of_all copy.pad.received received stands.pad.among_all among copy.pad.choice.chosen path chosen.0 ends.is_path
    (sym best_is ∙ sym ends.last) in
    let at : from ≡ old.pad.chain.branch.branch.units = from_is ∙ sym same ∙ sym units in
    let units_is : old.pad.chain.branch.branch.units ≡ text first_base path = units ∙ same in
    let on = subst (λ (u : List ℕ). Leads (all_moves moved) u new.pad.chain.branch.branch.units) at leads in
    let work : Marked = (switched copy.sent moved (draft_at first_base path copy.work)).work in
    let work_is : new.work ≡ work =
    came_along applies gives first_base copy.pad.all received path old.sent copy.sent moved old.pad.chain.branch.branch.units new.pad.chain.branch.branch.units old.work new.work clash.differ stands.are_sent
    stands.sent among moves.common moves.left moves.was moves.back ends.is_path units_is on made (λ inverses before. carry at leads inverses before)
    ∙ ap (λ (w : Marked). (switched copy.sent moved (draft_at first_base path w)).work) stands.work in (
      record copy { pad = repaired_pad copy.pad received choice; work = work },
      EndsRepair.goes_on (repaired_pad copy.pad received choice) path moved (is_repaired copy.pad received new.pad.chain choice chain whole) (record { is_path = ends.is_path; last = ends.last ∙ best_is }) moves,
      repaired_stands old new copy received choice work stands chain whole among base repaired sent strokes work_is,
    )

-- ---- a message that is heard is one of all that came

pub still_stands : (held : View) (copy : Copy) (message : Message) → StandsAs held copy → StandsAs held (noted message copy)
still_stands held copy message stands = record {
  pad = record {
    stands = stands.pad.stands;
    base = stands.pad.base;
    whole = stands.pad.whole;
    repaired = stands.pad.repaired;
    of_all = base_among message copy.pad.all copy.pad.base stands.pad.of_all;
    among_all = λ other has. there message copy.pad.all other (stands.pad.among_all other has);
  };
  sent = stands.sent;
  are_sent = sent_among message copy.pad.all copy.sent stands.are_sent;
  work = stands.work;
  strokes = stands.strokes;
}

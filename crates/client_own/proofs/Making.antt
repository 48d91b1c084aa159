-- A patch message is made of the work.
use Rattle.std.proofs.Common.{◌≤◌, length}
use Rattle.pad_patch.specs.Misfit.{longest_text}
use Rattle.pad_patch.specs.Piece.{text_after}
use Rattle.client_own.proofs.Fitting.{fits_by}
use Rattle.client_own.proofs.Steps.{StepLaws}
use Rattle.std.proofs.Common.{◌≡◌, ◌≢◌, ◌⊎◌, inl, inr, ℕ, Bool, true, false, cond, List, [], ◌∷◌, ◌++◌, refl, sym, ◌∙◌, ap, subst, Option, Some, Contains, arith}
use Rattle.pad_list.proofs.CallerLemmas.{contains_head, contains_more, contains_cases, contains_dec}
use Rattle.pad_text.specs.declared.name.Name.{Name}
use Rattle.pad_patch.specs.declared.patch.Patch.{Patch}
use Rattle.pad_patch.specs.Misfit.{Fits}
use Rattle.pad_message.specs.declared.kind.Kind.TheVariants as kind
use Rattle.pad_message.specs.declared.message.Message.{Message}
use Rattle.pad_message.specs.Kind.{is_checkpoint}
use Rattle.pad_message.specs.Message.{name_of}
use Rattle.pad_model.specs.declared.base.Base.{Base}
use Rattle.pad_model.specs.Path.{text, Extends, IsPath, IsLinkedPath, IsSoundOn}
use Rattle.pad_model.specs.Best.{IsBetter}
use Rattle.pad_model.specs.Choice.{RunsThrough}
use Rattle.pad_model.proofs.CallerLemmas.{linked_more, linked_unique, path_more}
use Rattle.pad_stroke.specs.declared.mark.Mark.{Mark}
use Rattle.pad_stroke.specs.Work.{Marked}
use Rattle.pad_stroke.specs.Row.{Row, row_after}
use Rattle.pad_row.specs.Own.{StandsOnce, IsOn, IsSent, MadeIsSent}
use Rattle.pad_chain.proofs.CallerLemmas.{name_dec}
use Rattle.pad_chain.specs.declared.moved.Moved.{Moved}
use Rattle.client_work.specs.Switch.{SentWorks, sent_as, switched, draft_at}
use Rattle.client_copy.specs.Pad.{Pad, committed}
use Rattle.client_copy.specs.State.{Copy}
use Rattle.client_copy.specs.Make.{IsPatchOf, sent_with, Makes}
use Rattle.client_copy.specs.View.{AreSentAs, IsBaseOf}
use Rattle.client_own.specs.Rows.{entries_of, row_on, own_marks, marks_on}
use Rattle.client_own.specs.Stands.{StandsOn}
use Rattle.client_own.specs.Laws.{MovedStands}
use Rattle.client_own.specs.Life.{Life, AreAll, IsNoneNamed, HangsNothingOlder}
use Rattle.client_own.proofs.Paths.{PathLaws, own_patch, is_on}
use Rattle.client_own.proofs.Given.{MarkLaws, IsGiven, AreSentGiven}
use Rattle.client_own.proofs.Sent.{here, elsewhere}
use Rattle.client_own.proofs.Holding.{Keeps, Holds, none_some, counted_of, steps_by, step_by}
use Rattle.client_own.proofs.Receiving.{followed, keeps_followed, linked_followed, received_pad}

-- ---- rows and marks of a path on which no message has the name

pub row_same : (base : Base) (name : Name) (work : Marked) (sent : SentWorks) (path : List Message) → IsNoneNamed name path → row_on base ((name, work) ∷ sent) path ≡ row_on base sent path
row_same base name work sent [] none = refl
row_same base name work sent (message ∷ path) none =
    ap (λ (o : Option Marked). cond (is_checkpoint message.kind) (row_on base ((name, work) ∷ sent) path) (row_after message.patch (entries_of o message) (row_on base ((name, work) ∷ sent) path)))
    (elsewhere name work sent (name_of message) none.0)
    ∙ ap (λ (r : Row). cond (is_checkpoint message.kind) r (row_after message.patch (entries_of (sent_as sent (name_of message)) message) r)) (row_same base name work sent path none.1)

pub marks_same : (name : Name) (work : Marked) (sent : SentWorks) (path : List Message) → IsNoneNamed name path → marks_on ((name, work) ∷ sent) path ≡ marks_on sent path
marks_same name work sent [] none = refl
marks_same name work sent (message ∷ path) none =
    ap (λ (o : Option Marked). cond (is_checkpoint message.kind) (marks_on ((name, work) ∷ sent) path) (own_marks o ++ marks_on ((name, work) ∷ sent) path)) (elsewhere name work sent (name_of message) none.0)
    ∙ ap (λ (ms : List Mark). cond (is_checkpoint message.kind) ms (own_marks (sent_as sent (name_of message)) ++ ms)) (marks_same name work sent path none.1)

-- ---- the message is new

-- no base has the name of a patch message
not_base : (all : List Message) → AreAll all → (base : Base) → IsBaseOf all base → (message : Message) → Contains all message → message.kind ≡ kind.Patch → name_of message ≢ base.name
not_base all are base (inl first) message has plain is = are.names.not_base message has (is ∙ ap (λ (b : Base). b.name) first)
not_base all are base (inr (giver, given, gives)) message has plain is =
    let same : message ≡ giver = are.names.differ message giver has given (is ∙ gives.named) in
    let clash : kind.Patch ≡ kind.Checkpoint base.interval = sym plain ∙ ap (λ (m : Message). m.kind) same ∙ gives.timed in
    cc

pub extends : (all : List Message) (life : Life) → AreAll all → Keeps all life → (message : Message) → Contains all message → IsPatchOf life.copy message → (received : List Message) → Contains received message
    → Extends life.copy.pad.base received message life.copy.pad.choice.chosen
extends all life are keeps message has made received member = record {
  member = member;
  not_base = not_base all are life.copy.pad.base keeps.of_all message has made.plain;
  parent = made.parent;
}

sound : (life : Life) (message : Message) → IsPatchOf life.copy message → Fits message.patch (committed life.copy.pad) → IsSoundOn life.copy.pad.base life.copy.pad.choice.chosen message
sound life message made fits = record { fits = fits; checkpoint = λ is. let clash : false ≡ true = sym (ap is_checkpoint made.plain) ∙ is in absurd (cc) }

on_top : (root chosen : List Message) (message : Message) → RunsThrough root chosen → RunsThrough root (message ∷ chosen)
on_top root chosen message (above, is) = (message ∷ above, ap (λ rest. message ∷ rest) is)

longer : (base : Base) (chosen : List Message) (message : Message) → IsBetter base (message ∷ chosen) chosen
longer base chosen message = inl (omega arith)

-- no message that was received has its name
pub is_new : (all : List Message) (life : Life) → AreAll all → Keeps all life → (message : Message) → Contains all message → IsPatchOf life.copy message → Fits message.patch (committed life.copy.pad)
    → (other : Message) → Contains life.copy.pad.received other → name_of other ≢ name_of message
is_new all life are keeps message has made fits other member same =
    let base = life.copy.pad.base in let chosen = life.copy.pad.choice.chosen in
    let is : other ≡ message = are.names.differ other message (keeps.among other member) has same in
    let top = extends all life are keeps message has made life.copy.pad.received (subst (Contains life.copy.pad.received) is member) in
    let path : IsPath base life.copy.pad.received (message ∷ chosen) = ((top, keeps.best.path.0), (sound life message made fits, keeps.best.path.1)) in
    keeps.best.none_better (message ∷ chosen) path (on_top keeps.root chosen message keeps.best.through) (longer base chosen message)

none_on : (base : Base) (received : List Message) (name : Name) → ((other : Message) → Contains received other → name_of other ≢ name) → (path : List Message) → IsLinkedPath base received path → IsNoneNamed name path
none_on base received name new [] is = tt
none_on base received name new (message ∷ path) is = (new message is.0.member, none_on base received name new path is.1)

-- ---- no own message hangs on it

among_names : (names : List Name) (name : Name) → Contains names name ⊎ ¬ (Contains names name)
among_names names name = elim (contains_dec names name (λ other has. elim (name_dec other name) [ inl same ↦ yes same | inr differs ↦ no differs ])) [ yes has ↦ inl has | no none ↦ inr none ]

pub hangs_nothing : (all : List Message) (life : Life) → AreAll all → Holds all life → (made : Message) → ((other : Message) → Contains life.copy.pad.received other → name_of other ≢ name_of made)
    → HangsNothingOlder all life (name_of made) → (message : Message) (path : List Message) → IsPath life.copy.pad.base all (message ∷ path) → (own : Marked) → sent_as life.copy.sent (name_of message) ≡ Some own
    → IsNoneNamed (name_of made) path
hangs_nothing all life are is made new older message path is_path own at = elim (among_names life.made (name_of message)) [
  | inl has ↦
      let base = life.copy.pad.base in
      let found = is.linked (name_of message) has in
      let wider = linked_more base life.copy.pad.received all (found.0 ∷ found.1) is.keeps.among found.3 in
      let same : found.0 ∷ found.1 ≡ message ∷ path = linked_unique base all (found.0 ∷ found.1) (message ∷ path) are.names.differ wider is_path.0 found.2 in
      (none_on base life.copy.pad.received (name_of made) new (message ∷ path) (subst (IsLinkedPath base life.copy.pad.received) same found.3)).1
  | inr none ↦ older message path is_path.0 (λ nothing. none_some own (sym nothing ∙ at)) none
]

-- ---- its work was sent

sent_one_more : (all : List Message) (message : Message) (work : Marked) (sent : SentWorks) → Contains all message → message.kind ≡ kind.Patch → message.patch ≡ work.patch → AreSentAs all sent
    → AreSentAs all ((name_of message, work) ∷ sent)
sent_one_more all message work sent has plain patch are name own is = elim (name_dec name (name_of message)) [
  | inl same ↦
      let at : Some work ≡ Some own = sym (here (name_of message) work sent) ∙ ap (sent_as ((name_of message, work) ∷ sent)) (sym same) ∙ is in
      let one : work ≡ own = cc in
      (message, has, sym same, plain, patch ∙ ap (λ (w : Marked). w.patch) one)
  | inr differs ↦ are name own (sym (elsewhere (name_of message) work sent name differs) ∙ is)
]

given_one_more : (strokes : ℕ) (name : Name) (work : Marked) (sent : SentWorks) → IsGiven strokes work → AreSentGiven strokes sent → AreSentGiven strokes ((name, work) ∷ sent)
given_one_more strokes name work sent given are other own is = elim (name_dec other name) [
  | inl same ↦
      let at : Some work ≡ Some own = sym (here name work sent) ∙ ap (sent_as ((name, work) ∷ sent)) (sym same) ∙ is in
      let one : work ≡ own = cc in
      subst (IsGiven strokes) one given
  | inr differs ↦ are other own (sym (elsewhere name work sent other differs) ∙ is)
]

-- the life in which its work was sent, and it was not received yet
abbrev sent_life : Life → Message → Life
sent_life life message = record { copy = record life.copy { sent = (name_of message, life.copy.work) ∷ life.copy.sent }; marks = life.marks; gone = life.gone; made = name_of message ∷ life.made }

same_sent : {gone typed : List Mark} (base : Base) (name : Name) (work : Marked) (sent : SentWorks) (path : List Message) {own : Marked} → IsNoneNamed name path
    → IsSent gone typed (marks_on sent path) (text base path) (row_on base sent path) own
    → IsSent gone typed (marks_on ((name, work) ∷ sent) path) (text base path) (row_on base ((name, work) ∷ sent) path) own
same_sent {gone} {typed} base name work sent path {own} none is =
    subst (λ (ms : List Mark). IsSent gone typed ms (text base path) (row_on base ((name, work) ∷ sent) path) own) (sym (marks_same name work sent path none))
    (subst (λ (r : Row). IsSent gone typed (marks_on sent path) (text base path) r own) (sym (row_same base name work sent path none)) is)

same_stands : {gone typed : List Mark} (base : Base) (name : Name) (work : Marked) (sent : SentWorks) (path : List Message) {own : Marked} → IsNoneNamed name path
    → StandsOn gone typed base sent path own → StandsOn gone typed base ((name, work) ∷ sent) path own
same_stands {gone} {typed} base name work sent path {own} none is =
    subst (λ (ms : List Mark). StandsOnce gone typed ms (text base path) (row_on base ((name, work) ∷ sent) path) own) (sym (marks_same name work sent path none))
    (subst (λ (r : Row). StandsOnce gone typed (marks_on sent path) (text base path) r own) (sym (row_same base name work sent path none)) is)

keeps_sent : PathLaws → MadeIsSent → (all : List Message) (life : Life) → AreAll all → Holds all life → (message : Message) → Contains all message → IsPatchOf life.copy message
    → Fits message.patch (committed life.copy.pad) → HangsNothingOlder all life (name_of message) → Keeps all (sent_life life message)
keeps_sent laws made_is_sent all life are holds message has made fits older =
    let keeps = holds.keeps in let name = name_of message in
    let base = life.copy.pad.base in let sent = life.copy.sent in let work = life.copy.work in let chosen = life.copy.pad.choice.chosen in
    let after = (name, work) ∷ sent in
    let new = is_new all life are keeps message has made fits in
    let none = none_on base life.copy.pad.received name new chosen keeps.best.path.0 in
    let counted = counted_of life.copy.strokes sent keeps.sent_given in
    let old_path : IsPath base all chosen = path_more base life.copy.pad.received all chosen keeps.among keeps.best.path in
    let top : IsPath base all (message ∷ chosen) = ((extends all life are keeps message has made all has, old_path.0), (sound life message made fits, old_path.1)) in
    let sent_after = sent_one_more all message work sent has made.plain made.patch keeps.sent_are in
    let given_after = given_one_more life.copy.strokes name work sent keeps.work_given keeps.sent_given in
    let own_here : IsSent life.gone life.marks (marks_on after chosen) (text base chosen) (row_on base after chosen) work
    = same_sent base name work sent chosen none (made_is_sent life.gone life.marks (marks_on sent chosen) (text base chosen) (row_on base sent chosen) work keeps.stands
    (subst (λ (p : Patch). IsOn p (text base chosen) (row_on base sent chosen)) made.patch (is_on laws base all sent are keeps.sent_are counted keeps.base_is message chosen top))) in
    record {
      base_is = keeps.base_is;
      of_all = keeps.of_all;
      among = keeps.among;
      root = keeps.root;
      best = keeps.best;
      sent_are = sent_after;
      work_given = keeps.work_given;
      sent_given = given_after;
      typed_or_made = λ other own at. elim (name_dec other name) [
        | inl same ↦ inl (subst (Contains (name ∷ life.made)) (sym same) (contains_head name life.made))
        | inr differs ↦ elim (keeps.typed_or_made other own (sym (elsewhere name work sent other differs) ∙ at)) [
          | inl is_made ↦ inl (contains_more name life.made other is_made)
          | inr none_typed ↦ inr none_typed
        ]
      ];
      since_repair = λ whole other own at. elim (name_dec other name) [
        | inl same ↦ subst (Contains (name ∷ life.made)) (sym same) (contains_head name life.made)
        | inr differs ↦ contains_more name life.made other (keeps.since_repair whole other own (sym (elsewhere name work sent other differs) ∙ at))
      ];
      holds = steps_by life.gone life.marks base after all (λ other path is_path.
          step_by laws life.gone life.marks base after all are sent_after (counted_of life.copy.strokes after given_after) keeps.base_is other path is_path (λ own at same_patch.
          elim (name_dec (name_of other) name) [
            | inl same ↦
                let one : other ∷ path ≡ message ∷ chosen = linked_unique base all (other ∷ path) (message ∷ chosen) are.names.differ is_path.0 top.0 same in
                let below : path ≡ chosen = cc in
                let kept : Some work ≡ Some own = sym (here name work sent) ∙ ap (sent_as after) (sym same) ∙ at in
                let mine : work ≡ own = cc in
                subst (λ (p : List Message). IsSent life.gone life.marks (marks_on after p) (text base p) (row_on base after p) own) (sym below)
                (subst (λ (w : Marked). IsSent life.gone life.marks (marks_on after chosen) (text base chosen) (row_on base after chosen) w) mine own_here)
            | inr differs ↦
                let before : sent_as sent (name_of other) ≡ Some own = sym (elsewhere name work sent (name_of other) differs) ∙ at in
                let plain : is_checkpoint other.kind ≡ false = ap is_checkpoint (own_patch all sent are keeps.sent_are other is_path.0.0.member own before).0 in
                same_sent base name work sent path (hangs_nothing all life are holds message new older other path is_path own before)
                ((keeps.holds (other ∷ path) is_path).0.own_sent own before plain)
          ]));
      stands = same_stands base name work sent chosen none keeps.stands;
      made_here = keeps.made_here;
    }

pub makes : StepLaws → MovedStands → PathLaws → MarkLaws → MadeIsSent → (all : List Message) (life : Life) → AreAll all → Holds all life → (message : Message) → Contains all message → IsPatchOf life.copy message
    → length (text_after life.copy.work.patch (committed life.copy.pad)) ≤ longest_text → HangsNothingOlder all life (name_of message) → (moved : Moved) (after : Copy) → Makes life.copy message moved after
    → Holds all (record life { copy = after; made = name_of message ∷ life.made })
makes steps switches laws marks made_is_sent all life are holds message has made short older moved after is =
    let fits : Fits message.patch (committed life.copy.pad) = subst (λ (p : Patch). Fits p (committed life.copy.pad)) (sym made.patch)
    (fits_by life.copy.work.patch (committed life.copy.pad) holds.keeps.stands.applies holds.keeps.made_here short) in
    let name = name_of message in let base = life.copy.pad.base in let chosen = life.copy.pad.choice.chosen in
    let sent = (name, life.copy.work) ∷ life.copy.sent in
    let kept = keeps_sent laws made_is_sent all life are holds message has made fits older in
    let mid = sent_life life message in
    let pad_is = received_pad life.copy.pad message moved is.pad is.received in
    let then : Holds all (followed mid message moved is.pad.choice) = record {
      keeps = keeps_followed steps switches marks all mid kept message has moved is.pad.choice is.received.chosen is.received.moves;
      linked = λ other contains. elim (contains_cases name life.made other contains) [
        | inl same ↦ (
          message,
          chosen,
          same,
          (
            extends all life are holds.keeps message has made (message ∷ life.copy.pad.received) (contains_head message life.copy.pad.received),
            linked_more base life.copy.pad.received (message ∷ life.copy.pad.received) chosen (contains_more message life.copy.pad.received) holds.keeps.best.path.0,
          ),
        )
        | inr older_name ↦ linked_followed life message moved is.pad.choice holds.linked other older_name
      ];
    } in
    let with_pad : SentWorks → Pad → Life = λ works pad. record life {
      copy = record life.copy { pad = pad; sent = works; work = (switched works moved (draft_at base chosen life.copy.work)).work };
      made = name ∷ life.made;
    } in
    let works_are : sent_with message life.copy.work life.copy.sent ≡ sent = ap (λ (b : Bool). cond b life.copy.sent sent) (ap is_checkpoint made.plain) in
    subst (λ (c : Copy). Holds all (record life { copy = c; made = name ∷ life.made })) (sym is.state)
    (subst (λ (works : SentWorks). Holds all (with_pad works is.pad)) (sym works_are) (subst (λ (p : Pad). Holds all (with_pad sent p)) (sym pad_is) then))

-- What a chain of the messages received tells, and how it goes on.
use Rattle.std.proofs.Common.{◌≡◌, ◌↔◌, ℕ, ◌+◌, ◌≤◌, List, [], ◌∷◌, ◌++◌, reverse, false, None, Some, refl, sym, ap, ◌∙◌, subst, arith}
use Rattle.std.specs.Prelude.{codes}
use Rattle.std.proofs.lemmas.List.{reverse-append}
use Rattle.std.proofs.lemmas.List.Elements.{Contains-append_left}
use Rattle.pad_text.specs.declared.name.Name.{Name}
use Rattle.pad_message.specs.declared.message.Message.{Message}
use Rattle.pad_list.specs.Number.{IsNumberOf}
use Rattle.pad_list.proofs.CallerLemmas.{number_same, distinct_short}
use Rattle.pad_model.specs.declared.base.Base.{Base}
use Rattle.pad_model.specs.Base.{first_base}
use Rattle.pad_model.specs.Path.{text, NamesDiffer}
use Rattle.pad_model.specs.Choice.{Choice, IsChoice, first_choice}
use Rattle.pad_model.specs.Count.{IsKnown, IsWaiting, IsKept}
use Rattle.pad_model.specs.Report.{line, json_string, report_lines, IsReport}
use Rattle.pad_model.specs.Laws.{SameMembers}
use Rattle.pad_model.proofs.CallerLemmas.{same_reversed, differ_same, counts_same}
use Rattle.pad_checkpoint.specs.declared.place.Place.{Place}
use Rattle.pad_checkpoint.specs.Place.{place_of}
use Rattle.pad_report.specs.declared.report.Report.{Report}
use Rattle.pad_report.specs.Report.{values, IsWithoutText}
use Rattle.pad_chain.specs.declared.moved.Moved.{Moved}
use Rattle.pad_chain.specs.declared.receive_refused.ReceiveRefused.{ReceiveRefused}
use Rattle.pad_chain.specs.declared.receive_refused.ReceiveRefused.TheVariants.{Full, NoMemory}
use Rattle.pad_chain.specs.State.{View}
use Rattle.pad_chain.specs.Tie.{IsChosen, StandsFor}
use Rattle.pad_chain.specs.Knows.{Knows, IsFull}
use Rattle.pad_chain.specs.Receive.{IsReceived}
use Rattle.pad_received.specs.Contents.{LineSpells, most_names, HasFewNames}
use Rattle.pad_received.specs.Inside.Telling.{Tells}
use Rattle.pad_received.specs.Progress.{Progress, IsAt, progress_after}
use Rattle.pad_received.specs.Refusal.{IsMessageRefusal, IsLineRefusal}
use Rattle.pad_received.specs.Report.{IsSummary}
use Rattle.pad_received.specs.declared.received.Received.{Received}

-- ---- the same messages, the newest first

-- one message more stands in front
turned : (messages : List Message) (message : Message) → reverse (messages ++ message ∷ []) ≡ message ∷ reverse messages
turned messages message = reverse-append messages (message ∷ [])

back : (messages : List Message) → SameMembers (reverse messages) messages
back messages message = ((same_reversed messages message).1, (same_reversed messages message).0)

differ_front : (messages : List Message) (message : Message) → NamesDiffer (messages ++ message ∷ []) → NamesDiffer messages
differ_front messages message differ one other has has_other =
    differ one other (Contains-append_left messages (message ∷ []) one has) (Contains-append_left messages (message ∷ []) other has_other)

differ_turned : (messages : List Message) (message : Message) → NamesDiffer (messages ++ message ∷ []) → NamesDiffer (message ∷ reverse messages)
differ_turned messages message differ =
    subst NamesDiffer (turned messages message) (differ_same (messages ++ message ∷ []) (reverse (messages ++ message ∷ [])) (same_reversed (messages ++ message ∷ [])) differ)

known_turned : (messages : List Message) (name : Name) → IsKnown first_base (reverse messages) name ↔ IsKnown first_base messages name
known_turned messages name = (
  λ known. (known.0, (same_reversed messages known.0).1 known.1, known.2, known.3),
  λ known. (known.0, (same_reversed messages known.0).0 known.1, known.2, known.3),
)

-- ---- how the chain goes on

-- a new chain is that of no messages
pub at_first : (chain : View) → StandsFor chain first_base [] first_choice × (chain.whole ≡ false) → Knows chain first_base []
    → IsAt (record { chain = chain; unreadable = 0 }) (record { messages = []; unreadable = 0 })
at_first chain (stands, truncates) knows = record { truncates = truncates; knows = knows; stands = λ _. (first_choice, stands); others = refl }

-- a line that reads as no message leaves the chain
pub at_other : (chain : View) (unreadable : ℕ) (progress : Progress) → IsAt (record { chain = chain; unreadable = unreadable }) progress
    → IsAt (record { chain = chain; unreadable = unreadable + 1 }) (progress_after None progress)
at_other chain unreadable progress at = record { truncates = at.truncates; knows = at.knows; stands = at.stands; others = ap (λ n. n + 1) at.others }

-- a message was received
pub at_more : (old new : View) (unreadable : ℕ) (message : Message) → new.whole ≡ old.whole
    → ((base : Base) (received : List Message) → Knows old base received → Knows new base (message ∷ received))
    → ((base : Base) (received : List Message) (choice : Choice) → NamesDiffer (message ∷ received) → StandsFor old base received choice → (moved : Moved) × IsReceived old new base received message choice moved)
    → (progress : Progress) → IsAt (record { chain = old; unreadable = unreadable }) progress → IsAt (record { chain = new; unreadable = unreadable }) (progress_after (Some message) progress)
at_more old new unreadable message whole knows stands progress at = record {
  truncates = whole ∙ at.truncates;
  knows = subst (Knows new first_base) (sym (turned progress.messages message)) (knows first_base (reverse progress.messages) at.knows);
  stands = λ differ. goes_on differ (at.stands (differ_front progress.messages message differ));
  others = at.others;
}
  where
    goes_on : NamesDiffer (progress.messages ++ message ∷ []) → ((choice : Choice) × StandsFor old first_base (reverse progress.messages) choice)
        → (choice : Choice) × StandsFor new first_base (reverse (progress.messages ++ message ∷ [])) choice
    goes_on differ (choice, stood) =
        let is = (stands first_base (reverse progress.messages) choice (differ_turned progress.messages message differ) stood).1 in
        (is.next, subst (λ received. StandsFor new first_base received is.next) (sym (turned progress.messages message)) is.stands)

-- ---- how many names are known

pub few_names : (messages : List Message) (number : ℕ) → IsNumberOf (IsKnown first_base (reverse messages)) number → number ≤ most_names → HasFewNames messages
few_names messages number is most names once known =
    omega (arith, distinct_short names is.all once (λ name has. (is.these name).1 ((known_turned messages name).1 (known name has))), is.many, most)

-- what a chain refuses as full is one name too many
pub message_refusal : (received : Received) (message : Message) (error : ReceiveRefused)
    → (error ≡ Full → (base : Base) (messages : List Message) → Knows received.chain base messages → IsFull base messages message)
    → (progress : Progress) → IsAt received progress → IsMessageRefusal message progress.messages error
message_refusal received message Full why progress at = (
  few_names progress.messages most_names is.full (omega arith),
  record {
    full = number_same (IsKnown first_base (reverse progress.messages)) (IsKnown first_base progress.messages) most_names (known_turned progress.messages) is.full;
    not_base = is.not_base;
    new = λ known has same. is.new (known, (same_reversed progress.messages known).0 has, same, is.not_base);
  },
)
  where
    is : IsFull first_base (reverse progress.messages) message
    is = why refl first_base (reverse progress.messages) at.knows
message_refusal received message (NoMemory error) why progress at = tt

-- a message that is not received stops receiving at its line
pub line_refusal : (line : List ℕ) (messages : List Message) (message : Message) → LineSpells line message → (error : ReceiveRefused) → IsMessageRefusal message messages error
    → IsLineRefusal line messages error
line_refusal line messages message spelled Full why = (message, spelled, why)
line_refusal line messages message spelled (NoMemory error) why = tt

-- ---- the report

-- the choice of a chain that truncates
pub chosen_of : (chain : View) (received : List Message) (choice : Choice) → chain.whole ≡ false → StandsFor chain first_base received choice → IsChoice first_base received choice
chosen_of chain received choice truncates stands = subst (λ whole. IsChosen whole first_base received choice) truncates stands.chosen

-- a chain tells the choice, and the counts
pub tells : (progress : Progress) (choice : Choice) (report : Report) (best root : Place) → IsChoice first_base (reverse progress.messages) choice
    → best ≡ place_of first_base choice.chosen → root ≡ place_of first_base choice.root → report.overtaken ≡ choice.overtaken → report.unreadable ≡ progress.unreadable
    → IsNumberOf (IsKnown first_base (reverse progress.messages)) report.known → IsNumberOf (IsWaiting first_base (reverse progress.messages)) report.waiting
    → ((above : ℕ) × IsNumberOf (IsKept first_base (reverse progress.messages) choice.root) above × (report.kept ≡ above + 1))
    → report ≡ record report { best = best.name; height = best.height; root = root.name; root_height = root.height } → Tells progress choice report
tells progress choice report best root is_choice at_best at_root overtook others known waiting kept told = record {
  is_choice = is_choice;
  counts = counts_same first_base (reverse progress.messages) progress.messages (back progress.messages) choice.root report.known report.waiting report.kept
      (record { known_names = known; waiting_messages = waiting; above_root = kept.0; kept_messages = kept.1; with_root = kept.2 });
  told = ap (λ (r : Report). values r (text first_base choice.chosen)) told ∙ (λ i. record {
    best = (at_best i).name;
    height = (at_best i).height;
    units = text first_base choice.chosen;
    known = report.known;
    waiting = report.waiting;
    unreadable = others i;
    root = (at_root i).name;
    root_height = (at_root i).height;
    kept = report.kept;
    overtaken = overtook i;
  });
}

-- the lines of what is told are the report
pub reported : (progress : Progress) (choice : Choice) (report : Report) (units bytes : List ℕ) → Tells progress choice report → units ≡ text first_base choice.chosen
    → bytes ≡ report_lines (values report units) → IsReport first_base progress.messages progress.unreadable bytes
reported progress choice report units bytes told after is = record {
  choice = choice;
  is_choice = told.is_choice;
  known = report.known;
  waiting = report.waiting;
  kept = report.kept;
  counts = told.counts;
  lines = is ∙ ap (λ text. report_lines (values report text)) after ∙ ap report_lines told.told;
}

-- and without the text they are the report without its text
pub summed : (progress : Progress) (choice : Choice) (report : Report) (units bytes : List ℕ) → Tells progress choice report → units ≡ text first_base choice.chosen
    → IsWithoutText (values report units) bytes → IsSummary first_base progress.messages progress.unreadable bytes
unfolding reported
summed progress choice report units bytes told after is = record {
  report = report_lines (values report units);
  is_report = reported progress choice report units (report_lines (values report units)) told after refl;
  without_text = ap (λ text. bytes ++ line (codes "text") (json_string text)) (sym after) ∙ is;
}

-- A message is received.
use Rattle.client_own.proofs.Fitting.{switched_made}
use Rattle.client_own.proofs.Steps.{StepLaws}
use Rattle.std.proofs.Common.{◌≡◌, inl, inr, Bool, true, false, List, [], ◌∷◌, sym, ◌∙◌, ap, subst, Contains, append-nil}
use Rattle.pad_list.proofs.CallerLemmas.{contains_more, contains_cases}
use Rattle.pad_message.specs.declared.message.Message.{Message}
use Rattle.pad_model.specs.declared.base.Base.{Base}
use Rattle.pad_model.specs.Path.{IsPath}
use Rattle.pad_model.specs.Choice.{Choice, IsBestThrough}
use Rattle.pad_model.proofs.CallerLemmas.{linked_more, path_more}
use Rattle.pad_chain.specs.declared.moved.Moved.{Moved}
use Rattle.pad_chain.specs.Moved.{IsMoved}
use Rattle.pad_chain.specs.Tie.{IsChosenNext}
use Rattle.client_work.specs.Switch.{Draft, switched, draft_at}
use Rattle.client_copy.specs.Pad.{Pad, Receives}
use Rattle.client_copy.specs.State.{Copy}
use Rattle.client_copy.specs.Receive.{Follows}
use Rattle.client_own.specs.Stands.{StandsOn}
use Rattle.client_own.specs.Laws.{MovedStands}
use Rattle.client_own.specs.Life.{Life}
use Rattle.client_own.proofs.Given.{MarkLaws, switched_given}
use Rattle.client_own.proofs.Holding.{AreLinked, Keeps, Holds}

-- the best chain of what is received then, through a root
best_next : (whole : Bool) (base : Base) (received : List Message) (message : Message) (choice next : Choice) → IsChosenNext whole base received message choice next
    → (root : List Message) × IsBestThrough base (message ∷ received) root next.chosen
best_next true base received message choice next is =
    ([], record { path = is.best.path; through = (next.chosen, sym (append-nil next.chosen)); none_better = λ other path through. is.best.none_better other path })
best_next false base received message choice next is = (choice.root, is.chosen)

-- the pad with one message more
abbrev pub pad_with : Pad → Message → Choice → Pad
pad_with pad message choice = record { all = message ∷ pad.all; base = pad.base; received = message ∷ pad.received; whole = pad.whole; choice = choice }

abbrev pub followed : Life → Message → Moved → Choice → Life
followed life message moved choice = record life {
  copy = record life.copy {
    pad = pad_with life.copy.pad message choice;
    work = (switched life.copy.sent moved (draft_at life.copy.pad.base life.copy.pad.choice.chosen life.copy.work)).work;
  };
}

pub keeps_followed : StepLaws → MovedStands → MarkLaws → (all : List Message) (life : Life) → Keeps all life → (message : Message) → Contains all message → (moved : Moved) (choice : Choice)
    → IsChosenNext life.copy.pad.whole life.copy.pad.base life.copy.pad.received message life.copy.pad.choice choice → IsMoved life.copy.pad.base life.copy.pad.choice.chosen choice.chosen moved
    → Keeps all (followed life message moved choice)
keeps_followed steps switches marks all life keeps message has moved choice chosen moves =
    let base = life.copy.pad.base in
    let old = life.copy.pad.choice.chosen in
    let next = best_next life.copy.pad.whole base life.copy.pad.received message life.copy.pad.choice choice chosen in
    let among : (other : Message) → Contains (message ∷ life.copy.pad.received) other → Contains all other
    = λ other contains. elim (contains_cases message life.copy.pad.received other contains) [ inl is ↦ subst (Contains all) is has | inr later ↦ keeps.among other later ] in
    let old_path : IsPath base all old = path_more base life.copy.pad.received all old keeps.among keeps.best.path in
    let new_path : IsPath base all choice.chosen = path_more base (message ∷ life.copy.pad.received) all choice.chosen among next.1.path in
    let switch = switches life.gone life.marks base life.copy.sent old choice.chosen moved life.copy.work moves (keeps.holds old old_path) (keeps.holds choice.chosen new_path) keeps.stands in
    record {
      base_is = keeps.base_is;
      of_all = keeps.of_all;
      among = among;
      root = next.0;
      best = next.1;
      sent_are = keeps.sent_are;
      work_given = switched_given marks life.copy.strokes life.copy.sent keeps.sent_given moved (draft_at base old life.copy.work) keeps.work_given;
      sent_given = keeps.sent_given;
      typed_or_made = keeps.typed_or_made;
      since_repair = keeps.since_repair;
      holds = keeps.holds;
      stands = subst (λ (d : Draft). StandsOn life.gone life.marks base life.copy.sent choice.chosen d.work) (sym switch.1) switch.2;
      made_here = switched_made steps life.gone life.marks base life.copy.sent old choice.chosen moved life.copy.work moves (keeps.holds old old_path) keeps.best.path.1 (keeps.holds choice.chosen new_path) keeps.made_here;
    }

-- what is linked stays so
pub linked_followed : (life : Life) (message : Message) (moved : Moved) (choice : Choice) → AreLinked life → AreLinked (followed life message moved choice)
linked_followed life message moved choice linked name made =
    let found = linked name made in
    (found.0, found.1, found.2, linked_more life.copy.pad.base life.copy.pad.received (message ∷ life.copy.pad.received) (found.0 ∷ found.1) (contains_more message life.copy.pad.received) found.3)

-- a pad is its parts
pub same_pad : (pad : Pad) (all : List Message) (base : Base) (received : List Message) (whole : Bool) → pad.all ≡ all → pad.base ≡ base → pad.received ≡ received → pad.whole ≡ whole
    → pad ≡ record { all = all; base = base; received = received; whole = whole; choice = pad.choice }
same_pad pad all base received whole one two three four =
    let first : List Message → Pad = λ a. record { all = a; base = pad.base; received = pad.received; whole = pad.whole; choice = pad.choice } in
    let second : Base → Pad = λ b. record { all = all; base = b; received = pad.received; whole = pad.whole; choice = pad.choice } in
    let third : List Message → Pad = λ r. record { all = all; base = base; received = r; whole = pad.whole; choice = pad.choice } in
    let last : Bool → Pad = λ w. record { all = all; base = base; received = received; whole = w; choice = pad.choice } in
    ap first one ∙ ap second two ∙ ap third three ∙ ap last four

pub received_pad : (before : Pad) (message : Message) (moved : Moved) (after : Pad) → Receives before message moved after → after ≡ pad_with before message after.choice
received_pad before message moved after is = same_pad after (message ∷ before.all) before.base (message ∷ before.received) before.whole is.all is.base is.received is.whole

pub hears : StepLaws → MovedStands → MarkLaws → (all : List Message) (life : Life) → Holds all life → (message : Message) → Contains all message → (moved : Moved) (after : Copy) → Follows life.copy message moved after
    → Holds all (record life { copy = after })
hears steps switches marks all life is message has moved after follows =
    let pad_is = received_pad life.copy.pad message moved follows.pad follows.received in
    let then : Holds all (followed life message moved follows.pad.choice) = record {
      keeps = keeps_followed steps switches marks all life is.keeps message has moved follows.pad.choice follows.received.chosen follows.received.moves;
      linked = linked_followed life message moved follows.pad.choice is.linked;
    } in
    let work = (switched life.copy.sent moved (draft_at life.copy.pad.base life.copy.pad.choice.chosen life.copy.work)).work in
    let with_pad : Pad → Life = λ pad. record life { copy = record life.copy { pad = pad; work = work } } in
    subst (λ (c : Copy). Holds all (record life { copy = c })) (sym follows.state) (subst (λ (p : Pad). Holds all (with_pad p)) (sym pad_is) then)

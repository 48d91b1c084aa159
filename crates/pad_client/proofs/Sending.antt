-- A client stands for the state after own messages were made and sent.
use Rattle.std.proofs.Common.{◌≡◌, ◌⊎◌, ℕ, ◌+◌, Bool, true, false, Option, None, Some, List, [], ◌∷◌, ◌++◌, length, Contains, inl, inr, refl, sym, ◌∙◌, ap, subst, arith}
use Rattle.std.proofs.lemmas.List.Elements.{Contains-append_left, Contains-append_right}
use Rattle.pad_list.proofs.CallerLemmas.{contains_head, contains_cases, contains_map}
use Rattle.pad_patch.specs.declared.operation.Operation.{Operation}
use Rattle.pad_message.specs.declared.message.Message.{Message}
use Rattle.pad_branch.specs.declared.moved.Move.{Move}
use Rattle.pad_chain.specs.declared.moved.Moved.{Moved}
use Rattle.client_outbox.specs.Outbox.{Unacknowledged}
use Rattle.client_copy.specs.State.{Copy}
use Rattle.client_copy.specs.Receive.{Follows}
use Rattle.client_copy.specs.Make as copies
use Rattle.client_copy.specs.Make.{IsCheckpointOf, IsPatchOf}
use Rattle.client_copy.specs.View as seen
use Rattle.client_copy.specs.View.{NoClash}
use Rattle.client_requests.specs.State as requested
use Rattle.client_requests.specs.Calls.{Sends}
use Rattle.pad_client.specs.State.{ClientState}
use Rattle.pad_client.specs.Refusal.{made_of}
use Rattle.pad_client.specs.Inside.Made.{WorkDiffers, BothDiffer, WorkHasName, BothHaveNames}
use Rattle.pad_client.specs.Sync.{own_messages, Makes, SendsWork, SendsBoth, WouldMake, DiffersAfterSync}
use Rattle.pad_client.specs.View.{View, StandsAs, StandsAsRepairs}
use Rattle.pad_client.proofs.Noting.{one_came, more_came}
use Rattle.pad_chain.specs.State as chains
use Rattle.client_copy.specs.Repair.{AreAmong}

-- ---- names

-- no names clash among fewer messages
clash_less : (less more : List Message) → ((message : Message) → Contains less message → Contains more message) → NoClash more → NoClash less
clash_less less more among clash = record {
  differ = λ one other has has_other. clash.differ one other (among one has) (among other has_other);
  not_base = λ message has. clash.not_base message (among message has);
}

own_among : (outbox : List Unacknowledged) (own : Unacknowledged) (all : List Message) → Contains outbox own → Contains (own_messages outbox ++ all) own.message
own_among outbox own all has = Contains-append_left (own_messages outbox) all own.message (contains_map (λ (o : Unacknowledged). o.message) outbox own has)

one_more : (more all : List Message) (one : Message) → Contains more one → ((message : Message) → Contains all message → Contains more message) → (message : Message) → Contains (one ∷ all) message → Contains more message
one_more more all one has rest message among = go (contains_cases one all message among)
  where
    go : (one ≡ message) ⊎ Contains all message → Contains more message
    go (inl same) = subst (Contains more) same has
    go (inr old) = rest message old

-- one message of the outbox, and two
clash_one : (outbox : List Unacknowledged) (own : Unacknowledged) (all : List Message) → Contains outbox own → NoClash (own_messages outbox ++ all) → NoClash (own.message ∷ all)
clash_one outbox own all has =
    clash_less (own.message ∷ all) (own_messages outbox ++ all) (one_more (own_messages outbox ++ all) all own.message (own_among outbox own all has) (λ message old. Contains-append_right (own_messages outbox) all message old))

clash_two : (outbox : List Unacknowledged) (first second : Unacknowledged) (all : List Message) → Contains outbox first → Contains outbox second → NoClash (own_messages outbox ++ all)
    → NoClash (second.message ∷ first.message ∷ all)
clash_two outbox first second all has_first has_second =
    let more = own_messages outbox ++ all in
    clash_less (second.message ∷ first.message ∷ all) more
    (one_more more (first.message ∷ all) second.message (own_among outbox second all has_second)
    (one_more more all first.message (own_among outbox first all has_first) (λ message old. Contains-append_right (own_messages outbox) all message old)))

-- ---- one message

-- a message was made and sent; the interval that is wanted then is told
pub made : (held new : View) (client : ClientState) (message : Message) (wire : List ℕ) (moved : Moved) (copy : Copy) → StandsAs held client → Sends held.requests message wire new.requests
    → copies.Makes client.copy message moved copy → Makes client message wire (record client { copy = copy; requests = new.requests; synced = client.synced ++ moved.applied })
made held new client message wire moved copy stands sends makes = record {
  requests = new.requests;
  sends = subst (λ (r : requested.State). Sends r message wire new.requests) stands.requests sends;
  moved = moved;
  made = copy;
  makes = makes;
  state = refl;
}

pub stands_made : (held new : View) (client : ClientState) (moved : Moved) (copy : Copy) (wanted : Option ℕ) → StandsAs held client → seen.StandsAs new.copy copy
    → AreAmong client.copy.pad.all copy.pad.all → new.unreadable ≡ held.unreadable → new.wanted ≡ wanted → new.repair ≡ held.repair → new.synced ≡ held.synced ++ moved.applied
    → StandsAs new (record client { copy = copy; wanted = wanted; requests = new.requests; synced = client.synced ++ moved.applied })
stands_made held new client moved copy wanted stands copy_stands among unreadable is repair synced = record {
  copy = copy_stands;
  unreadable = unreadable ∙ stands.unreadable;
  wanted = is;
  requests = refl;
  repair = subst (λ (r : Option chains.View). StandsAsRepairs copy.pad.all r client.repair) (sym repair) (more_came client.copy.pad.all copy.pad.all held.repair client.repair among stands.repair);
  synced = synced ∙ ap (λ moves. moves ++ moved.applied) stands.synced;
}

-- what was made is one message more
pub made_all : (before : Copy) (message : Message) (moved : Moved) (after : Copy) → copies.Makes before message moved after → AreAmong before.pad.all after.pad.all
made_all before message moved after makes = one_came before.pad.all after.pad.all message (ap (λ (c : Copy). c.pad.all) makes.state ∙ makes.received.all)

-- ---- the texts

-- what is told of a patch message that was made, and of a checkpoint
abbrev pub HasMadePatch : View → View → List ℕ → Type 0
HasMadePatch held new wire = (message : Message) × Sends held.requests message wire new.requests
    × ((client : ClientState) → StandsAs held client → IsPatchOf client.copy message
    × (NoClash (message ∷ client.copy.pad.all) → (after : ClientState) × Makes client message wire after × StandsAs new after))

abbrev pub HasMadeCheckpoint : View → View → List ℕ → Type 0
HasMadeCheckpoint held new wire = (message : Message) × Sends held.requests message wire new.requests
    × ((client : ClientState) → StandsAs held client → IsCheckpointOf client.copy client.wanted message
    × (NoClash (message ∷ client.copy.pad.all) → (after : ClientState) × Makes client message wire after × StandsAs new (record after { wanted = None })))

abbrev own_of : requested.State → Message → Unacknowledged
own_of requests message = record { message = message; number = Some (requests.last + 1) }

sent_in : (before after : requested.State) (message : Message) (wire : List ℕ) → Sends before message wire after → Contains after.outbox (own_of before message)
sent_in before after message wire sends =
    subst (λ (outbox : List Unacknowledged). Contains outbox (own_of before message)) (sym (ap (λ (r : requested.State). r.outbox) sends.state))
    (Contains-append_right before.outbox (own_of before message ∷ []) (own_of before message) (contains_head (own_of before message) []))

stays_in : (before after : requested.State) (message : Message) (wire : List ℕ) (own : Unacknowledged) → Sends before message wire after → Contains before.outbox own → Contains after.outbox own
stays_in before after message wire own sends has =
    subst (λ (outbox : List Unacknowledged). Contains outbox own) (sym (ap (λ (r : requested.State). r.outbox) sends.state)) (Contains-append_left before.outbox (own_of before message ∷ []) own has)

all_after : (before after : ClientState) (message : Message) (wire : List ℕ) → Makes before message wire after → after.copy.pad.all ≡ message ∷ before.copy.pad.all
all_after before after message wire makes = ap (λ (c : ClientState). c.copy.pad.all) makes.state ∙ ap (λ (c : Copy). c.pad.all) makes.makes.state ∙ makes.makes.received.all

-- the messages that were sent have names of their own
work_alone : (held new : View) (client : ClientState) (message : Message) (wire : List ℕ) → Sends held.requests message wire new.requests → IsPatchOf client.copy message
    → WorkHasName client new.requests → NoClash (message ∷ client.copy.pad.all)
work_alone held new client message wire sends is (inl differs) = differs message is
work_alone held new client message wire sends is (inr clash) = clash_one new.requests.outbox (own_of held.requests message) client.copy.pad.all (sent_in held.requests new.requests message wire sends) clash

checkpoint_alone : (held middle new : View) (client : ClientState) (checkpoint message : Message) (first second : List ℕ) → Sends held.requests checkpoint first middle.requests
    → Sends middle.requests message second new.requests → IsCheckpointOf client.copy client.wanted checkpoint → BothHaveNames client new.requests → NoClash (checkpoint ∷ client.copy.pad.all)
checkpoint_alone held middle new client checkpoint message first second sends_first sends is (inl differs) = differs.checkpoint checkpoint is
checkpoint_alone held middle new client checkpoint message first second sends_first sends is (inr clash) =
    let one = own_of held.requests checkpoint in
    clash_one new.requests.outbox one client.copy.pad.all
    (stays_in middle.requests new.requests message second one sends (sent_in held.requests middle.requests checkpoint first sends_first)) clash

both_alone : (held middle new : View) (client between : ClientState) (checkpoint message : Message) (first second : List ℕ) → Sends held.requests checkpoint first middle.requests
    → Sends middle.requests message second new.requests → IsCheckpointOf client.copy client.wanted checkpoint → Makes client checkpoint first between → IsPatchOf between.copy message
    → BothHaveNames client new.requests → NoClash (message ∷ checkpoint ∷ client.copy.pad.all)
both_alone held middle new client between checkpoint message first second sends_first sends is makes is_patch (inl differs) = differs.both checkpoint message first between is makes is_patch
both_alone held middle new client between checkpoint message first second sends_first sends is makes is_patch (inr clash) =
    let one = own_of held.requests checkpoint in
    clash_two new.requests.outbox one (own_of middle.requests message) client.copy.pad.all
    (stays_in middle.requests new.requests message second one sends (sent_in held.requests middle.requests checkpoint first sends_first))
    (sent_in middle.requests new.requests message second sends) clash

pub sent_work : (held new : View) (wires : List (List ℕ)) (wire : List ℕ) → wires ≡ wire ∷ [] → HasMadePatch held new wire → (client : ClientState) → StandsAs held client
    → WorkHasName client new.requests → (after : ClientState) × SendsWork client wires after × StandsAs new after
sent_work held new wires wire is (message, sends, makes) client stands named =
    let made = makes client stands in
    let given = made.1 (work_alone held new client message wire sends made.0 named) in
    (given.0, record { message = message; is_patch = made.0; wire = wire; makes = given.1; texts = is }, given.2)

pub sent_both : (held middle new : View) (wires : List (List ℕ)) (first second : List ℕ) → wires ≡ first ∷ second ∷ [] → HasMadeCheckpoint held middle first → HasMadePatch middle new second
    → (client : ClientState) → StandsAs held client → BothHaveNames client new.requests → (after : ClientState) × SendsBoth client wires after × StandsAs new after
sent_both held middle new wires first second is (checkpoint, sends_first, makes_first) (message, sends, makes) client stands named =
    let made = makes_first client stands in
    let given = made.1 (checkpoint_alone held middle new client checkpoint message first second sends_first sends made.0 named) in
    let between = record given.0 { wanted = None } in
    let then = makes between given.2 in
    let both = both_alone held middle new client given.0 checkpoint message first second sends_first sends made.0 given.1 then.0 named in
    let next = then.1 (subst (λ all. NoClash (message ∷ all)) (sym (all_after client given.0 checkpoint first given.1)) both) in (
      next.0,
      record {
        message = checkpoint;
        is_checkpoint = made.0;
        wire = first;
        middle = given.0;
        makes = given.1;
        rest = second ∷ [];
        work = record { message = message; is_patch = then.0; wire = second; makes = next.1; texts = refl };
        texts = is;
      },
      next.2,
    )

-- ---- the premise of a sync

pub work_differs : (client : ClientState) → WouldMake client 1 → DiffersAfterSync client → WorkDiffers (record client { synced = [] })
work_differs client makes differs message is = differs.work makes message is

pub both_differ : (client : ClientState) → WouldMake client 2 → DiffersAfterSync client → BothDiffer (record client { synced = [] })
both_differ client makes differs = record {
  checkpoint = λ message is. differs.checkpoint makes message is;
  both = λ message next wire middle is made is_patch. differs.both makes message next wire middle is made is_patch;
}

-- ---- how many messages are made

cons_some : {A : Type 0} (x : A) (xs : List A) → ¬ (x ∷ xs ≡ [])
cons_some x xs none = omega (arith, ap length none)

pub none_made : (operations : List Operation) (due : Bool) → made_of operations due ≡ 0 → operations ≡ []
none_made [] due none = refl
none_made (operation ∷ operations) true none = let no : ⊥ = omega (arith, none) in absurd no
none_made (operation ∷ operations) false none = let no : ⊥ = omega (arith, none) in absurd no

pub one_made : (operations : List Operation) (due : Bool) → made_of operations due ≡ 1 → ¬ (operations ≡ []) × (due ≡ false)
one_made [] due one = let no : ⊥ = omega (arith, one) in absurd no
one_made (operation ∷ operations) true one = let no : ⊥ = omega (arith, one) in absurd no
one_made (operation ∷ operations) false one = (cons_some operation operations, refl)

pub both_made : (operations : List Operation) (due : Bool) → ¬ (made_of operations due ≡ 0) → ¬ (made_of operations due ≡ 1) → ¬ (operations ≡ []) × (due ≡ true)
both_made [] due some more = absurd (some refl)
both_made (operation ∷ operations) true some more = (cons_some operation operations, refl)
both_made (operation ∷ operations) false some more = absurd (more refl)

pub made_none : (operations : List Operation) (due : Bool) → operations ≡ [] → made_of operations due ≡ 0
made_none operations due none = ap (λ ops. made_of ops due) none

pub made_two : (operations : List Operation) (due : Bool) → ¬ (operations ≡ []) → due ≡ true → made_of operations due ≡ 2
made_two [] due some is = absurd (some refl)
made_two (operation ∷ operations) due some is = ap (made_of (operation ∷ operations)) is

pub made_one : (operations : List Operation) (due : Bool) → ¬ (operations ≡ []) → due ≡ false → made_of operations due ≡ 1
made_one [] due some is = absurd (some refl)
made_one (operation ∷ operations) due some is = ap (made_of (operation ∷ operations)) is

-- ---- a client that was begun anew to sync

pub begun : (held : View) (client : ClientState) (none : List Move) → none ≡ [] → StandsAs held client → StandsAs (record held { synced = none }) (record client { synced = [] })
begun held client none is stands = record { copy = stands.copy; unreadable = stands.unreadable; wanted = stands.wanted; requests = stands.requests; repair = stands.repair; synced = is }

-- ---- a copy of a message is received

pub follows_as : (held new : seen.View) (message copy : Message) (moved : Moved) → copy ≡ message
    → ((state : Copy) → seen.StandsAs held state → NoClash (copy ∷ state.pad.all) → (after : Copy) × Follows state copy moved after × seen.StandsAs new after)
    → (state : Copy) → seen.StandsAs held state → NoClash (message ∷ state.pad.all) → (after : Copy) × Follows state message moved after × seen.StandsAs new after
follows_as held new message copy moved same =
    subst (λ (m : Message). (state : Copy) → seen.StandsAs held state → NoClash (m ∷ state.pad.all) → (after : Copy) × Follows state m moved after × seen.StandsAs new after) same

pub makes_as : (held new : seen.View) (message copy : Message) (moved : Moved) → copy ≡ message
    → ((state : Copy) → seen.StandsAs held state → NoClash (copy ∷ state.pad.all) → (after : Copy) × copies.Makes state copy moved after × seen.StandsAs new after)
    → (state : Copy) → seen.StandsAs held state → NoClash (message ∷ state.pad.all) → (after : Copy) × copies.Makes state message moved after × seen.StandsAs new after
makes_as held new message copy moved same =
    subst (λ (m : Message). (state : Copy) → seen.StandsAs held state → NoClash (m ∷ state.pad.all) → (after : Copy) × copies.Makes state m moved after × seen.StandsAs new after) same

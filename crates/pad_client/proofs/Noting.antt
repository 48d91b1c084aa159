-- What a repair has received: it stays as other messages come, it is dropped as the repair is given up, and it grows.
use Rattle.std.proofs.Common.{◌≡◌, ◌⊎◌, ℕ, Bool, true, false, Option, None, Some, List, [], ◌∷◌, ◌++◌, Contains, inl, inr, refl, sym, ap, subst}
use Rattle.std.proofs.lemmas.Bool.{false≢true}
use Rattle.std.proofs.lemmas.List.Elements.{Contains-append_left}
use Rattle.pad_list.proofs.CallerLemmas.{contains_head, contains_more, contains_cases}
use Rattle.pad_message.specs.declared.message.Message.{Message}
use Rattle.pad_model.specs.Base.{first_base}
use Rattle.pad_model.specs.Path.{NamesDiffer}
use Rattle.pad_model.specs.Choice.{Choice}
use Rattle.pad_chain.specs.State as chains
use Rattle.pad_chain.specs.Tie.{StandsFor}
use Rattle.pad_chain.specs.Knows.{IsFull}
use Rattle.netflux_codec.specs.declared.since.Since.TheVariants as since
use Rattle.client_copy.specs.State.{Copy}
use Rattle.client_copy.specs.Repair.{noted, EndsRepair, AreAmong, NotedStands}
use Rattle.client_copy.specs.View as copies
use Rattle.client_copy.specs.View.{NoClash}
use Rattle.client_outbox.specs.Outbox.{Unacknowledged}
use Rattle.client_requests.specs.declared.asked.Asked.{Asked}
use Rattle.client_requests.specs.declared.asked.Asked.TheVariants.{Nothing, History, Repair}
use Rattle.client_requests.specs.State as requested
use Rattle.client_requests.specs.State.{repairs}
use Rattle.client_requests.specs.Calls.{Questions, with_repair}
use Rattle.client_requests.specs.Hear.{with_nothing_asked}
use Rattle.pad_client.specs.declared.heard.Heard.{Heard}
use Rattle.pad_client.specs.declared.heard.Heard.TheVariants as heard
use Rattle.pad_client.specs.State.{ClientState}
use Rattle.pad_client.specs.Sync.{own_messages}
use Rattle.pad_client.specs.Repair.{while_asked, all_noted, sent_before, BeginsRepair, HearsRepaired}
use Rattle.pad_client.specs.Content.{MeetsFullFor, MeetsFull, no_moves, after_message, HearsMessage, is_noted}
use Rattle.pad_client.specs.View.{View, StandsAs, StandsAsRepairs}

-- ---- lists

pub one_came : (all more : List Message) (message : Message) → more ≡ message ∷ all → AreAmong all more
one_came all more message is other has = subst (λ (ms : List Message). Contains ms other) (sym is) (contains_more message all other has)

both_came : (message : Message) (received all : List Message) → AreAmong received all → AreAmong (message ∷ received) (message ∷ all)
both_came message received all among other has = go (contains_cases message received other has)
  where
    go : (message ≡ other) ⊎ Contains received other → Contains (message ∷ all) other
    go (inl same) = subst (Contains (message ∷ all)) same (contains_head message all)
    go (inr old) = contains_more message all other (among other old)

differ_among : (some all : List Message) → AreAmong some all → NamesDiffer all → NamesDiffer some
differ_among some all among differ one other has has_other = differ one other (among one has) (among other has_other)

-- ---- it stays as other messages come

pub more_came : (all more : List Message) (chain : Option chains.View) (received : Option (List Message)) → AreAmong all more → StandsAsRepairs all chain received → StandsAsRepairs more chain received
more_came all more None None among stands = tt
more_came all more None (Some received) among stands = absurd stands
more_came all more (Some chain) None among stands = absurd stands
more_came all more (Some chain) (Some received) among stands =
    record { choice = stands.choice; stands = stands.stands; whole = stands.whole; among = λ message has. among message (stands.among message has) }

-- ---- it is dropped if the repair is given up

pub while_stands : (all : List Message) (asked : Asked) (chain : Option chains.View) (received : Option (List Message)) → StandsAsRepairs all chain received
    → StandsAsRepairs all (while_asked asked chain) (while_asked asked received)
while_stands all Nothing chain received stands = tt
while_stands all (History number fresh) chain received stands = tt
while_stands all (Repair number) chain received stands = stands

pub while_none : (asked : Asked) → while_asked {R = chains.View} asked None ≡ None
while_none Nothing = refl
while_none (History number fresh) = refl
while_none (Repair number) = refl

pub while_quiet : (asked : Asked) (repair : Option chains.View) → repairs asked ≡ false → while_asked asked repair ≡ None
while_quiet Nothing repair quiet = refl
while_quiet (History number fresh) repair quiet = refl
while_quiet (Repair number) repair quiet = absurd (false≢true (sym quiet))

pub while_runs : (asked : Asked) (repair : Option chains.View) → repairs asked ≡ true → while_asked asked repair ≡ repair
while_runs Nothing repair runs = absurd (false≢true runs)
while_runs (History number fresh) repair runs = absurd (false≢true runs)
while_runs (Repair number) repair runs = refl

-- ---- none runs

pub none_runs : (all : List Message) (chain : Option chains.View) (received : Option (List Message)) → chain ≡ None → StandsAsRepairs all chain received → received ≡ None
none_runs all None None is stands = refl
none_runs all None (Some received) is stands = absurd stands
none_runs all (Some chain) received is stands = let no : ⊥ = cc in absurd no

-- ---- it receives

-- what a chain does as it receives the message
abbrev pub ReceivesOn : chains.View → chains.View → Message → Type 0
ReceivesOn chain next message = (received : List Message) (choice : Choice) → NamesDiffer (message ∷ received) → StandsFor chain first_base received choice
    → (after : Choice) × StandsFor next first_base (message ∷ received) after

abbrev pub HasRoom : chains.View → Message → Type 0
HasRoom chain message = (received : List Message) (choice : Choice) → StandsFor chain first_base received choice → ¬ (IsFull first_base received message)

abbrev pub StaysOn : chains.View → chains.View → Type 0
StaysOn chain next = (received : List Message) (choice : Choice) → StandsFor chain first_base received choice → StandsFor next first_base received choice

pub noted_as : NotedStands → (held new : View) (client : ClientState) (entry : Bool) (message : Message) (chain next : chains.View) → held.repair ≡ Some chain → StandsAs held client
    → NoClash (message ∷ client.copy.pad.all) → next.whole ≡ true → ReceivesOn chain next message → HasRoom chain message
    → new ≡ record held { requests = after_message entry message held.requests; repair = Some next }
    → (after : ClientState) × HearsMessage client entry message (heard.Content no_moves) after × StandsAs new after
noted_as law held new client entry message chain next running stands clash whole receives room is =
    go client.repair refl (subst (λ (r : Option chains.View). StandsAsRepairs client.copy.pad.all r client.repair) running stands.repair)
  where
    go : (repair : Option (List Message)) → client.repair ≡ repair → StandsAsRepairs client.copy.pad.all (Some chain) repair
        → (after : ClientState) × HearsMessage client entry message (heard.Content no_moves) after × StandsAs new after
    go None runs tied = absurd tied
    go (Some received) runs tied =
        let among = both_came message received client.copy.pad.all tied.among in
        let given = receives received tied.choice (differ_among (message ∷ received) (message ∷ client.copy.pad.all) among clash.differ) tied.stands in
        let after : ClientState = record client { copy = noted message client.copy; requests = after_message entry message client.requests; repair = Some (message ∷ received) } in (
          after,
          is_noted received runs (λ full. room received tied.choice tied.stands (subst (λ (r : Option (List Message)). MeetsFullFor client.copy.pad r message) runs full)),
          subst (λ (v : View). StandsAs v after) (sym is) (record {
            copy = law held.copy client.copy message stands.copy;
            unreadable = stands.unreadable;
            wanted = stands.wanted;
            requests = ap (after_message entry message) stands.requests;
            repair = record { choice = given.0; stands = given.1; whole = whole; among = among };
            synced = stands.synced;
          }),
        )

pub noted_still : (held new : View) (chain next : chains.View) → held.repair ≡ Some chain → next.whole ≡ true → StaysOn chain next → new ≡ record held { repair = Some next }
    → (client : ClientState) → StandsAs held client → StandsAs new client
noted_still held new chain next running whole stays is client stands =
    subst (λ (v : View). StandsAs v client) (sym is) (record {
      copy = stands.copy;
      unreadable = stands.unreadable;
      wanted = stands.wanted;
      requests = stands.requests;
      repair = go client.repair (subst (λ (r : Option chains.View). StandsAsRepairs client.copy.pad.all r client.repair) running stands.repair);
      synced = stands.synced;
    })
  where
    go : (repair : Option (List Message)) → StandsAsRepairs client.copy.pad.all (Some chain) repair → StandsAsRepairs client.copy.pad.all (Some next) repair
    go None tied = absurd tied
    go (Some received) tied = record { choice = tied.choice; stands = stays received tied.choice tied.stands; whole = whole; among = tied.among }

pub noted_full : (held : View) (client : ClientState) (message : Message) (chain : chains.View) → held.repair ≡ Some chain → StandsAs held client
    → ((received : List Message) (choice : Choice) → StandsFor chain first_base received choice → IsFull first_base received message) → MeetsFull client message
noted_full held client message chain running stands full =
    go client.repair (subst (λ (r : Option chains.View). StandsAsRepairs client.copy.pad.all r client.repair) running stands.repair)
  where
    go : (repair : Option (List Message)) → StandsAsRepairs client.copy.pad.all (Some chain) repair → MeetsFullFor client.copy.pad repair message
    go None tied = absurd tied
    go (Some received) tied = full received tied.choice tied.stands

-- ---- it begins

all_noted_stands : NotedStands → (held : copies.View) (copy : Copy) (messages : List Message) → copies.StandsAs held copy → copies.StandsAs held (all_noted messages copy)
all_noted_stands law held copy [] stands = stands
all_noted_stands law held copy (message ∷ messages) stands = law held (all_noted messages copy) message (all_noted_stands law held copy messages stands)

-- the chain of a repair that has received the messages of the outbox
abbrev pub HasBegun : chains.View → List Unacknowledged → Type 0
HasBegun chain outbox = NamesDiffer (own_messages outbox) → (choice : Choice) × StandsFor chain first_base (sent_before outbox) choice

pub begun_as : NotedStands → (held new : View) (client : ClientState) (wire : List ℕ) (chain : chains.View) → StandsAs held client → NoClash (own_messages held.requests.outbox ++ client.copy.pad.all)
    → Questions held.requests since.All wire → HasBegun chain held.requests.outbox → chain.whole ≡ true → new ≡ record held { requests = with_repair held.requests; repair = Some chain }
    → (after : ClientState) × BeginsRepair client wire after × StandsAs new after
begun_as law held new client wire chain stands clash question begun whole is =
    let own = sent_before client.requests.outbox in
    let differ = subst (λ (r : requested.State). NamesDiffer (own_messages r.outbox)) stands.requests
    (differ_among (own_messages held.requests.outbox) (own_messages held.requests.outbox ++ client.copy.pad.all) (λ message has. Contains-append_left (own_messages held.requests.outbox) client.copy.pad.all message has) clash.differ) in
    let given = subst (λ (r : requested.State). HasBegun chain r.outbox) stands.requests begun differ in
    let after : ClientState = record client { copy = all_noted own client.copy; requests = with_repair client.requests; repair = Some own } in (
      after,
      record { question = subst (λ (r : requested.State). Questions r since.All wire) stands.requests question; state = refl },
      subst (λ (v : View). StandsAs v after) (sym is) (record {
        copy = all_noted_stands law held.copy client.copy own stands.copy;
        unreadable = stands.unreadable;
        wanted = stands.wanted;
        requests = ap with_repair stands.requests;
        repair = record { choice = given.0; stands = given.1; whole = whole; among = λ message has. Contains-append_left own client.copy.pad.all message has };
        synced = stands.synced;
      }),
    )

-- ---- it ends

-- the working copy took the chain in the pad's place
abbrev pub HasEnded : copies.View → copies.View → chains.View → Bool → Type 0
HasEnded old new chain found = (copy : Copy) (received : List Message) (choice : Choice) → copies.StandsAs old copy → StandsFor chain first_base received choice → AreAmong received copy.pad.all → NoClash copy.pad.all
    → (after : Copy) × EndsRepair copy received found after × copies.StandsAs new after

-- what is told then
abbrev pub HearsEndOf : View → View → Heard → Type 0
HearsEndOf held new answer = (client : ClientState) → StandsAs held client → NoClash client.copy.pad.all
    → (received : List Message) × (found : Bool) × (after : ClientState) × (client.repair ≡ Some received) × HearsRepaired client received found after × (answer ≡ heard.Repaired found) × StandsAs new after

pub ended_as : (held new : View) (chain : chains.View) (found : Bool) → held.repair ≡ Some chain → HasEnded held.copy new.copy chain found
    → new ≡ record held { copy = new.copy; requests = with_nothing_asked held.requests; repair = None } → HearsEndOf held new (heard.Repaired found)
ended_as held new chain found running ended is client stands clash =
    go client.repair refl (subst (λ (r : Option chains.View). StandsAsRepairs client.copy.pad.all r client.repair) running stands.repair)
  where
    go : (repair : Option (List Message)) → client.repair ≡ repair → StandsAsRepairs client.copy.pad.all (Some chain) repair
        → (received : List Message) × (told : Bool) × (after : ClientState) × (client.repair ≡ Some received) × HearsRepaired client received told after × (heard.Repaired found ≡ heard.Repaired told)
        × StandsAs new after
    go None runs tied = absurd tied
    go (Some received) runs tied =
        let given = ended client.copy received tied.choice stands.copy tied.stands tied.among clash in
        let after : ClientState = record client { copy = given.0; requests = with_nothing_asked client.requests; repair = None } in (
          received,
          found,
          after,
          runs,
          record { copy = given.0; ends = given.1; state = refl },
          refl,
          subst (λ (v : View). StandsAs v after) (sym is) (record {
            copy = given.2;
            unreadable = stands.unreadable;
            wanted = stands.wanted;
            requests = ap with_nothing_asked stands.requests;
            repair = tt;
            synced = stands.synced;
          }),
        )

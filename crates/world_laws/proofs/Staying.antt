-- A client that has a channel keeps it.
use Rattle.std.proofs.Common.{◌≡◌, ◌⊎◌, inl, inr, ℕ, Bool, true, false, Option, Some, None, List, [], ◌∷◌, ◌+◌, ◌≢◌, bytes_eq, true≢false, refl, sym, ap, ◌∙◌, subst, if◌then◌else◌}
use Rattle.std.proofs.lemmas.Slice.Eq.{bytes_eq-Decides}
use Rattle.pad_message.specs.declared.message.Message.{Message}
use Rattle.netflux_codec.specs.declared.reply.Reply.{Reply}
use Rattle.netflux_codec.specs.declared.reply.Reply.TheVariants as reply
use Rattle.netflux_codec.specs.declared.who.Who.TheVariants as who
use Rattle.client_requests.specs.declared.asked.Asked.{Asked}
use Rattle.client_requests.specs.declared.asked.Asked.TheVariants.{Nothing, History, Repair}
use Rattle.client_requests.specs.declared.joining.Joining.{Joining}
use Rattle.client_requests.specs.State.{State}
use Rattle.client_requests.specs.Calls.{Joins, without_connection}
use Rattle.client_requests.specs.Refusal.{IsOther}
use Rattle.client_requests.specs.Hear.{Either, Forgets, IsJoining, IsOwnJoin, HearsMember}
use Rattle.pad_client.specs.declared.heard.Heard.{Heard}
use Rattle.pad_client.specs.State.{ClientState, with_requests}
use Rattle.pad_client.specs.Repair.{with_answered}
use Rattle.pad_client.specs.Content.{HearsContent, is_counted, is_message, HearsMessage, becomes_base, is_received, is_noted, after_content, after_message}
use Rattle.pad_client.specs.Sync.{Syncs, idle, sends_work, sends_both, SendsWork, SendsBoth}
use Rattle.pad_client.specs.Hear.{Hears, is_strange, is_reply, HearsReply, is_content, is_repaired, is_about, HearsAddressed, HearsAbout, HearsEnd, HearsUnknown, Addressed}
use Rattle.pad_seat.specs.State.{SeatState, without_seat}
use Rattle.pad_seat.specs.Calls.{Calls, done, refused_by}
use Rattle.world_laws.specs.Acts.{Acts, HeardAt, SeatRuns}
use Rattle.world_laws.specs.Acts.{joins, leaves_channel, asks, resends, repairs, syncs, edits, sets_interval, hears, connects, loses, moves}
use Rattle.world_laws.specs.Laws.{ChannelsStay}

-- a channel that is being joined is the one that was joined before, if one was
abbrev pub IsSame : Option Joining → Option (List ℕ) → Type 0
IsSame None channel = Unit {0}
IsSame (Some joining) None = Unit {0}
IsSame (Some joining) (Some channel) = joining.channel ≡ channel

-- the channel stays, and what is being joined is right
pub record Keeps (before after : State) : Type 0 where
  pub right : IsSame before.joining before.channel → IsSame after.joining after.channel
  pub stays : (channel : List ℕ) → IsSame before.joining before.channel → before.channel ≡ Some channel → after.channel ≡ Some channel

fold_cases : {P A B C : Type 0} → Either P A B → (A → C) → (B → C) → C
fold_cases (inl h) one other = one h.1
fold_cases (inr h) one other = other h.1

-- both are as before
keeps_both : (before after : State) → after.joining ≡ before.joining → after.channel ≡ before.channel → Keeps before after
keeps_both before after joining channel = record {
  right = λ is. subst (λ (j : Option Joining). IsSame j after.channel) (sym joining) (subst (IsSame before.joining) (sym channel) is);
  stays = λ c is has. channel ∙ has;
}

pub keeps_all : (before after : State) → after ≡ before → Keeps before after
keeps_all before after same = keeps_both before after (ap (λ (s : State). s.joining) same) (ap (λ (s : State). s.channel) same)

-- nothing is being joined then
keeps_none : (before after : State) → after.joining ≡ None → after.channel ≡ before.channel → Keeps before after
keeps_none before after joining channel = record {
  right = λ is. subst (λ (j : Option Joining). IsSame j after.channel) (sym joining) tt;
  stays = λ c is has. channel ∙ has;
}

-- ---- calls

not_other : (joined channel : List ℕ) → ¬ (joined ≢ channel) → channel ≡ joined
not_other joined channel same = by (bytes_eq joined channel) refl
  where
    by : (b : Bool) → bytes_eq joined channel ≡ b → channel ≡ joined
    by true e = sym ((bytes_eq-Decides joined channel).0 e)
    by false e = absurd (same (λ is. true≢false (sym ((bytes_eq-Decides joined channel).1 is) ∙ e)))

right_join : (channel : Option (List ℕ)) (number : ℕ) (joined : List ℕ) → ¬ (IsOther channel joined) → IsSame (Some (record { number = number; channel = joined })) channel
right_join None number joined same = tt
right_join (Some other) number joined same = not_other other joined same

pub keeps_join : (before : State) (channel text : List ℕ) (after : State) → Joins before channel text after → Keeps before after
keeps_join before channel text after is = record {
  right = λ same. subst (λ (s : State). IsSame s.joining s.channel) (sym is.state) (right_join before.channel (before.last + 1) channel is.may.same);
  stays = λ c same has. ap (λ (s : State). s.channel) is.state ∙ has;
}

-- ---- a text

own_join : (joining : Option Joining) (had : Option (List ℕ)) (channel c : List ℕ) → IsJoining joining channel → IsSame joining had → had ≡ Some c → channel ≡ c
own_join None had channel c is same has = absurd is
own_join (Some joining) None channel c is same has = absurd (cc)
own_join (Some joining) (Some other) channel c is same has = cc

keeps_member : (before after : State) (id channel : List ℕ) → IsOwnJoin before id channel → after ≡ record before { joining = None; joined = true; channel = Some channel } → Keeps before after
keeps_member before after id channel own is = record {
  right = λ same. subst (λ (s : State). IsSame s.joining s.channel) (sym is) tt;
  stays = λ c same has. ap (λ (s : State). s.channel) is ∙ ap (λ (x : List ℕ). Some x) (own_join before.joining before.channel channel c own.joining same has);
}

member_keeps : (before after : State) (id channel : List ℕ) (joins_it : Bool) → HearsMember before id channel joins_it after → Keeps before after
member_keeps before after id channel joins_it (inl own) = keeps_member before after id channel own.0 own.1.1
member_keeps before after id channel joins_it (inr other) = keeps_all before after other.1.1

keeps_forgets : (number : ℕ) (before after : State) → Forgets number before after → Keeps before after
keeps_forgets number before after is =
    let channel : after.channel ≡ before.channel = ap (λ (s : State). s.channel) is.state in
    let joining : after.joining ≡ is.joining = ap (λ (s : State). s.joining) is.state in
    fold_cases is.not_joining (λ none. keeps_none before after (joining ∙ none) channel) (λ same. keeps_both before after (joining ∙ same) channel)

keeps_end : (asked : Asked) (before after : State) (total : ℕ) (answer : Heard) → HearsEnd asked before total answer after → Keeps before after
keeps_end Nothing before after total answer is = keeps_all before after is.state
keeps_end (History number fresh) before after total answer is = keeps_both before after (ap (λ (s : State). s.joining) is.1) (ap (λ (s : State). s.channel) is.1)
keeps_end (Repair number) before after total answer is = keeps_all before after is.state

keeps_unknown : (asked : Asked) (before after : State) (answer : Heard) → HearsUnknown asked before answer after → Keeps before after
keeps_unknown Nothing before after answer is = keeps_all before after is.state
keeps_unknown (History number fresh) before after answer is = keeps_both before after (ap (λ (s : State). s.joining) is.1) (ap (λ (s : State). s.channel) is.1)
keeps_unknown (Repair number) before after answer is = keeps_all before after is.state

keeps_about : (before : State) (said : Reply) (answer : Heard) (after : State) → HearsAbout before said answer after → Keeps before after
keeps_about before (reply.Ident id) answer after is = keeps_both before after (ap (λ (s : State). s.joining) is.1) (ap (λ (s : State). s.channel) is.1)
keeps_about before (reply.Error number word about) answer after is = keeps_forgets number before after is.1
keeps_about before (reply.Member (who.Member id) channel) answer after is = member_keeps before after id channel is.0 is.1
keeps_about before (reply.Member (who.Keeper id) channel) answer after is = fold_cases is.1
    (λ k. keeps_both before after (ap (λ (s : State). s.joining) k) (ap (λ (s : State). s.channel) k)) (λ k. keeps_all before after k)
keeps_about before (reply.Ack number) answer after is = fold_cases is.1
    (λ k. keeps_both before after (ap (λ (s : State). s.joining) k.1) (ap (λ (s : State). s.channel) k.1))
    (λ k. fold_cases k (λ m. keeps_both before after (ap (λ (s : State). s.joining) m.1) (ap (λ (s : State). s.channel) m.1)) (λ m. keeps_all before after m.1))
keeps_about before (reply.HistoryEnd keeper channel total) answer after is = fold_cases is (λ k. keeps_end before.asked before after total answer k) (λ k. keeps_all before after k.state)
keeps_about before (reply.HistoryUnknown keeper channel key) answer after is = fold_cases is (λ k. keeps_unknown before.asked before after answer k) (λ k. keeps_all before after k.state)
keeps_about before (reply.Joined number channel) answer after is = keeps_all before after is.state
keeps_about before (reply.Gone id channel reason) answer after is = keeps_all before after is.state
keeps_about before (reply.Entry keeper channel index moment sender content) answer after is = keeps_all before after is.state
keeps_about before (reply.Msg id target content) answer after is = absurd is
keeps_about before (reply.History keeper channel index sender content) answer after is = absurd is

content_keeps : (entry : Bool) (before : State) → Keeps before (after_content entry before)
content_keeps true before = keeps_both before (after_content true before) refl refl
content_keeps false before = keeps_both before before refl refl

message_keeps : (entry : Bool) (message : Message) (before : State) → Keeps before (after_message entry message before)
message_keeps true message before = keeps_both before (after_message true message before) refl refl
message_keeps false message before = keeps_both before before refl refl

keeps_message : (before : ClientState) (entry : Bool) (message : Message) (answer : Heard) (after : ClientState) → HearsMessage before entry message answer after → Keeps before.requests after.requests
keeps_message before entry message answer after (becomes_base copy none adopted adopts) = message_keeps entry message before.requests
keeps_message before entry message answer after (is_received moved copy none adopted room follows) = message_keeps entry message before.requests
keeps_message before entry message answer after (is_noted received some room) = message_keeps entry message before.requests

keeps_content : (before : ClientState) (entry : Bool) (content : List ℕ) (answer : Heard) (after : ClientState) → HearsContent before entry content answer after → Keeps before.requests after.requests
keeps_content before entry content answer after (is_counted none) = content_keeps entry before.requests
keeps_content before entry content answer after (is_message message told became reads does) = keeps_message before entry message told became does

keeps_reply : (before : ClientState) (said : Reply) (answer : Heard) (after : ClientState) → HearsReply before said answer after → Keeps before.requests after.requests
keeps_reply before said answer after (is_content addressed told became has does) =
    fold_cases does (λ k. keeps_content before addressed.entry addressed.content told became k) (λ k. keeps_all before.requests became.requests (ap (λ (c : ClientState). c.requests) k.1))
keeps_reply before said answer after (is_repaired received found became end repaired) =
    let same = ap (λ (c : ClientState). c.requests) repaired.state in
    keeps_both before.requests became.requests (ap (λ (s : State). s.joining) same) (ap (λ (s : State). s.channel) same)
keeps_reply before said answer after (is_about told requests no_end about) = keeps_about before.requests said told requests about

pub keeps_text : (before : ClientState) (text : List ℕ) (answer : Heard) (after : ClientState) → Hears before text answer after → Keeps before.requests after.requests
keeps_text before text answer after (is_strange none) = keeps_all before.requests before.requests refl
keeps_text before text answer after (is_reply said told became replies does) = keeps_reply before said told became does

-- ---- a sync

keeps_work : (before : ClientState) (wires : List (List ℕ)) (after : ClientState) → SendsWork before wires after → Keeps before.requests after.requests
keeps_work before wires after is =
    let same = ap (λ (c : ClientState). c.requests) is.makes.state ∙ is.makes.sends.state in
    keeps_both before.requests after.requests (ap (λ (s : State). s.joining) same) (ap (λ (s : State). s.channel) same)

-- one after the other
keeps_on : (before middle after : State) → Keeps before middle → Keeps middle after → Keeps before after
keeps_on before middle after one other = record {
  right = λ same. other.right (one.right same);
  stays = λ c same has. other.stays c (one.right same) (one.stays c same has);
}

keeps_sync : (before : ClientState) (wires : List (List ℕ)) (after : ClientState) → Syncs before wires after → Keeps before.requests after.requests
keeps_sync before wires after (idle may none) = keeps_all before.requests before.requests refl
keeps_sync before wires after (sends_work sent became may some due work) = keeps_work (record before { synced = [] }) sent became work
keeps_sync before wires after (sends_both sent became may some due both) =
    let same = ap (λ (c : ClientState). c.requests) both.makes.state ∙ both.makes.sends.state in
    keeps_on before.requests both.middle.requests became.requests
    (keeps_both before.requests both.middle.requests (ap (λ (s : State). s.joining) same) (ap (λ (s : State). s.channel) same))
    (keeps_work (record both.middle { wanted = None }) both.rest became both.work)

-- ---- acts

-- a call that is done, or refused
keeps_call : {E : Type 0} {is_told is_cause : E → Type 0} {word : E → List ℕ} (line : ℕ) (before : SeatState) (does : List (List ℕ) → ClientState → Type 0) (printed : List ℕ) (after : SeatState)
    → ((texts : List (List ℕ)) (client : ClientState) → does texts client → Keeps before.client.requests client.requests)
    → Calls line before does is_told is_cause word printed after → Keeps before.client.requests after.client.requests
keeps_call line before does printed after each (done texts client is) = each texts client is
keeps_call line before does printed after each (refused_by cause told is) = keeps_all before.client.requests before.client.requests refl

-- the requests became these
keeps_requests : (before : ClientState) (next : State) (after : ClientState) → Keeps before.requests next → after ≡ with_requests next before → Keeps before.requests after.requests
keeps_requests before next after keeps same = subst (λ (c : ClientState). Keeps before.requests c.requests) (sym same) keeps

keeps_lost : (seat : SeatState) (connected : Bool) → Keeps seat.client.requests (if connected
    then record { client = with_answered (without_connection seat.client.requests) seat.client; connected = false; up = []; down = [] } else seat).client.requests
keeps_lost seat true = keeps_none seat.client.requests (without_connection seat.client.requests) refl refl
keeps_lost seat false = keeps_all seat.client.requests seat.client.requests refl

pub keeps_act : (before : SeatState) (texts : List (List ℕ)) (after : SeatState) → Acts before texts after → Keeps before.client.requests after.client.requests
keeps_act before texts after (joins line channel printed became is) =
    keeps_call line before _ printed became (λ sent client does. keeps_requests before.client does.1 client (keeps_join before.client.requests channel does.0 does.1 does.2) does.4) is
keeps_act before texts after (leaves_channel line printed became is) =
    keeps_call line before _ printed became (λ sent client does. keeps_requests before.client does.1 client
    (keeps_both before.client.requests does.1 (ap (λ (s : State). s.joining) does.2.state) (ap (λ (s : State). s.channel) does.2.state)) does.4) is
keeps_act before texts after (asks line from printed became is) =
    keeps_call line before _ printed became (λ sent client does. keeps_requests before.client does.1 client
    (keeps_both before.client.requests does.1 (ap (λ (s : State). s.joining) does.2.state) (ap (λ (s : State). s.channel) does.2.state)) does.4) is
keeps_act before texts after (resends line printed became is) =
    keeps_call line before _ printed became (λ sent client does. keeps_requests before.client does.0 client
    (keeps_both before.client.requests does.0 (ap (λ (s : State). s.joining) does.1.state) (ap (λ (s : State). s.channel) does.1.state)) does.2) is
keeps_act before texts after (repairs line printed became is) =
    keeps_call line before _ printed became (λ sent client does.
    let same = ap (λ (c : ClientState). c.requests) does.1.state in
    keeps_both before.client.requests client.requests (ap (λ (s : State). s.joining) same) (ap (λ (s : State). s.channel) same)) is
keeps_act before texts after (syncs line printed became is) = keeps_call line before _ printed became (λ sent client does. keeps_sync before.client sent client does) is
keeps_act before texts after (edits line operation printed became is) =
    keeps_call line before _ printed became (λ sent client does. keeps_all before.client.requests client.requests (ap (λ (c : ClientState). c.requests) does.0.state)) is
keeps_act before texts after (sets_interval interval) = keeps_all before.client.requests before.client.requests refl
keeps_act before texts after (hears text answer became is) =
    subst (λ (s : SeatState). Keeps before.client.requests s.client.requests) (sym is.state) (keeps_text before.client text answer is.client is.hears)
keeps_act before texts after connects = keeps_all before.client.requests before.client.requests refl
keeps_act before texts after loses = keeps_lost before before.connected
keeps_act before texts after (moves up down) = keeps_all before.client.requests before.client.requests refl

-- what is being joined is right, after all acts
pub runs_right : (heard : List HeardAt) (seat : SeatState) → SeatRuns heard seat → IsSame seat.client.requests.joining seat.client.requests.channel
runs_right heard seat SeatRuns.begins = tt
runs_right heard seat (SeatRuns.goes_on earlier texts before after runs act) = (keeps_act before texts after act).right (runs_right earlier before runs)

pub channels_stay : ChannelsStay
channels_stay heard before texts after channel runs act has = (keeps_act before texts after act).stays channel (runs_right heard before runs) has

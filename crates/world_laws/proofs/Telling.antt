-- What a client has of texts that a hub told.
use Rattle.std.proofs.Common.{◌≡◌, ◌⊎◌, inl, inr, ℕ, Option, Some, None, List, [], ◌∷◌, ◌++◌, Contains, refl, sym, ap, ◌∙◌, subst}
use Rattle.std.proofs.lemmas.List.Elements.{Contains-append_left, Contains-append_cases}
use Rattle.pad_list.proofs.CallerLemmas.{contains_cases, contains_none}
use Rattle.pad_message.specs.declared.message.Message.{Message}
use Rattle.pad_message.specs.Message.{name_of}
use Rattle.pad_message.specs.Content.{Reads}
use Rattle.netflux_codec.specs.declared.reply.Reply.{Reply}
use Rattle.netflux_codec.specs.declared.reply.Reply.TheVariants as reply
use Rattle.netflux_codec.specs.Reply.{Replies, reply_text}
use Rattle.client_outbox.specs.Outbox.{Unacknowledged}
use Rattle.pad_client.specs.Hear.{Addressed, content_of}
use Rattle.pad_seat.specs.State.{SeatState}
use Rattle.client_laws.specs.Past.{Past, took, left}
use Rattle.client_laws.specs.Agreement.{IsEntry, IsSpelled}
use Rattle.client_laws.specs.Laws.{IsAnswered, IsAnsweredByEntry, CaughtUpAgree}
use Rattle.netflux_core.specs.Crashes.{ChannelLogs}
use Rattle.serve_loop.specs.declared.out.Out.{Out}
use Rattle.serve_loop.specs.declared.out.Out.TheVariants.{Send, HangUp}
use Rattle.hub_laws.specs.Told.{Brings, IsFounded, IsHeldContent, IsConnection}
use Rattle.hub_laws.specs.Told as hub
use Rattle.hub_laws.specs.Small.{HasSmallNumbers, ToldAreSmall}
use Rattle.world_laws.specs.Acts.{Acts, HeardAt, SeatRuns, heard_at}
use Rattle.world_laws.specs.Laws.{IsTaken, IsAnsweredBy, IsPastOf, ChannelsStay}
use Rattle.world_laws.specs.Reading.{ContentsReadBack, AcksReadBack}
use Rattle.world_laws.specs.Told.{BringsEntries, IsTold, AreTexts, StepsTell, HeardIsTold, AcksAreOfEntries, NamesTell, HeardKeepChannel, TakenAreEntries, LeftAreSpelled, SeatsAgree, FoundedBringEntries}

-- ---- channels

of_act : (before : SeatState) (texts : List (List ℕ)) (at : HeardAt) → Contains (heard_at before texts) at → before ≡ at.seat
of_act before [] at has = absurd (contains_none at has)
of_act before (text ∷ texts) at has = go (λ k. of_act before texts at k) (contains_cases (record { seat = before; text = text }) (heard_at before texts) at has)
  where
    go : (Contains (heard_at before texts) at → before ≡ at.seat) → (record { seat = before; text = text } ≡ at) ⊎ Contains (heard_at before texts) at → before ≡ at.seat
    go rest (inl e) = ap (λ (h : HeardAt). h.seat) e
    go rest (inr k) = rest k

pub keep_channel : ChannelsStay → HeardKeepChannel
keep_channel stay heard seat at channel SeatRuns.begins has its = absurd (contains_none at has)
keep_channel stay heard seat at channel (SeatRuns.goes_on earlier texts before after runs act) has its =
    stay earlier before texts after channel runs act (had (λ old. keep_channel stay earlier before at channel runs old its) (Contains-append_cases (heard_at before texts) earlier at has))
  where
    had : (Contains earlier at → before.client.requests.channel ≡ Some channel) → Contains (heard_at before texts) at ⊎ Contains earlier at → before.client.requests.channel ≡ Some channel
    had before_that (inl now) = ap (λ (s : SeatState). s.client.requests.channel) (of_act before texts at now) ∙ its
    had before_that (inr old) = before_that old

-- ---- contents

abbrev target_or : List ℕ → Option Addressed → List ℕ
target_or other None = other
target_or other (Some addressed) = addressed.target

abbrev content_or : List ℕ → Option Addressed → List ℕ
content_or other None = other
content_or other (Some addressed) = addressed.content

brings_addressed : (said : Reply) (addressed : Addressed) → content_of said ≡ Some addressed → Brings said addressed.target addressed.content
brings_addressed (reply.Msg id target content) addressed e =
    (ap (λ (a : Option Addressed). target_or target a) e, ap (λ (a : Option Addressed). content_or content a) e)
brings_addressed (reply.History keeper channel index sender content) addressed e =
    (ap (λ (a : Option Addressed). target_or channel a) e, ap (λ (a : Option Addressed). content_or content a) e)
brings_addressed (reply.Ident id) addressed e = absurd (cc)
brings_addressed (reply.Error number word about) addressed e = absurd (cc)
brings_addressed (reply.Member who channel) addressed e = absurd (cc)
brings_addressed (reply.Ack number) addressed e = absurd (cc)
brings_addressed (reply.HistoryEnd keeper channel total) addressed e = absurd (cc)
brings_addressed (reply.HistoryUnknown keeper channel key) addressed e = absurd (cc)
brings_addressed (reply.Joined number channel) addressed e = absurd (cc)
brings_addressed (reply.Gone id channel reason) addressed e = absurd (cc)
brings_addressed (reply.Entry keeper channel index moment sender content) addressed e = absurd (cc)

-- a content that a told text brings for the channel is an entry
entry_of : ContentsReadBack → (log : List (List ℕ)) (whose : Option (List ℕ)) (text : List ℕ) (heard : Reply) (addressed : Addressed) → IsTold log whose text → Replies text heard
    → content_of heard ≡ Some addressed → whose ≡ Some addressed.target → IsEntry log addressed.content
entry_of back log whose text heard addressed told replies has its =
    told.brings addressed.target its addressed.content
    (brings_addressed told.said addressed (sym (back told.said heard told.small (subst (λ (t : List ℕ). Replies t heard) told.text_is replies)) ∙ has))

pub taken_entries : ContentsReadBack → TakenAreEntries
taken_entries back heard seat past log is told content message has reads =
    let got = is.taken content has in
    let taken = got.3 in
    subst (λ (c : List ℕ). IsEntry log c) taken.same
    (entry_of back log seat.client.requests.channel got.0.text taken.said taken.addressed (told got.0 got.2) taken.replies taken.has (got.4 ∙ ap (λ (c : List ℕ). Some c) (sym taken.target)))

-- ---- own messages

pub left_spelled : ContentsReadBack → AcksReadBack → HeardKeepChannel → LeftAreSpelled
left_spelled back acks keep heard seat past log runs is told of_entries names message has = subst (IsSpelled log) answer.same (by answer.answered)
  where
    got : (at : HeardAt) × Contains heard at × IsAnsweredBy at.seat.client at.text message
    got = is.answered message has

    answer : IsAnsweredBy got.0.seat.client got.0.text message
    answer = got.2

    was_told : IsTold log seat.client.requests.channel got.0.text
    was_told = told got.0 got.1

    by : IsAnswered got.0.seat.client answer.said answer.own → IsSpelled log answer.own.message
    by (inl ack) =
        let heard_so = subst (λ (t : List ℕ). Replies t (reply.Ack ack.0)) was_told.text_is (subst (λ (r : Reply). Replies got.0.text r) ack.1 answer.replies) in
        let was_said = acks was_told.said ack.0 was_told.small heard_so in
        of_entries got.0 ack.0 answer.own got.1 (was_told.text_is ∙ ap reply_text was_said) answer.has ack.2
    by (inr entry) =
        let found = entry_of back log seat.client.requests.channel got.0.text answer.said entry.addressed was_told answer.replies entry.has
        (keep heard seat got.0 entry.addressed.target runs got.1 entry.its) in
        let spelled : IsSpelled log entry.message = (found.0, found.1, subst (λ (c : List ℕ). Reads c entry.message) (sym found.2) entry.reads) in
        subst (IsSpelled log) (names entry.message answer.own.message spelled (subst (λ (m : Message). Contains past (left m)) (sym answer.same) has) entry.named) spelled

pub seats_agree : CaughtUpAgree → TakenAreEntries → LeftAreSpelled → SeatsAgree
seats_agree agree taken spelled heard seat past log runs is told of_entries names caught =
    agree past seat.client log is.lives caught (taken heard seat past log is told) (spelled heard seat past log runs is told of_entries names)

-- ---- what a hub founds

pub founded_entries : FoundedBringEntries
founded_entries identities channels said channel log founded is_front no_connection content brings = by (founded channel content brings)
  where
    by : IsHeldContent channels channel content ⊎ IsConnection identities channel → IsEntry log content
    by (inl is) =
        let front = is_front is.held is.is_held in
        (is.payload, subst (λ (l : List (List ℕ)). Contains l is.payload) (sym front.1) (Contains-append_left is.held front.0 is.payload is.has), is.same)
    by (inr is) = absurd (no_connection is)

each_text : (P : Reply → Type 0) (Is : List ℕ → Type 0) → ((said : Reply) (text : List ℕ) → text ≡ reply_text said → P said → Is text) → (outs : List Out) → hub.AreTold P outs → AreTexts Is outs
each_text P Is turn [] h = tt
each_text P Is turn (Send number text ∷ outs) h = (turn h.0.0 text h.0.1 h.0.2, each_text P Is turn outs h.1)
each_text P Is turn (HangUp number ∷ outs) h = each_text P Is turn outs h

pub steps_tell : (logs : ChannelLogs) → ToldAreSmall logs → FoundedBringEntries → StepsTell logs
steps_tell logs small founded identities before moment event outs after whose log digits of_client few step front no_connection =
    each_text (λ (said : Reply). IsFounded identities after.channels said × HasSmallNumbers said) (IsTold log whose)
    (λ said text is both. record {
      said = said;
      text_is = is;
      small = both.1;
      brings = λ channel its. founded identities after.channels said channel log both.0 (front channel its) (no_connection channel its);
    })
    outs (small identities before moment event outs after digits of_client few step)

-- What a text adds to the past of a client that hears it.
use Rattle.std.proofs.Common.{◌≡◌, ◌⊎◌, inl, inr, ℕ, not, Bool, true, false, cond, Option, Some, None, List, [], ◌∷◌, filter, Contains, refl, sym, ap, ◌∙◌, subst, true≢false, if◌then◌else◌, eqb-true}
use Rattle.std.proofs.lemmas.Slice.Eq.{bytes_eq-Decides}
use Rattle.pad_list.proofs.CallerLemmas.{contains_head, contains_more, contains_cases, contains_none}
use Rattle.pad_text.specs.declared.name.Name.{Name}
use Rattle.pad_message.specs.declared.message.Message.{Message}
use Rattle.pad_message.specs.Message.{name_of}
use Rattle.pad_message.specs.Content.{Reads}
use Rattle.netflux_codec.specs.declared.reply.Reply.{Reply}
use Rattle.netflux_codec.specs.declared.reply.Reply.TheVariants as reply
use Rattle.netflux_codec.specs.declared.who.Who.TheVariants as who
use Rattle.client_outbox.specs.Outbox.{Unacknowledged, same_name, awaits_under, without_number, forgotten, forgotten_under}
use Rattle.client_requests.specs.declared.asked.Asked.{Asked}
use Rattle.client_requests.specs.declared.asked.Asked.TheVariants.{Nothing, History, Repair}
use Rattle.client_requests.specs.State as requested
use Rattle.client_requests.specs.State.{repairs}
use Rattle.client_requests.specs.Hear.{Either, HearsAck, HearsMember}
use Rattle.pad_client.specs.declared.heard.Heard.{Heard}
use Rattle.pad_client.specs.declared.heard.Heard.TheVariants as heard
use Rattle.pad_client.specs.State.{ClientState}
use Rattle.pad_client.specs.Content.{HearsContent, is_counted, is_message, HearsMessage, becomes_base, is_received, is_noted, after_content, after_message}
use Rattle.pad_client.specs.Hear.{HearsReply, is_content, is_repaired, is_about, HearsAddressed, HearsAbout, HearsEnd, HearsUnknown, IsRepairsEnd, Addressed, content_of}
use Rattle.client_laws.specs.Past.{Past, took, left, repair_ends, repair_given_up}
use Rattle.client_laws.specs.Befalls.{is_end, Takes, brings, brings_none, Lefts, no_more, stays, leaves, repair_told, Adds}
use Rattle.client_laws.specs.Laws.{IsAnswered}

fold_cases : {P A B C : Type 0} → Either P A B → (A → C) → (B → C) → C
fold_cases (inl h) one other = one h.1
fold_cases (inr h) one other = other h.1

not_false : (b : Bool) → not b ≡ false → b ≡ true
not_false true e = refl
not_false false e = absurd (true≢false e)

-- ---- messages that leave an outbox

-- what happened is that a message of an outbox left it, which the reply answered
abbrev pub IsLeft : ClientState → Reply → List Unacknowledged → Past → Type 0
IsLeft before said outbox what = (own : Unacknowledged) × Contains outbox own × (what ≡ left own.message) × IsAnswered before said own

-- one outbox became another, each message that left it answered
abbrev pub Gone : ClientState → Reply → List Past → (old new : List Unacknowledged) → Type 0
Gone before said past old new = (now : List Past) × Lefts old new past now × ((what : Past) → Contains now what → Contains past what ⊎ IsLeft before said old what)

all_stay : (past : List Past) (outbox : List Unacknowledged) → Lefts outbox outbox past past
all_stay past [] = no_more past
all_stay past (own ∷ outbox) = stays own.number own outbox outbox past past (all_stay past outbox)

forgets_stay : (number : ℕ) (past : List Past) (outbox : List Unacknowledged) → Lefts outbox (forgotten_under number outbox) past past
forgets_stay number past [] = no_more past
forgets_stay number past (own ∷ outbox) = by (awaits_under number own.number) (forgets_stay number past outbox)
  where
    by : (b : Bool) → Lefts outbox (forgotten_under number outbox) past past → Lefts (own ∷ outbox) ((if b then forgotten own else own) ∷ forgotten_under number outbox) past past
    by true rest = stays None own outbox (forgotten_under number outbox) past past rest
    by false rest = stays own.number own outbox (forgotten_under number outbox) past past rest

module _ (before : ClientState) (said : Reply) (past : List Past) where
  gone_none : (old new : List Unacknowledged) → Lefts old new past past → Gone before said past old new
  gone_none old new lefts = (past, lefts, λ what has. inl has)

  gone_same : (old new : List Unacknowledged) → new ≡ old → Gone before said past old new
  gone_same old new same = subst (λ (o : List Unacknowledged). Gone before said past old o) (sym same) (gone_none old old (all_stay past old))

  -- one more in front
  more_left : (own : Unacknowledged) (outbox : List Unacknowledged) (what : Past) → Contains past what ⊎ IsLeft before said outbox what → Contains past what ⊎ IsLeft before said (own ∷ outbox) what
  more_left own outbox what (inl has) = inl has
  more_left own outbox what (inr is) = inr (is.0, contains_more own outbox is.0 is.1, is.2, is.3)

  -- those that pass a test stay, and each that fails it was answered
  gone_filter : (test : Unacknowledged → Bool) → ((own : Unacknowledged) → test own ≡ false → IsAnswered before said own) → (outbox : List Unacknowledged) → Gone before said past outbox (filter test outbox)
  gone_filter test answered [] = (past, no_more past, λ what has. inl has)
  gone_filter test answered (own ∷ outbox) = by (test own) refl (gone_filter test answered outbox)
    where
      by : (b : Bool) → test own ≡ b → Gone before said past outbox (filter test outbox) → Gone before said past (own ∷ outbox) (cond b (own ∷ filter test outbox) (filter test outbox))
      by true e rest = (rest.0, stays own.number own outbox (filter test outbox) past rest.0 rest.1, λ what has. more_left own outbox what (rest.2 what has))
      by false e rest = (left own.message ∷ rest.0, leaves own outbox (filter test outbox) past rest.0 rest.1, λ what has. go what (contains_cases (left own.message) rest.0 what has))
        where
          go : (what : Past) → (left own.message ≡ what) ⊎ Contains rest.0 what → Contains past what ⊎ IsLeft before said (own ∷ outbox) what
          go what (inl same) = inr (own, contains_head own outbox, sym same, answered own e)
          go what (inr has) = more_left own outbox what (rest.2 what has)

  -- ---- a content

  abbrev name_by : List ℕ → Name
  name_by bytes = record { 0 = bytes }

  same_names : (name other : Name) → same_name name other ≡ true → name ≡ other
  same_names name other e = ap name_by ((bytes_eq-Decides name.0 other.0).0 e)

  gone_message : (addressed : Addressed) → content_of said ≡ Some addressed → before.requests.channel ≡ Some addressed.target → (message : Message) → Reads addressed.content message
      → (entry : Bool) → addressed.entry ≡ entry → Gone before said past before.requests.outbox (after_message entry message before.requests).outbox
  gone_message addressed has its message reads false e = gone_same before.requests.outbox before.requests.outbox refl
  gone_message addressed has its message reads true e = gone_filter (λ (own : Unacknowledged). not (same_name (name_of message) (name_of own.message))) answered before.requests.outbox
    where
      answered : (own : Unacknowledged) → not (same_name (name_of message) (name_of own.message)) ≡ false → IsAnswered before said own
      answered own fails = inr (record {
        addressed = addressed;
        has = has;
        its = its;
        entry = e;
        message = message;
        reads = reads;
        named = same_names (name_of message) (name_of own.message) (not_false (same_name (name_of message) (name_of own.message)) fails);
      })

  gone_hears : (addressed : Addressed) → content_of said ≡ Some addressed → before.requests.channel ≡ Some addressed.target → (message : Message) → Reads addressed.content message
      → (answer : Heard) (after : ClientState) → HearsMessage before addressed.entry message answer after → Gone before said past before.requests.outbox after.requests.outbox
  gone_hears addressed has its message reads answer after (becomes_base copy none adopted adopts) = gone_message addressed has its message reads addressed.entry refl
  gone_hears addressed has its message reads answer after (is_received moved copy none adopted room follows) = gone_message addressed has its message reads addressed.entry refl
  gone_hears addressed has its message reads answer after (is_noted received some room) = gone_message addressed has its message reads addressed.entry refl

  content_outbox : (entry : Bool) (requests : requested.State) → (after_content entry requests).outbox ≡ requests.outbox
  content_outbox true requests = refl
  content_outbox false requests = refl

  gone_content : (addressed : Addressed) → content_of said ≡ Some addressed → before.requests.channel ≡ Some addressed.target → (answer : Heard) (after : ClientState)
      → HearsContent before addressed.entry addressed.content answer after → Gone before said past before.requests.outbox after.requests.outbox
  gone_content addressed has its answer after (is_counted none) = gone_same before.requests.outbox (after_content addressed.entry before.requests).outbox (content_outbox addressed.entry before.requests)
  gone_content addressed has its answer after (is_message message told became reads hears) = gone_hears addressed has its message reads told became hears

  -- ---- another reply

  same_outbox : (after : requested.State) → after ≡ before.requests → after.outbox ≡ before.requests.outbox
  same_outbox after e = ap (λ (s : requested.State). s.outbox) e

  end_outbox : (asked : Asked) (total : ℕ) (answer : Heard) (after : requested.State) → HearsEnd asked before.requests total answer after → after.outbox ≡ before.requests.outbox
  end_outbox Nothing total answer after is = same_outbox after is.state
  end_outbox (History number fresh) total answer after is = ap (λ (s : requested.State). s.outbox) is.1
  end_outbox (Repair number) total answer after is = same_outbox after is.state

  unknown_outbox : (asked : Asked) (answer : Heard) (after : requested.State) → HearsUnknown asked before.requests answer after → after.outbox ≡ before.requests.outbox
  unknown_outbox Nothing answer after is = same_outbox after is.state
  unknown_outbox (History number fresh) answer after is = ap (λ (s : requested.State). s.outbox) is.1
  unknown_outbox (Repair number) answer after is = same_outbox after is.state

  gone_requests : (after : requested.State) → after.outbox ≡ before.requests.outbox → Gone before said past before.requests.outbox after.outbox
  gone_requests after same = gone_same before.requests.outbox after.outbox same

awaited : (number : ℕ) (waits : Option ℕ) → awaits_under number waits ≡ true → waits ≡ Some number
awaited number None e = absurd (true≢false (sym e))
awaited number (Some other) e = ap (λ (n : ℕ). Some n) (sym (eqb-true number other e))

gone_acked : (before : ClientState) (past : List Past) (number : ℕ) → Gone before (reply.Ack number) past before.requests.outbox (without_number number before.requests.outbox)
gone_acked before past number = gone_filter before (reply.Ack number) past (λ (own : Unacknowledged). not (awaits_under number own.number)) answered before.requests.outbox
  where
    answered : (own : Unacknowledged) → not (awaits_under number own.number) ≡ false → IsAnswered before (reply.Ack number) own
    answered own fails = inl (number, refl, awaited number own.number (not_false (awaits_under number own.number) fails))

gone_about : (before : ClientState) (said : Reply) (past : List Past) (answer : Heard) (after : requested.State) → HearsAbout before.requests said answer after
    → Gone before said past before.requests.outbox after.outbox
gone_about before (reply.Ident id) past answer after is = gone_requests before (reply.Ident id) past after (ap (λ (s : requested.State). s.outbox) is.1)
gone_about before (reply.Error number word about) past answer after is =
    subst (λ (o : List Unacknowledged). Gone before (reply.Error number word about) past before.requests.outbox o) (sym (ap (λ (s : requested.State). s.outbox) is.1.state))
    (gone_none before (reply.Error number word about) past before.requests.outbox (forgotten_under number before.requests.outbox) (forgets_stay number past before.requests.outbox))
gone_about before (reply.Member (who.Member id) channel) past answer after is = gone_requests before (reply.Member (who.Member id) channel) past after
    (fold_cases is.1 (λ k. ap (λ (s : requested.State). s.outbox) k.1) (λ k. ap (λ (s : requested.State). s.outbox) k.1))
gone_about before (reply.Member (who.Keeper id) channel) past answer after is = gone_requests before (reply.Member (who.Keeper id) channel) past after
    (fold_cases is.1 (λ k. ap (λ (s : requested.State). s.outbox) k) (λ k. ap (λ (s : requested.State). s.outbox) k))
gone_about before (reply.Ack number) past answer after is =
    fold_cases is.1 (λ k. gone_requests before (reply.Ack number) past after (ap (λ (s : requested.State). s.outbox) k.1))
    (λ k. fold_cases k
    (λ m. subst (λ (o : List Unacknowledged). Gone before (reply.Ack number) past before.requests.outbox o) (sym (ap (λ (s : requested.State). s.outbox) m.1)) (gone_acked before past number))
    (λ m. gone_requests before (reply.Ack number) past after (ap (λ (s : requested.State). s.outbox) m.1)))
gone_about before (reply.HistoryEnd keeper channel total) past answer after is = gone_requests before (reply.HistoryEnd keeper channel total) past after
    (fold_cases is (λ k. end_outbox before (reply.HistoryEnd keeper channel total) past before.requests.asked total answer after k) (λ k. ap (λ (s : requested.State). s.outbox) k.state))
gone_about before (reply.HistoryUnknown keeper channel key) past answer after is = gone_requests before (reply.HistoryUnknown keeper channel key) past after
    (fold_cases is (λ k. unknown_outbox before (reply.HistoryUnknown keeper channel key) past before.requests.asked answer after k) (λ k. ap (λ (s : requested.State). s.outbox) k.state))
gone_about before (reply.Joined number channel) past answer after is = gone_requests before (reply.Joined number channel) past after (ap (λ (s : requested.State). s.outbox) is.state)
gone_about before (reply.Gone id channel reason) past answer after is = gone_requests before (reply.Gone id channel reason) past after (ap (λ (s : requested.State). s.outbox) is.state)
gone_about before (reply.Entry keeper channel index moment sender content) past answer after is =
    gone_requests before (reply.Entry keeper channel index moment sender content) past after (ap (λ (s : requested.State). s.outbox) is.state)
gone_about before (reply.Msg id target content) past answer after is = absurd is
gone_about before (reply.History keeper channel index sender content) past answer after is = absurd is

-- ---- all that a reply adds

-- what happened is that a content was taken, which the reply brought
abbrev pub IsBroughtNow : ClientState → Reply → Past → Type 0
IsBroughtNow before said what = (addressed : Addressed) × (content_of said ≡ Some addressed) × (before.requests.channel ≡ Some addressed.target) × (what ≡ took addressed.content)

-- contents that a reply takes
abbrev Taken : ClientState → Reply → List Past → Type 0
Taken before said past = (now : List Past) × Takes before said past now × ((what : Past) → Contains now what → Contains past what ⊎ IsBroughtNow before said what)

taken_none : (before : ClientState) (said : Reply) (past : List Past) → ((addressed : Addressed) → content_of said ≡ Some addressed → ¬ (before.requests.channel ≡ Some addressed.target)) → Taken before said past
taken_none before said past none = (past, brings_none none, λ what has. inl has)

taken_one : (before : ClientState) (said : Reply) (past : List Past) (addressed : Addressed) → content_of said ≡ Some addressed → before.requests.channel ≡ Some addressed.target → Taken before said past
taken_one before said past addressed has its = (took addressed.content ∷ past, brings addressed has its, λ what c. go what (contains_cases (took addressed.content) past what c))
  where
    go : (what : Past) → (took addressed.content ≡ what) ⊎ Contains past what → Contains past what ⊎ IsBroughtNow before said what
    go what (inl same) = inr (addressed, has, its, sym same)
    go what (inr c) = inl c

-- nothing is brought by a reply without a content
no_content : (before : ClientState) (said : Reply) (past : List Past) → content_of said ≡ None → Taken before said past
no_content before said past none = taken_none before said past (λ addressed has its. absurd (cc))

end_none : (client : ClientState) (said : Reply) (received : List Message) → IsRepairsEnd client said received → content_of said ≡ None
end_none client (reply.HistoryEnd keeper channel total) received is = refl
end_none client (reply.Ident id) received is = absurd is
end_none client (reply.Error number word about) received is = absurd is
end_none client (reply.Member who channel) received is = absurd is
end_none client (reply.Ack number) received is = absurd is
end_none client (reply.HistoryUnknown keeper channel key) received is = absurd is
end_none client (reply.Joined number channel) received is = absurd is
end_none client (reply.Gone id channel reason) received is = absurd is
end_none client (reply.Entry keeper channel index moment sender content) received is = absurd is
end_none client (reply.Msg id target content) received is = absurd is
end_none client (reply.History keeper channel index sender content) received is = absurd is

about_none : (before : requested.State) (said : Reply) (answer : Heard) (after : requested.State) → HearsAbout before said answer after → content_of said ≡ None
about_none before (reply.HistoryEnd keeper channel total) answer after is = refl
about_none before (reply.Ident id) answer after is = refl
about_none before (reply.Error number word about) answer after is = refl
about_none before (reply.Member who channel) answer after is = refl
about_none before (reply.Ack number) answer after is = refl
about_none before (reply.HistoryUnknown keeper channel key) answer after is = refl
about_none before (reply.Joined number channel) answer after is = refl
about_none before (reply.Gone id channel reason) answer after is = refl
about_none before (reply.Entry keeper channel index moment sender content) answer after is = refl
about_none before (reply.Msg id target content) answer after is = absurd is
about_none before (reply.History keeper channel index sender content) answer after is = absurd is

-- the channel is the target of what is addressed
abbrev IsTarget : Option (List ℕ) → Option Addressed → Type 0
IsTarget channel None = ⊥
IsTarget channel (Some addressed) = channel ≡ Some addressed.target

-- contents that were taken, and then messages that left
abbrev Both : ClientState → Reply → ClientState → List Past → Type 0
Both before said after past = (taken : Taken before said past) × Gone before said taken.0 before.requests.outbox after.requests.outbox

both : (before : ClientState) (said : Reply) (answer : Heard) (after : ClientState) (past : List Past) → HearsReply before said answer after → Both before said after past
both before said answer after past (is_content addressed told became has (inl its)) =
    let taken = taken_one before said past addressed has its.0 in
    (taken, gone_content before said taken.0 addressed has its.0 told became its.1)
both before said answer after past (is_content addressed told became has (inr its)) =
    let taken = taken_none before said past (λ other is same. its.0 (subst (λ (a : Option Addressed). IsTarget before.requests.channel a) (sym is ∙ has) same)) in
    (taken, gone_same before said taken.0 before.requests.outbox became.requests.outbox (ap (λ (c : ClientState). c.requests.outbox) its.1.1))
both before said answer after past (is_repaired received found became end repaired) =
    let taken = no_content before said past (end_none before said received end) in
    (taken, gone_same before said taken.0 before.requests.outbox became.requests.outbox (ap (λ (c : ClientState). c.requests.outbox) repaired.state))
both before said answer after past (is_about told requests no_end about) =
    let taken = no_content before said past (about_none before.requests said told requests about) in
    (taken, gone_about before said taken.0 told requests about)

-- what a repair's end adds is neither
told_repair : (ran runs ends : Bool) (past : List Past) (what : Past) → Contains (repair_told ran runs ends past) what → (what ≡ repair_ends) ⊎ ((what ≡ repair_given_up) ⊎ Contains past what)
told_repair false runs ends past what has = inr (inr has)
told_repair true true ends past what has = inr (inr has)
told_repair true false true past what has = go (contains_cases repair_ends past what has)
  where
    go : (repair_ends ≡ what) ⊎ Contains past what → (what ≡ repair_ends) ⊎ ((what ≡ repair_given_up) ⊎ Contains past what)
    go (inl same) = inl (sym same)
    go (inr k) = inr (inr k)
told_repair true false false past what has = go (contains_cases repair_given_up past what has)
  where
    go : (repair_given_up ≡ what) ⊎ Contains past what → (what ≡ repair_ends) ⊎ ((what ≡ repair_given_up) ⊎ Contains past what)
    go (inl same) = inr (inl (sym same))
    go (inr k) = inr (inr k)

-- all that a reply adds, and where it comes from
pub record Added (before : ClientState) (said : Reply) (answer : Heard) (after : ClientState) (past : List Past) : Type 0 where
  pub now : List Past
  pub adds : Adds before said answer after past now
  pub taken : (content : List ℕ) → Contains now (took content) → Contains past (took content) ⊎ IsBroughtNow before said (took content)
  pub answered : (message : Message) → Contains now (left message) → Contains past (left message) ⊎ IsLeft before said before.requests.outbox (left message)

pub adds : (before : ClientState) (said : Reply) (answer : Heard) (after : ClientState) (past : List Past) → HearsReply before said answer after → Added before said answer after past
adds before said answer after past hears = record {
  now = repair_told (repairs before.requests.asked) (repairs after.requests.asked) (is_end answer) gone.0;
  adds = record { with_content = taken.0; takes = taken.1; with_lefts = gone.0; lefts = gone.1; is_now = refl };
  taken = λ content has. took_go content (told_repair (repairs before.requests.asked) (repairs after.requests.asked) (is_end answer) gone.0 (took content) has);
  answered = λ message has. left_go message (told_repair (repairs before.requests.asked) (repairs after.requests.asked) (is_end answer) gone.0 (left message) has);
}
  where
    all : Both before said after past
    all = both before said answer after past hears

    taken : Taken before said past
    taken = all.0

    gone : Gone before said taken.0 before.requests.outbox after.requests.outbox
    gone = all.1

    took_gone : (content : List ℕ) → Contains taken.0 (took content) ⊎ IsLeft before said before.requests.outbox (took content) → Contains past (took content) ⊎ IsBroughtNow before said (took content)
    took_gone content (inl has) = taken.2 (took content) has
    took_gone content (inr is) = absurd (no_took content is.0.message is.2)
      where
        no_took : (c : List ℕ) (m : Message) → took c ≡ left m → ⊥
        no_took c m e = absurd (cc)

    took_go : (content : List ℕ) → (took content ≡ repair_ends) ⊎ ((took content ≡ repair_given_up) ⊎ Contains gone.0 (took content)) → Contains past (took content) ⊎ IsBroughtNow before said (took content)
    took_go content (inl e) = absurd (cc)
    took_go content (inr (inl e)) = absurd (cc)
    took_go content (inr (inr has)) = took_gone content (gone.2 (took content) has)

    left_taken : (message : Message) → Contains past (left message) ⊎ IsBroughtNow before said (left message) → Contains past (left message) ⊎ IsLeft before said before.requests.outbox (left message)
    left_taken message (inl has) = inl has
    left_taken message (inr is) = absurd (no_left is.0.content message is.3)
      where
        no_left : (c : List ℕ) (m : Message) → left m ≡ took c → ⊥
        no_left c m e = absurd (cc)

    left_gone : (message : Message) → Contains taken.0 (left message) ⊎ IsLeft before said before.requests.outbox (left message)
        → Contains past (left message) ⊎ IsLeft before said before.requests.outbox (left message)
    left_gone message (inl has) = left_taken message (taken.2 (left message) has)
    left_gone message (inr is) = inr is

    left_go : (message : Message) → (left message ≡ repair_ends) ⊎ ((left message ≡ repair_given_up) ⊎ Contains gone.0 (left message))
        → Contains past (left message) ⊎ IsLeft before said before.requests.outbox (left message)
    left_go message (inl e) = absurd (cc)
    left_go message (inr (inl e)) = absurd (cc)
    left_go message (inr (inr has)) = left_gone message (gone.2 (left message) has)

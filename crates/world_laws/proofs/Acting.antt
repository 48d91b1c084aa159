-- What a client with its connection does is a past of the client.
use Rattle.std.proofs.Common.{◌≡◌, ◌⊎◌, inl, inr, ℕ, Bool, true, false, Option, Some, None, List, [], ◌∷◌, ◌++◌, map, reverse, drop, length, Contains, refl, sym, ap, ◌∙◌, subst, if◌then◌else◌}
use Rattle.std.proofs.lemmas.List.{reverse-append}
use Rattle.std.proofs.lemmas.List.Elements.{Contains-append_left, Contains-append_right, Contains-append_cases}
use Rattle.pad_list.proofs.CallerLemmas.{contains_head, contains_more, contains_cases, contains_none}
use Rattle.pad_message.specs.declared.message.Message.{Message}
use Rattle.netflux_codec.specs.declared.reply.Reply.{Reply}
use Rattle.client_outbox.specs.Outbox.{Unacknowledged}
use Rattle.client_requests.specs.State as requested
use Rattle.client_requests.specs.State.{repairs}
use Rattle.client_requests.specs.Calls.{without_connection}
use Rattle.pad_client.specs.declared.heard.Heard.{Heard}
use Rattle.pad_client.specs.State.{ClientState, with_requests}
use Rattle.pad_client.specs.Repair.{with_answered}
use Rattle.pad_client.specs.Sync.{own_messages}
use Rattle.pad_client.specs.Hear.{Hears, is_strange, is_reply}
use Rattle.pad_seat.specs.State.{SeatState, without_seat}
use Rattle.pad_seat.specs.Calls.{Calls, done, refused_by}
use Rattle.client_laws.specs.Past.{Past, took, made, left, repair_begins, repair_given_up}
use Rattle.client_laws.specs.Befalls.{Lives, made_since, past_lost}
use Rattle.client_laws.specs.Befalls as befalls
use Rattle.world_laws.specs.Acts.{Acts, HeardAt, SeatRuns, heard_at}
use Rattle.world_laws.specs.Acts as acts
use Rattle.world_laws.specs.Laws.{IsTaken, IsAnsweredBy, IsPastOf, ChannelsStay, RunsHavePasts}
use Rattle.world_laws.proofs.Leaving.{IsLeft, IsBroughtNow, Added, adds}

-- nothing was taken, and no message left
pub record Quiet (past now : List Past) : Type 0 where
  pub taken : (content : List ℕ) → Contains now (took content) → Contains past (took content)
  pub answered : (message : Message) → Contains now (left message) → Contains past (left message)

quiet_same : (past : List Past) → Quiet past past
quiet_same past = record { taken = λ c has. has; answered = λ m has. has }

quiet_more : (past : List Past) (what : Past) → ((content : List ℕ) → what ≡ took content → ⊥) → ((message : Message) → what ≡ left message → ⊥) → Quiet past (what ∷ past)
quiet_more past what no_took no_left = record {
  taken = λ c has. took_go c (contains_cases what past (took c) has);
  answered = λ m has. left_go m (contains_cases what past (left m) has);
}
  where
    took_go : (c : List ℕ) → (what ≡ took c) ⊎ Contains past (took c) → Contains past (took c)
    took_go c (inl e) = absurd (no_took c e)
    took_go c (inr has) = has

    left_go : (m : Message) → (what ≡ left m) ⊎ Contains past (left m) → Contains past (left m)
    left_go m (inl e) = absurd (no_left m e)
    left_go m (inr has) = has

-- ---- what was made

module _ {X : Type 0} where
  from_reverse : (xs : List X) (x : X) → Contains (reverse xs) x → Contains xs x
  from_reverse [] x h = h
  from_reverse (y ∷ xs) x h = go (λ k. from_reverse xs x k) (Contains-append_cases (reverse xs) (y ∷ []) x (subst (λ (l : List X). Contains l x) (reverse-append (y ∷ []) xs) h))
    where
      last : (y ≡ x) ⊎ Contains [] x → Contains (y ∷ xs) x
      last (inl e) = subst (Contains (y ∷ xs)) e (contains_head y xs)
      last (inr k) = absurd (contains_none x k)

      go : (Contains (reverse xs) x → Contains xs x) → Contains (reverse xs) x ⊎ Contains (y ∷ []) x → Contains (y ∷ xs) x
      go rest (inl k) = contains_more y xs x (rest k)
      go rest (inr k) = last (contains_cases y [] x k)

only_made : (outbox : List Unacknowledged) (what : Past) → Contains (map (λ (own : Unacknowledged). made own.message) outbox) what → (message : Message) × (made message ≡ what)
only_made [] what has = absurd (contains_none what has)
only_made (own ∷ outbox) what has = go (λ k. only_made outbox what k) (contains_cases (made own.message) (map (λ (one : Unacknowledged). made one.message) outbox) what has)
  where
    go : (Contains (map (λ (one : Unacknowledged). made one.message) outbox) what → (message : Message) × (made message ≡ what)) → (made own.message ≡ what) ⊎ Contains (map (λ (one : Unacknowledged). made one.message) outbox) what
        → (message : Message) × (made message ≡ what)
    go rest (inl e) = (own.message, e)
    go rest (inr k) = rest k

no_took_made : (message : Message) (content : List ℕ) → made message ≡ took content → ⊥
no_took_made message content e = absurd (cc)

no_left_made : (message other : Message) → made message ≡ left other → ⊥
no_left_made message other e = absurd (cc)

quiet_made : (old new : List Unacknowledged) (past : List Past) → Quiet past (made_since old new past)
quiet_made old new past = record {
  taken = λ c has. took_go c (Contains-append_cases (reverse all) past (took c) has);
  answered = λ m has. left_go m (Contains-append_cases (reverse all) past (left m) has);
}
  where
    all : List Past
    all = map (λ (own : Unacknowledged). made own.message) (drop (length old) new)

    took_go : (c : List ℕ) → Contains (reverse all) (took c) ⊎ Contains past (took c) → Contains past (took c)
    took_go c (inl has) = let one = only_made (drop (length old) new) (took c) (from_reverse all (took c) has) in absurd (no_took_made one.0 c one.1)
    took_go c (inr has) = has

    left_go : (m : Message) → Contains (reverse all) (left m) ⊎ Contains past (left m) → Contains past (left m)
    left_go m (inl has) = let one = only_made (drop (length old) new) (left m) (from_reverse all (left m) has) in absurd (no_left_made one.0 m one.1)
    left_go m (inr has) = has

-- ---- one act

-- what an act adds to a past, and by which text
pub record Goes (past : List Past) (before : SeatState) (texts : List (List ℕ)) (after : SeatState) : Type 0 where
  pub now : List Past
  pub lives : Lives past before.client → Lives now after.client
  pub taken : (content : List ℕ) → Contains now (took content)
      → Contains past (took content) ⊎ ((text : List ℕ) × Contains texts text × (channel : List ℕ) × IsTaken before.client text channel content)
  pub answered : (message : Message) → Contains now (left message) → Contains past (left message) ⊎ ((text : List ℕ) × Contains texts text × IsAnsweredBy before.client text message)

goes_quiet : (past now : List Past) (before after : SeatState) (texts : List (List ℕ)) → (Lives past before.client → Lives now after.client) → Quiet past now → Goes past before texts after
goes_quiet past now before after texts lives quiet = record {
  now = now;
  lives = lives;
  taken = λ c has. inl (quiet.taken c has);
  answered = λ m has. inl (quiet.answered m has);
}

-- a call that is done, or refused
goes_call : {E : Type 0} {is_told is_cause : E → Type 0} {word : E → List ℕ} (past : List Past) (line : ℕ) (before : SeatState) (does : List (List ℕ) → ClientState → Type 0) (printed : List ℕ) (after : SeatState)
    → ((texts : List (List ℕ)) (client : ClientState) → does texts client → (now : List Past) × befalls.Befalls past before.client now client × Quiet past now)
    → Calls line before does is_told is_cause word printed after → Goes past before [] after
goes_call past line before does printed after each (done texts client is) =
    let given = each texts client is in
    goes_quiet past given.0 before after [] (λ lives. befalls.Lives.goes_on past given.0 before.client client lives given.1) given.2
goes_call past line before does printed after each (refused_by cause told is) = goes_quiet past past before before [] (λ lives. lives) (quiet_same past)

-- what befell was to become this
befell : (past now : List Past) (before client after : ClientState) → client ≡ after → befalls.Befalls past before now after → befalls.Befalls past before now client
befell past now before client after same is = subst (befalls.Befalls past before now) (sym same) is

goes_text : (past : List Past) (before : SeatState) (text : List ℕ) (answer : Heard) (client : ClientState) (after : SeatState) → after ≡ record before { client = client }
    → Hears before.client text answer client → Goes past before (text ∷ []) after
goes_text past before text answer client after same (is_strange none) =
    goes_quiet past past before after (text ∷ [])
    (λ lives. subst (λ (s : SeatState). Lives past s.client) (sym same) (befalls.Lives.goes_on past past before.client before.client lives (befalls.Befalls.hears_strange text none))) (quiet_same past)
goes_text past before text answer client after same (is_reply said told became replies hears) = record {
  now = more.now;
  lives = λ lives. subst (λ (s : SeatState). Lives more.now s.client) (sym same)
      (befalls.Lives.goes_on past more.now before.client became lives (befalls.Befalls.hears text said told became more.now replies hears more.adds));
  taken = λ c has. took_go c (more.taken c has);
  answered = λ m has. left_go m (more.answered m has);
}
  where
    more : Added before.client said told became past
    more = adds before.client said told became past hears

    took_same : (content other : List ℕ) → took content ≡ took other → other ≡ content
    took_same content other e = cc

    left_same : (message other : Message) → left message ≡ left other → other ≡ message
    left_same message other e = cc

    took_go : (c : List ℕ) → Contains past (took c) ⊎ IsBroughtNow before.client said (took c)
        → Contains past (took c) ⊎ ((from : List ℕ) × Contains (text ∷ []) from × (channel : List ℕ) × IsTaken before.client from channel c)
    took_go c (inl has) = inl has
    took_go c (inr is) = inr (
      text,
      contains_head text [],
      is.0.target,
      record {
        said = said;
        replies = replies;
        addressed = is.0;
        has = is.1;
        its = is.2;
        target = refl;
        same = took_same c is.0.content is.3;
      },
    )

    left_go : (m : Message) → Contains past (left m) ⊎ IsLeft before.client said before.client.requests.outbox (left m)
        → Contains past (left m) ⊎ ((from : List ℕ) × Contains (text ∷ []) from × IsAnsweredBy before.client from m)
    left_go m (inl has) = inl has
    left_go m (inr is) = inr (
      text,
      contains_head text [],
      record {
        said = said;
        replies = replies;
        own = is.0;
        has = is.1;
        same = left_same m is.0.message is.2;
        answered = is.3;
      },
    )

quiet_lost : (ran : Bool) (past : List Past) → Quiet past (past_lost ran past)
quiet_lost true past = quiet_more past repair_given_up (λ c e. absurd (cc)) (λ m e. absurd (cc))
quiet_lost false past = quiet_same past

goes_lost : (past : List Past) (seat : SeatState) (connected : Bool) → Goes past seat [] (if connected
    then record { client = with_answered (without_connection seat.client.requests) seat.client; connected = false; up = []; down = [] } else seat)
goes_lost past seat true = goes_quiet past (past_lost (repairs seat.client.requests.asked) past) seat
    (record { client = with_answered (without_connection seat.client.requests) seat.client; connected = false; up = []; down = [] }) []
    (λ lives. befalls.Lives.goes_on past (past_lost (repairs seat.client.requests.asked) past) seat.client (with_answered (without_connection seat.client.requests) seat.client) lives befalls.Befalls.loses)
    (quiet_lost (repairs seat.client.requests.asked) past)
goes_lost past seat false = goes_quiet past past seat seat [] (λ lives. lives) (quiet_same past)

goes : (past : List Past) (before : SeatState) (texts : List (List ℕ)) (after : SeatState) → Acts before texts after → Goes past before texts after
goes past before texts after (acts.joins line channel printed became is) = goes_call past line before _ printed became
    (λ sent client does. (past, befell past past before.client client (with_requests does.1 before.client) does.4 (befalls.Befalls.joins channel does.0 does.1 does.2), quiet_same past)) is
goes past before texts after (acts.leaves_channel line printed became is) = goes_call past line before _ printed became
    (λ sent client does. (past, befell past past before.client client (with_requests does.1 before.client) does.4 (befalls.Befalls.leaves_channel does.0 does.1 does.2), quiet_same past)) is
goes past before texts after (acts.asks line from printed became is) = goes_call past line before _ printed became
    (λ sent client does. (past, befell past past before.client client (with_requests does.1 before.client) does.4 (befalls.Befalls.asks from does.0 does.1 does.2), quiet_same past)) is
goes past before texts after (acts.resends line printed became is) = goes_call past line before _ printed became
    (λ sent client does. (past, befell past past before.client client (with_requests does.0 before.client) does.2 (befalls.Befalls.resends sent does.0 does.1), quiet_same past)) is
goes past before texts after (acts.repairs line printed became is) = goes_call past line before _ printed became
    (λ sent client does. (
      repair_begins (own_messages before.client.requests.outbox) ∷ past,
      befalls.Befalls.begins_repair does.0 client does.1,
      quiet_more past (repair_begins (own_messages before.client.requests.outbox)) (λ c e. absurd (cc)) (λ m e. absurd (cc)),
    )) is
goes past before texts after (acts.syncs line printed became is) = goes_call past line before _ printed became
    (λ sent client does. (
      made_since before.client.requests.outbox client.requests.outbox past,
      befalls.Befalls.syncs sent client does,
      quiet_made before.client.requests.outbox client.requests.outbox past,
    )) is
goes past before texts after (acts.edits line operation printed became is) = goes_call past line before _ printed became
    (λ sent client does. (past, befalls.Befalls.edits operation client does.0, quiet_same past)) is
goes past before texts after (acts.sets_interval interval) = goes_quiet past past before after texts
    (λ lives. befalls.Lives.goes_on past past before.client after.client lives (befalls.Befalls.sets_interval interval)) (quiet_same past)
goes past before texts after (acts.hears text answer became is) = goes_text past before text answer is.client became is.state is.hears
goes past before texts after acts.connects = goes_quiet past past before after texts (λ lives. lives) (quiet_same past)
goes past before texts after acts.loses = goes_lost past before before.connected
goes past before texts after (acts.moves up down) = goes_quiet past past before after texts (λ lives. lives) (quiet_same past)

-- ---- all acts

at_seat : (seat : SeatState) (texts : List (List ℕ)) (heard : List HeardAt) (text : List ℕ) → Contains texts text → Contains (heard_at seat texts ++ heard) (record { seat = seat; text = text })
at_seat seat texts heard text has = Contains-append_left (heard_at seat texts) heard (record { seat = seat; text = text }) (go texts has)
  where
    at : List ℕ → HeardAt
    at one = record { seat = seat; text = one }

    go : (texts : List (List ℕ)) → Contains texts text → Contains (heard_at seat texts) (record { seat = seat; text = text })
    go [] has = absurd (contains_none text has)
    go (one ∷ rest) has = by (λ k. go rest k) (contains_cases one rest text has)
      where
        by : (Contains rest text → Contains (heard_at seat rest) (at text)) → (one ≡ text) ⊎ Contains rest text → Contains (at one ∷ heard_at seat rest) (at text)
        by more (inl e) = subst (λ (t : List ℕ). Contains (at one ∷ heard_at seat rest) (at t)) e (contains_head (at one) (heard_at seat rest))
        by more (inr k) = contains_more (at one) (heard_at seat rest) (at text) (more k)

-- one act more
one_more : ChannelsStay → (earlier : List HeardAt) (texts : List (List ℕ)) (before after : SeatState) → SeatRuns earlier before → Acts before texts after
    → (past : List Past) × IsPastOf earlier before past → (past : List Past) × IsPastOf (heard_at before texts ++ earlier) after past
one_more stay earlier texts before after runs act was = (
  more.now,
  record {
    lives = more.lives was.1.lives;
    taken = λ c has. took_go c (more.taken c has);
    answered = λ m has. left_go m (more.answered m has);
  },
)
  where
    more : Goes was.0 before texts after
    more = goes was.0 before texts after act

    took_go : (c : List ℕ) → Contains was.0 (took c) ⊎ ((text : List ℕ) × Contains texts text × (channel : List ℕ) × IsTaken before.client text channel c)
        → (at : HeardAt) × (channel : List ℕ) × Contains (heard_at before texts ++ earlier) at × IsTaken at.seat.client at.text channel c × (after.client.requests.channel ≡ Some channel)
    took_go c (inl has) =
        let old = was.1.taken c has in
        (old.0, old.1, Contains-append_right (heard_at before texts) earlier old.0 old.2, old.3, stay earlier before texts after old.1 runs act old.4)
    took_go c (inr is) = (
      record { seat = before; text = is.0 },
      is.2,
      at_seat before texts earlier is.0 is.1,
      is.3,
      stay earlier before texts after is.2 runs act is.3.its,
    )

    left_go : (m : Message) → Contains was.0 (left m) ⊎ ((text : List ℕ) × Contains texts text × IsAnsweredBy before.client text m)
        → (at : HeardAt) × Contains (heard_at before texts ++ earlier) at × IsAnsweredBy at.seat.client at.text m
    left_go m (inl has) =
        let old = was.1.answered m has in
        (old.0, Contains-append_right (heard_at before texts) earlier old.0 old.1, old.2)
    left_go m (inr is) = (record { seat = before; text = is.0 }, at_seat before texts earlier is.0 is.1, is.2)

pub have_pasts : ChannelsStay → RunsHavePasts
have_pasts stay heard seat SeatRuns.begins = ([], record { lives = Lives.begins; taken = λ c has. absurd (contains_none (took c) has); answered = λ m has. absurd (contains_none (left m) has) })
have_pasts stay heard seat (SeatRuns.goes_on earlier texts before after runs act) = one_more stay earlier texts before after runs act (have_pasts stay earlier before runs)

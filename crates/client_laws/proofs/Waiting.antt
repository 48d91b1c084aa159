-- An own message is in the outbox, or has left it.
use Rattle.std.proofs.Common.{◌≡◌, ◌⊎◌, inl, inr, ℕ, ◌+◌, Bool, true, false, None, List, [], ◌∷◌, ◌++◌, Contains, refl, sym, ap, ◌∙◌, subst}
use Rattle.std.proofs.lemmas.List.{map-append}
use Rattle.std.proofs.lemmas.List.Elements.{Contains-append_left, Contains-push}
use Rattle.pad_list.proofs.CallerLemmas.{contains_head, contains_more, contains_cases, contains_none}
use Rattle.pad_message.specs.declared.message.Message.{Message}
use Rattle.netflux_codec.specs.declared.reply.Reply.{Reply}
use Rattle.client_outbox.specs.Outbox.{Unacknowledged, all_forgotten, sent_again}
use Rattle.client_requests.specs.State as requested
use Rattle.client_requests.specs.State.{repairs}
use Rattle.pad_client.specs.declared.heard.Heard.{Heard}
use Rattle.pad_client.specs.State.{ClientState}
use Rattle.pad_client.specs.Sync.{Syncs, idle, sends_work, sends_both, own_messages}
use Rattle.client_laws.specs.Past.{Past, took, made, left, repair_begins, repair_ends, repair_given_up, OwnWithin, OwnSince}
use Rattle.client_laws.specs.Befalls.{Takes, brings, brings_none, is_end, Lefts, no_more, stays, leaves, repair_told, Adds, Befalls, Lives, made_since, past_lost}
use Rattle.client_laws.proofs.Calling.{none_made, one_made, two_made, made_of}

-- where an own message of a past is: in this outbox, or it has left one
abbrev pub IsAt : List Past → List Unacknowledged → Message → Type 0
IsAt past outbox message = Contains (own_messages outbox) message ⊎ Contains past (left message)

pub record Waits (past : List Past) (outbox : List Unacknowledged) : Type 0 where
  pub within : (message : Message) → OwnWithin past message → IsAt past outbox message
  pub since : (message : Message) → OwnSince past message → IsAt past outbox message

-- a past with one more in front
later : (one : Past) (past : List Past) (outbox : List Unacknowledged) (message : Message) → IsAt past outbox message → IsAt (one ∷ past) outbox message
later one past outbox message (inl h) = inl h
later one past outbox message (inr h) = inr (contains_more one past (left message) h)

-- ---- messages leave the outbox

-- own messages of the past are those of before
lefts_within : (old new : List Unacknowledged) (past now : List Past) → Lefts old new past now → (message : Message) → OwnWithin now message → OwnWithin past message
lefts_within old new past now (no_more at) message own = own
lefts_within old new past now (stays number one older newer before after more) message own = lefts_within older newer before after more message own
lefts_within old new past now (leaves one older newer before after more) message own = lefts_within older newer before after more message own

lefts_since : (old new : List Unacknowledged) (past now : List Past) → Lefts old new past now → (message : Message) → OwnSince now message → OwnSince past message
lefts_since old new past now (no_more at) message own = own
lefts_since old new past now (stays number one older newer before after more) message own = lefts_since older newer before after more message own
lefts_since old new past now (leaves one older newer before after more) message own = lefts_since older newer before after more message own

lefts_past : (old new : List Unacknowledged) (past now : List Past) → Lefts old new past now → (one : Past) → Contains past one → Contains now one
lefts_past old new past now (no_more at) one has = has
lefts_past old new past now (stays number own older newer before after more) one has = lefts_past older newer before after more one has
lefts_past old new past now (leaves own older newer before after more) one has = contains_more (left own.message) after one (lefts_past older newer before after more one has)

lefts_at : (old new : List Unacknowledged) (past now : List Past) → Lefts old new past now → (message : Message) → Contains (own_messages old) message → IsAt now new message
lefts_at old new past now (no_more at) message has = absurd (contains_none message has)
lefts_at old new past now (stays number own older newer before after more) message has =
    go (λ h. lefts_at older newer before after more message h) (contains_cases own.message (own_messages older) message has)
  where
    wider : IsAt after newer message → IsAt after (record own { number = number } ∷ newer) message
    wider (inl h) = inl (contains_more own.message (own_messages newer) message h)
    wider (inr h) = inr h

    go : (Contains (own_messages older) message → IsAt after newer message) → (own.message ≡ message) ⊎ Contains (own_messages older) message
        → IsAt after (record own { number = number } ∷ newer) message
    go rest (inl e) = inl (subst (Contains (own.message ∷ own_messages newer)) e (contains_head own.message (own_messages newer)))
    go rest (inr h) = wider (rest h)
lefts_at old new past now (leaves own older newer before after more) message has =
    go (λ h. lefts_at older newer before after more message h) (contains_cases own.message (own_messages older) message has)
  where
    go : (Contains (own_messages older) message → IsAt after newer message) → (own.message ≡ message) ⊎ Contains (own_messages older) message
        → IsAt (left own.message ∷ after) newer message
    go rest (inl e) = inr (subst (λ (m : Message). Contains (left own.message ∷ after) (left m)) e (contains_head (left own.message) after))
    go rest (inr h) = later (left own.message) after newer message (rest h)

waits_lefts : (old new : List Unacknowledged) (past now : List Past) → Lefts old new past now → Waits past old → Waits now new
waits_lefts old new past now lefts waits = record {
  within = λ m own. go m (waits.within m (lefts_within old new past now lefts m own));
  since = λ m own. go m (waits.since m (lefts_since old new past now lefts m own));
}
  where
    go : (m : Message) → IsAt past old m → IsAt now new m
    go m (inl h) = lefts_at old new past now lefts m h
    go m (inr h) = inr (lefts_past old new past now lefts (left m) h)

-- ---- a text

waits_takes : (client : ClientState) (said : Reply) (past now : List Past) (outbox : List Unacknowledged) → Takes client said past now → Waits past outbox → Waits now outbox
waits_takes client said past now outbox (brings addressed has its) waits = record {
  within = λ m own. later (took addressed.content) past outbox m (waits.within m own);
  since = λ m own. later (took addressed.content) past outbox m (waits.since m own);
}
waits_takes client said past now outbox (brings_none none) waits = waits

waits_told : (ran runs ends : Bool) (past : List Past) (outbox : List Unacknowledged) → Waits past outbox → Waits (repair_told ran runs ends past) outbox
waits_told false runs ends past outbox waits = waits
waits_told true true ends past outbox waits = waits
waits_told true false true past outbox waits =
    record { within = λ m own. later repair_ends past outbox m (waits.within m own); since = λ m own. later repair_ends past outbox m (waits.within m own) }
waits_told true false false past outbox waits =
    record { within = λ m own. later repair_given_up past outbox m (waits.within m own); since = λ m own. later repair_given_up past outbox m (waits.since m own) }

waits_adds : (past now : List Past) (before : ClientState) (said : Reply) (answer : Heard) (after : ClientState) → Adds before said answer after past now
    → Waits past before.requests.outbox → Waits now after.requests.outbox
waits_adds past now before said answer after adds waits =
    subst (λ (p : List Past). Waits p after.requests.outbox) (sym adds.is_now)
    (waits_told (repairs before.requests.asked) (repairs after.requests.asked) (is_end answer) adds.with_lefts after.requests.outbox
    (waits_lefts before.requests.outbox after.requests.outbox adds.with_content adds.with_lefts adds.lefts
    (waits_takes before said past adds.with_content before.requests.outbox adds.takes waits)))

-- ---- a sync

waits_made : (past : List Past) (outbox : List Unacknowledged) (own : Unacknowledged) → Waits past outbox → Waits (made own.message ∷ past) (outbox ++ own ∷ [])
waits_made past outbox own waits = record { within = λ m is. new m (OwnWithin past m) (waits.within m) is; since = λ m is. new m (OwnSince past m) (waits.since m) is }
  where
    names : own_messages (outbox ++ own ∷ []) ≡ own_messages outbox ++ own.message ∷ []
    names = map-append (λ (one : Unacknowledged). one.message) outbox (own ∷ [])

    wider : (m : Message) → IsAt past outbox m → IsAt (made own.message ∷ past) (outbox ++ own ∷ []) m
    wider m (inl h) = inl (subst (λ (l : List Message). Contains l m) (sym names) (Contains-append_left (own_messages outbox) (own.message ∷ []) m h))
    wider m (inr h) = inr (contains_more (made own.message) past (left m) h)

    new : (m : Message) (P : Type 0) → (P → IsAt past outbox m) → (own.message ≡ m) ⊎ P → IsAt (made own.message ∷ past) (outbox ++ own ∷ []) m
    new m P at (inl e) = inl (subst (λ (l : List Message). Contains l m) (sym names) (subst (Contains (own_messages outbox ++ own.message ∷ [])) e (Contains-push (own_messages outbox) own.message)))
    new m P at (inr p) = wider m (at p)

waits_syncs : (past : List Past) (before : ClientState) (texts : List (List ℕ)) (after : ClientState) → Syncs before texts after → Waits past before.requests.outbox
    → Waits (made_since before.requests.outbox after.requests.outbox past) after.requests.outbox
waits_syncs past before texts after (idle may empty) waits = subst (λ (p : List Past). Waits p before.requests.outbox) (sym (none_made before.requests.outbox past)) waits
waits_syncs past before texts after (sends_work wires became may some due work) waits =
    let one = made_of (record before { synced = [] }) work.message work.wire became work.makes in
    subst (λ (o : List Unacknowledged). Waits (made_since before.requests.outbox o past) o) (sym one.outbox)
    (subst (λ (p : List Past). Waits p (before.requests.outbox ++ one.own ∷ [])) (sym (one_made before.requests.outbox one.own past)) (waits_made past before.requests.outbox one.own waits))
waits_syncs past before texts after (sends_both wires became may some due both) waits =
    let one = made_of (record before { synced = [] }) both.message both.wire both.middle both.makes in
    let two = made_of (record both.middle { wanted = None }) both.work.message both.work.wire became both.work.makes in
    subst (λ (o : List Unacknowledged). Waits (made_since before.requests.outbox o past) o) (sym (two.outbox ∙ ap (λ (o : List Unacknowledged). o ++ two.own ∷ []) one.outbox))
    (subst (λ (p : List Past). Waits p ((before.requests.outbox ++ one.own ∷ []) ++ two.own ∷ [])) (sym (two_made before.requests.outbox one.own two.own past))
    (waits_made (made one.own.message ∷ past) (before.requests.outbox ++ one.own ∷ []) two.own (waits_made past before.requests.outbox one.own waits)))

-- ---- other calls

-- the messages of the outbox stay
same_waits : (past : List Past) (old new : List Unacknowledged) → own_messages new ≡ own_messages old → Waits past old → Waits past new
same_waits past old new same waits = record { within = λ m own. go m (waits.within m own); since = λ m own. go m (waits.since m own) }
  where
    go : (m : Message) → IsAt past old m → IsAt past new m
    go m (inl h) = inl (subst (λ (l : List Message). Contains l m) (sym same) h)
    go m (inr h) = inr h

forgotten_same : (outbox : List Unacknowledged) → own_messages (all_forgotten outbox) ≡ own_messages outbox
forgotten_same [] = refl
forgotten_same (own ∷ outbox) = ap (λ (l : List Message). own.message ∷ l) (forgotten_same outbox)

again_same : (last : ℕ) (outbox : List Unacknowledged) → own_messages (sent_again last outbox) ≡ own_messages outbox
again_same last [] = refl
again_same last (own ∷ outbox) = ap (λ (l : List Message). own.message ∷ l) (again_same (last + 1) outbox)

waits_lost : (ran : Bool) (past : List Past) (outbox : List Unacknowledged) → Waits past outbox → Waits (past_lost ran past) outbox
waits_lost true past outbox waits =
    record { within = λ m own. later repair_given_up past outbox m (waits.within m own); since = λ m own. later repair_given_up past outbox m (waits.since m own) }
waits_lost false past outbox waits = waits

waits_begins : (past : List Past) (outbox : List Unacknowledged) → Waits past outbox → Waits (repair_begins (own_messages outbox) ∷ past) outbox
waits_begins past outbox waits = record { within = λ m own. inl own; since = λ m own. later (repair_begins (own_messages outbox)) past outbox m (waits.since m own) }

outbox_same : (past : List Past) (before after : ClientState) → after.requests.outbox ≡ before.requests.outbox → Waits past before.requests.outbox → Waits past after.requests.outbox
outbox_same past before after same waits = subst (Waits past) (sym same) waits

befalls_wait : (past : List Past) (before : ClientState) (now : List Past) (after : ClientState) → Befalls past before now after → Waits past before.requests.outbox → Waits now after.requests.outbox
befalls_wait past before now after (Befalls.hears_strange text none) waits = waits
befalls_wait past before now after (Befalls.hears text said answer became told replies hears adds) waits = waits_adds past told before said answer became adds waits
befalls_wait past before now after (Befalls.syncs texts became is) waits = waits_syncs past before texts became is waits
befalls_wait past before now after (Befalls.begins_repair text became is) waits =
    subst (Waits (repair_begins (own_messages before.requests.outbox) ∷ past)) (sym (ap (λ (c : ClientState). c.requests.outbox) is.state)) (waits_begins past before.requests.outbox waits)
befalls_wait past before now after Befalls.loses waits =
    waits_lost (repairs before.requests.asked) past (all_forgotten before.requests.outbox) (same_waits past before.requests.outbox (all_forgotten before.requests.outbox) (forgotten_same before.requests.outbox) waits)
befalls_wait past before now after (Befalls.joins channel text next is) waits = subst (Waits past) (sym (ap (λ (s : requested.State). s.outbox) is.state)) waits
befalls_wait past before now after (Befalls.leaves_channel text next is) waits = subst (Waits past) (sym (ap (λ (s : requested.State). s.outbox) is.state)) waits
befalls_wait past before now after (Befalls.asks from text next is) waits = subst (Waits past) (sym (ap (λ (s : requested.State). s.outbox) is.state)) waits
befalls_wait past before now after (Befalls.resends texts next is) waits =
    subst (Waits past) (sym (ap (λ (s : requested.State). s.outbox) is.state))
    (same_waits past before.requests.outbox (sent_again before.requests.last before.requests.outbox) (again_same before.requests.last before.requests.outbox) waits)
befalls_wait past before now after (Befalls.edits operation became is) waits = subst (Waits past) (sym (ap (λ (c : ClientState). c.requests.outbox) is.state)) waits
befalls_wait past before now after (Befalls.sets_interval interval) waits = waits

pub lives_wait : (past : List Past) (client : ClientState) → Lives past client → Waits past client.requests.outbox
lives_wait past client Lives.begins = record { within = λ m own. absurd own; since = λ m own. absurd own }
lives_wait past client (Lives.goes_on before now was is lives event) = befalls_wait before was now is event (lives_wait before was lives)

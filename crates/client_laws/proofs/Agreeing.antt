-- A client that is caught up agrees.
use Rattle.std.proofs.Common.{ℕ, ◌≡◌, ◌⊎◌, inl, inr, Bool, true, false, List, [], ◌∷◌, Contains, sym, ap, ◌∙◌, subst}
use Rattle.pad_list.proofs.CallerLemmas.{contains_head, contains_more, contains_none}
use Rattle.keeper_entry.specs.Entry.{content_in}
use Rattle.pad_message.specs.declared.message.Message.{Message}
use Rattle.pad_message.specs.Content.{Reads, SpellsOne}
use Rattle.pad_model.specs.declared.base.Base.{Base}
use Rattle.pad_model.specs.Base.{first_base}
use Rattle.pad_model.specs.Laws.{AtMostOneBest, OrderIsNoPart, SameMembers}
use Rattle.pad_model.specs.Path.{text}
use Rattle.client_outbox.specs.Outbox.{Unacknowledged}
use Rattle.client_requests.specs.State.{repairs}
use Rattle.pad_client.specs.Sync.{own_messages}
use Rattle.client_laws.specs.Past.{Past, took, made, left, repair_begins, repair_ends, repair_given_up, HeardWithin, HeardSince, OwnSince}
use Rattle.client_laws.specs.Agreement.{IsSpelled}
use Rattle.client_laws.specs.Laws.{IsHad, ReceivedAreHad, RepairedIsBest, OwnWaitOrLeft, CaughtUpAgree, AgreeingTextsAreOne}
use Rattle.client_laws.proofs.Living.{lives_hold}
use Rattle.client_laws.proofs.Waiting.{lives_wait}

pub all_had : SpellsOne → ReceivedAreHad
all_had one past client lives repaired message = let holds = lives_hold one past client lives in let has = holds.since (holds.same ∙ repaired) in (has.to message, has.from message)

pub is_best : SpellsOne → RepairedIsBest
is_best one past client lives repaired = let holds = lives_hold one past client lives in let whole = holds.is_whole (holds.same ∙ repaired) in (whole.base, whole.choice.best)

pub all_wait : OwnWaitOrLeft
all_wait past client message lives own = (lives_wait past client lives).since message own

-- what was heard was taken
within_taken : (past : List Past) (content : List ℕ) → HeardWithin past content → Contains past (took content)
within_taken [] content heard = absurd heard
within_taken (took other ∷ past) content (inl e) = subst (λ (c : List ℕ). Contains (took other ∷ past) (took c)) e (contains_head (took other) past)
within_taken (took other ∷ past) content (inr heard) = contains_more (took other) past (took content) (within_taken past content heard)
within_taken (made message ∷ past) content heard = contains_more (made message) past (took content) (within_taken past content heard)
within_taken (left message ∷ past) content heard = contains_more (left message) past (took content) (within_taken past content heard)
within_taken (repair_begins outbox ∷ past) content heard = absurd heard
within_taken (repair_ends ∷ past) content heard = contains_more repair_ends past (took content) (within_taken past content heard)
within_taken (repair_given_up ∷ past) content heard = contains_more repair_given_up past (took content) (within_taken past content heard)

since_taken : (runs : Bool) (past : List Past) (content : List ℕ) → HeardSince runs past content → Contains past (took content)
since_taken runs [] content heard = absurd heard
since_taken runs (took other ∷ past) content (inl h) = subst (λ (c : List ℕ). Contains (took other ∷ past) (took c)) h.1 (contains_head (took other) past)
since_taken runs (took other ∷ past) content (inr heard) = contains_more (took other) past (took content) (since_taken runs past content heard)
since_taken runs (made message ∷ past) content heard = contains_more (made message) past (took content) (since_taken runs past content heard)
since_taken runs (left message ∷ past) content heard = contains_more (left message) past (took content) (since_taken runs past content heard)
since_taken runs (repair_begins outbox ∷ past) content heard = contains_more (repair_begins outbox) past (took content) (since_taken false past content heard)
since_taken runs (repair_ends ∷ past) content heard = contains_more repair_ends past (took content) (within_taken past content heard)
since_taken runs (repair_given_up ∷ past) content heard = contains_more repair_given_up past (took content) (since_taken true past content heard)

pub agrees : SpellsOne → ReceivedAreHad → RepairedIsBest → OwnWaitOrLeft → CaughtUpAgree
agrees one had best wait past client log lives caught invented kept = record {
  messages = client.copy.pad.received;
  spelled = record { each = each; only = λ m h. only m ((had past client lives caught.repaired m).0 h) };
  path = client.copy.pad.choice.chosen;
  best = (best past client lives caught.repaired).1;
  same = ap (λ (b : Base). text b client.copy.pad.choice.chosen) (best past client lives caught.repaired).0;
}
  where
    heard_or_own : (m : Message) (payload : List ℕ) → Reads (content_in payload) m
        → HeardSince (repairs client.requests.asked) past (content_in payload) ⊎ ((other : Message) × Reads (content_in payload) other × OwnSince past other) → IsHad past client m
    heard_or_own m payload reads (inl heard) = inl (content_in payload, heard, reads)
    heard_or_own m payload reads (inr (other, spells, own)) = inr (subst (OwnSince past) (one (content_in payload) other m spells reads) own)

    each : (m : Message) → IsSpelled log m → Contains client.copy.pad.received m
    each m (payload, has, reads) = (had past client lives caught.repaired m).1 (heard_or_own m payload reads (caught.each payload has))

    entry : (m : Message) (content : List ℕ) → Reads content m → (payload : List ℕ) × Contains log payload × (content_in payload ≡ content) → IsSpelled log m
    entry m content reads (payload, has, same) = (payload, has, subst (λ (c : List ℕ). Reads c m) (sym same) reads)

    not_waiting : (m : Message) → Contains (own_messages client.requests.outbox) m ⊎ Contains past (left m) → Contains past (left m)
    not_waiting m (inl h) = absurd (contains_none m (subst (λ (o : List Unacknowledged). Contains (own_messages o) m) caught.acknowledged h))
    not_waiting m (inr h) = h

    only : (m : Message) → IsHad past client m → IsSpelled log m
    only m (inl (content, heard, reads)) = entry m content reads (invented content m (since_taken (repairs client.requests.asked) past content heard) reads)
    only m (inr own) = kept m (not_waiting m (wait past client m lives own))

pub one_text : AtMostOneBest → OrderIsNoPart → AgreeingTextsAreOne
one_text single order one other log first second differ =
    let alike : SameMembers second.messages first.messages = λ m. (λ h. first.spelled.each m (second.spelled.only m h), λ h. second.spelled.each m (first.spelled.only m h)) in
    let same = single first_base first.messages first.path second.path differ first.best (order first_base second.messages first.messages second.path alike second.best) in
    first.same ∙ ap (text first_base) same ∙ sym second.same

-- An own message leaves the outbox by an answer.
use Rattle.std.proofs.Common.{◌≡◌, ◌⊎◌, inl, inr, ℕ, not, Bool, true, false, cond, Option, Some, None, List, [], ◌∷◌, filter, Contains, refl, sym, ap, ◌∙◌, subst, true≢false, if◌then◌else◌, eqb-true}
use Rattle.std.proofs.lemmas.Slice.Eq.{bytes_eq-Decides}
use Rattle.pad_list.proofs.CallerLemmas.{contains_head, contains_more, contains_cases, contains_none}
use Rattle.pad_text.specs.declared.name.Name.{Name}
use Rattle.pad_message.specs.declared.message.Message.{Message}
use Rattle.pad_message.specs.Message.{name_of}
use Rattle.pad_message.specs.Content.{Reads}
use Rattle.netflux_codec.specs.declared.reply.Reply.{Reply}
use Rattle.netflux_codec.specs.declared.reply.Reply.TheVariants as reply
use Rattle.netflux_codec.specs.declared.who.Who.TheVariants as who
use Rattle.client_outbox.specs.Outbox.{Unacknowledged, same_name, awaits_under, without_number, forgotten, forgotten_under}
use Rattle.client_requests.specs.declared.asked.Asked.{Asked}
use Rattle.client_requests.specs.declared.asked.Asked.TheVariants.{Nothing, History, Repair}
use Rattle.client_requests.specs.State as requested
use Rattle.client_requests.specs.Hear.{Either}
use Rattle.pad_client.specs.declared.heard.Heard.{Heard}
use Rattle.pad_client.specs.State.{ClientState}
use Rattle.pad_client.specs.Sync.{own_messages}
use Rattle.pad_client.specs.Content.{HearsContent, is_counted, is_message, HearsMessage, becomes_base, is_received, is_noted, after_content, after_message}
use Rattle.pad_client.specs.Hear.{is_content, is_repaired, is_about, HearsAddressed, HearsAbout, HearsEnd, HearsUnknown, Addressed, content_of}
use Rattle.client_laws.specs.Laws.{IsAnswered, LeavesByAnswer}

-- the own message is in an outbox, or it was answered
abbrev IsIn : ClientState → Reply → Unacknowledged → List Unacknowledged → Type 0
IsIn before said own outbox = Contains (own_messages outbox) own.message ⊎ IsAnswered before said own

module _ (before : ClientState) (said : Reply) (own : Unacknowledged) where
  mapped : (outbox : List Unacknowledged) → Contains outbox own → Contains (own_messages outbox) own.message
  mapped [] h = absurd (contains_none own h)
  mapped (one ∷ outbox) h = go (λ k. mapped outbox k) (contains_cases one outbox own h)
    where
      go : (Contains outbox own → Contains (own_messages outbox) own.message) → (one ≡ own) ⊎ Contains outbox own → Contains (one.message ∷ own_messages outbox) own.message
      go rest (inl e) = subst (λ (u : Unacknowledged). Contains (one.message ∷ own_messages outbox) u.message) e (contains_head one.message (own_messages outbox))
      go rest (inr k) = contains_more one.message (own_messages outbox) own.message (rest k)

  stays_in : (outbox : List Unacknowledged) → Contains outbox own → IsIn before said own outbox
  stays_in outbox has = inl (mapped outbox has)

  -- one more in front
  behind : (one : Unacknowledged) (outbox : List Unacknowledged) → IsIn before said own outbox → IsIn before said own (one ∷ outbox)
  behind one outbox (inl h) = inl (contains_more one.message (own_messages outbox) own.message h)
  behind one outbox (inr h) = inr h

  -- those that pass a test, which each that fails it was answered
  passes : (test : Unacknowledged → Bool) → (test own ≡ false → IsAnswered before said own) → (outbox : List Unacknowledged) → Contains outbox own → IsIn before said own (filter test outbox)
  passes test answered [] h = absurd (contains_none own h)
  passes test answered (one ∷ outbox) h = by (test one) refl (λ k. passes test answered outbox k) (contains_cases one outbox own h)
    where
      by : (b : Bool) → test one ≡ b → (Contains outbox own → IsIn before said own (filter test outbox)) → (one ≡ own) ⊎ Contains outbox own
          → IsIn before said own (cond b (one ∷ filter test outbox) (filter test outbox))
      by true e rest (inl same) = inl (subst (λ (u : Unacknowledged). Contains (one.message ∷ own_messages (filter test outbox)) u.message) same (contains_head one.message (own_messages (filter test outbox))))
      by true e rest (inr k) = behind one (filter test outbox) (rest k)
      by false e rest (inl same) = inr (answered (ap test (sym same) ∙ e))
      by false e rest (inr k) = rest k

  not_false : (b : Bool) → not b ≡ false → b ≡ true
  not_false true e = refl
  not_false false e = absurd (true≢false e)

  -- an error leaves all messages
  forgets : (number : ℕ) (outbox : List Unacknowledged) → Contains outbox own → Contains (own_messages (forgotten_under number outbox)) own.message
  forgets number [] h = absurd (contains_none own h)
  forgets number (one ∷ outbox) h = go (λ k. forgets number outbox k) (contains_cases one outbox own h)
    where
      same_message : (b : Bool) → (if b then forgotten one else one).message ≡ one.message
      same_message true = refl
      same_message false = refl

      kept : Contains (one.message ∷ own_messages (forgotten_under number outbox)) own.message → Contains (own_messages (forgotten_under number (one ∷ outbox))) own.message
      kept c = subst (λ (m : Message). Contains (m ∷ own_messages (forgotten_under number outbox)) own.message) (sym (same_message (awaits_under number one.number))) c

      go : (Contains outbox own → Contains (own_messages (forgotten_under number outbox)) own.message) → (one ≡ own) ⊎ Contains outbox own → Contains (own_messages (forgotten_under number (one ∷ outbox))) own.message
      go rest (inl e) = kept (subst (λ (u : Unacknowledged). Contains (one.message ∷ own_messages (forgotten_under number outbox)) u.message) e (contains_head one.message (own_messages (forgotten_under number outbox))))
      go rest (inr k) = kept (contains_more one.message (own_messages (forgotten_under number outbox)) own.message (rest k))

  -- ---- a content

  abbrev name_by : List ℕ → Name
  name_by bytes = record { 0 = bytes }

  same_names : (name other : Name) → same_name name other ≡ true → name ≡ other
  same_names name other e = ap name_by ((bytes_eq-Decides name.0 other.0).0 e)

  message_in : (addressed : Addressed) → content_of said ≡ Some addressed → before.requests.channel ≡ Some addressed.target → (message : Message) → Reads addressed.content message
      → (entry : Bool) → addressed.entry ≡ entry → Contains before.requests.outbox own → IsIn before said own (after_message entry message before.requests).outbox
  message_in addressed has its message reads false e h = stays_in before.requests.outbox h
  message_in addressed has its message reads true e h = passes (λ (one : Unacknowledged). not (same_name (name_of message) (name_of one.message))) answered before.requests.outbox h
    where
      answered : not (same_name (name_of message) (name_of own.message)) ≡ false → IsAnswered before said own
      answered fails = inr (record {
        addressed = addressed;
        has = has;
        its = its;
        entry = e;
        message = message;
        reads = reads;
        named = same_names (name_of message) (name_of own.message) (not_false (same_name (name_of message) (name_of own.message)) fails);
      })

  hears_message_in : (addressed : Addressed) → content_of said ≡ Some addressed → before.requests.channel ≡ Some addressed.target → (message : Message) → Reads addressed.content message
      → (answer : Heard) (after : ClientState) → HearsMessage before addressed.entry message answer after → Contains before.requests.outbox own → IsIn before said own after.requests.outbox
  hears_message_in addressed has its message reads answer after (becomes_base copy none adopted adopts) h = message_in addressed has its message reads addressed.entry refl h
  hears_message_in addressed has its message reads answer after (is_received moved copy none adopted room follows) h = message_in addressed has its message reads addressed.entry refl h
  hears_message_in addressed has its message reads answer after (is_noted received some room) h = message_in addressed has its message reads addressed.entry refl h

  content_outbox : (entry : Bool) (requests : requested.State) → (after_content entry requests).outbox ≡ requests.outbox
  content_outbox true requests = refl
  content_outbox false requests = refl

  content_in_outbox : (addressed : Addressed) → content_of said ≡ Some addressed → before.requests.channel ≡ Some addressed.target → (answer : Heard) (after : ClientState)
      → HearsContent before addressed.entry addressed.content answer after → Contains before.requests.outbox own → IsIn before said own after.requests.outbox
  content_in_outbox addressed has its answer after (is_counted none) h = subst (IsIn before said own) (sym (content_outbox addressed.entry before.requests)) (stays_in before.requests.outbox h)
  content_in_outbox addressed has its answer after (is_message message told became reads hears) h = hears_message_in addressed has its message reads told became hears h

  -- ---- another reply

  same_in : (after : requested.State) → after.outbox ≡ before.requests.outbox → Contains before.requests.outbox own → IsIn before said own after.outbox
  same_in after e h = subst (IsIn before said own) (sym e) (stays_in before.requests.outbox h)

  outbox_of : (after other : requested.State) → after ≡ other → after.outbox ≡ other.outbox
  outbox_of after other e = ap (λ (s : requested.State). s.outbox) e

  end_in : (asked : Asked) (total : ℕ) (answer : Heard) (after : requested.State) → HearsEnd asked before.requests total answer after → after.outbox ≡ before.requests.outbox
  end_in Nothing total answer after is = outbox_of after before.requests is.state
  end_in (History number fresh) total answer after is = ap (λ (s : requested.State). s.outbox) is.1
  end_in (Repair number) total answer after is = outbox_of after before.requests is.state

  unknown_in : (asked : Asked) (answer : Heard) (after : requested.State) → HearsUnknown asked before.requests answer after → after.outbox ≡ before.requests.outbox
  unknown_in Nothing answer after is = outbox_of after before.requests is.state
  unknown_in (History number fresh) answer after is = ap (λ (s : requested.State). s.outbox) is.1
  unknown_in (Repair number) answer after is = outbox_of after before.requests is.state

  awaited : (number : ℕ) (waits : Option ℕ) → awaits_under number waits ≡ true → waits ≡ Some number
  awaited number None e = absurd (true≢false (sym e))
  awaited number (Some other) e = ap (λ (n : ℕ). Some n) (sym (eqb-true number other e))

fold_cases : {P A B C : Type 0} → Either P A B → (A → C) → (B → C) → C
fold_cases (inl h) one other = one h.1
fold_cases (inr h) one other = other h.1

acked_in : (before : ClientState) (own : Unacknowledged) (number : ℕ) → Contains before.requests.outbox own → IsIn before (reply.Ack number) own (without_number number before.requests.outbox)
acked_in before own number h = passes before (reply.Ack number) own (λ (one : Unacknowledged). not (awaits_under number one.number)) answered before.requests.outbox h
  where
    answered : not (awaits_under number own.number) ≡ false → IsAnswered before (reply.Ack number) own
    answered fails = inl (number, refl, awaited before (reply.Ack number) own number own.number (not_false before (reply.Ack number) own (awaits_under number own.number) fails))

about_in : (before : ClientState) (said : Reply) (own : Unacknowledged) (answer : Heard) (after : requested.State) → HearsAbout before.requests said answer after → Contains before.requests.outbox own
    → IsIn before said own after.outbox
about_in before (reply.Ident id) own answer after is h = same_in before (reply.Ident id) own after (ap (λ (s : requested.State). s.outbox) is.1) h
about_in before (reply.Error number word about) own answer after is h =
    inl (subst (λ (o : List Unacknowledged). Contains (own_messages o) own.message) (sym (ap (λ (s : requested.State). s.outbox) is.1.state)) (forgets before (reply.Error number word about) own number before.requests.outbox h))
about_in before (reply.Member (who.Member id) channel) own answer after is h =
    same_in before (reply.Member (who.Member id) channel) own after (fold_cases is.1 (λ k. ap (λ (s : requested.State). s.outbox) k.1) (λ k. ap (λ (s : requested.State). s.outbox) k.1)) h
about_in before (reply.Member (who.Keeper id) channel) own answer after is h =
    same_in before (reply.Member (who.Keeper id) channel) own after (fold_cases is.1 (λ k. ap (λ (s : requested.State). s.outbox) k) (λ k. ap (λ (s : requested.State). s.outbox) k)) h
about_in before (reply.Ack number) own answer after is h =
    fold_cases is.1 (λ k. same_in before (reply.Ack number) own after (ap (λ (s : requested.State). s.outbox) k.1) h)
    (λ k. fold_cases k (λ m. subst (IsIn before (reply.Ack number) own) (sym (ap (λ (s : requested.State). s.outbox) m.1)) (acked_in before own number h))
    (λ m. same_in before (reply.Ack number) own after (ap (λ (s : requested.State). s.outbox) m.1) h))
about_in before (reply.HistoryEnd keeper channel total) own answer after is h = same_in before (reply.HistoryEnd keeper channel total) own after
    (fold_cases is (λ k. end_in before (reply.HistoryEnd keeper channel total) own before.requests.asked total answer after k) (λ k. ap (λ (s : requested.State). s.outbox) k.state)) h
about_in before (reply.HistoryUnknown keeper channel key) own answer after is h = same_in before (reply.HistoryUnknown keeper channel key) own after
    (fold_cases is (λ k. unknown_in before (reply.HistoryUnknown keeper channel key) own before.requests.asked answer after k) (λ k. ap (λ (s : requested.State). s.outbox) k.state)) h
about_in before (reply.Joined number channel) own answer after is h = same_in before (reply.Joined number channel) own after (ap (λ (s : requested.State). s.outbox) is.state) h
about_in before (reply.Gone id channel reason) own answer after is h = same_in before (reply.Gone id channel reason) own after (ap (λ (s : requested.State). s.outbox) is.state) h
about_in before (reply.Entry keeper channel index moment sender content) own answer after is h = same_in before (reply.Entry keeper channel index moment sender content) own after (ap (λ (s : requested.State). s.outbox) is.state) h
about_in before (reply.Msg id target content) own answer after is h = absurd is
about_in before (reply.History keeper channel index sender content) own answer after is h = absurd is

addressed_in : (before : ClientState) (said : Reply) (own : Unacknowledged) (addressed : Addressed) (answer : Heard) (after : ClientState) → content_of said ≡ Some addressed
    → HearsAddressed before addressed answer after → Contains before.requests.outbox own → IsIn before said own after.requests.outbox
addressed_in before said own addressed answer after has (inl its) h = content_in_outbox before said own addressed has its.0 answer after its.1 h
addressed_in before said own addressed answer after has (inr its) h = same_in before said own after.requests (ap (λ (c : ClientState). c.requests.outbox) its.1.1) h

pub leaves_by_answer : LeavesByAnswer
leaves_by_answer before said answer after own (is_content addressed told became has hears) h = addressed_in before said own addressed told became has hears h
leaves_by_answer before said answer after own (is_repaired received found became is hears) h = same_in before said own became.requests (ap (λ (c : ClientState). c.requests.outbox) hears.state) h
leaves_by_answer before said answer after own (is_about told requests none about) h = about_in before said own told requests about h

-- What the keeper's results make the hub tell.
use Rattle.std.proofs.Common.{◌≡◌, inl, ℕ, suc, ◌+◌, List, [], ◌∷◌, ◌++◌, take, drop, length, Contains, Result, Ok, Err, refl, sym, ap, ◌∙◌, subst, append_assoc, take-append-drop, arith, length-append}
use Rattle.std.proofs.lemmas.List.{drop_at}
use Rattle.std.proofs.lemmas.List.Elements.{Contains-append_right, Contains-push}
use Rattle.std.specs.Int.{w64, to_be_bytes}
use Rattle.keeper_channel.specs.declared.refused.KeeperRefused.{KeeperRefused}
use Rattle.keeper_channel.specs.declared.refused.KeeperRefused.TheVariants.{Full, Store, Damaged, NoMemory}
use Rattle.keeper_entry.specs.Entry.{payload_of, content_in}
use Rattle.keeper_state.specs.State.{State, Found, AnswersByReading, Stores}
use Rattle.keeper_state.specs.Entries.{entries_from}
use Rattle.keeper_table.specs.Entry.{entry_in}
use Rattle.keeper_table.specs.declared.entry.Entry.{Entry}
use Rattle.keeper_table.specs.declared.span.Span.{Span}
use Rattle.keeper_table.specs.declared.span.Span.TheVariants as span
use Rattle.netflux_codec.specs.declared.ask.Ask.{Ask}
use Rattle.netflux_codec.specs.declared.ask.Ask.TheVariants.{History, At}
use Rattle.netflux_codec.specs.declared.reply.Reply.TheVariants as reply
use Rattle.netflux_codec.specs.declared.since.Since.TheVariants as since
use Rattle.netflux_codec.specs.declared.word.Word.TheVariants as word
use Rattle.disk_volume.specs.Disk.{reads}
use Rattle.netflux_core.specs.Channels.{Channels, Changes}
use Rattle.netflux_core.specs.Crashes.{ChannelLogs}
use Rattle.netflux_core.specs.Histories.{channel_of, span_for, entry_reply, tell_entries, told_entries, end_reply, answered}
use Rattle.netflux_core.specs.Machine.{StoreGives, AskGives, Becomes}
use Rattle.netflux_core.specs.Words.{Refuses}
use Rattle.netflux_rooms.specs.Machine.{Answer, made, stores, asks, posted, Steps}
use Rattle.netflux_rooms.specs.Rooms.{Identities, Rooms, but, members_of, id_of, serial_in, tell, error}
use Rattle.netflux_rooms.proofs.CallerLemmas.{steps_answer, IsShort}
use Rattle.pad_list.proofs.CallerLemmas.{contains_head, contains_more}
use Rattle.serve_loop.specs.declared.out.Out.{Out}
use Rattle.hub_laws.specs.Told.{AreTold, IsHeld, IsHeldContent, HaveDigits}
use Rattle.hub_laws.specs.Laws.{NothingIsInvented}
use Rattle.hub_laws.proofs.Telling.{F, told_append, told_each, told_error, fine_step}

pub content_last : (moment : ℕ) (sender content : List ℕ) → length sender ≡ 32 → content_in (payload_of moment sender content) ≡ content
content_last moment sender content long =
    ap (drop 40) (sym (append_assoc (to_be_bytes w64 moment) sender content))
    ∙ drop_at (to_be_bytes w64 moment ++ sender) content 40 (omega (arith, length-append (to_be_bytes w64 moment) sender))

module _ (identities : Identities) (channels : Channels) where
  -- a refusal of the keeper
  refused_told : (number seq : ℕ) (about : List ℕ) (refused : KeeperRefused) (outs : List Out) → Refuses number seq about refused outs → AreTold (F identities channels) outs
  refused_told number seq about Full outs is = subst (AreTold (F identities channels)) (sym is) (told_error identities channels number seq word.Efull about)
  refused_told number seq about Store outs is = subst (AreTold (F identities channels)) (sym is) (told_error identities channels number seq word.Estore about)
  refused_told number seq about (Damaged damage) outs is = subst (AreTold (F identities channels)) (sym is) (told_error identities channels number seq word.Edamaged about)
  refused_told number seq about (NoMemory error) outs is = absurd is

  -- a message that is passed on
  posted_told : (rooms : Rooms) (number seq : ℕ) (channel content : List ℕ) → IsHeldContent channels channel content → AreTold (F identities channels) (posted identities rooms number seq channel content)
  posted_told rooms number seq channel content is =
      ((reply.Ack seq, refl, λ t c b. absurd b), told_each (F identities channels) (λ n. n) (λ n. reply.Msg (id_of identities rooms number) channel content) (λ n. founded) (but number (members_of rooms channel)))
    where
      founded : F identities channels (reply.Msg (id_of identities rooms number) channel content)
      founded t c b = inl (subst (λ (target : List ℕ). IsHeldContent channels target c) b.0 (subst (λ (text : List ℕ). IsHeldContent channels channel text) b.1 is))

  -- entries of an answer
  entry_founded : (keeper : List ℕ) (ask : Ask) (index : ℕ) (entry : Entry) → IsHeldContent channels (channel_of ask) entry.content → F identities channels (entry_reply keeper ask index entry)
  entry_founded keeper (History channel from) index entry is t c b = inl (subst (λ (target : List ℕ). IsHeldContent channels target c) b.0 (subst (λ (text : List ℕ). IsHeldContent channels channel text) b.1 is))
  entry_founded keeper (At channel at) index entry is t c b = inl (subst (λ (target : List ℕ). IsHeldContent channels target c) b.0 (subst (λ (text : List ℕ). IsHeldContent channels channel text) b.1 is))

  entries_told : (keeper : List ℕ) (number : ℕ) (ask : Ask) (index : ℕ) (payloads : List (List ℕ)) → ((payload : List ℕ) → Contains payloads payload → IsHeldContent channels (channel_of ask) (content_in payload))
      → AreTold (F identities channels) (tell_entries keeper number ask (entries_from index payloads))
  entries_told keeper number ask index [] are = tt
  entries_told keeper number ask index (payload ∷ payloads) are = (
    (entry_reply keeper ask index (entry_in index payload), refl, entry_founded keeper ask index (entry_in index payload) (are payload (contains_head payload payloads))),
    entries_told keeper number ask (suc index) payloads (λ p c. are p (contains_more payload payloads p c)),
  )

  told_told : (keeper : List ℕ) (number : ℕ) (ask : Ask) (held : List (List ℕ)) (where_from : Span) → ((payload : List ℕ) → Contains held payload → IsHeldContent channels (channel_of ask) (content_in payload))
      → AreTold (F identities channels) (tell_entries keeper number ask (told_entries ask held where_from))
  told_told keeper number ask held (span.Found start total) are =
      entries_told keeper number ask start (drop start held) (λ p c. are p (subst (λ (l : List (List ℕ)). Contains l p) (take-append-drop start held) (Contains-append_right (take start held) (drop start held) p c)))
  told_told keeper number ask held span.Unknown are = tt

  end_founded : (keeper : List ℕ) (ask : Ask) (where_from : Span) → F identities channels (end_reply keeper ask where_from)
  end_founded keeper (History channel since.Default) (span.Found start total) t c b = absurd b
  end_founded keeper (History channel (since.Known key)) (span.Found start total) t c b = absurd b
  end_founded keeper (History channel since.All) (span.Found start total) t c b = absurd b
  end_founded keeper (At channel index) (span.Found start total) t c b = absurd b
  end_founded keeper (History channel since.Default) span.Unknown t c b = absurd b
  end_founded keeper (History channel (since.Known key)) span.Unknown t c b = absurd b
  end_founded keeper (History channel since.All) span.Unknown t c b = absurd b
  end_founded keeper (At channel index) span.Unknown t c b = absurd b

  answered_told : (keeper : List ℕ) (number seq : ℕ) (ask : Ask) (held : List (List ℕ)) → ((payload : List ℕ) → Contains held payload → IsHeldContent channels (channel_of ask) (content_in payload))
      → AreTold (F identities channels) (answered keeper number seq ask held)
  answered_told keeper number seq ask held are = (
    (reply.Ack seq, refl, λ t c b. absurd b),
    told_append (F identities channels) (tell_entries keeper number ask (told_entries ask held (span_for ask held))) (tell number (end_reply keeper ask (span_for ask held)) ∷ [])
        (told_told keeper number ask held (span_for ask held) are) ((end_reply keeper ask (span_for ask held), refl, end_founded keeper ask (span_for ask held)), tt),
  )

module _ (finds : Found → Type 0) (identities : Identities) (before after : Channels) where
  stored_told : (loaded : ℕ) (state : State) (rooms : Rooms) (moment number seq : ℕ) (channel content : List ℕ) (result : Result ℕ KeeperRefused) (now : State) (outs : List Out) → HaveDigits identities
      → Stores finds loaded state (payload_of moment (id_of identities rooms number) content ∷ []) result now → StoreGives identities rooms number seq channel content result outs → Changes before channel now after
      → AreTold (F identities after) outs
  stored_told loaded state rooms moment number seq channel content (Ok index) now outs digits is gives changes =
      let payload = payload_of moment (id_of identities rooms number) content in
      subst (AreTold (F identities after)) (sym gives) (posted_told identities after rooms number seq channel content (record {
        held = is.1 ++ payload ∷ [];
        is_held = subst (λ (s : State). IsHeld s (is.1 ++ payload ∷ [])) (sym (changes.this ∙ is.4.2)) refl;
        payload = payload;
        has = Contains-push is.1 payload;
        same = content_last moment (id_of identities rooms number) content (digits (serial_in rooms.connected number)).as_many;
      }))
  stored_told loaded state rooms moment number seq channel content (Err refused) now outs digits is gives changes = refused_told identities after number seq channel refused outs gives

  asked_told : (loaded : ℕ) (state : State) (number seq : ℕ) (ask : Ask) (result : Result (List (List ℕ)) KeeperRefused) (now : State) (outs : List Out)
      → AnswersByReading finds loaded state (λ held told. told ≡ held) result now → AskGives identities.keeper number seq ask result outs → Changes before (channel_of ask) now after
      → AreTold (F identities after) outs
  asked_told loaded state number seq ask (Ok told) now outs is gives changes =
      subst (AreTold (F identities after)) (sym gives) (answered_told identities after identities.keeper number seq ask told (λ payload has. record {
        held = told;
        is_held = subst (λ (s : State). IsHeld s told) (sym (changes.this ∙ is.4.1)) is.4.0;
        payload = payload;
        has = has;
        same = refl;
      }))
  asked_told loaded state number seq ask (Err refused) now outs is gives changes = refused_told identities after number seq identities.keeper refused outs gives

pub all_told : (logs : ChannelLogs) → NothingIsInvented logs
all_told logs identities before moment event outs after digits step = by got.0 got.1 got.3
  where
    got : (answer : Answer) × Becomes logs identities before moment outs after answer × IsShort answer × Steps identities before.rooms event (λ other. other ≡ answer)
    got = steps_answer identities before.rooms event (Becomes logs identities before moment outs after) step

    by : (answer : Answer) → Becomes logs identities before moment outs after answer → Steps identities before.rooms event (λ other. other ≡ answer) → AreTold (F identities after.channels) outs
    by (made what) is steps = subst (AreTold (F identities after.channels)) (sym is.0) (fine_step identities after.channels before.rooms event (made what) steps)
    by (stores number seq channel content) is steps =
        stored_told (logs.finds channel (reads before.disk)) identities before.channels after.channels before.channels.loaded (before.channels.at channel) before.rooms moment number seq channel content is.0 is.1 outs digits is.2 is.3 is.4.changes
    by (asks number seq ask) is steps =
        asked_told (logs.finds (channel_of ask) (reads before.disk)) identities before.channels after.channels before.channels.loaded (before.channels.at (channel_of ask)) number seq ask is.0 is.1 outs is.2 is.3 is.4.changes

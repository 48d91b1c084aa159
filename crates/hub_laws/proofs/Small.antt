-- What the keeper's results make the hub tell, with small numbers.
use Rattle.std.proofs.Common.{◌≡◌, ◌⊎◌, inl, inr, ℕ, suc, ◌+◌, ◌<◌, ◌≤◌, ◌^◌, Bool, true, false, Option, Some, None, List, [], ◌∷◌, ◌++◌, take, drop, length, Contains, Result, Ok, Err, refl, sym, ap, ◌∙◌, subst, append_assoc, take-append-drop, arith, length-append}
use Rattle.std.proofs.Math.Dec.{leb}
use Rattle.std.proofs.lemmas.Bool.Decides.{leb_tells}
use Rattle.std.proofs.lemmas.List.{drop_at, drop_all, length-drop}
use Rattle.std.proofs.lemmas.List.Elements.{Contains-append_right, Contains-push}
use Rattle.keeper_channel.specs.declared.refused.KeeperRefused.{KeeperRefused}
use Rattle.keeper_channel.specs.declared.refused.KeeperRefused.TheVariants.{Full, Store, Damaged, NoMemory}
use Rattle.keeper_entry.specs.Entry.{payload_of, content_in}
use Rattle.keeper_state.specs.State.{State, Found, AnswersByReading, Stores}
use Rattle.keeper_state.specs.Entries.{entries_from}
use Rattle.keeper_table.specs.Entry.{entry_in}
use Rattle.keeper_table.specs.declared.entry.Entry.{Entry}
use Rattle.keeper_table.specs.declared.span.Span.{Span}
use Rattle.keeper_table.specs.declared.span.Span.TheVariants as span
use Rattle.netflux_codec.specs.declared.ask.Ask.{Ask}
use Rattle.netflux_codec.specs.declared.ask.Ask.TheVariants.{History, At}
use Rattle.netflux_codec.specs.declared.reply.Reply.TheVariants as reply
use Rattle.netflux_codec.specs.declared.since.Since.TheVariants as since
use Rattle.netflux_codec.specs.declared.word.Word.TheVariants as word
use Rattle.disk_volume.specs.Disk.{reads}
use Rattle.netflux_core.specs.Channels.{Channels, Changes}
use Rattle.netflux_core.specs.Crashes.{ChannelLogs}
use Rattle.netflux_core.specs.Histories.{channel_of, span_for, entry_reply, tell_entries, told_entries, end_reply, answered}
use Rattle.netflux_core.specs.Machine.{StoreGives, AskGives, Becomes}
use Rattle.netflux_core.specs.Words.{Refuses}
use Rattle.netflux_rooms.specs.Machine.{Answer, made, stores, asks, posted, Steps}
use Rattle.netflux_rooms.specs.Rooms.{Identities, Rooms, but, members_of, id_of, serial_in, tell, error}
use Rattle.netflux_rooms.proofs.CallerLemmas.{steps_answer, IsShort}
use Rattle.pad_list.proofs.CallerLemmas.{contains_head, contains_more}
use Rattle.serve_loop.specs.declared.out.Out.{Out}
use Rattle.hub_laws.specs.Told.{AreTold, IsFounded, IsHeld, IsHeldContent, HaveDigits}
use Rattle.keeper_entry.specs.History.{first_from}
use Rattle.keeper_table.specs.Span.{span_in, found_at}
use Rattle.netflux_codec.specs.declared.since.Since.{Since}
use Rattle.hub_laws.specs.Small.{IsHistory, FewAreHeld, ToldAreSmall}
use Rattle.hub_laws.proofs.Answering.{content_last}
use Rattle.hub_laws.proofs.Telling.{told_append, told_each}
use Rattle.hub_laws.proofs.Numbers.{J, Fine, told_error, says_ack, says_message, says_end, says_unknown, fine_step}

module _ (identities : Identities) (channels : Channels) where
  -- a refusal of the keeper
  refused_told : (number seq : ℕ) (about : List ℕ) (refused : KeeperRefused) (outs : List Out) → seq < 2 ^ 64 → Refuses number seq about refused outs → AreTold (J identities channels) outs
  refused_told number seq about Full outs small is = subst (AreTold (J identities channels)) (sym is) (told_error identities channels number seq word.Efull about small)
  refused_told number seq about Store outs small is = subst (AreTold (J identities channels)) (sym is) (told_error identities channels number seq word.Estore about small)
  refused_told number seq about (Damaged damage) outs small is = subst (AreTold (J identities channels)) (sym is) (told_error identities channels number seq word.Edamaged about small)
  refused_told number seq about (NoMemory error) outs small is = absurd is

  -- a message that is passed on
  posted_told : (rooms : Rooms) (number seq : ℕ) (channel content : List ℕ) → seq < 2 ^ 64 → IsHeldContent channels channel content → AreTold (J identities channels) (posted identities rooms number seq channel content)
  posted_told rooms number seq channel content small is =
      ((reply.Ack seq, refl, says_ack identities channels seq small), told_each (J identities channels) (λ n. n) (λ n. reply.Msg (id_of identities rooms number) channel content) (λ n. says_message identities channels (id_of identities rooms number) channel content founded) (but number (members_of rooms channel)))
    where
      founded : IsFounded identities channels (reply.Msg (id_of identities rooms number) channel content)
      founded t c b = inl (subst (λ (target : List ℕ). IsHeldContent channels target c) b.0 (subst (λ (text : List ℕ). IsHeldContent channels channel text) b.1 is))

  -- entries of an answer
  entry_said : (keeper channel : List ℕ) (index : ℕ) (entry : Entry) → index < 2 ^ 64 → IsHeldContent channels channel entry.content → J identities channels (reply.History keeper channel index entry.sender entry.content)
  entry_said keeper channel index entry small is = (
    λ t c b. inl (subst (λ (target : List ℕ). IsHeldContent channels target c) b.0 (subst (λ (text : List ℕ). IsHeldContent channels channel text) b.1 is)),
    (omega arith, (tt, (tt, (tt, (small, (tt, (tt, tt))))))),
  )

  entries_told : (keeper : List ℕ) (number : ℕ) (channel : List ℕ) (from : Since) (index : ℕ) (payloads : List (List ℕ)) → index + length payloads < 2 ^ 64
      → ((payload : List ℕ) → Contains payloads payload → IsHeldContent channels channel (content_in payload))
      → AreTold (J identities channels) (tell_entries keeper number (History channel from) (entries_from index payloads))
  entries_told keeper number channel from index [] few are = tt
  entries_told keeper number channel from index (payload ∷ payloads) few are = (
    (
      reply.History keeper channel index (entry_in index payload).sender (entry_in index payload).content,
      refl,
      entry_said keeper channel index (entry_in index payload) (omega (arith, few)) (are payload (contains_head payload payloads)),
    ),
    entries_told keeper number channel from (suc index) payloads (omega (arith, few)) (λ p c. are p (contains_more payload payloads p c)),
  )

  -- each start is no further than the end, or nothing is told
  told_told : (keeper : List ℕ) (number : ℕ) (channel : List ℕ) (from : Since) (held : List (List ℕ)) (where_from : Span) → length held < 2 ^ 64
      → ((payload : List ℕ) → Contains held payload → IsHeldContent channels channel (content_in payload))
      → AreTold (J identities channels) (tell_entries keeper number (History channel from) (told_entries (History channel from) held where_from))
  told_told keeper number channel from held (span.Found start total) few are = by (leb_tells start (length held))
    where
      all : (payload : List ℕ) → Contains (drop start held) payload → IsHeldContent channels channel (content_in payload)
      all p c = are p (subst (λ (l : List (List ℕ)). Contains l p) (take-append-drop start held) (Contains-append_right (take start held) (drop start held) p c))

      by : ((leb start (length held) ≡ true) × (start ≤ length held)) ⊎ ((leb start (length held) ≡ false) × (length held < start))
          → AreTold (J identities channels) (tell_entries keeper number (History channel from) (entries_from start (drop start held)))
      by (inl h) = entries_told keeper number channel from start (drop start held) (omega (arith, few, h.1, length-drop start held)) all
      by (inr h) = subst (λ (l : List (List ℕ)). AreTold (J identities channels) (tell_entries keeper number (History channel from) (entries_from start l)))
          (sym (drop_all start held (omega (arith, h.1)))) tt
  told_told keeper number channel from held span.Unknown few are = tt

  end_said : (keeper channel : List ℕ) (from : Since) (held : List (List ℕ)) → length held < 2 ^ 64 → J identities channels (end_reply keeper (History channel from) (span_in held from))
  end_said keeper channel since.Default held few = says_end identities channels keeper channel (length held) few
  end_said keeper channel (since.Known key) held few = by (first_from key 0 held)
    where
      by : (first : Option ℕ) → J identities channels (end_reply keeper (History channel (since.Known key)) (found_at first (length held)))
      by None = says_unknown identities channels keeper channel key
      by (Some first) = says_end identities channels keeper channel (length held) few
  end_said keeper channel since.All held few = says_end identities channels keeper channel (length held) few

  answered_told : (keeper : List ℕ) (number seq : ℕ) (ask : Ask) (held : List (List ℕ)) → seq < 2 ^ 64 → IsHistory ask → length held < 2 ^ 64
      → ((payload : List ℕ) → Contains held payload → IsHeldContent channels (channel_of ask) (content_in payload))
      → AreTold (J identities channels) (answered keeper number seq ask held)
  answered_told keeper number seq (At channel index) held small history few are = absurd history
  answered_told keeper number seq (History channel from) held small history few are = (
    (reply.Ack seq, refl, says_ack identities channels seq small),
    told_append (J identities channels) (tell_entries keeper number (History channel from) (told_entries (History channel from) held (span_in held from)))
        (tell number (end_reply keeper (History channel from) (span_in held from)) ∷ [])
        (told_told keeper number channel from held (span_in held from) few are)
        ((end_reply keeper (History channel from) (span_in held from), refl, end_said keeper channel from held few), tt),
  )

module _ (finds : Found → Type 0) (identities : Identities) (before after : Channels) where
  stored_told : (loaded : ℕ) (state : State) (rooms : Rooms) (moment number seq : ℕ) (channel content : List ℕ) (result : Result ℕ KeeperRefused) (now : State) (outs : List Out) → HaveDigits identities → seq < 2 ^ 64
      → Stores finds loaded state (payload_of moment (id_of identities rooms number) content ∷ []) result now → StoreGives identities rooms number seq channel content result outs → Changes before channel now after
      → AreTold (J identities after) outs
  stored_told loaded state rooms moment number seq channel content (Ok index) now outs digits small is gives changes =
      let payload = payload_of moment (id_of identities rooms number) content in
      subst (AreTold (J identities after)) (sym gives) (posted_told identities after rooms number seq channel content small (record {
        held = is.1 ++ payload ∷ [];
        is_held = subst (λ (s : State). IsHeld s (is.1 ++ payload ∷ [])) (sym (changes.this ∙ is.4.2)) refl;
        payload = payload;
        has = Contains-push is.1 payload;
        same = content_last moment (id_of identities rooms number) content (digits (serial_in rooms.connected number)).as_many;
      }))
  stored_told loaded state rooms moment number seq channel content (Err refused) now outs digits small is gives changes = refused_told identities after number seq channel refused outs small gives

  asked_told : (loaded : ℕ) (state : State) (number seq : ℕ) (ask : Ask) (result : Result (List (List ℕ)) KeeperRefused) (now : State) (outs : List Out) → seq < 2 ^ 64 → IsHistory ask → FewAreHeld after
      → AnswersByReading finds loaded state (λ held told. told ≡ held) result now → AskGives identities.keeper number seq ask result outs → Changes before (channel_of ask) now after
      → AreTold (J identities after) outs
  asked_told loaded state number seq ask (Ok told) now outs small history few is gives changes =
      let was_held : IsHeld (after.at (channel_of ask)) told = subst (λ (s : State). IsHeld s told) (sym (changes.this ∙ is.4.1)) is.4.0 in
      subst (AreTold (J identities after)) (sym gives) (answered_told identities after identities.keeper number seq ask told small history (few (channel_of ask) told was_held) (λ payload has. record {
        held = told;
        is_held = was_held;
        payload = payload;
        has = has;
        same = refl;
      }))
  asked_told loaded state number seq ask (Err refused) now outs small history few is gives changes = refused_told identities after number seq identities.keeper refused outs small gives

pub all_small : (logs : ChannelLogs) → ToldAreSmall logs
all_small logs identities before moment event outs after digits of_client few step = by got.0 got.1 (fine_step identities after.channels before.rooms event got.0 of_client got.3)
  where
    got : (answer : Answer) × Becomes logs identities before moment outs after answer × IsShort answer × Steps identities before.rooms event (λ other. other ≡ answer)
    got = steps_answer identities before.rooms event (Becomes logs identities before moment outs after) step

    by : (answer : Answer) → Becomes logs identities before moment outs after answer → Fine identities after.channels answer → AreTold (J identities after.channels) outs
    by (made what) is fine = subst (AreTold (J identities after.channels)) (sym is.0) fine
    by (stores number seq channel content) is fine =
        stored_told (logs.finds channel (reads before.disk)) identities before.channels after.channels before.channels.loaded (before.channels.at channel) before.rooms moment number seq channel content is.0 is.1 outs digits fine is.2 is.3 is.4.changes
    by (asks number seq ask) is fine =
        asked_told (logs.finds (channel_of ask) (reads before.disk)) identities before.channels after.channels before.channels.loaded (before.channels.at (channel_of ask)) number seq ask is.0 is.1 outs fine.0 fine.1 few is.2 is.3 is.4.changes

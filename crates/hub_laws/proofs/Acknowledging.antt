-- An acknowledgement of a message to a channel says that its entry is held.
use Rattle.std.proofs.Common.{◌≡◌, ◌⊎◌, inl, inr, ℕ, Bool, true, false, Option, Some, None, List, [], ◌∷◌, ◌++◌, bytes_eq, Result, Ok, Err, refl, sym, ap, ◌∙◌, subst, true≢false, MatchBool, if◌then◌else◌}
use Rattle.std.proofs.lemmas.List.Elements.{Contains-push}
use Rattle.std.proofs.lemmas.Slice.Eq.{bytes_eq-Decides}
use Rattle.disk_volume.specs.Disk.{reads}
use Rattle.keeper_channel.specs.declared.refused.KeeperRefused.{KeeperRefused}
use Rattle.keeper_channel.specs.declared.refused.KeeperRefused.TheVariants.{Full, Store, Damaged, NoMemory}
use Rattle.keeper_entry.specs.Entry.{payload_of}
use Rattle.keeper_state.specs.State.{State, Found, Stores}
use Rattle.netflux_codec.specs.declared.body.Body.{Body}
use Rattle.netflux_codec.specs.declared.body.Body.TheVariants as body
use Rattle.netflux_codec.specs.declared.reply.Reply.{Reply}
use Rattle.netflux_codec.specs.declared.reply.Reply.TheVariants as reply
use Rattle.netflux_codec.specs.declared.request.Request.{Request}
use Rattle.netflux_codec.specs.declared.word.Word.{Word}
use Rattle.netflux_codec.specs.declared.word.Word.TheVariants as word
use Rattle.netflux_codec.specs.Request.{Requests, TextsSpellOneRequest}
use Rattle.netflux_core.specs.Channels.{Channels, Changes}
use Rattle.netflux_core.specs.Crashes.{ChannelLogs}
use Rattle.netflux_core.specs.Machine.{ServeState, StoreGives, Becomes}
use Rattle.netflux_core.specs.Words.{Refuses}
use Rattle.netflux_rooms.specs.declared.target.Target.{Target}
use Rattle.netflux_rooms.specs.declared.target.Target.TheVariants as target
use Rattle.netflux_rooms.specs.Machine.{made, stores, is_long, target_by, target_elsewhere, target_of, HearsMessage, HearsRequest, Hears}
use Rattle.netflux_rooms.specs.Rooms.{Identities, Rooms, Connection, but, has_joined, is_open, id_of, serial_in, members_of, named, error}
use Rattle.serve_loop.specs.declared.out.Out.{Out}
use Rattle.hub_laws.specs.Told.{AreTold, IsHeld, IsHeldContent, IsConnection, HaveDigits}
use Rattle.hub_laws.specs.Laws.{IsAckOfHeld, AcknowledgedAreHeld}
use Rattle.hub_laws.proofs.Telling.{told_each}
use Rattle.hub_laws.proofs.Answering.{content_last}

-- the number of an acknowledgement
abbrev ack_number : Reply → Option ℕ
ack_number (reply.Ack seq) = Some seq
ack_number (reply.Ident id) = None
ack_number (reply.Joined number channel) = None
ack_number (reply.Member who channel) = None
ack_number (reply.Gone id channel reason) = None
ack_number (reply.Msg id to content) = None
ack_number (reply.Error number why about) = None
ack_number (reply.History keeper channel index sender content) = None
ack_number (reply.Entry keeper channel index moment sender content) = None
ack_number (reply.HistoryEnd keeper channel total) = None
ack_number (reply.HistoryUnknown keeper channel key) = None

abbrev number_or : ℕ → Option ℕ → ℕ
number_or number None = number
number_or number (Some other) = other

abbrev has_number : Option ℕ → Bool
has_number None = false
has_number (Some other) = true

-- a reply that is no acknowledgement says nothing of it
no_ack : (said : Reply) (seq : ℕ) → ack_number said ≡ None → said ≡ reply.Ack seq → ⊥
no_ack said seq none e = true≢false (sym (ap (λ (r : Reply). has_number (ack_number r)) e) ∙ ap has_number none)

module _ (channels : Channels) (number : ℕ) (channel content : List ℕ) where
  abbrev A : Reply → Type 0
  A said = IsAckOfHeld channels number channel content said

  no_acks : (said : Reply) → ack_number said ≡ None → A said
  no_acks said none seq e = absurd (no_ack said seq none e)

  error_acks : (to seq : ℕ) (why : Word) (about : List ℕ) → AreTold A (error to seq why about)
  error_acks to seq why about = ((reply.Error seq why about, refl, no_acks (reply.Error seq why about) refl), tt)

  refused_acks : (to seq : ℕ) (about : List ℕ) (refused : KeeperRefused) (outs : List Out) → Refuses to seq about refused outs → AreTold A outs
  refused_acks to seq about Full outs is = subst (AreTold A) (sym is) (error_acks to seq word.Efull about)
  refused_acks to seq about Store outs is = subst (AreTold A) (sym is) (error_acks to seq word.Estore about)
  refused_acks to seq about (Damaged damage) outs is = subst (AreTold A) (sym is) (error_acks to seq word.Edamaged about)
  refused_acks to seq about (NoMemory memory) outs is = absurd is

module _ (finds : Found → Type 0) (identities : Identities) (before after : Channels) where
  stored_acks : (loaded : ℕ) (state : State) (rooms : Rooms) (moment to seq : ℕ) (channel content : List ℕ) (result : Result ℕ KeeperRefused) (now : State) (outs : List Out) → HaveDigits identities
      → Stores finds loaded state (payload_of moment (id_of identities rooms to) content ∷ []) result now → StoreGives identities rooms to seq channel content result outs → Changes before channel now after
      → AreTold (A after seq channel content) outs
  stored_acks loaded state rooms moment to seq channel content (Ok index) now outs digits is gives changes =
      let payload = payload_of moment (id_of identities rooms to) content in
      let message = reply.Msg (id_of identities rooms to) channel content in
      let held : IsHeldContent after channel content = record {
        held = is.1 ++ payload ∷ [];
        is_held = subst (λ (s : State). IsHeld s (is.1 ++ payload ∷ [])) (sym (changes.this ∙ is.4.2)) refl;
        payload = payload;
        has = Contains-push is.1 payload;
        same = content_last moment (id_of identities rooms to) content (digits (serial_in rooms.connected to)).as_many;
      } in
      subst (AreTold (A after seq channel content)) (sym gives) (
        (reply.Ack seq, refl, λ other e. (sym (ap (λ (r : Reply). number_or seq (ack_number r)) e), held)),
        told_each (A after seq channel content) (λ n. n) (λ n. message) (λ n. no_acks after seq channel content message refl) (but to (members_of rooms channel)),
      )
  stored_acks loaded state rooms moment to seq channel content (Err refused) now outs digits is gives changes = refused_acks after seq channel content to seq channel refused outs gives

-- whom a message is for whose target is no keeper and no connection
abbrev IsFor : Identities → List ℕ → Target → Type 0
IsFor identities to (target.Channel channel) = channel ≡ to
IsFor identities to target.Keeper = to ≡ identities.keeper
IsFor identities to (target.Connection other) = IsConnection identities to
IsFor identities to target.Nobody = Unit {0}

for_if : (identities : Identities) (to : List ℕ) (b : Bool) (one other : Target) → (b ≡ true → IsFor identities to one) → IsFor identities to other → IsFor identities to (if b then one else other)
for_if identities to true one other h k = h refl
for_if identities to false one other h k = k

for_named : (identities : Identities) (to : List ℕ) (connected : List Connection) → IsFor identities to (target_by (named identities connected to))
for_named identities to [] = tt
for_named identities to (connection ∷ connected) = by (bytes_eq (identities.connection connection.serial) to) refl (for_named identities to connected)
  where
    by : (b : Bool) → bytes_eq (identities.connection connection.serial) to ≡ b → IsFor identities to (target_by (named identities connected to))
        → IsFor identities to (target_by (if b then Some connection.number else named identities connected to))
    by true e rest = (connection.serial, (bytes_eq-Decides (identities.connection connection.serial) to).0 e)
    by false e rest = rest

for_target : (identities : Identities) (rooms : Rooms) (number : ℕ) (to : List ℕ) → IsFor identities to (target_of identities rooms number to)
for_target identities rooms number to =
    for_if identities to (has_joined rooms number to) (target.Channel to) (target_elsewhere identities rooms to) (λ e. refl)
    (for_if identities to (bytes_eq to identities.keeper) target.Keeper (target_by (named identities rooms.connected to)) (λ e. (bytes_eq-Decides to identities.keeper).0 e) (for_named identities to rooms.connected))

module _ (logs : ChannelLogs) (identities : Identities) (before : ServeState) (moment : ℕ) (outs : List Out) (after : ServeState) (digits : HaveDigits identities) where
  kept_acks : (number seq : ℕ) (channel to content : List ℕ) (b : Bool) → channel ≡ to
      → Becomes logs identities before moment outs after (if b then made (error number seq word.Etoobig to, before.rooms) else stores number seq channel content)
      → AreTold (A after.channels seq to content) outs
  kept_acks number seq channel to content true same is = subst (AreTold (A after.channels seq to content)) (sym is.0) (error_acks after.channels seq to content number seq word.Etoobig to)
  kept_acks number seq channel to content false same is = subst (λ (c : List ℕ). AreTold (A after.channels seq c content) outs) same
      (stored_acks (logs.finds channel (reads before.disk)) identities before.channels after.channels before.channels.loaded (before.channels.at channel) before.rooms moment number seq channel content is.0 is.1 outs digits is.2 is.3 is.4.changes)

  message_acks : (number seq : ℕ) (to content : List ℕ) (whom : Target) → IsFor identities to whom → ¬ (to ≡ identities.keeper) → ¬ (IsConnection identities to)
      → HearsMessage identities before.rooms number seq to content whom (Becomes logs identities before moment outs after) → AreTold (A after.channels seq to content) outs
  message_acks number seq to content (target.Channel channel) for_it no_keeper no_connection h = kept_acks number seq channel to content (is_long content) for_it h
  message_acks number seq to content target.Keeper for_it no_keeper no_connection h = absurd (no_keeper for_it)
  message_acks number seq to content (target.Connection other) for_it no_keeper no_connection h = absurd (no_connection for_it)
  message_acks number seq to content target.Nobody for_it no_keeper no_connection h = subst (AreTold (A after.channels seq to content)) (sym h.0) (error_acks after.channels seq to content number seq word.Enoent to)

  request_acks : (number seq : ℕ) (asked_for : Body) (to content : List ℕ) → asked_for ≡ body.Msg to content → ¬ (to ≡ identities.keeper) → ¬ (IsConnection identities to)
      → HearsRequest identities before.rooms number seq asked_for (Becomes logs identities before moment outs after) → AreTold (A after.channels seq to content) outs
  request_acks number seq asked_for to content same no_keeper no_connection h =
      message_acks number seq to content (target_of identities before.rooms number to) (for_target identities before.rooms number to) no_keeper no_connection
      (subst (λ (b : Body). HearsRequest identities before.rooms number seq b (Becomes logs identities before moment outs after)) same h)

  text_acks : TextsSpellOneRequest → (number : ℕ) (text : List ℕ) (request : Request) (to content : List ℕ) → Requests text request → request.body ≡ body.Msg to content → ¬ (to ≡ identities.keeper) → ¬ (IsConnection identities to)
      → Hears identities before.rooms number text (Becomes logs identities before moment outs after) → AreTold (A after.channels request.seq to content) outs
  text_acks one number text request to content spelled same no_keeper no_connection (inl none) = absurd (none.0 request spelled)
  text_acks one number text request to content spelled same no_keeper no_connection (inr some) =
      let is = one text some.0 request some.1 spelled in
      subst (λ (r : Request). AreTold (A after.channels r.seq to content) outs) is
      (request_acks number some.0.seq some.0.body to content (ap (λ (r : Request). r.body) is ∙ same) no_keeper no_connection some.2)

pub all_acks : (logs : ChannelLogs) → TextsSpellOneRequest → AcknowledgedAreHeld logs
all_acks logs one identities before moment number text request channel content outs after digits spelled same no_keeper no_connection step = by (is_open before.rooms number) step
  where
    by : (b : Bool) → MatchBool b (Hears identities before.rooms number text (Becomes logs identities before moment outs after)) (Becomes logs identities before moment outs after (made ([], before.rooms)))
        → AreTold (A after.channels request.seq channel content) outs
    by false is = subst (AreTold (A after.channels request.seq channel content)) (sym is.0) tt
    by true is = text_acks logs identities before moment outs after digits one number text request channel content spelled same no_keeper no_connection is

-- What the rooms tell by themselves.
use Rattle.std.proofs.Common.{◌≡◌, inl, inr, ℕ, ◌+◌, Bool, true, false, Some, List, [], ◌∷◌, ◌++◌, map, bytes_eq, nat_le, length, refl, subst, MatchBool, if◌then◌else◌, codes}
use Rattle.std.proofs.lemmas.Slice.Eq.{bytes_eq-Decides}
use Rattle.netflux_codec.specs.declared.body.Body.{Body}
use Rattle.netflux_codec.specs.declared.body.Body.TheVariants as body
use Rattle.netflux_codec.specs.declared.reply.Reply.{Reply}
use Rattle.netflux_codec.specs.declared.reply.Reply.TheVariants as reply
use Rattle.netflux_codec.specs.declared.who.Who.TheVariants as who
use Rattle.netflux_codec.specs.declared.word.Word.{Word}
use Rattle.netflux_codec.specs.declared.word.Word.TheVariants as word
use Rattle.netflux_core.specs.Channels.{Channels}
use Rattle.netflux_rooms.specs.declared.limits.TheConstants.{MOST_CHANNELS}
use Rattle.netflux_rooms.specs.declared.target.Target.{Target}
use Rattle.netflux_rooms.specs.declared.target.Target.TheVariants as target
use Rattle.netflux_rooms.specs.Rooms.{Identities, Rooms, Connection, but, has_joined, is_open, is_full, id_of, members_of, channels_of, named, tell, tell_each, error, opens, joins, leaves, goodbyes, welcome, opened, closed, joined, left}
use Rattle.netflux_rooms.specs.Machine.{Answer, made, stores, asks, is_long, delivered, target_by, target_elsewhere, target_of, HearsAsk, HearsMessage, HearsRequest, Hears, Steps}
use Rattle.serve_loop.specs.declared.event.Event.{Event}
use Rattle.serve_loop.specs.declared.event.Event.TheVariants as event
use Rattle.serve_loop.specs.declared.out.Out.{Out}
use Rattle.serve_loop.specs.declared.out.Out.TheVariants.{Send, HangUp}
use Rattle.hub_laws.specs.Told.{AreTold, IsFounded, IsConnection}

module _ (P : Reply → Type 0) where
  pub told_append : (first later : List Out) → AreTold P first → AreTold P later → AreTold P (first ++ later)
  told_append [] later h k = k
  told_append (Send number text ∷ first) later h k = (h.0, told_append first later h.1 k)
  told_append (HangUp number ∷ first) later h k = told_append first later h k

  pub told_each : (to : ℕ → ℕ) (said : ℕ → Reply) → ((number : ℕ) → P (said number)) → (numbers : List ℕ) → AreTold P (map (λ number. tell (to number) (said number)) numbers)
  told_each to said each [] = tt
  told_each to said each (number ∷ numbers) = ((said number, refl, each number), told_each to said each numbers)

  pub told_if : (b : Bool) (one other : List Out × Rooms) → AreTold P one.0 → AreTold P other.0 → AreTold P (if b then one else other).0
  told_if true one other h k = h
  told_if false one other h k = k

  pub told_outs_if : (b : Bool) (one other : List Out) → AreTold P one → AreTold P other → AreTold P (if b then one else other)
  told_outs_if true one other h k = h
  told_outs_if false one other h k = k

module _ (identities : Identities) (channels : Channels) where
  abbrev pub F : Reply → Type 0
  F said = IsFounded identities channels said

  pub told_error : (number seq : ℕ) (why : Word) (about : List ℕ) → AreTold F (error number seq why about)
  told_error number seq why about = ((reply.Error seq why about, refl, λ t c b. absurd b), tt)

  told_opened : (rooms : Rooms) (number : ℕ) → AreTold F (opened identities rooms number).0
  told_opened rooms number = told_if F (is_full rooms) (tell number (reply.Error 0 word.Efull []) ∷ HangUp number ∷ [], rooms) (tell number (reply.Ident (identities.connection (rooms.taken + 1))) ∷ [], opens rooms number)
      ((reply.Error 0 word.Efull [], refl, λ t c b. absurd b), tt) ((reply.Ident (identities.connection (rooms.taken + 1)), refl, λ t c b. absurd b), tt)

  told_goodbyes : (members : List ℕ → List ℕ) (id : List ℕ) (number : ℕ) (joined_ones : List (List ℕ)) → AreTold F (goodbyes members id number joined_ones)
  told_goodbyes members id number [] = tt
  told_goodbyes members id number (channel ∷ joined_ones) =
      told_append F (tell_each (but number (members channel)) (reply.Gone id channel (codes "Quit"))) (goodbyes members id number joined_ones)
      (told_each F (λ n. n) (λ n. reply.Gone id channel (codes "Quit")) (λ n t c b. absurd b) (but number (members channel))) (told_goodbyes members id number joined_ones)

  told_closed : (rooms : Rooms) (number : ℕ) → AreTold F (closed identities rooms number).0
  told_closed rooms number = told_goodbyes (members_of rooms) (id_of identities rooms number) number (channels_of rooms number)

  told_welcome : (keeper : List ℕ) (id : ℕ → List ℕ) (members : List ℕ) (number seq : ℕ) (channel : List ℕ) → AreTold F (welcome keeper id members number seq channel)
  told_welcome keeper id members number seq channel =
      let all = told_append F (map (λ other. tell number (reply.Member (who.Member (id other)) channel)) members) (tell number (reply.Member (who.Member (id number)) channel) ∷ tell_each members (reply.Member (who.Member (id number)) channel))
      (told_each F (λ n. number) (λ other. reply.Member (who.Member (id other)) channel) (λ n t c b. absurd b) members)
      ((reply.Member (who.Member (id number)) channel, refl, λ t c b. absurd b), told_each F (λ n. n) (λ n. reply.Member (who.Member (id number)) channel) (λ n t c b. absurd b) members) in
      ((reply.Joined seq channel, refl, λ t c b. absurd b), ((reply.Member (who.Keeper keeper) channel, refl, λ t c b. absurd b), all))

  told_joined : (rooms : Rooms) (number seq : ℕ) (channel : List ℕ) → AreTold F (joined identities rooms number seq channel).0
  told_joined rooms number seq channel =
      let more : List Out × Rooms = (welcome identities.keeper (id_of identities rooms) (members_of rooms channel) number seq channel, joins rooms number channel) in
      told_if F (has_joined rooms number channel) (error number seq word.Ejoined channel, rooms)
      (if nat_le MOST_CHANNELS (length (channels_of rooms number)) then (error number seq word.Efull channel, rooms) else more)
      (told_error number seq word.Ejoined channel)
      (told_if F (nat_le MOST_CHANNELS (length (channels_of rooms number))) (error number seq word.Efull channel, rooms) more (told_error number seq word.Efull channel)
      (told_welcome identities.keeper (id_of identities rooms) (members_of rooms channel) number seq channel))

  told_left : (rooms : Rooms) (number seq : ℕ) (channel reason : List ℕ) → AreTold F (left identities rooms number seq channel reason).0
  told_left rooms number seq channel reason =
      let gone = reply.Gone (id_of identities rooms number) channel reason in
      told_if F (has_joined rooms number channel) (tell number (reply.Ack seq) ∷ tell_each (but number (members_of rooms channel)) gone, leaves rooms number channel) (error number seq word.Enoent channel, rooms)
      ((reply.Ack seq, refl, λ t c b. absurd b), told_each F (λ n. n) (λ n. gone) (λ n t c b. absurd b) (but number (members_of rooms channel)))
      (told_error number seq word.Enoent channel)

  told_delivered : (rooms : Rooms) (number seq other : ℕ) (to content : List ℕ) → IsConnection identities to → AreTold F (delivered identities rooms number seq other to content)
  told_delivered rooms number seq other to content is =
      told_outs_if F (is_long content) (error number seq word.Etoobig to) (tell number (reply.Ack seq) ∷ tell other (reply.Msg (id_of identities rooms number) to content) ∷ [])
      (told_error number seq word.Etoobig to)
      ((reply.Ack seq, refl, λ t c b. absurd b), ((reply.Msg (id_of identities rooms number) to content, refl, λ t c b. inr (subst (IsConnection identities) b.0 is)), tt))

  -- ---- whom a message is for

  abbrev IsRight : List ℕ → Target → Type 0
  IsRight to (target.Channel channel) = Unit {0}
  IsRight to target.Keeper = Unit {0}
  IsRight to (target.Connection other) = IsConnection identities to
  IsRight to target.Nobody = Unit {0}

  right_if : (to : List ℕ) (b : Bool) (one other : Target) → IsRight to one → IsRight to other → IsRight to (if b then one else other)
  right_if to true one other h k = h
  right_if to false one other h k = k

  right_named : (to : List ℕ) (connected : List Connection) → IsRight to (target_by (named identities connected to))
  right_named to [] = tt
  right_named to (connection ∷ connected) = by (bytes_eq (identities.connection connection.serial) to) refl (right_named to connected)
    where
      by : (b : Bool) → bytes_eq (identities.connection connection.serial) to ≡ b → IsRight to (target_by (named identities connected to))
          → IsRight to (target_by (if b then Some connection.number else named identities connected to))
      by true e rest = (connection.serial, (bytes_eq-Decides (identities.connection connection.serial) to).0 e)
      by false e rest = rest

  right_target : (rooms : Rooms) (number : ℕ) (to : List ℕ) → IsRight to (target_of identities rooms number to)
  right_target rooms number to =
      right_if to (has_joined rooms number to) (target.Channel to) (target_elsewhere identities rooms to) tt
      (right_if to (bytes_eq to identities.keeper) target.Keeper (target_by (named identities rooms.connected to)) tt (right_named to rooms.connected))

  -- ---- the answers that need no keeper

  abbrev pub Fine : Answer → Type 0
  Fine (made what) = AreTold F what.0
  Fine (stores number seq channel content) = Unit {0}
  Fine (asks number seq ask) = Unit {0}

  fine_if : (b : Bool) (one other : Answer) → Fine one → Fine other → Fine (if b then one else other)
  fine_if true one other h k = h
  fine_if false one other h k = k

  fine_ask : (rooms : Rooms) (number seq : ℕ) (to content : List ℕ) (answer : Answer) → HearsAsk rooms number seq to content (λ other. other ≡ answer) → Fine answer
  fine_ask rooms number seq to content answer (inl none) = subst (λ (a : Answer). Fine a) none.1 (told_error number seq word.Einval [])
  fine_ask rooms number seq to content answer (inr some) =
      subst (λ (a : Answer). Fine a) some.2 (fine_if (is_long content) (made (error number seq word.Etoobig to, rooms)) (asks number seq some.0) (told_error number seq word.Etoobig to) tt)

  fine_message : (rooms : Rooms) (number seq : ℕ) (to content : List ℕ) (whom : Target) (answer : Answer) → IsRight to whom → HearsMessage identities rooms number seq to content whom (λ other. other ≡ answer) → Fine answer
  fine_message rooms number seq to content (target.Channel channel) answer right h =
      subst (λ (a : Answer). Fine a) h (fine_if (is_long content) (made (error number seq word.Etoobig to, rooms)) (stores number seq channel content) (told_error number seq word.Etoobig to) tt)
  fine_message rooms number seq to content target.Keeper answer right h = fine_ask rooms number seq to content answer h
  fine_message rooms number seq to content (target.Connection other) answer right h = subst (λ (a : Answer). Fine a) h (told_delivered rooms number seq other to content right)
  fine_message rooms number seq to content target.Nobody answer right h = subst (λ (a : Answer). Fine a) h (told_error number seq word.Enoent to)

  fine_request : (rooms : Rooms) (number seq : ℕ) (asked_for : Body) (answer : Answer) → HearsRequest identities rooms number seq asked_for (λ other. other ≡ answer) → Fine answer
  fine_request rooms number seq (body.Join channel) answer h = subst (λ (a : Answer). Fine a) h (told_joined rooms number seq channel)
  fine_request rooms number seq (body.Leave channel reason) answer h = subst (λ (a : Answer). Fine a) h (told_left rooms number seq channel reason)
  fine_request rooms number seq (body.Msg to content) answer h = fine_message rooms number seq to content (target_of identities rooms number to) answer (right_target rooms number to) h
  fine_request rooms number seq body.Ping answer h = subst (λ (a : Answer). Fine a) h ((reply.Ack seq, refl, λ t c b. absurd b), tt)

  fine_text : (rooms : Rooms) (number : ℕ) (text : List ℕ) (answer : Answer) → Hears identities rooms number text (λ other. other ≡ answer) → Fine answer
  fine_text rooms number text answer (inl none) = subst (λ (a : Answer). Fine a) none.3 (told_error number none.1 word.Einval [])
  fine_text rooms number text answer (inr some) = fine_request rooms number some.0.seq some.0.body answer some.2

  pub fine_step : (rooms : Rooms) (what : Event) (answer : Answer) → Steps identities rooms what (λ other. other ≡ answer) → Fine answer
  fine_step rooms (event.Opened n) answer h = subst (λ (a : Answer). Fine a) h (told_if F (is_open rooms n) ([], rooms) (opened identities rooms n) tt (told_opened rooms n))
  fine_step rooms (event.Closed n) answer h = subst (λ (a : Answer). Fine a) h (told_if F (is_open rooms n) (closed identities rooms n) ([], rooms) (told_closed rooms n) tt)
  fine_step rooms (event.Text n text) answer h = by (is_open rooms n) h
    where
      by : (b : Bool) → MatchBool b (Hears identities rooms n text (λ other. other ≡ answer)) (made ([], rooms) ≡ answer) → Fine answer
      by false k = subst (λ (a : Answer). Fine a) k tt
      by true k = fine_text rooms n text answer k

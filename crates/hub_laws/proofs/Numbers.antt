-- What the rooms tell by themselves, with small numbers.
use Rattle.std.proofs.Common.{◌≡◌, inl, inr, ℕ, ◌+◌, ◌<◌, ◌^◌, arith, Bool, true, false, Some, List, [], ◌∷◌, ◌++◌, map, bytes_eq, nat_le, length, refl, subst, MatchBool, if◌then◌else◌, codes}
use Rattle.std.proofs.lemmas.Slice.Eq.{bytes_eq-Decides}
use Rattle.netflux_codec.specs.declared.body.Body.{Body}
use Rattle.netflux_codec.specs.declared.body.Body.TheVariants as body
use Rattle.netflux_codec.specs.declared.reply.Reply.{Reply}
use Rattle.netflux_codec.specs.declared.reply.Reply.TheVariants as reply
use Rattle.netflux_codec.specs.declared.who.Who.TheVariants as who
use Rattle.netflux_codec.specs.declared.word.Word.{Word}
use Rattle.netflux_codec.specs.declared.word.Word.TheVariants as word
use Rattle.netflux_core.specs.Channels.{Channels}
use Rattle.netflux_rooms.specs.declared.limits.TheConstants.{MOST_CHANNELS}
use Rattle.netflux_rooms.specs.declared.target.Target.{Target}
use Rattle.netflux_rooms.specs.declared.target.Target.TheVariants as target
use Rattle.netflux_rooms.specs.Rooms.{Identities, Rooms, Connection, but, has_joined, is_open, is_full, id_of, members_of, channels_of, named, tell, tell_each, error, opens, joins, leaves, goodbyes, welcome, opened, closed, joined, left}
use Rattle.netflux_rooms.specs.Machine.{Answer, made, stores, asks, is_long, delivered, target_by, target_elsewhere, target_of, HearsAsk, HearsMessage, HearsRequest, Hears, Steps}
use Rattle.serve_loop.specs.declared.event.Event.{Event}
use Rattle.serve_loop.specs.declared.event.Event.TheVariants as event
use Rattle.serve_loop.specs.declared.out.Out.{Out}
use Rattle.serve_loop.specs.declared.out.Out.TheVariants.{Send, HangUp}
use Rattle.hub_laws.specs.Told.{AreTold, IsFounded, IsConnection}
use Rattle.pad_text.specs.declared.name.Name.{Name}
use Rattle.netflux_codec.specs.Ask.{Asks}
use Rattle.netflux_codec.specs.declared.ask.Ask.{Ask}
use Rattle.netflux_codec.specs.declared.who.Who.{Who}
use Rattle.netflux_codec.specs.Request.{Requests}
use Rattle.hub_laws.specs.Small.{HasSmallNumbers, IsHistory, AsksHistories, IsRequestText, IsOfClient}
use Rattle.hub_laws.proofs.Telling.{told_append, told_each, told_if, told_outs_if}

module _ (identities : Identities) (channels : Channels) where
  abbrev pub J : Reply → Type 0
  J said = IsFounded identities channels said × HasSmallNumbers said

  -- replies that bring nothing
  says_error : (seq : ℕ) (why : Word) (about : List ℕ) → seq < 2 ^ 64 → J (reply.Error seq why about)
  says_error seq why about small = ((λ t c b. absurd b), (small, (tt, (tt, (tt, tt)))))

  pub says_ack : (seq : ℕ) → seq < 2 ^ 64 → J (reply.Ack seq)
  says_ack seq small = ((λ t c b. absurd b), (small, (tt, tt)))

  says_ident : (id : List ℕ) → J (reply.Ident id)
  says_ident id = ((λ t c b. absurd b), (omega arith, (tt, (tt, (tt, tt)))))

  says_joined : (seq : ℕ) (channel : List ℕ) → seq < 2 ^ 64 → J (reply.Joined seq channel)
  says_joined seq channel small = ((λ t c b. absurd b), (small, (tt, (tt, tt))))

  says_member : (of : Who) (channel : List ℕ) → J (reply.Member of channel)
  says_member of channel = ((λ t c b. absurd b), (omega arith, (tt, (tt, (tt, tt)))))

  says_gone : (id channel reason : List ℕ) → J (reply.Gone id channel reason)
  says_gone id channel reason = ((λ t c b. absurd b), (omega arith, (tt, (tt, (tt, (tt, tt))))))

  pub says_message : (id to content : List ℕ) → IsFounded identities channels (reply.Msg id to content) → J (reply.Msg id to content)
  says_message id to content is = (is, (omega arith, (tt, (tt, (tt, (tt, tt))))))

  pub says_end : (keeper channel : List ℕ) (total : ℕ) → total < 2 ^ 64 → J (reply.HistoryEnd keeper channel total)
  says_end keeper channel total small = ((λ t c b. absurd b), (omega arith, (tt, (tt, (tt, (small, tt))))))

  pub says_unknown : (keeper channel : List ℕ) (key : Name) → J (reply.HistoryUnknown keeper channel key)
  says_unknown keeper channel key = ((λ t c b. absurd b), (omega arith, (tt, (tt, (tt, (tt, tt))))))

  pub told_error : (number seq : ℕ) (why : Word) (about : List ℕ) → seq < 2 ^ 64 → AreTold J (error number seq why about)
  told_error number seq why about small = ((reply.Error seq why about, refl, says_error seq why about small), tt)

  told_opened : (rooms : Rooms) (number : ℕ) → AreTold J (opened identities rooms number).0
  told_opened rooms number = told_if J (is_full rooms) (tell number (reply.Error 0 word.Efull []) ∷ HangUp number ∷ [], rooms) (tell number (reply.Ident (identities.connection (rooms.taken + 1))) ∷ [], opens rooms number)
      ((reply.Error 0 word.Efull [], refl, says_error 0 word.Efull [] (omega arith)), tt) ((reply.Ident (identities.connection (rooms.taken + 1)), refl, says_ident (identities.connection (rooms.taken + 1))), tt)

  told_goodbyes : (members : List ℕ → List ℕ) (id : List ℕ) (number : ℕ) (joined_ones : List (List ℕ)) → AreTold J (goodbyes members id number joined_ones)
  told_goodbyes members id number [] = tt
  told_goodbyes members id number (channel ∷ joined_ones) =
      told_append J (tell_each (but number (members channel)) (reply.Gone id channel (codes "Quit"))) (goodbyes members id number joined_ones)
      (told_each J (λ n. n) (λ n. reply.Gone id channel (codes "Quit")) (λ n. says_gone id channel (codes "Quit")) (but number (members channel))) (told_goodbyes members id number joined_ones)

  told_closed : (rooms : Rooms) (number : ℕ) → AreTold J (closed identities rooms number).0
  told_closed rooms number = told_goodbyes (members_of rooms) (id_of identities rooms number) number (channels_of rooms number)

  told_welcome : (keeper : List ℕ) (id : ℕ → List ℕ) (members : List ℕ) (number seq : ℕ) (channel : List ℕ) → seq < 2 ^ 64 → AreTold J (welcome keeper id members number seq channel)
  told_welcome keeper id members number seq channel small =
      let all = told_append J (map (λ other. tell number (reply.Member (who.Member (id other)) channel)) members) (tell number (reply.Member (who.Member (id number)) channel) ∷ tell_each members (reply.Member (who.Member (id number)) channel))
      (told_each J (λ n. number) (λ other. reply.Member (who.Member (id other)) channel) (λ n. says_member (who.Member (id n)) channel) members)
      ((reply.Member (who.Member (id number)) channel, refl, says_member (who.Member (id number)) channel), told_each J (λ n. n) (λ n. reply.Member (who.Member (id number)) channel) (λ n. says_member (who.Member (id number)) channel) members) in
      ((reply.Joined seq channel, refl, says_joined seq channel small), ((reply.Member (who.Keeper keeper) channel, refl, says_member (who.Keeper keeper) channel), all))

  told_joined : (rooms : Rooms) (number seq : ℕ) (channel : List ℕ) → seq < 2 ^ 64 → AreTold J (joined identities rooms number seq channel).0
  told_joined rooms number seq channel small =
      let more : List Out × Rooms = (welcome identities.keeper (id_of identities rooms) (members_of rooms channel) number seq channel, joins rooms number channel) in
      told_if J (has_joined rooms number channel) (error number seq word.Ejoined channel, rooms)
      (if nat_le MOST_CHANNELS (length (channels_of rooms number)) then (error number seq word.Efull channel, rooms) else more)
      (told_error number seq word.Ejoined channel small)
      (told_if J (nat_le MOST_CHANNELS (length (channels_of rooms number))) (error number seq word.Efull channel, rooms) more (told_error number seq word.Efull channel small)
      (told_welcome identities.keeper (id_of identities rooms) (members_of rooms channel) number seq channel small))

  told_left : (rooms : Rooms) (number seq : ℕ) (channel reason : List ℕ) → seq < 2 ^ 64 → AreTold J (left identities rooms number seq channel reason).0
  told_left rooms number seq channel reason small =
      let gone = reply.Gone (id_of identities rooms number) channel reason in
      told_if J (has_joined rooms number channel) (tell number (reply.Ack seq) ∷ tell_each (but number (members_of rooms channel)) gone, leaves rooms number channel) (error number seq word.Enoent channel, rooms)
      ((reply.Ack seq, refl, says_ack seq small), told_each J (λ n. n) (λ n. gone) (λ n. says_gone (id_of identities rooms number) channel reason) (but number (members_of rooms channel)))
      (told_error number seq word.Enoent channel small)

  told_delivered : (rooms : Rooms) (number seq other : ℕ) (to content : List ℕ) → IsConnection identities to → seq < 2 ^ 64 → AreTold J (delivered identities rooms number seq other to content)
  told_delivered rooms number seq other to content is small =
      told_outs_if J (is_long content) (error number seq word.Etoobig to) (tell number (reply.Ack seq) ∷ tell other (reply.Msg (id_of identities rooms number) to content) ∷ [])
      (told_error number seq word.Etoobig to small)
      ((reply.Ack seq, refl, says_ack seq small), ((reply.Msg (id_of identities rooms number) to content, refl, says_message (id_of identities rooms number) to content (λ t c b. inr (subst (IsConnection identities) b.0 is))), tt))

  -- ---- whom a message is for

  abbrev IsRight : List ℕ → Target → Type 0
  IsRight to (target.Channel channel) = Unit {0}
  IsRight to target.Keeper = Unit {0}
  IsRight to (target.Connection other) = IsConnection identities to
  IsRight to target.Nobody = Unit {0}

  right_if : (to : List ℕ) (b : Bool) (one other : Target) → IsRight to one → IsRight to other → IsRight to (if b then one else other)
  right_if to true one other h k = h
  right_if to false one other h k = k

  right_named : (to : List ℕ) (connected : List Connection) → IsRight to (target_by (named identities connected to))
  right_named to [] = tt
  right_named to (connection ∷ connected) = by (bytes_eq (identities.connection connection.serial) to) refl (right_named to connected)
    where
      by : (b : Bool) → bytes_eq (identities.connection connection.serial) to ≡ b → IsRight to (target_by (named identities connected to))
          → IsRight to (target_by (if b then Some connection.number else named identities connected to))
      by true e rest = (connection.serial, (bytes_eq-Decides (identities.connection connection.serial) to).0 e)
      by false e rest = rest

  right_target : (rooms : Rooms) (number : ℕ) (to : List ℕ) → IsRight to (target_of identities rooms number to)
  right_target rooms number to =
      right_if to (has_joined rooms number to) (target.Channel to) (target_elsewhere identities rooms to) tt
      (right_if to (bytes_eq to identities.keeper) target.Keeper (target_by (named identities rooms.connected to)) tt (right_named to rooms.connected))

  -- ---- the answers that need no keeper

  abbrev pub Fine : Answer → Type 0
  Fine (made what) = AreTold J what.0
  Fine (stores number seq channel content) = seq < 2 ^ 64
  Fine (asks number seq ask) = (seq < 2 ^ 64) × IsHistory ask

  fine_if : (b : Bool) (one other : Answer) → Fine one → Fine other → Fine (if b then one else other)
  fine_if true one other h k = h
  fine_if false one other h k = k

  fine_ask : (rooms : Rooms) (number seq : ℕ) (to content : List ℕ) (answer : Answer) → seq < 2 ^ 64 → ((ask : Ask) → Asks content ask → IsHistory ask) → HearsAsk rooms number seq to content (λ other. other ≡ answer) → Fine answer
  fine_ask rooms number seq to content answer small right (inl none) = subst (λ (a : Answer). Fine a) none.1 (told_error number seq word.Einval [] small)
  fine_ask rooms number seq to content answer small right (inr some) =
      subst (λ (a : Answer). Fine a) some.2 (fine_if (is_long content) (made (error number seq word.Etoobig to, rooms)) (asks number seq some.0) (told_error number seq word.Etoobig to small) (small, right some.0 some.1))

  fine_message : (rooms : Rooms) (number seq : ℕ) (to content : List ℕ) (whom : Target) (answer : Answer) → IsRight to whom → seq < 2 ^ 64 → ((ask : Ask) → Asks content ask → IsHistory ask) → HearsMessage identities rooms number seq to content whom (λ other. other ≡ answer) → Fine answer
  fine_message rooms number seq to content (target.Channel channel) answer right small history h =
      subst (λ (a : Answer). Fine a) h (fine_if (is_long content) (made (error number seq word.Etoobig to, rooms)) (stores number seq channel content) (told_error number seq word.Etoobig to small) small)
  fine_message rooms number seq to content target.Keeper answer right small history h = fine_ask rooms number seq to content answer small history h
  fine_message rooms number seq to content (target.Connection other) answer right small history h = subst (λ (a : Answer). Fine a) h (told_delivered rooms number seq other to content right small)
  fine_message rooms number seq to content target.Nobody answer right small history h = subst (λ (a : Answer). Fine a) h (told_error number seq word.Enoent to small)

  fine_request : (rooms : Rooms) (number seq : ℕ) (asked_for : Body) (answer : Answer) → seq < 2 ^ 64 → AsksHistories asked_for → HearsRequest identities rooms number seq asked_for (λ other. other ≡ answer) → Fine answer
  fine_request rooms number seq (body.Join channel) answer small right h = subst (λ (a : Answer). Fine a) h (told_joined rooms number seq channel small)
  fine_request rooms number seq (body.Leave channel reason) answer small right h = subst (λ (a : Answer). Fine a) h (told_left rooms number seq channel reason small)
  fine_request rooms number seq (body.Msg to content) answer small right h = fine_message rooms number seq to content (target_of identities rooms number to) answer (right_target rooms number to) small right h
  fine_request rooms number seq body.Ping answer small right h = subst (λ (a : Answer). Fine a) h ((reply.Ack seq, refl, says_ack seq small), tt)

  fine_text : (rooms : Rooms) (number : ℕ) (text : List ℕ) (answer : Answer) → IsRequestText text → Hears identities rooms number text (λ other. other ≡ answer) → Fine answer
  fine_text rooms number text answer is (inl none) = absurd (none.0 is.0 is.1)
  fine_text rooms number text answer is (inr some) = fine_request rooms number some.0.seq some.0.body answer (omega (arith, some.1.typed.seq)) (is.2 some.0 some.1) some.2

  pub fine_step : (rooms : Rooms) (what : Event) (answer : Answer) → IsOfClient what → Steps identities rooms what (λ other. other ≡ answer) → Fine answer
  fine_step rooms (event.Opened n) answer is h = subst (λ (a : Answer). Fine a) h (told_if J (is_open rooms n) ([], rooms) (opened identities rooms n) tt (told_opened rooms n))
  fine_step rooms (event.Closed n) answer is h = subst (λ (a : Answer). Fine a) h (told_if J (is_open rooms n) (closed identities rooms n) ([], rooms) (told_closed rooms n) tt)
  fine_step rooms (event.Text n text) answer is h = by (is_open rooms n) h
    where
      by : (b : Bool) → MatchBool b (Hears identities rooms n text (λ other. other ≡ answer)) (made ([], rooms) ≡ answer) → Fine answer
      by false k = subst (λ (a : Answer). Fine a) k tt
      by true k = fine_text rooms n text answer is k

-- A step of a hub in which each member of a channel is connected can be served.
use Rattle.std.proofs.Common.{◌≡◌, ℕ, ◌+◌, Bool, true, false, not, ◌&&◌, ◌||◌, inl, inr, List, [], ◌∷◌, ◌++◌, map, filter, length, refl, sym, ap, subst, ◌∙◌, nat_eq, nat_le, bytes_eq, codes, if◌then◌else◌, MatchBool}
use Rattle.std.specs.List.{list_any}
use Rattle.std.proofs.lemmas.Bool.{eqb-true, eq-eqb, true≢false}
use Rattle.std.proofs.lemmas.List.{map-append}
use Rattle.netflux_codec.specs.declared.ask.Ask.{Ask}
use Rattle.netflux_codec.specs.declared.body.Body.{Body}
use Rattle.netflux_codec.specs.declared.body.Body.TheVariants as body
use Rattle.netflux_codec.specs.declared.reply.Reply.{Reply}
use Rattle.netflux_codec.specs.declared.reply.Reply.TheVariants as reply
use Rattle.netflux_codec.specs.declared.word.Word.TheVariants as word
use Rattle.serve_loop.specs.Connected.{is_among, GoesTo, without}
use Rattle.serve_loop.specs.Hangs.{HangsBehind}
use Rattle.serve_loop.specs.declared.event.Event.{Event}
use Rattle.serve_loop.specs.declared.event.Event.TheVariants as event
use Rattle.serve_loop.specs.declared.out.Out.{Out}
use Rattle.serve_loop.specs.declared.out.Out.TheVariants.{Send, HangUp}
use Rattle.netflux_rooms.specs.declared.heard.Heard.{Heard}
use Rattle.netflux_rooms.specs.declared.heard.Heard.TheVariants as heard
use Rattle.netflux_rooms.specs.declared.limits.TheConstants.{MOST_CHANNELS}
use Rattle.netflux_rooms.specs.declared.room_hub.RoomHub.{RoomHub}
use Rattle.netflux_rooms.specs.declared.seats.Seat.{Seat}
use Rattle.netflux_rooms.specs.declared.target.Target.{Target}
use Rattle.netflux_rooms.specs.declared.target.Target.TheVariants as target
use Rattle.netflux_rooms.specs.Rooms.{Identities, Connection, Rooms, but, channels_of, members_of, id_of, tell, tell_each, error, is_open, has_joined, is_full, member, welcome, goodbyes, opened, closed, joined, left, joins, leaves, opens}
use Rattle.netflux_rooms.specs.Machine.{Answer, made, stores, asks, Gives, HearsAsk, HearsMessage, HearsRequest, Hears, Steps, is_long, stored, asked, delivered, target_of}
use Rattle.netflux_rooms.specs.Tables.{IsRooms, Done, AreSeats}
use Rattle.netflux_rooms.specs.Whole.{numbers_of, connections_of, AreConnected, outs_of, CanServe}
use Rattle.netflux_rooms.proofs.Connections.{apart}
use Rattle.netflux_rooms.proofs.Joins.{same_number, other_number, members_in, closed_in}
use Rattle.netflux_rooms.proofs.Texts.{AreTexts, texts_hang, texts_append, texts_map}
use Rattle.netflux_rooms.proofs.Ties.{opened_full, opened_taken, joined_before, joined_many, joined_now, left_absent, left_now}
use Rattle.netflux_rooms.proofs.Deliveries.{stored_long, stored_short, asked_long, asked_short}

-- numbers among others
turned : (n m : ℕ) → nat_eq n m ≡ nat_eq m n
turned n m = by (nat_eq n m) refl
  where
    by : (b : Bool) → nat_eq n m ≡ b → nat_eq n m ≡ nat_eq m n
    by true e = e ∙ sym (subst (λ x. nat_eq x n ≡ true) (eqb-true n m e) (same_number n))
    by false e = e ∙ sym (other_number n m e)

among_more : (numbers : List ℕ) (x n : ℕ) → is_among numbers n ≡ true → is_among (numbers ++ x ∷ []) n ≡ true
among_more [] x n h = absurd (true≢false (sym h))
among_more (y ∷ numbers) x n h = by (nat_eq y n) h (among_more numbers x n)
  where
    by : (b : Bool) → (b || is_among numbers n) ≡ true → (is_among numbers n ≡ true → is_among (numbers ++ x ∷ []) n ≡ true) → (b || is_among (numbers ++ x ∷ []) n) ≡ true
    by true h again = refl
    by false h again = again h

among_without : (k n : ℕ) (numbers : List ℕ) → nat_eq k n ≡ false → is_among numbers n ≡ true → is_among (without k numbers) n ≡ true
among_without k n [] e h = absurd (true≢false (sym h))
among_without k n (y ∷ numbers) e h = by (nat_eq k y) (nat_eq y n) refl refl (among_without k n numbers e)
  where
    by : (a b : Bool) → nat_eq k y ≡ a → nat_eq y n ≡ b → (is_among numbers n ≡ true → is_among (without k numbers) n ≡ true) → is_among (without k (y ∷ numbers)) n ≡ true
    by true true f g again = absurd (true≢false (sym (eq-eqb k n (eqb-true k y f ∙ eqb-true y n g)) ∙ e))
    by true false f g again = rw f (again (rw g at h))
    by false true f g again = simp (f, g)
    by false false f g again = simp (f, g) (again (rw g at h))

without_absent : (n : ℕ) (numbers : List ℕ) → is_among numbers n ≡ false → without n numbers ≡ numbers
without_absent n [] h = refl
without_absent n (y ∷ numbers) h = by (nat_eq n y) refl (without_absent n numbers)
  where
    by : (b : Bool) → nat_eq n y ≡ b → (is_among numbers n ≡ false → without n numbers ≡ numbers) → without n (y ∷ numbers) ≡ y ∷ numbers
    by true e again = let turn : nat_eq y n ≡ true = sym (turned n y) ∙ e in absurd (true≢false (rw turn at h))
    by false e again = let turn : nat_eq y n ≡ false = sym (turned n y) ∙ e in rw e (ap (λ l. y ∷ l) (again (rw turn at h)))

-- the numbers of connections

open_among : (n : ℕ) (connected : List Connection) → list_any (λ (connection : Connection). nat_eq n connection.number) connected ≡ is_among (map (λ (connection : Connection). connection.number) connected) n
open_among n [] = refl
open_among n (c ∷ connected) = λ i. turned n c.number i || open_among n connected i

numbers_without : (n : ℕ) (connected : List Connection) → map (λ (connection : Connection). connection.number) (apart n connected) ≡ without n (map (λ (connection : Connection). connection.number) connected)
numbers_without n [] = refl
numbers_without n (c ∷ connected) = by (nat_eq n c.number) refl (numbers_without n connected)
  where
    by : (b : Bool) → nat_eq n c.number ≡ b
        → map (λ (connection : Connection). connection.number) (apart n connected) ≡ without n (map (λ (connection : Connection). connection.number) connected)
        → map (λ (connection : Connection). connection.number) (apart n (c ∷ connected)) ≡ without n (map (λ (connection : Connection). connection.number) (c ∷ connected))
    by true e again = rw e again
    by false e again = rw e (ap (λ l. c.number ∷ l) again)

seat_numbers : (identities : Identities) (seats : List (ℕ × Seat)) (connected : List Connection) → AreSeats identities seats connected
    → map (λ (entry : ℕ × Seat). entry.0) seats ≡ map (λ (connection : Connection). connection.number) connected
seat_numbers identities [] [] h = refl
seat_numbers identities [] (c ∷ connected) h = absurd h
seat_numbers identities (s ∷ seats) [] h = absurd h
seat_numbers identities (s ∷ seats) (c ∷ connected) h = λ i. h.0 i ∷ seat_numbers identities seats connected h.3 i

-- the joins after a step are of open connections
connected_more : (numbers : List ℕ) (x : ℕ) (joins : List (ℕ × List ℕ)) → AreConnected numbers joins → AreConnected (numbers ++ x ∷ []) joins
connected_more numbers x [] h = tt
connected_more numbers x (j ∷ joins) h = (among_more numbers x j.0 h.0, connected_more numbers x joins h.1)

connected_push : (numbers : List ℕ) (joins : List (ℕ × List ℕ)) (n : ℕ) (c : List ℕ) → is_among numbers n ≡ true → AreConnected numbers joins → AreConnected numbers (joins ++ (n, c) ∷ [])
connected_push numbers [] n c is h = (is, tt)
connected_push numbers (j ∷ joins) n c is h = (h.0, connected_push numbers joins n c is h.1)

connected_left : (numbers : List ℕ) (p : ℕ × List ℕ → Bool) (joins : List (ℕ × List ℕ)) → AreConnected numbers joins → AreConnected numbers (filter p joins)
connected_left numbers p [] h = tt
connected_left numbers p (j ∷ joins) h = by (p j) refl (connected_left numbers p joins h.1)
  where
    by : (b : Bool) → p j ≡ b → AreConnected numbers (filter p joins) → AreConnected numbers (filter p (j ∷ joins))
    by true e again = rw e (h.0, again)
    by false e again = rw e again

connected_closed : (numbers : List ℕ) (n : ℕ) (joins : List (ℕ × List ℕ)) → AreConnected numbers joins → AreConnected (without n numbers) (closed_in n joins)
connected_closed numbers n [] h = tt
connected_closed numbers n (j ∷ joins) h = by (nat_eq n j.0) refl (connected_closed numbers n joins h.1)
  where
    by : (b : Bool) → nat_eq n j.0 ≡ b → AreConnected (without n numbers) (closed_in n joins) → AreConnected (without n numbers) (closed_in n (j ∷ joins))
    by true e again = rw e again
    by false e again = rw e (among_without n j.0 numbers e h.0, again)

-- the others of a channel are open after a closing
abbrev AreAmong : List ℕ → List ℕ → Type 0
AreAmong numbers [] = Unit {0}
AreAmong numbers (n ∷ some) = (is_among numbers n ≡ true) × AreAmong numbers some

others_among : (numbers : List ℕ) (n : ℕ) (c : List ℕ) (joins : List (ℕ × List ℕ)) → AreConnected numbers joins → AreAmong (without n numbers) (but n (members_in joins c))
others_among numbers n c [] h = tt
others_among numbers n c (j ∷ joins) h = by (bytes_eq c j.1) (nat_eq n j.0) refl refl (others_among numbers n c joins h.1)
  where
    by : (a b : Bool) → bytes_eq c j.1 ≡ a → nat_eq n j.0 ≡ b → AreAmong (without n numbers) (but n (members_in joins c)) → AreAmong (without n numbers) (but n (members_in (j ∷ joins) c))
    by true true e f again = simp (e, f) again
    by true false e f again = simp (e, f) (among_without n j.0 numbers f h.0, again)
    by false b e f again = simp e again

goes_append : (numbers : List ℕ) (first later : List Out) → GoesTo numbers first → GoesTo numbers later → GoesTo numbers (first ++ later)
goes_append numbers [] later h k = k
goes_append numbers (Send n text ∷ first) later h k = (h.0, goes_append numbers first later h.1 k)
goes_append numbers (HangUp n ∷ first) later h k = goes_append numbers first later h k

goes_each : (numbers some : List ℕ) (said : Reply) → AreAmong numbers some → GoesTo numbers (tell_each some said)
goes_each numbers [] said h = tt
goes_each numbers (n ∷ some) said h = (h.0, goes_each numbers some said h.1)

goodbyes_go : (numbers : List ℕ) (n : ℕ) (joins : List (ℕ × List ℕ)) (id : List ℕ) → AreConnected numbers joins → (channels : List (List ℕ)) → GoesTo (without n numbers) (goodbyes (members_in joins) id n channels)
goodbyes_go numbers n joins id h [] = tt
goodbyes_go numbers n joins id h (c ∷ channels) =
    goes_append (without n numbers) (tell_each (but n (members_in joins c)) (reply.Gone id c (codes "Quit"))) (goodbyes (members_in joins) id n channels)
    (goes_each (without n numbers) (but n (members_in joins c)) (reply.Gone id c (codes "Quit")) (others_among numbers n c joins h)) (goodbyes_go numbers n joins id h channels)

-- what a step says
goodbyes_texts : (members : List ℕ → List ℕ) (id : List ℕ) (n : ℕ) (channels : List (List ℕ)) → AreTexts (goodbyes members id n channels)
goodbyes_texts members id n [] = tt
goodbyes_texts members id n (c ∷ channels) = texts_append (tell_each (but n (members c)) (reply.Gone id c (codes "Quit"))) (goodbyes members id n channels)
    (texts_map (λ m. m) (λ m. reply.Gone id c (codes "Quit")) (but n (members c))) (goodbyes_texts members id n channels)

welcome_texts : (keeper : List ℕ) (id : ℕ → List ℕ) (members : List ℕ) (n seq : ℕ) (c : List ℕ) → AreTexts (welcome keeper id members n seq c)
welcome_texts keeper id members n seq c = texts_append (map (λ other. tell n (member id c other)) members) (tell n (member id c n) ∷ tell_each members (member id c n))
    (texts_map (λ m. n) (λ m. member id c m) members) (texts_map (λ m. m) (λ m. member id c n) members)

module _ (identities : Identities) (old : RoomHub) (rooms : Rooms) (tie : IsRooms identities old rooms) (members : AreConnected (numbers_of rooms) rooms.joined) where
  numbers_are : connections_of old ≡ numbers_of rooms
  numbers_are = seat_numbers identities old.seats.table.entries rooms.connected tie.seats

  -- texts that a text gives
  said : (n : ℕ) (text : List ℕ) (what : List Out × Rooms) (heard_is : Heard) (hub : RoomHub) → AreTexts what.0 → AreConnected (numbers_of what.1) what.1.joined
      → Gives identities rooms heard_is hub (made what) → CanServe (event.Text n text) old hub (outs_of heard_is)
  said n text what (heard.Done outs) hub texts all given = record {
    whole = record { identities = identities; rooms = what.1; has = given.1; members = all };
    hangs = subst (λ o. HangsBehind o) (sym given.0) (texts_hang [] what.0 texts);
    closes = tt;
  }
  said n text what (heard.Store m seq channel content) hub texts all given = absurd given
  said n text what (heard.Ask m seq ask) hub texts all given = absurd given

  kept : (n : ℕ) (text : List ℕ) (seq : ℕ) (channel content : List ℕ) (heard_is : Heard) (hub : RoomHub) → Gives identities rooms heard_is hub (stores n seq channel content)
      → CanServe (event.Text n text) old hub (outs_of heard_is)
  kept n text seq channel content (heard.Done outs) hub given = absurd given
  kept n text seq channel content (heard.Store m s c t) hub given = record { whole = record { identities = identities; rooms = rooms; has = given.4; members = members }; hangs = tt; closes = tt }
  kept n text seq channel content (heard.Ask m s ask) hub given = absurd given

  put : (n : ℕ) (text : List ℕ) (seq : ℕ) (ask : Ask) (heard_is : Heard) (hub : RoomHub) → Gives identities rooms heard_is hub (asks n seq ask) → CanServe (event.Text n text) old hub (outs_of heard_is)
  put n text seq ask (heard.Done outs) hub given = absurd given
  put n text seq ask (heard.Store m s c t) hub given = absurd given
  put n text seq ask (heard.Ask m s a) hub given = record { whole = record { identities = identities; rooms = rooms; has = given.3; members = members }; hangs = tt; closes = tt }

  module _ (n : ℕ) (text : List ℕ) (heard_is : Heard) (hub : RoomHub) where
    -- an answer that is another
    by_answer : (answer other : Answer) → answer ≡ other → Gives identities rooms heard_is hub answer → Gives identities rooms heard_is hub other
    by_answer answer other e h = subst (λ a. Gives identities rooms heard_is hub a) e h

    served_join : (seq : ℕ) (c : List ℕ) → is_open rooms n ≡ true → Gives identities rooms heard_is hub (made (joined identities rooms n seq c)) → CanServe (event.Text n text) old hub (outs_of heard_is)
    served_join seq c is given = by (has_joined rooms n c) (nat_le MOST_CHANNELS (length (channels_of rooms n))) refl refl
      where
        by : (a b : Bool) → has_joined rooms n c ≡ a → nat_le MOST_CHANNELS (length (channels_of rooms n)) ≡ b → CanServe (event.Text n text) old hub (outs_of heard_is)
        by true b e f = said n text (error n seq word.Ejoined c, rooms) heard_is hub tt members (by_answer _ _ (ap (λ w. made w) (joined_before identities rooms n seq c e)) given)
        by false true e f = said n text (error n seq word.Efull c, rooms) heard_is hub tt members (by_answer _ _ (ap (λ w. made w) (joined_many identities rooms n seq c e f)) given)
        by false false e f = said n text (welcome identities.keeper (id_of identities rooms) (members_of rooms c) n seq c, joins rooms n c) heard_is hub
            (welcome_texts identities.keeper (id_of identities rooms) (members_of rooms c) n seq c)
            (connected_push (numbers_of rooms) rooms.joined n c (sym (open_among n rooms.connected) ∙ is) members)
            (by_answer _ _ (ap (λ w. made w) (joined_now identities rooms n seq c e f)) given)

    served_leave : (seq : ℕ) (c reason : List ℕ) → Gives identities rooms heard_is hub (made (left identities rooms n seq c reason)) → CanServe (event.Text n text) old hub (outs_of heard_is)
    served_leave seq c reason given = by (has_joined rooms n c) refl
      where
        by : (a : Bool) → has_joined rooms n c ≡ a → CanServe (event.Text n text) old hub (outs_of heard_is)
        by false e = said n text (error n seq word.Enoent c, rooms) heard_is hub tt members (by_answer _ _ (ap (λ w. made w) (left_absent identities rooms n seq c reason e)) given)
        by true e = said n text (tell n (reply.Ack seq) ∷ tell_each (but n (members_of rooms c)) (reply.Gone (id_of identities rooms n) c reason), leaves rooms n c) heard_is hub
            (texts_map (λ m. m) (λ m. reply.Gone (id_of identities rooms n) c reason) (but n (members_of rooms c)))
            (connected_left (numbers_of rooms) (λ (join : ℕ × List ℕ). not (nat_eq n join.0 && bytes_eq c join.1)) rooms.joined members)
            (by_answer _ _ (ap (λ w. made w) (left_now identities rooms n seq c reason e)) given)

    served_store : (seq : ℕ) (c to content : List ℕ) → Gives identities rooms heard_is hub (stored rooms n seq c to content) → CanServe (event.Text n text) old hub (outs_of heard_is)
    served_store seq c to content given = by (is_long content) refl
      where
        by : (a : Bool) → is_long content ≡ a → CanServe (event.Text n text) old hub (outs_of heard_is)
        by true e = said n text (error n seq word.Etoobig to, rooms) heard_is hub tt members (by_answer _ _ (stored_long rooms n seq c to content e) given)
        by false e = kept n text seq c content heard_is hub (by_answer _ _ (stored_short rooms n seq c to content e) given)

    served_asked : (seq : ℕ) (to content : List ℕ) (ask : Ask) → Gives identities rooms heard_is hub (asked rooms n seq to content ask) → CanServe (event.Text n text) old hub (outs_of heard_is)
    served_asked seq to content ask given = by (is_long content) refl
      where
        by : (a : Bool) → is_long content ≡ a → CanServe (event.Text n text) old hub (outs_of heard_is)
        by true e = said n text (error n seq word.Etoobig to, rooms) heard_is hub tt members (by_answer _ _ (asked_long rooms n seq to content ask e) given)
        by false e = put n text seq ask heard_is hub (by_answer _ _ (asked_short rooms n seq to content ask e) given)

    served_ask : (seq : ℕ) (to content : List ℕ) → HearsAsk rooms n seq to content (Gives identities rooms heard_is hub) → CanServe (event.Text n text) old hub (outs_of heard_is)
    served_ask seq to content (inl none) = said n text (error n seq word.Einval [], rooms) heard_is hub tt members none.1
    served_ask seq to content (inr some) = served_asked seq to content some.0 some.2

    served_delivery : (seq other : ℕ) (to content : List ℕ) → Gives identities rooms heard_is hub (made (delivered identities rooms n seq other to content, rooms))
        → CanServe (event.Text n text) old hub (outs_of heard_is)
    served_delivery seq other to content given = said n text (delivered identities rooms n seq other to content, rooms) heard_is hub (by (is_long content) refl) members given
      where
        by : (a : Bool) → is_long content ≡ a → AreTexts (delivered identities rooms n seq other to content)
        by true e = rw e tt
        by false e = rw e tt

    served_message : (seq : ℕ) (to content : List ℕ) (whom : Target) → HearsMessage identities rooms n seq to content whom (Gives identities rooms heard_is hub) → CanServe (event.Text n text) old hub (outs_of heard_is)
    served_message seq to content (target.Channel c) given = served_store seq c to content given
    served_message seq to content target.Keeper given = served_ask seq to content given
    served_message seq to content (target.Connection other) given = served_delivery seq other to content given
    served_message seq to content target.Nobody given = said n text (error n seq word.Enoent to, rooms) heard_is hub tt members given

    served_request : (seq : ℕ) (asked_is : Body) → is_open rooms n ≡ true → HearsRequest identities rooms n seq asked_is (Gives identities rooms heard_is hub) → CanServe (event.Text n text) old hub (outs_of heard_is)
    served_request seq (body.Join c) is given = served_join seq c is given
    served_request seq (body.Leave c reason) is given = served_leave seq c reason given
    served_request seq (body.Msg to content) is given = served_message seq to content (target_of identities rooms n to) given
    served_request seq body.Ping is given = said n text (tell n (reply.Ack seq) ∷ [], rooms) heard_is hub tt members given

    served_text : is_open rooms n ≡ true → Hears identities rooms n text (Gives identities rooms heard_is hub) → CanServe (event.Text n text) old hub (outs_of heard_is)
    served_text is (inl none) = said n text (error n none.1 word.Einval [], rooms) heard_is hub tt members none.3
    served_text is (inr some) = served_request some.0.seq some.0.body is some.2

  served_opened : (n : ℕ) (heard_is : Heard) (hub : RoomHub) → Gives identities rooms heard_is hub (made (if is_open rooms n then ([], rooms) else opened identities rooms n))
      → CanServe (event.Opened n) old hub (outs_of heard_is)
  served_opened n (heard.Store m s c t) hub given = absurd given
  served_opened n (heard.Ask m s a) hub given = absurd given
  served_opened n (heard.Done outs) hub given = by (is_open rooms n) (is_full rooms) refl refl
    where
      done : (what : List Out × Rooms) → (if is_open rooms n then ([], rooms) else opened identities rooms n) ≡ what → HangsBehind what.0 → AreConnected (numbers_of what.1) what.1.joined
          → CanServe (event.Opened n) old hub outs.items
      done what e hangs all =
          let found : Done identities what outs.items hub = subst (λ w. Done identities w outs.items hub) e given in
          record {
            whole = record { identities = identities; rooms = what.1; has = found.1; members = all };
            hangs = subst (λ o. HangsBehind o) (sym found.0) hangs;
            closes = tt;
          }

      by : (a b : Bool) → is_open rooms n ≡ a → is_full rooms ≡ b → CanServe (event.Opened n) old hub outs.items
      by true b e f = done ([], rooms) (rw e refl) tt members
      by false true e f = done (tell n (reply.Error 0 word.Efull []) ∷ HangUp n ∷ [], rooms) (rw e (opened_full identities rooms n f)) (refl, tt) members
      by false false e f = done (tell n (reply.Ident (identities.connection (rooms.taken + 1))) ∷ [], opens rooms n) (rw e (opened_taken identities rooms n f)) tt
          (subst (λ l. AreConnected l rooms.joined) (sym (map-append (λ (connection : Connection). connection.number) rooms.connected (record { number = n; serial = rooms.taken + 1 } ∷ [])))
          (connected_more (numbers_of rooms) n rooms.joined members))

  served_closed : (n : ℕ) (heard_is : Heard) (hub : RoomHub) → Gives identities rooms heard_is hub (made (if is_open rooms n then closed identities rooms n else ([], rooms)))
      → CanServe (event.Closed n) old hub (outs_of heard_is)
  served_closed n (heard.Store m s c t) hub given = absurd given
  served_closed n (heard.Ask m s a) hub given = absurd given
  served_closed n (heard.Done outs) hub given = by (is_open rooms n) refl
    where
      done : (what : List Out × Rooms) → (if is_open rooms n then closed identities rooms n else ([], rooms)) ≡ what → AreTexts what.0 → AreConnected (numbers_of what.1) what.1.joined
          → numbers_of what.1 ≡ without n (numbers_of rooms) → GoesTo (without n (numbers_of rooms)) what.0 → CanServe (event.Closed n) old hub outs.items
      done what e texts all left goes =
          let found : Done identities what outs.items hub = subst (λ w. Done identities w outs.items hub) e given in
          let now : connections_of hub ≡ without n (numbers_of rooms) = seat_numbers identities hub.seats.table.entries what.1.connected found.1.seats ∙ left in
          record {
            whole = record { identities = identities; rooms = what.1; has = found.1; members = all };
            hangs = subst (λ o. HangsBehind o) (sym found.0) (texts_hang [] what.0 texts);
            closes = (now ∙ ap (λ l. without n l) (sym numbers_are), subst (λ l. GoesTo l outs.items) (sym now) (subst (λ o. GoesTo (without n (numbers_of rooms)) o) (sym found.0) goes));
          }

      by : (a : Bool) → is_open rooms n ≡ a → CanServe (event.Closed n) old hub outs.items
      by true e = done (closed identities rooms n) (rw e refl) (goodbyes_texts (members_of rooms) (id_of identities rooms n) n (channels_of rooms n))
          (subst (λ l. AreConnected l (closed_in n rooms.joined)) (sym (numbers_without n rooms.connected)) (connected_closed (numbers_of rooms) n rooms.joined members))
          (numbers_without n rooms.connected)
          (goodbyes_go (numbers_of rooms) n rooms.joined (id_of identities rooms n) members (channels_of rooms n))
      by false e = done ([], rooms) (rw e refl) tt members (sym (without_absent n (numbers_of rooms) (sym (open_among n rooms.connected) ∙ e))) tt

  pub served_step : (what : Event) (heard_is : Heard) (hub : RoomHub) → Steps identities rooms what (Gives identities rooms heard_is hub) → CanServe what old hub (outs_of heard_is)
  served_step (event.Opened n) heard_is hub steps = served_opened n heard_is hub steps
  served_step (event.Closed n) heard_is hub steps = served_closed n heard_is hub steps
  served_step (event.Text n text) heard_is hub steps = by (is_open rooms n) refl steps
    where
      by : (a : Bool) → is_open rooms n ≡ a → MatchBool a (Hears identities rooms n text (Gives identities rooms heard_is hub)) (Gives identities rooms heard_is hub (made ([], rooms))) → CanServe (event.Text n text) old hub (outs_of heard_is)
      by true e h = served_text n text heard_is hub e h
      by false e h = said n text ([], rooms) heard_is hub tt members h

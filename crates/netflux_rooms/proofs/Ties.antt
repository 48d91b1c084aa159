-- What the tables say of the rooms, and that each step keeps it so.
use Rattle.std.proofs.Common.{◌≡◌, ℕ, arith, ◌<◌, ◌+◌, ◌-◌, ◌^◌, Bool, true, false, not, ◌&&◌, ◌||◌, List, [], ◌∷◌, ◌++◌, filter, length, refl, sym, ap, subst, ◌∙◌, nat_eq, nat_le, bytes_eq, Some, None}
use Rattle.std.specs.List.{list_any}
use Rattle.std.specs.Map.{lookup}
use Rattle.std.specs.Option.{is_some, option_map_or}
use Rattle.std.proofs.lemmas.Bool.{true≢false, leb-false}
use Rattle.netflux_codec.specs.declared.reply.Reply.TheVariants as reply
use Rattle.netflux_codec.specs.declared.word.Word.TheVariants as word
use Rattle.serve_loop.specs.declared.out.Out.{Out}
use Rattle.serve_loop.specs.declared.out.Out.TheVariants.{HangUp}
use Rattle.netflux_rooms.specs.declared.room_hub.RoomHub.{RoomHub}
use Rattle.netflux_rooms.specs.declared.seats.Seat.{Seat}
use Rattle.netflux_rooms.specs.declared.seats.Seats.{Seats}
use Rattle.netflux_rooms.specs.declared.channel_table.ChannelTable.{ChannelTable}
use Rattle.netflux_rooms.specs.declared.room_table.RoomTable.{RoomTable}
use Rattle.netflux_rooms.specs.Rooms.{Identities, Rooms, Connection, but, has_joined, is_open, is_full, channels_of, members_of, id_of, tell, tell_each, error, welcome, opened, joined, left, opens, joins, leaves, closes}
use Rattle.netflux_rooms.specs.Identity.{identity}
use Rattle.netflux_rooms.specs.declared.limits.TheConstants.{MOST_CHANNELS, MOST_CONNECTIONS}
use Rattle.netflux_rooms.specs.Tables.{IsRooms, Done, names_at, AreSeats, AreChannels, members_at, channels_at}
use Rattle.pad_text.specs.Digits.{IsDigits}
use Rattle.netflux_rooms.specs.Inside.Seats.{id_at, without}
use Rattle.netflux_rooms.proofs.Joins.{bytes_one, apart_from, joined_member, join_channels, join_others, join_members, join_rooms, leave_channels, leave_others, leave_members, leave_rooms, close_channels, close_others, close_members}
use Rattle.netflux_rooms.proofs.Keyed.{by_number, by_channel}
use Rattle.netflux_rooms.proofs.Named.{named_fresh, new_identity, below_push, below_apart, apart_push, apart_apart, names_opened, names_closed}
use Rattle.netflux_rooms.specs.declared.names.Names.{Names}
use Rattle.netflux_rooms.proofs.Connections.{seats_push, seats_length, seats_open, seats_without, seats_id}

pub channels_push : (joins : List (ℕ × List ℕ)) (n : ℕ) (c : List ℕ) → AreChannels joins → IsDigits 32 c → AreChannels (joins ++ (n, c) ∷ [])
channels_push [] n c h is = (is, tt)
channels_push (j ∷ joins) n c h is = (h.0, channels_push joins n c h.1 is)

pub channels_filter : (p : ℕ × List ℕ → Bool) (joins : List (ℕ × List ℕ)) → AreChannels joins → AreChannels (filter p joins)
channels_filter p [] h = tt
channels_filter p (j ∷ joins) h = by (p j) refl (channels_filter p joins h.1)
  where
    by : (b : Bool) → p j ≡ b → AreChannels (filter p joins) → AreChannels (filter p (j ∷ joins))
    by true e again = rw e (h.0, again)
    by false e again = rw e again

pub not_joined : (joins : List (ℕ × List ℕ)) (n : ℕ) (c : List ℕ) → AreChannels joins → (IsDigits 32 c → ⊥) → list_any (λ (join : ℕ × List ℕ). nat_eq n join.0 && bytes_eq c join.1) joins ≡ false
not_joined [] n c h none = refl
not_joined (j ∷ joins) n c h none = by (nat_eq n j.0) (bytes_eq c j.1) refl refl (not_joined joins n c h.1 none)
  where
    by : (a b : Bool) → nat_eq n j.0 ≡ a → bytes_eq c j.1 ≡ b → list_any (λ (join : ℕ × List ℕ). nat_eq n join.0 && bytes_eq c join.1) joins ≡ false
        → list_any (λ (join : ℕ × List ℕ). nat_eq n join.0 && bytes_eq c join.1) (j ∷ joins) ≡ false
    by a true e f again = absurd (none (subst (λ x. IsDigits 32 x) (sym (bytes_one c j.1 f)) h.0))
    by true false e f again = simp (e, f) again
    by false false e f again = simp (e, f) again

-- what is done, by what was made of the rooms
pub done_by : (identities : Identities) (made other : List Out × Rooms) (outs : List Out) (hub : RoomHub) → made ≡ other → Done identities other outs hub → Done identities made outs hub
done_by identities made other outs hub e h = subst (λ m. Done identities m outs hub) (sym e) h

pub room_left : (a : Bool) (t : ℕ) → (a || nat_le (2 ^ 64 - 1) t) ≡ false → t + 1 < 2 ^ 64
room_left true t h = absurd (true≢false h)
room_left false t h = let e = leb-false (2 ^ 64 - 1) t h in omega arith

module _ (identities : Identities) (rooms : Rooms) (n : ℕ) where
  pub opened_full : is_full rooms ≡ true → opened identities rooms n ≡ (tell n (reply.Error 0 word.Efull []) ∷ HangUp n ∷ [], rooms)
  opened_full h = rw h refl

  pub opened_taken : is_full rooms ≡ false → opened identities rooms n ≡ (tell n (reply.Ident (identities.connection (rooms.taken + 1))) ∷ [], opens rooms n)
  opened_taken h = rw h refl

  module _ (seq : ℕ) (c : List ℕ) where
    pub joined_before : has_joined rooms n c ≡ true → joined identities rooms n seq c ≡ (error n seq word.Ejoined c, rooms)
    joined_before h = rw h refl

    pub joined_many : has_joined rooms n c ≡ false → nat_le MOST_CHANNELS (length (channels_of rooms n)) ≡ true → joined identities rooms n seq c ≡ (error n seq word.Efull c, rooms)
    joined_many h k = rw (h, k) refl

    pub joined_now : has_joined rooms n c ≡ false → nat_le MOST_CHANNELS (length (channels_of rooms n)) ≡ false
        → joined identities rooms n seq c ≡ (welcome identities.keeper (id_of identities rooms) (members_of rooms c) n seq c, joins rooms n c)
    joined_now h k = rw (h, k) refl

    pub left_absent : (reason : List ℕ) → has_joined rooms n c ≡ false → left identities rooms n seq c reason ≡ (error n seq word.Enoent c, rooms)
    left_absent reason h = rw h refl

    pub left_now : (reason : List ℕ) → has_joined rooms n c ≡ true
        → left identities rooms n seq c reason ≡ (tell n (reply.Ack seq) ∷ tell_each (but n (members_of rooms c)) (reply.Gone (id_of identities rooms n) c reason), leaves rooms n c)
    left_now reason h = rw h refl

module _ (identities : Identities) (hub : RoomHub) (rooms : Rooms) (tie : IsRooms identities hub rooms) where
  pub id_is : (n : ℕ) → id_at hub n ≡ id_of identities rooms n
  id_is n = ap (λ d. option_map_or (λ (seat : Seat). seat.id) (lookup (nat_eq n) hub.seats.table.entries) d) (tie.given 0)
      ∙ seats_id identities n hub.seats.table.entries rooms.connected tie.seats

  pub welcome_is : (n seq : ℕ) (c : List ℕ) → welcome hub.keeper (id_at hub) (members_at hub.rooms.rooms.entries c) n seq c ≡ welcome identities.keeper (id_of identities rooms) (members_of rooms c) n seq c
  welcome_is n seq c = λ i. welcome (tie.keeper i) (λ m. id_is m i) (tie.members c i) n seq c

  pub joined_is : (n : ℕ) (c : List ℕ) → list_any (nat_eq n) (members_at hub.rooms.rooms.entries c) ≡ has_joined rooms n c
  joined_is n c = ap (λ l. list_any (nat_eq n) l) (tie.members c) ∙ sym (joined_member n c rooms.joined)

  pub open_is : (n : ℕ) → is_some (lookup (nat_eq n) hub.seats.table.entries) ≡ is_open rooms n
  open_is n = sym (seats_open identities n hub.seats.table.entries rooms.connected tie.seats)

  pub full_is : (nat_le MOST_CONNECTIONS (length hub.seats.table.entries) || nat_le (2 ^ 64 - 1) hub.taken) ≡ is_full rooms
  full_is = λ i. nat_le MOST_CONNECTIONS (seats_length identities hub.seats.table.entries rooms.connected tie.seats i) || nat_le (2 ^ 64 - 1) (tie.taken i)

  pub ties_opened : (n : ℕ) (seat : Seat) (seats : Seats) (names : Names) → hub.taken + 1 < 2 ^ 64 → is_some (lookup (nat_eq n) hub.seats.table.entries) ≡ false → IsDigits 32 seat.id
      → seats.table.entries ≡ hub.seats.table.entries ++ (n, seat) ∷ []
      → seat.serial ≡ hub.taken + 1 → seat.id ≡ identity hub.key hub.stream (hub.taken + 1)
      → names_at names.ids.entries seat.id ≡ Some n → ((q : List ℕ) → bytes_eq seat.id q ≡ false → names_at names.ids.entries q ≡ names_at hub.names.ids.entries q)
      → IsRooms identities (record hub { taken = hub.taken + 1; names = names; seats = seats }) (opens rooms n)
  ties_opened n seat seats names fits closed is added serial id here others =
      let new : Connection = record { number = n; serial = rooms.taken + 1 } in
      let is_new = id ∙ tie.given (hub.taken + 1) ∙ ap (λ t. identities.connection (t + 1)) tie.taken in
      let digits = subst (λ x. IsDigits 32 x) is_new is in
      let small = subst (λ t. t + 1 < 2 ^ 64) tie.taken fits in
      let fresh = named_fresh identities (identities.connection (rooms.taken + 1)) rooms.taken (new_identity identities rooms.taken tie.single small digits) rooms.connected tie.below in
      record {
        keeper = tie.keeper;
        given = tie.given;
        single = tie.single;
        taken = ap (λ t. t + 1) tie.taken;
        below = below_push identities rooms.taken new refl digits rooms.connected tie.below;
        distinct = apart_push identities new rooms.connected tie.distinct (sym (open_is n) ∙ closed) fresh;
        names = names_opened identities rooms.connected new hub.names.ids.entries names.ids.entries fresh tie.names
            (subst (λ x. names_at names.ids.entries x ≡ Some n) is_new here)
            (subst (λ x. (q : List ℕ) → bytes_eq x q ≡ false → names_at names.ids.entries q ≡ names_at hub.names.ids.entries q) is_new others);
        seats = subst (λ s. AreSeats identities s (opens rooms n).connected) (sym added)
            (seats_push identities hub.seats.table.entries rooms.connected (n, seat) new tie.seats refl (serial ∙ ap (λ t. t + 1) tie.taken) is_new);
        digits = tie.digits;
        channels = tie.channels;
        members = tie.members;
      }

  pub ties_joined : (n : ℕ) (c : List ℕ) → IsDigits 32 c → (channels : ChannelTable) (table : RoomTable)
      → channels_at channels.table.entries n ≡ channels_at hub.channels.table.entries n ++ c ∷ []
      → ((other : ℕ) → nat_eq n other ≡ false → channels_at channels.table.entries other ≡ channels_at hub.channels.table.entries other)
      → members_at table.rooms.entries c ≡ members_at hub.rooms.rooms.entries c ++ n ∷ []
      → ((other : List ℕ) → bytes_eq c other ≡ false → members_at table.rooms.entries other ≡ members_at hub.rooms.rooms.entries other)
      → IsRooms identities (record hub { channels = channels; rooms = table }) (joins rooms n c)
  ties_joined n c is channels table here apart there elsewhere = record {
    keeper = tie.keeper;
    given = tie.given;
    single = tie.single;
    taken = tie.taken;
    below = tie.below;
    distinct = tie.distinct;
    names = tie.names;
    seats = tie.seats;
    digits = channels_push rooms.joined n c tie.digits is;
    channels = λ m. by_number (λ m. channels_at channels.table.entries m ≡ channels_of (joins rooms n c) m) n m
        (here ∙ ap (λ l. l ++ c ∷ []) (tie.channels n) ∙ sym (join_channels rooms.joined n c)) (λ e. apart m e ∙ tie.channels m ∙ sym (join_others rooms.joined n c m e));
    members = λ d. by_channel (λ d. members_at table.rooms.entries d ≡ members_of (joins rooms n c) d) c d
        (there ∙ ap (λ l. l ++ n ∷ []) (tie.members c) ∙ sym (join_members rooms.joined n c)) (λ e. elsewhere d e ∙ tie.members d ∙ sym (join_rooms rooms.joined n c d e));
  }

  pub ties_left : (n : ℕ) (c : List ℕ) (channels : ChannelTable) (table : RoomTable)
      → channels_at channels.table.entries n ≡ apart_from c (channels_at hub.channels.table.entries n)
      → ((other : ℕ) → nat_eq n other ≡ false → channels_at channels.table.entries other ≡ channels_at hub.channels.table.entries other)
      → members_at table.rooms.entries c ≡ but n (members_at hub.rooms.rooms.entries c)
      → ((other : List ℕ) → bytes_eq c other ≡ false → members_at table.rooms.entries other ≡ members_at hub.rooms.rooms.entries other)
      → IsRooms identities (record hub { channels = channels; rooms = table }) (leaves rooms n c)
  ties_left n c channels table here apart there elsewhere = record {
    keeper = tie.keeper;
    given = tie.given;
    single = tie.single;
    taken = tie.taken;
    below = tie.below;
    distinct = tie.distinct;
    names = tie.names;
    seats = tie.seats;
    digits = channels_filter (λ (join : ℕ × List ℕ). not (nat_eq n join.0 && bytes_eq c join.1)) rooms.joined tie.digits;
    channels = λ m. by_number (λ m. channels_at channels.table.entries m ≡ channels_of (leaves rooms n c) m) n m
        (here ∙ ap (λ l. apart_from c l) (tie.channels n) ∙ sym (leave_channels n c rooms.joined)) (λ e. apart m e ∙ tie.channels m ∙ sym (leave_others n c m e rooms.joined));
    members = λ d. by_channel (λ d. members_at table.rooms.entries d ≡ members_of (leaves rooms n c) d) c d
        (there ∙ ap (λ l. but n l) (tie.members c) ∙ sym (leave_members n c rooms.joined)) (λ e. elsewhere d e ∙ tie.members d ∙ sym (leave_rooms n c d e rooms.joined));
  }

  pub ties_closed : (n : ℕ) (id : List ℕ) (seats : Seats) (names : Names) (channels : ChannelTable) (table : RoomTable) → is_some (lookup (nat_eq n) hub.seats.table.entries) ≡ true
      → id ≡ id_of identities rooms n → names_at names.ids.entries id ≡ None → ((q : List ℕ) → bytes_eq id q ≡ false → names_at names.ids.entries q ≡ names_at hub.names.ids.entries q)
      → seats.table.entries ≡ without n hub.seats.table.entries
      → channels_at channels.table.entries n ≡ []
      → ((other : ℕ) → nat_eq n other ≡ false → channels_at channels.table.entries other ≡ channels_at hub.channels.table.entries other)
      → ((channel : List ℕ) → members_at table.rooms.entries channel ≡ but n (members_at hub.rooms.rooms.entries channel))
      → IsRooms identities (record hub { names = names; seats = seats; channels = channels; rooms = table }) (closes rooms n)
  ties_closed n id seats names channels table was is gone others left here apart there = record {
    keeper = tie.keeper;
    given = tie.given;
    single = tie.single;
    taken = tie.taken;
    below = below_apart identities n rooms.taken rooms.connected tie.below;
    distinct = apart_apart identities n rooms.connected tie.distinct;
    names = names_closed identities rooms.connected n hub.names.ids.entries names.ids.entries tie.distinct (sym (open_is n) ∙ was) tie.names
        (subst (λ x. names_at names.ids.entries x ≡ None) is gone)
        (subst (λ x. (q : List ℕ) → bytes_eq x q ≡ false → names_at names.ids.entries q ≡ names_at hub.names.ids.entries q) is others);
    seats = subst (λ s. AreSeats identities s (closes rooms n).connected) (sym left) (seats_without identities n hub.seats.table.entries rooms.connected tie.seats);
    digits = channels_filter (λ (join : ℕ × List ℕ). not (nat_eq n join.0)) rooms.joined tie.digits;
    channels = λ m. by_number (λ m. channels_at channels.table.entries m ≡ channels_of (closes rooms n) m) n m
        (here ∙ sym (close_channels n rooms.joined)) (λ e. apart m e ∙ tie.channels m ∙ sym (close_others n m e rooms.joined));
    members = λ d. there d ∙ ap (λ l. but n l) (tie.members d) ∙ sym (close_members n d rooms.joined);
  }

-- Messages, by the length of their contents.
use Rattle.std.proofs.Common.{◌≡◌, ℕ, List, [], ◌∷◌, refl, sym, subst, true, false}
use Rattle.netflux_codec.specs.declared.reply.Reply.TheVariants as reply
use Rattle.netflux_codec.specs.declared.word.Word.TheVariants as word
use Rattle.netflux_codec.specs.declared.ask.Ask.{Ask}
use Rattle.netflux_rooms.specs.declared.heard.Heard.{Heard}
use Rattle.netflux_rooms.specs.declared.room_hub.RoomHub.{RoomHub}
use Rattle.netflux_rooms.specs.Rooms.{Identities, Rooms, tell, error, id_of}
use Rattle.netflux_rooms.specs.Machine.{Answer, made, stores, asks, Gives, is_long, delivered, stored, asked}

-- an answer that is another
pub gives_by : (identities : Identities) (rooms : Rooms) (answer other : Answer) (heard : Heard) (hub : RoomHub) → answer ≡ other
    → Gives identities rooms heard hub other → Gives identities rooms heard hub answer
gives_by identities rooms answer other heard hub e h = subst (λ a. Gives identities rooms heard hub a) (sym e) h

pub delivered_short : (identities : Identities) (rooms : Rooms) (number seq other : ℕ) (to content : List ℕ) → is_long content ≡ false
    → delivered identities rooms number seq other to content ≡ tell number (reply.Ack seq) ∷ tell other (reply.Msg (id_of identities rooms number) to content) ∷ []
delivered_short identities rooms number seq other to content h = rw h refl

module _ (rooms : Rooms) (number seq : ℕ) where
  pub stored_long : (channel to content : List ℕ) → is_long content ≡ true → stored rooms number seq channel to content ≡ made (error number seq word.Etoobig to, rooms)
  stored_long channel to content h = rw h refl

  pub stored_short : (channel to content : List ℕ) → is_long content ≡ false → stored rooms number seq channel to content ≡ stores number seq channel content
  stored_short channel to content h = rw h refl

  pub asked_long : (to content : List ℕ) (ask : Ask) → is_long content ≡ true → asked rooms number seq to content ask ≡ made (error number seq word.Etoobig to, rooms)
  asked_long to content ask h = rw h refl

  pub asked_short : (to content : List ℕ) (ask : Ask) → is_long content ≡ false → asked rooms number seq to content ask ≡ asks number seq ask
  asked_short to content ask h = rw h refl

-- For the crates above: outputs that are texts alone, and the answer to an event.
use Rattle.std.proofs.Common.{◌≡◌, inl, inr, ℕ, Bool, true, false, List, [], ◌∷◌, refl, sym, subst, MatchBool, if◌then◌else◌}
use Rattle.netflux_codec.specs.declared.ask.Ask.{Ask}
use Rattle.netflux_codec.specs.declared.body.Body.{Body}
use Rattle.netflux_codec.specs.declared.body.Body.TheVariants as body
use Rattle.netflux_codec.specs.declared.reply.Reply.TheVariants as reply
use Rattle.netflux_codec.specs.declared.word.Word.TheVariants as word
use Rattle.serve_loop.specs.Hangs.{HangsBehind}
use Rattle.serve_loop.specs.declared.event.Event.{Event}
use Rattle.serve_loop.specs.declared.event.Event.TheVariants as event
use Rattle.serve_loop.specs.declared.out.Out.{Out}
use Rattle.netflux_rooms.specs.declared.target.Target.{Target}
use Rattle.netflux_rooms.specs.declared.target.Target.TheVariants as target
use Rattle.netflux_rooms.specs.Rooms.{Identities, Rooms, but, members_of, id_of, is_open, tell, error, opened, closed, joined, left}
use Rattle.netflux_rooms.specs.Machine.{Answer, made, stores, asks, is_long, stored, asked, delivered, posted, target_of, HearsAsk, HearsMessage, HearsRequest, Hears, Steps}
use Rattle.netflux_rooms.proofs.Deliveries.{stored_long, stored_short, asked_long, asked_short}
use Rattle.netflux_rooms.proofs.Texts.{AreTexts, texts_hang, texts_map}

-- texts hang nobody up
pub hangs_nobody : (outs : List Out) → AreTexts outs → HangsBehind outs
hangs_nobody outs texts = texts_hang [] outs texts

-- what is told of a stored message is texts
pub posted_texts : (identities : Identities) (rooms : Rooms) (number seq : ℕ) (channel content : List ℕ) → AreTexts (posted identities rooms number seq channel content)
posted_texts identities rooms number seq channel content =
    texts_map (λ m. m) (λ m. reply.Msg (id_of identities rooms number) channel content) (but number (members_of rooms channel))

-- a content that is to be stored is short
abbrev pub IsShort : Answer → Type 0
IsShort (made what) = Unit {0}
IsShort (stores number seq channel content) = is_long content ≡ false
IsShort (asks number seq ask) = Unit {0}

stored_is_short : (rooms : Rooms) (n seq : ℕ) (channel to content : List ℕ) → IsShort (stored rooms n seq channel to content)
stored_is_short rooms n seq channel to content = by (is_long content) refl
  where
    by : (b : Bool) → is_long content ≡ b → IsShort (stored rooms n seq channel to content)
    by true e = subst (λ answer. IsShort answer) (sym (stored_long rooms n seq channel to content e)) tt
    by false e = subst (λ answer. IsShort answer) (sym (stored_short rooms n seq channel to content e)) e

asked_is_short : (rooms : Rooms) (n seq : ℕ) (to content : List ℕ) (ask : Ask) → IsShort (asked rooms n seq to content ask)
asked_is_short rooms n seq to content ask = by (is_long content) refl
  where
    by : (b : Bool) → is_long content ≡ b → IsShort (asked rooms n seq to content ask)
    by true e = subst (λ answer. IsShort answer) (sym (asked_long rooms n seq to content ask e)) tt
    by false e = subst (λ answer. IsShort answer) (sym (asked_short rooms n seq to content ask e)) tt

-- What is said of the answer to an event is said of some answer, and that is the answer.
module _ (identities : Identities) (rooms : Rooms) (n : ℕ) (Then : Answer → Type 0) where
  answer_to_ask : (seq : ℕ) (to content : List ℕ) → HearsAsk rooms n seq to content Then
      → (answer : Answer) × Then answer × IsShort answer × HearsAsk rooms n seq to content (λ other. other ≡ answer)
  answer_to_ask seq to content (inl none) = (made (error n seq word.Einval [], rooms), none.1, tt, inl (none.0, refl))
  answer_to_ask seq to content (inr some) = (asked rooms n seq to content some.0, some.2, asked_is_short rooms n seq to content some.0, inr (some.0, some.1, refl))

  answer_to_message : (seq : ℕ) (to content : List ℕ) (whom : Target) → HearsMessage identities rooms n seq to content whom Then
      → (answer : Answer) × Then answer × IsShort answer × HearsMessage identities rooms n seq to content whom (λ other. other ≡ answer)
  answer_to_message seq to content (target.Channel channel) h = (stored rooms n seq channel to content, h, stored_is_short rooms n seq channel to content, refl)
  answer_to_message seq to content target.Keeper h = answer_to_ask seq to content h
  answer_to_message seq to content (target.Connection other) h = (made (delivered identities rooms n seq other to content, rooms), h, tt, refl)
  answer_to_message seq to content target.Nobody h = (made (error n seq word.Enoent to, rooms), h, tt, refl)

  answer_to_request : (seq : ℕ) (asks_for : Body) → HearsRequest identities rooms n seq asks_for Then
      → (answer : Answer) × Then answer × IsShort answer × HearsRequest identities rooms n seq asks_for (λ other. other ≡ answer)
  answer_to_request seq (body.Join channel) h = (made (joined identities rooms n seq channel), h, tt, refl)
  answer_to_request seq (body.Leave channel reason) h = (made (left identities rooms n seq channel reason), h, tt, refl)
  answer_to_request seq (body.Msg to content) h = answer_to_message seq to content (target_of identities rooms n to) h
  answer_to_request seq body.Ping h = (made (tell n (reply.Ack seq) ∷ [], rooms), h, tt, refl)

  answer_to_text : (text : List ℕ) → Hears identities rooms n text Then
      → (answer : Answer) × Then answer × IsShort answer × Hears identities rooms n text (λ other. other ≡ answer)
  answer_to_text text (inl none) = (made (error n none.1 word.Einval [], rooms), none.3, tt, inl (none.0, none.1, none.2, refl))
  answer_to_text text (inr some) = let got = answer_to_request some.0.seq some.0.body some.2 in (got.0, got.1, got.2, inr (some.0, some.1, got.3))

pub steps_answer : (identities : Identities) (rooms : Rooms) (what : Event) (Then : Answer → Type 0) → Steps identities rooms what Then
    → (answer : Answer) × Then answer × IsShort answer × Steps identities rooms what (λ other. other ≡ answer)
steps_answer identities rooms (event.Opened n) Then h = (made (if is_open rooms n then ([], rooms) else opened identities rooms n), h, tt, refl)
steps_answer identities rooms (event.Closed n) Then h = (made (if is_open rooms n then closed identities rooms n else ([], rooms)), h, tt, refl)
steps_answer identities rooms (event.Text n text) Then h = by (is_open rooms n) h
  where
    by : (b : Bool) → MatchBool b (Hears identities rooms n text Then) (Then (made ([], rooms)))
        → (answer : Answer) × Then answer × IsShort answer × MatchBool b (Hears identities rooms n text (λ other. other ≡ answer)) (made ([], rooms) ≡ answer)
    by false h = (made ([], rooms), h, tt, refl)
    by true h = answer_to_text identities rooms n Then text h

-- What is said of the answer may be said in other words.
module _ (identities : Identities) (rooms : Rooms) (n : ℕ) (P Q : Answer → Type 0) (turn : (answer : Answer) → P answer → Q answer) where
  ask_then : (seq : ℕ) (to content : List ℕ) → HearsAsk rooms n seq to content P → HearsAsk rooms n seq to content Q
  ask_then seq to content (inl none) = inl (none.0, turn (made (error n seq word.Einval [], rooms)) none.1)
  ask_then seq to content (inr some) = inr (some.0, some.1, turn (asked rooms n seq to content some.0) some.2)

  message_then : (seq : ℕ) (to content : List ℕ) (whom : Target) → HearsMessage identities rooms n seq to content whom P → HearsMessage identities rooms n seq to content whom Q
  message_then seq to content (target.Channel channel) h = turn (stored rooms n seq channel to content) h
  message_then seq to content target.Keeper h = ask_then seq to content h
  message_then seq to content (target.Connection other) h = turn (made (delivered identities rooms n seq other to content, rooms)) h
  message_then seq to content target.Nobody h = turn (made (error n seq word.Enoent to, rooms)) h

  request_then : (seq : ℕ) (asks_for : Body) → HearsRequest identities rooms n seq asks_for P → HearsRequest identities rooms n seq asks_for Q
  request_then seq (body.Join channel) h = turn (made (joined identities rooms n seq channel)) h
  request_then seq (body.Leave channel reason) h = turn (made (left identities rooms n seq channel reason)) h
  request_then seq (body.Msg to content) h = message_then seq to content (target_of identities rooms n to) h
  request_then seq body.Ping h = turn (made (tell n (reply.Ack seq) ∷ [], rooms)) h

  text_then : (text : List ℕ) → Hears identities rooms n text P → Hears identities rooms n text Q
  text_then text (inl none) = inl (none.0, none.1, none.2, turn (made (error n none.1 word.Einval [], rooms)) none.3)
  text_then text (inr some) = inr (some.0, some.1, request_then some.0.seq some.0.body some.2)

pub steps_then : (identities : Identities) (rooms : Rooms) (what : Event) (P Q : Answer → Type 0) → ((answer : Answer) → P answer → Q answer) → Steps identities rooms what P → Steps identities rooms what Q
steps_then identities rooms (event.Opened n) P Q turn h = turn (made (if is_open rooms n then ([], rooms) else opened identities rooms n)) h
steps_then identities rooms (event.Closed n) P Q turn h = turn (made (if is_open rooms n then closed identities rooms n else ([], rooms))) h
steps_then identities rooms (event.Text n text) P Q turn h = by (is_open rooms n) h
  where
    by : (b : Bool) → MatchBool b (Hears identities rooms n text P) (P (made ([], rooms))) → MatchBool b (Hears identities rooms n text Q) (Q (made ([], rooms)))
    by false h = turn (made ([], rooms)) h
    by true h = text_then identities rooms n P Q turn text h

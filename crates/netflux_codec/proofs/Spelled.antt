-- What is written is read again, and a text has one meaning.
use Rattle.std.proofs.Common.{◌≡◌, ◌≢◌, ℕ, length, ◌^◌, ◌<◌, ◌≤◌, inl, inr, ap₂, get_or, List, [], ◌∷◌, codes, refl, ap, arith}
use Rattle.serde_json.specs.Data.{Data, depth}
use Rattle.serde_json.specs.Read.{max_depth}
use Rattle.hex.specs.Hex.{encode_lower}
use Rattle.pad_text.specs.Digits.{IsDigits}
use Rattle.pad_text.specs.declared.name.Name.{Name}
use Rattle.pad_text.proofs.CallerLemmas.{IsDigits-bytes, digits-same}
use Rattle.pad_json.specs.Data.{IsSimple, array_of}
use Rattle.pad_json.specs.Name.{IsName, name_data}
use Rattle.pad_json.proofs.CallerLemmas.{compact_spells}
use Rattle.netflux_codec.specs.declared.ask.Ask.{Ask}
use Rattle.netflux_codec.specs.declared.ask.Ask.TheVariants as ask
use Rattle.netflux_codec.specs.declared.body.Body.{Body}
use Rattle.netflux_codec.specs.declared.body.Body.TheVariants as body
use Rattle.netflux_codec.specs.declared.reply.Reply.{Reply}
use Rattle.netflux_codec.specs.declared.reply.Reply.TheVariants as reply
use Rattle.netflux_codec.specs.declared.since.Since.TheVariants as since
use Rattle.netflux_codec.specs.declared.who.Who.{Who}
use Rattle.netflux_codec.specs.declared.who.Who.TheVariants as who
use Rattle.netflux_codec.specs.declared.word.Word.{Word}
use Rattle.netflux_codec.specs.declared.word.Word.TheVariants as word
use Rattle.netflux_codec.specs.Who.{IsWho, who_digits}
use Rattle.netflux_codec.specs.Word.{word_text}
use Rattle.netflux_codec.specs.Ask.{AskTextsSpell, HasSmallIndex, IsAsk, TextsSpellOneAsk, ask_elements, ask_text}
use Rattle.netflux_codec.specs.Reply.{HasSmallCounts, IsReply, ReplyTextsSpell, TextsSpellOneReply, reply_elements, reply_text}
use Rattle.netflux_codec.specs.Request.{AreElements, RequestTextsSpell, TextsSpellOneRequest, body_written, request_text}
use Rattle.netflux_codec.proofs.Readings.{same_elements}

-- digits are those of one name
one_name : (first second : Name) → IsName first → name_data first ≡ name_data second → first ≡ second
one_name first second is same =
    let digits : encode_lower first.0 ≡ encode_lower second.0 = cc in
    ap (λ (bytes : List ℕ). record { 0 = bytes }) (digits-same first.0 second.0 (IsDigits-bytes first.0 is.bytes).each digits)

-- ---- what is written

simple_body : (seq : ℕ) (asked : Body) → seq < 2 ^ 32 → IsSimple (array_of (body_written seq asked))
simple_body seq (body.Join channel) small = (omega arith, (tt, (tt, tt)))
simple_body seq (body.Leave channel []) small = (omega arith, (tt, (tt, tt)))
simple_body seq (body.Leave channel (byte ∷ bytes)) small = (omega arith, (tt, (tt, (tt, tt))))
simple_body seq (body.Msg target content) small = (omega arith, (tt, (tt, (tt, tt))))
simple_body seq body.Ping small = (omega arith, (tt, tt))

shallow_body : (seq : ℕ) (asked : Body) → depth (array_of (body_written seq asked)) ≤ max_depth
shallow_body seq (body.Join channel) = omega arith
shallow_body seq (body.Leave channel []) = omega arith
shallow_body seq (body.Leave channel (byte ∷ bytes)) = omega arith
shallow_body seq (body.Msg target content) = omega arith
shallow_body seq body.Ping = omega arith

written_body : (seq : ℕ) (asked : Body) → AreElements (body_written seq asked) seq asked
written_body seq (body.Join channel) = refl
written_body seq (body.Leave channel []) = inl (refl, refl)
written_body seq (body.Leave channel (byte ∷ bytes)) = inr refl
written_body seq (body.Msg target content) = refl
written_body seq body.Ping = refl

pub request_spelled : RequestTextsSpell
unfolding request_text
request_spelled request is = record {
  elements = body_written request.seq request.body;
  spells = compact_spells (array_of (body_written request.seq request.body)) (simple_body request.seq request.body is.seq) (shallow_body request.seq request.body);
  are = written_body request.seq request.body;
  typed = is;
}

-- what is read can be written
pub small_counts : (said : Reply) → IsReply said → HasSmallCounts said
small_counts (reply.Ident id) is = tt
small_counts (reply.Joined seq channel) is = tt
small_counts (reply.Member who channel) is = tt
small_counts (reply.Gone id channel reason) is = tt
small_counts (reply.Msg id target content) is = tt
small_counts (reply.Ack seq) is = tt
small_counts (reply.Error seq word about) is = tt
small_counts (reply.History keeper channel index sender content) is = is.2
small_counts (reply.Entry keeper channel index moment sender content) is = is.2
small_counts (reply.HistoryEnd keeper channel total) is = is.2
small_counts (reply.HistoryUnknown keeper channel key) is = tt

simple_reply : (said : Reply) → IsReply said → IsSimple (array_of (reply_elements said))
simple_reply (reply.Ident id) is = (omega arith, (tt, (tt, (tt, tt))))
simple_reply (reply.Joined seq channel) is = (omega (arith, is.0), (tt, (tt, tt)))
simple_reply (reply.Member who channel) is = (omega arith, (tt, (tt, (tt, tt))))
simple_reply (reply.Gone id channel reason) is = (omega arith, (tt, (tt, (tt, (tt, tt)))))
simple_reply (reply.Msg id target content) is = (omega arith, (tt, (tt, (tt, (tt, tt)))))
simple_reply (reply.Ack seq) is = (omega arith, (tt, tt))
simple_reply (reply.Error seq word about) is = (omega arith, (tt, (tt, (tt, tt))))
simple_reply (reply.History keeper channel index sender content) is = (omega arith, (tt, (tt, (tt, (omega (arith, is.2), (tt, (tt, tt)))))))
simple_reply (reply.Entry keeper channel index moment sender content) is =
    (omega arith, (tt, (tt, (tt, (omega (arith, is.2), (is.3, (tt, (tt, tt))))))))
simple_reply (reply.HistoryEnd keeper channel total) is = (omega arith, (tt, (tt, (tt, (omega (arith, is.2), tt)))))
simple_reply (reply.HistoryUnknown keeper channel key) is = (omega arith, (tt, (tt, (tt, (tt, tt)))))

shallow_reply : (said : Reply) → depth (array_of (reply_elements said)) ≤ max_depth
shallow_reply (reply.Ident id) = omega arith
shallow_reply (reply.Joined seq channel) = omega arith
shallow_reply (reply.Member who channel) = omega arith
shallow_reply (reply.Gone id channel reason) = omega arith
shallow_reply (reply.Msg id target content) = omega arith
shallow_reply (reply.Ack seq) = omega arith
shallow_reply (reply.Error seq word about) = omega arith
shallow_reply (reply.History keeper channel index sender content) = omega arith
shallow_reply (reply.Entry keeper channel index moment sender content) = omega arith
shallow_reply (reply.HistoryEnd keeper channel total) = omega arith
shallow_reply (reply.HistoryUnknown keeper channel key) = omega arith

pub reply_spelled : ReplyTextsSpell
unfolding reply_text
reply_spelled said is = record {
  spells = compact_spells (array_of (reply_elements said)) (simple_reply said is) (shallow_reply said);
  typed = is;
}

-- what is read can be written
pub small_index : (asked : Ask) → IsAsk asked → HasSmallIndex asked
small_index (ask.History channel from) is = tt
small_index (ask.At channel index) is = is.1

simple_ask : (asked : Ask) → IsAsk asked → IsSimple (array_of (ask_elements asked))
simple_ask (ask.History channel since.Default) is = (tt, (tt, tt))
simple_ask (ask.History channel (since.Known key)) is = (tt, (tt, (tt, tt)))
simple_ask (ask.History channel since.All) is = (tt, (tt, tt))
simple_ask (ask.At channel index) is = (tt, (tt, (omega (arith, is.1), tt)))

shallow_ask : (asked : Ask) → depth (array_of (ask_elements asked)) ≤ max_depth
shallow_ask (ask.History channel since.Default) = omega arith
shallow_ask (ask.History channel (since.Known key)) = omega arith
shallow_ask (ask.History channel since.All) = omega arith
shallow_ask (ask.At channel index) = omega arith

pub ask_spelled : AskTextsSpell
unfolding ask_text
ask_spelled asked is = record {
  spells = compact_spells (array_of (ask_elements asked)) (simple_ask asked is) (shallow_ask asked);
  typed = is;
}

-- ---- one meaning

alike_body : (first second : ℕ) (asked other : Body) (elements : List Data) → AreElements elements first asked → AreElements elements second other → (first ≡ second) × (asked ≡ other)
alike_body first second (body.Join channel) (body.Join other) elements one two = (cc, cc)
alike_body first second (body.Join channel) (body.Leave other reason) elements one (inl two) = absurd (cc)
alike_body first second (body.Join channel) (body.Leave other reason) elements one (inr two) = absurd (cc)
alike_body first second (body.Join channel) (body.Msg target content) elements one two = absurd (cc)
alike_body first second (body.Join channel) body.Ping elements one two = absurd (cc)
alike_body first second (body.Leave channel reason) (body.Join other) elements (inl one) two = absurd (cc)
alike_body first second (body.Leave channel reason) (body.Join other) elements (inr one) two = absurd (cc)
alike_body first second (body.Leave channel reason) (body.Leave other because) elements (inl one) (inl two) = (cc, cc)
alike_body first second (body.Leave channel reason) (body.Leave other because) elements (inl one) (inr two) = absurd (cc)
alike_body first second (body.Leave channel reason) (body.Leave other because) elements (inr one) (inl two) = absurd (cc)
alike_body first second (body.Leave channel reason) (body.Leave other because) elements (inr one) (inr two) = (cc, cc)
alike_body first second (body.Leave channel reason) (body.Msg target content) elements (inl one) two = absurd (cc)
alike_body first second (body.Leave channel reason) (body.Msg target content) elements (inr one) two = absurd (cc)
alike_body first second (body.Leave channel reason) body.Ping elements (inl one) two = absurd (cc)
alike_body first second (body.Leave channel reason) body.Ping elements (inr one) two = absurd (cc)
alike_body first second (body.Msg target content) (body.Join other) elements one two = absurd (cc)
alike_body first second (body.Msg target content) (body.Leave other reason) elements one (inl two) = absurd (cc)
alike_body first second (body.Msg target content) (body.Leave other reason) elements one (inr two) = absurd (cc)
alike_body first second (body.Msg target content) (body.Msg other text) elements one two = (cc, cc)
alike_body first second (body.Msg target content) body.Ping elements one two = absurd (cc)
alike_body first second body.Ping (body.Join other) elements one two = absurd (cc)
alike_body first second body.Ping (body.Leave other reason) elements one (inl two) = absurd (cc)
alike_body first second body.Ping (body.Leave other reason) elements one (inr two) = absurd (cc)
alike_body first second body.Ping (body.Msg target content) elements one two = absurd (cc)
alike_body first second body.Ping body.Ping elements one two = (cc, refl)

pub one_request : TextsSpellOneRequest
one_request text first second one other =
    let same : one.elements ≡ other.elements = same_elements text one.elements other.elements one.spells other.spells in
    let parts = alike_body first.seq second.seq first.body second.body one.elements one.are (rw same other.are) in
    ap₂ (λ (seq : ℕ) (asked : Body). record { seq = seq; body = asked }) parts.0 parts.1

alike_ask : (first second : Ask) → IsAsk first → ask_elements first ≡ ask_elements second → first ≡ second
alike_ask (ask.History channel since.Default) (ask.History other since.Default) is same = cc
alike_ask (ask.History channel since.Default) (ask.History other (since.Known key)) is same = absurd (cc)
alike_ask (ask.History channel since.Default) (ask.History other since.All) is same = absurd (cc)
alike_ask (ask.History channel (since.Known key)) (ask.History other since.Default) is same = absurd (cc)
alike_ask (ask.History channel (since.Known key)) (ask.History other (since.Known known)) is same =
    let names : name_data key ≡ name_data known = cc in
    let equal : key ≡ known = one_name key known is.1 names in
    cc
alike_ask (ask.History channel (since.Known key)) (ask.History other since.All) is same = absurd (cc)
alike_ask (ask.History channel since.All) (ask.History other since.Default) is same = absurd (cc)
alike_ask (ask.History channel since.All) (ask.History other (since.Known key)) is same = absurd (cc)
alike_ask (ask.History channel since.All) (ask.History other since.All) is same = cc
alike_ask (ask.History channel since.Default) (ask.At other index) is same = absurd (cc)
alike_ask (ask.History channel (since.Known key)) (ask.At other index) is same = absurd (cc)
alike_ask (ask.History channel since.All) (ask.At other index) is same = absurd (cc)
alike_ask (ask.At channel index) (ask.History other since.Default) is same = absurd (cc)
alike_ask (ask.At channel index) (ask.History other (since.Known key)) is same = absurd (cc)
alike_ask (ask.At channel index) (ask.History other since.All) is same = absurd (cc)
alike_ask (ask.At channel index) (ask.At other at) is same = cc

pub one_ask : TextsSpellOneAsk
one_ask text first second one other = alike_ask first second one.typed (same_elements text (ask_elements first) (ask_elements second) one.spells other.spells)

one_who : (first second : Who) → IsWho first → IsWho second → who_digits first ≡ who_digits second → first ≡ second
one_who (who.Member id) (who.Member other) is are same = ap who.Member same
one_who (who.Member id) (who.Keeper keeper) is are same = absurd (omega (arith, is.as_many, are.as_many, ap length same))
one_who (who.Keeper keeper) (who.Member id) is are same = absurd (omega (arith, is.as_many, are.as_many, ap length same))
one_who (who.Keeper keeper) (who.Keeper other) is are same = ap who.Keeper same

-- the error words differ in their second letters
abbrev second_letter : List ℕ → ℕ
second_letter text = get_or text 1 0

one_word : (first second : Word) → word_text first ≡ word_text second → first ≡ second
one_word word.Einval word.Einval same = refl
one_word word.Einval _ same = absurd (omega (arith, ap second_letter same))
one_word word.Ejoined word.Ejoined same = refl
one_word word.Ejoined _ same = absurd (omega (arith, ap second_letter same))
one_word word.Enoent word.Enoent same = refl
one_word word.Enoent _ same = absurd (omega (arith, ap second_letter same))
one_word word.Etoobig word.Etoobig same = refl
one_word word.Etoobig _ same = absurd (omega (arith, ap second_letter same))
one_word word.Efull word.Efull same = refl
one_word word.Efull _ same = absurd (omega (arith, ap second_letter same))
one_word word.Edamaged word.Edamaged same = refl
one_word word.Edamaged _ same = absurd (omega (arith, ap second_letter same))
one_word word.Estore word.Estore same = refl
one_word word.Estore _ same = absurd (omega (arith, ap second_letter same))

-- no error word is one of the words in its place
not_join : (said : Word) → word_text said ≢ codes "JOIN"
not_join word.Einval same = absurd (cc)
not_join word.Ejoined same = absurd (cc)
not_join word.Enoent same = absurd (cc)
not_join word.Etoobig same = absurd (cc)
not_join word.Efull same = absurd (cc)
not_join word.Edamaged same = absurd (cc)
not_join word.Estore same = absurd (cc)

alike_reply : (first second : Reply) → IsReply first → IsReply second → reply_elements first ≡ reply_elements second → first ≡ second
alike_reply (reply.Ident id) (reply.Ident other) is are same = cc
alike_reply (reply.Ident id) _ is are same = absurd (cc)
alike_reply (reply.Joined seq channel) (reply.Joined other there) is are same = cc
alike_reply (reply.Joined seq channel) _ is are same = absurd (cc)
alike_reply (reply.Member somebody channel) (reply.Member other there) is are same =
    let digits : who_digits somebody ≡ who_digits other = cc in
    let equal : somebody ≡ other = one_who somebody other is.0 are.0 digits in
    cc
alike_reply (reply.Member somebody channel) (reply.Error seq said about) is are same = let join : word_text said ≡ codes "JOIN" = cc in absurd (not_join said join)
alike_reply (reply.Member somebody channel) _ is are same = absurd (cc)
alike_reply (reply.Gone id channel reason) (reply.Gone other there because) is are same = cc
alike_reply (reply.Gone id channel reason) _ is are same = absurd (cc)
alike_reply (reply.Msg id target content) (reply.Msg other there text) is are same = cc
alike_reply (reply.Msg id target content) _ is are same = absurd (cc)
alike_reply (reply.Ack seq) (reply.Ack other) is are same = cc
alike_reply (reply.Ack seq) _ is are same = absurd (cc)
alike_reply (reply.Error seq said about) (reply.Error other told there) is are same =
    let text : word_text said ≡ word_text told = cc in
    let equal : said ≡ told = one_word said told text in
    cc
alike_reply (reply.Error seq said about) (reply.Member somebody channel) is are same = let join : word_text said ≡ codes "JOIN" = cc in absurd (not_join said join)
alike_reply (reply.Error seq said about) _ is are same = absurd (cc)
alike_reply (reply.History keeper channel index sender content) (reply.History other there at from text) is are same = cc
alike_reply (reply.History keeper channel index sender content) _ is are same = absurd (cc)
alike_reply (reply.Entry keeper channel index moment sender content) (reply.Entry other there at when from text) is are same = cc
alike_reply (reply.Entry keeper channel index moment sender content) _ is are same = absurd (cc)
alike_reply (reply.HistoryEnd keeper channel total) (reply.HistoryEnd other there count) is are same = cc
alike_reply (reply.HistoryEnd keeper channel total) _ is are same = absurd (cc)
alike_reply (reply.HistoryUnknown keeper channel key) (reply.HistoryUnknown other there known) is are same =
    let names : name_data key ≡ name_data known = cc in
    let equal : key ≡ known = one_name key known is.2 names in
    cc
alike_reply (reply.HistoryUnknown keeper channel key) _ is are same = absurd (cc)

pub one_reply : TextsSpellOneReply
one_reply text first second one other =
    alike_reply first second one.typed other.typed (same_elements text (reply_elements first) (reply_elements second) one.spells other.spells)

-- A text of the hub is heard as what was said.
use Rattle.std.proofs.Common.{◌≡◌, ℕ, ◌≤◌, Bool, true, false, Option, Some, None, List, [], ◌∷◌, bytes_eq, codes, refl, sym, ap, ◌∙◌, arith, if◌then◌else◌}
use Rattle.serde_json.specs.Data.{Data, depth, number, string, unsigned}
use Rattle.serde_json.specs.Read.{max_depth}
use Rattle.pad_json.specs.Data.{array_of}
use Rattle.pad_json.proofs.CallerLemmas.{compact_spells, one_list, one_value}
use Rattle.netflux_codec.specs.declared.reply.Reply.{Reply}
use Rattle.netflux_codec.specs.declared.reply.Reply.TheVariants as reply
use Rattle.netflux_codec.specs.Reply.{Replies, reply_elements, reply_text}
use Rattle.pad_client.specs.Hear.{Addressed, addressed_to, content_of}
use Rattle.hub_laws.specs.Small.{HasSmallNumbers}
use Rattle.world_laws.specs.Reading.{ContentsReadBack, AcksReadBack}

shallow_reply : (said : Reply) → depth (array_of (reply_elements said)) ≤ max_depth
shallow_reply (reply.Ident id) = omega arith
shallow_reply (reply.Joined seq channel) = omega arith
shallow_reply (reply.Member who channel) = omega arith
shallow_reply (reply.Gone id channel reason) = omega arith
shallow_reply (reply.Msg id target content) = omega arith
shallow_reply (reply.Ack seq) = omega arith
shallow_reply (reply.Error seq word about) = omega arith
shallow_reply (reply.History keeper channel index sender content) = omega arith
shallow_reply (reply.Entry keeper channel index moment sender content) = omega arith
shallow_reply (reply.HistoryEnd keeper channel total) = omega arith
shallow_reply (reply.HistoryUnknown keeper channel key) = omega arith

same_elements : (said heard : Reply) → HasSmallNumbers said → Replies (reply_text said) heard → reply_elements heard ≡ reply_elements said
unfolding reply_text
same_elements said heard small replies = one_list (reply_elements heard) (reply_elements said)
    (one_value (reply_text said) (array_of (reply_elements heard)) (array_of (reply_elements said)) replies.spells (compact_spells (array_of (reply_elements said)) small (shallow_reply said)))

-- ---- a content

-- what the elements of a reply bring
abbrev content_in : List Data → Option Addressed
content_in (first ∷ string id ∷ string word ∷ string target ∷ string content ∷ []) = if bytes_eq word (codes "MSG") then Some (addressed_to target false content) else None
content_in (first ∷ string id ∷ string word ∷ string channel ∷ index ∷ string sender ∷ string content ∷ []) = Some (addressed_to channel true content)
content_in _ = None

content_is : (said : Reply) → content_in (reply_elements said) ≡ content_of said
content_is (reply.Ident id) = refl
content_is (reply.Joined seq channel) = refl
content_is (reply.Member who channel) = refl
content_is (reply.Gone id channel reason) = refl
content_is (reply.Msg id target content) = refl
content_is (reply.Ack seq) = refl
content_is (reply.Error seq word about) = refl
content_is (reply.History keeper channel index sender content) = refl
content_is (reply.Entry keeper channel index moment sender content) = refl
content_is (reply.HistoryEnd keeper channel total) = refl
content_is (reply.HistoryUnknown keeper channel key) = refl

pub contents_back : ContentsReadBack
contents_back said heard small replies = sym (content_is heard) ∙ (ap content_in (same_elements said heard small replies) ∙ content_is said)

-- ---- an acknowledgement

abbrev ack_in : List Data → Option ℕ
ack_in (number (unsigned seq) ∷ string word ∷ []) = Some seq
ack_in _ = None

is_ack : (said : Reply) (seq : ℕ) → ack_in (reply_elements said) ≡ Some seq → said ≡ reply.Ack seq
is_ack (reply.Ident id) seq e = absurd (cc)
is_ack (reply.Joined given channel) seq e = absurd (cc)
is_ack (reply.Member who channel) seq e = absurd (cc)
is_ack (reply.Gone id channel reason) seq e = absurd (cc)
is_ack (reply.Msg id target content) seq e = absurd (cc)
is_ack (reply.Ack given) seq e = cc
is_ack (reply.Error given word about) seq e = absurd (cc)
is_ack (reply.History keeper channel index sender content) seq e = absurd (cc)
is_ack (reply.Entry keeper channel index moment sender content) seq e = absurd (cc)
is_ack (reply.HistoryEnd keeper channel total) seq e = absurd (cc)
is_ack (reply.HistoryUnknown keeper channel key) seq e = absurd (cc)

pub acks_back : AcksReadBack
acks_back said seq small replies = is_ack said seq (ap ack_in (sym (same_elements said (reply.Ack seq) small replies)))

-- A text that spells an array of some elements spells what these elements are, and nothing else.
use Rattle.std.proofs.Common.{◌≡◌, ◌≢◌, ℕ, ◌^◌, ◌<◌, List, ◌∷◌, map, ap, sym, subst, refl, ◌∙◌}
use Rattle.serde_json.specs.Data.{Data}
use Rattle.serde_json.specs.View.{view}
use Rattle.serde_json.specs.declared.value.Value.{Value}
use Rattle.pad_json.specs.Data.{array_of, whole}
use Rattle.pad_json.specs.Spells.{Spells}
use Rattle.netflux_codec.specs.declared.ask.Ask.{Ask}
use Rattle.netflux_codec.specs.declared.reply.Reply.{Reply}
use Rattle.netflux_codec.specs.declared.request.Request.{Request}
use Rattle.netflux_codec.specs.Ask.{Asks, IsAsk, ask_elements}
use Rattle.netflux_codec.specs.Request.{AreElements, IsRequest, IsSeqOf, Requests}
use Rattle.netflux_codec.specs.Reply.{IsReply, Replies, reply_elements}
use Rattle.pad_json.proofs.CallerLemmas.{one_value, one_list}

-- two lists of elements of one text are the same
pub same_elements : (text : List ℕ) (first second : List Data) → Spells text (array_of first) → Spells text (array_of second) → first ≡ second
same_elements text first second one other = one_list first second (one_value text (array_of first) (array_of second) one other)

-- a text that spells an array that is no reply spells no reply
pub no_reply : (text : List ℕ) (values lent : List Value) → lent ≡ values → Spells text (array_of (map view values)) → ((reply : Reply) → IsReply reply → map view lent ≢ reply_elements reply)
    → (reply : Reply) → ¬ (Replies text reply)
no_reply text values lent same spelled none reply reads =
    none reply reads.typed (ap (map view) same ∙ same_elements text (map view values) (reply_elements reply) spelled reads.spells)

-- and so for questions
pub no_ask : (text : List ℕ) (values lent : List Value) → lent ≡ values → Spells text (array_of (map view values)) → ((ask : Ask) → IsAsk ask → map view lent ≢ ask_elements ask)
    → (ask : Ask) → ¬ (Asks text ask)
no_ask text values lent same spelled none ask reads =
    none ask reads.typed (ap (map view) same ∙ same_elements text (map view values) (ask_elements ask) spelled reads.spells)

-- and so for requests
pub no_request : (text : List ℕ) (values lent : List Value) → lent ≡ values → Spells text (array_of (map view values))
    → ((request : Request) → IsRequest request → ¬ (AreElements (map view lent) request.seq request.body))
    → (request : Request) → ¬ (Requests text request)
no_request text values lent same spelled none request reads =
    let elements : map view lent ≡ reads.elements = ap (map view) same ∙ same_elements text (map view values) reads.elements spelled reads.spells in
    none request reads.typed (rw elements reads.are)

-- the number of a text is its first element
pub seq_first : (text : List ℕ) (values lent : List Value) (seq : ℕ) → lent ≡ values → Spells text (array_of (map view values))
    → ((n : ℕ) (rest : List Data) → n < 2 ^ 32 → map view lent ≡ whole n ∷ rest → seq ≡ n)
    → (((n : ℕ) (rest : List Data) → n < 2 ^ 32 → map view lent ≢ whole n ∷ rest) → seq ≡ 0) → IsSeqOf text seq
seq_first text values lent seq same spelled given absent = record {
  given = λ n rest small spells. given n rest small (ap (map view) same ∙ same_elements text (map view values) (whole n ∷ rest) spelled spells);
  absent = λ none. absent (λ n rest small first. none n rest small (subst (λ (ds : List Data). Spells text (array_of ds)) (sym (ap (map view) same) ∙ first) spelled));
}

-- a text that spells no array has the number 0
pub seq_none : (text : List ℕ) → ((elements : List Data) → ¬ (Spells text (array_of elements))) → IsSeqOf text 0
seq_none text none = record { given = λ n rest small spells. absurd (none (whole n ∷ rest) spells); absent = λ _. refl }

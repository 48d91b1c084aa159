-- Requests: what a client says to the hub.
use Rattle.std.specs.Prelude.{◌≡◌, ℕ, ◌^◌, ◌<◌, ◌⊎◌, List, [], ◌∷◌, codes}
use Rattle.serde_json.specs.Data.{Data, string}
use Rattle.serde_json.specs.Written.{compact_text}
use Rattle.pad_text.specs.Digits.{IsDigits}
use Rattle.pad_json.specs.Data.{array_of, whole}
use Rattle.pad_json.specs.Spells.{Spells}
use Rattle.netflux_codec.specs.declared.body.Body.{Body}
use Rattle.netflux_codec.specs.declared.body.Body.TheVariants.{Join, Leave, Msg, Ping}
use Rattle.netflux_codec.specs.declared.request.Request.{Request}

-- `[seq,"JOIN",chan]`
abbrev pub join_elements : ℕ → List ℕ → List Data
join_elements seq channel = whole seq ∷ string (codes "JOIN") ∷ string channel ∷ []

-- `[seq,"LEAVE",chan]`
abbrev pub leave_elements : ℕ → List ℕ → List Data
leave_elements seq channel = whole seq ∷ string (codes "LEAVE") ∷ string channel ∷ []

-- `[seq,"LEAVE",chan,reason]`
abbrev pub reason_elements : ℕ → List ℕ → List ℕ → List Data
reason_elements seq channel reason = whole seq ∷ string (codes "LEAVE") ∷ string channel ∷ string reason ∷ []

-- `[seq,"MSG",target,content]`
abbrev pub msg_elements : ℕ → List ℕ → List ℕ → List Data
msg_elements seq target content = whole seq ∷ string (codes "MSG") ∷ string target ∷ string content ∷ []

-- `[seq,"PING"]`
abbrev pub ping_elements : ℕ → List Data
ping_elements seq = whole seq ∷ string (codes "PING") ∷ []

-- these elements spell what a request asks; a leave without a reason has the empty one
abbrev pub AreElements : List Data → ℕ → Body → Type 0
AreElements elements seq (Join channel) = elements ≡ join_elements seq channel
AreElements elements seq (Leave channel reason) = ((elements ≡ leave_elements seq channel) × (reason ≡ [])) ⊎ (elements ≡ reason_elements seq channel reason)
AreElements elements seq (Msg target content) = elements ≡ msg_elements seq target content
AreElements elements seq Ping = elements ≡ ping_elements seq

-- channels have 32 digits
abbrev pub IsBody : Body → Type 0
IsBody (Join channel) = IsDigits 32 channel
IsBody (Leave channel reason) = IsDigits 32 channel
IsBody (Msg target content) = Unit {0}
IsBody Ping = Unit {0}

-- the request is one that a value of the type can be: its number has 32 bits
pub record IsRequest (request : Request) : Type 0 where
  pub seq : request.seq < 2 ^ 32
  pub body : IsBody request.body

-- a text spells a request
pub record Requests (text : List ℕ) (request : Request) : Type 0 where
  pub elements : List Data
  pub spells : Spells text (array_of elements)
  pub are : AreElements elements request.seq request.body
  pub typed : IsRequest request

-- the number of a text that spells no request: its first element, where the text spells an array that begins with a number of 32 bits, and else 0
pub record IsSeqOf (text : List ℕ) (seq : ℕ) : Type 0 where
  pub given : (n : ℕ) (rest : List Data) → n < 2 ^ 32 → Spells text (array_of (whole n ∷ rest)) → seq ≡ n
  pub absent : ((n : ℕ) (rest : List Data) → n < 2 ^ 32 → ¬ (Spells text (array_of (whole n ∷ rest)))) → seq ≡ 0

-- the elements of a request as they are written: a leave with the empty reason in the short form
abbrev pub leave_written : ℕ → List ℕ → List ℕ → List Data
leave_written seq channel [] = leave_elements seq channel
leave_written seq channel (byte ∷ bytes) = reason_elements seq channel (byte ∷ bytes)

abbrev pub body_written : ℕ → Body → List Data
body_written seq (Join channel) = join_elements seq channel
body_written seq (Leave channel reason) = leave_written seq channel reason
body_written seq (Msg target content) = msg_elements seq target content
body_written seq Ping = ping_elements seq

-- the text of a request
unfoldable pub request_text : Request → List ℕ
request_text request = compact_text (array_of (body_written request.seq request.body))

-- a text spells at most one request
abbrev pub TextsSpellOneRequest : Type 0
TextsSpellOneRequest = (text : List ℕ) (first second : Request) → Requests text first → Requests text second → first ≡ second

-- what is written for a request spells it
abbrev pub RequestTextsSpell : Type 0
RequestTextsSpell = (request : Request) → IsRequest request → Requests (request_text request) request

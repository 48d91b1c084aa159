-- What a connection sends.
use Rattle.std.specs.Prelude.{◌≡◌, ℕ, List, drop, None, false}
use Rattle.ws_outbox.specs.Outbox.{Outgoing}
use Rattle.websocket.specs.Connection.{whole_header}
use Rattle.websocket.specs.Frame.{encode_frame}
use Rattle.websocket.specs.declared.protocol.frame.coding.Data.TheVariants.{Text}
use Rattle.websocket.specs.declared.protocol.frame.coding.OpCode.TheVariants.{Data}

-- a text as one frame of a server, which is not masked (RFC 6455, section 5.2)
abbrev pub text_frame : List ℕ → List ℕ
text_frame text = encode_frame (whole_header (Data Text) None) text

-- of these bytes those are left that did not go out: some from the front did
abbrev pub IsLeft : (bytes left : List ℕ) → Type 0
IsLeft bytes left = (count : ℕ) × (left ≡ drop count bytes)

-- the turn of the last look stays as it was, and so does whether no more is taken
abbrev pub KeepsRefusal : (old new : Outgoing) → Type 0
KeepsRefusal old new = (new.turn ≡ old.turn) × (new.refuses ≡ old.refuses)

-- no turn has looked at what waits yet, and more is taken
abbrev pub IsNew : Outgoing → Type 0
IsNew outgoing = (outgoing.turn ≡ 0) × (outgoing.refuses ≡ false)

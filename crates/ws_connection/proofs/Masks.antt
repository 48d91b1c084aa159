-- Frames of a server.
use Rattle.std.proofs.Common.{◌≡◌, ℕ, List, ◌++◌, Option, None, Some, true≢false}
use Rattle.websocket.specs.Connection.{IsMaskOf, Outgoing, Sends, whole_header}
use Rattle.websocket.specs.Frame.{encode_frame}
use Rattle.websocket.specs.declared.protocol.config.Role.TheVariants.{Server}

-- whatever mask a server may use, it is none
without : (frame : Outgoing) (old new : List ℕ) (mask : Option (List ℕ)) → IsMaskOf Server mask → new ≡ old ++ encode_frame (whole_header frame.opcode mask) frame.payload → new ≡ old ++ encode_frame (whole_header frame.opcode None) frame.payload
without frame old new None mask written = written
without frame old new (Some key) mask written = absurd (true≢false mask.0)

-- a server masks no frame
pub not_masked : (frame : Outgoing) (old new : List ℕ) → Sends Server (Some frame) old new → new ≡ old ++ encode_frame (whole_header frame.opcode None) frame.payload
not_masked frame old new sends = without frame old new sends.0 sends.1 sends.2

-- Why a content was not received.
use Rattle.std.specs.Prelude.{⊤, ℕ, List}
use Rattle.pad_message.specs.declared.message.Message.{Message}
use Rattle.pad_chain.specs.declared.receive_refused.ReceiveRefused.{ReceiveRefused}
use Rattle.pad_chain.specs.declared.receive_refused.ReceiveRefused.TheVariants as refused
use Rattle.pad_received.specs.Contents.{LineSpells, HasFewNames, IsOneTooMany}

-- why a message was not received after these
abbrev pub IsMessageRefusal : Message → List Message → ReceiveRefused → Type 0
IsMessageRefusal message messages refused.Full = HasFewNames messages × IsOneTooMany messages message
IsMessageRefusal message messages (refused.NoMemory error) = ⊤

-- why a line was not received after these
abbrev pub IsLineRefusal : List ℕ → List Message → ReceiveRefused → Type 0
IsLineRefusal line messages refused.Full = (message : Message) × LineSpells line message × IsMessageRefusal message messages refused.Full
IsLineRefusal line messages (refused.NoMemory error) = ⊤

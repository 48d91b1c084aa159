-- Checkpoints that can become the base of a chain.
use Rattle.std.specs.Prelude.{◌≡◌, ℕ, ◌≤◌, List, [], ◌∷◌, length, true}
use Rattle.pad_text.specs.Hash.{document_hash}
use Rattle.pad_patch.specs.Misfit.{longest_text}
use Rattle.pad_message.specs.declared.message.Message.{Message}
use Rattle.pad_message.specs.Kind.{is_checkpoint}

-- the patch puts the whole text in the text's own place, and does no more
abbrev pub IsWhole : Message → List ℕ → Type 0
IsWhole message text = message.patch.ops ≡ record { offset = 0; remove = length text; insert = text } ∷ []

-- the message is a checkpoint that can become a base with this text: it spells the text whole, the text is not too long,
-- and the patch was made for it
pub record IsAdoptableWith (message : Message) (text : List ℕ) : Type 0 where
  pub checkpoint : is_checkpoint message.kind ≡ true
  pub whole : IsWhole message text
  pub short : length text ≤ longest_text
  pub before : message.patch.before ≡ document_hash text

-- the message can become a base
abbrev pub CanAdopt : Message → Type 0
CanAdopt message = (text : List ℕ) × IsAdoptableWith message text

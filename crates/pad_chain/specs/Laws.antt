-- Laws of the texts of a run, and of the two ties.
use Rattle.std.specs.Prelude.{◌≡◌, ℕ, List, ◌∷◌, ◌++◌, Contains}
use Rattle.pad_text.specs.Hash.{document_hash}
use Rattle.pad_message.specs.declared.message.Message.{Message}
use Rattle.pad_model.specs.declared.base.Base.{Base}
use Rattle.pad_model.specs.Path.{text, IsPath}
use Rattle.pad_model.specs.Choice.{Choice}
use Rattle.pad_chain.specs.State.{View}
use Rattle.pad_chain.specs.Tie.{StandsFor}
use Rattle.pad_chain.specs.Knows.{Knows}

-- different texts of these have different document hashes
abbrev pub HashesDiffer : List (List ℕ) → Type 0
HashesDiffer texts = (one other : List ℕ) → Contains texts one → Contains texts other → document_hash one ≡ document_hash other → one ≡ other

-- Where different texts of a run have different hashes, each text of the run whose hash a patch of a path names is the very
-- text to which the path applies it, if that is a text of the run.
abbrev pub NamedTextsAreMet : Type 0
NamedTextsAreMet =
    (base : Base) (received above below : List Message) (message : Message) (texts : List (List ℕ)) (units : List ℕ) → IsPath base received (above ++ message ∷ below) → HashesDiffer texts
    → Contains texts (text base below) → Contains texts units → message.patch.before ≡ document_hash units → units ≡ text base below

-- A chain that stands for the messages received knows their names.
abbrev pub StoodIsKnown : Type 0
StoodIsKnown = (chain : View) (base : Base) (received : List Message) (choice : Choice) → StandsFor chain base received choice → Knows chain base received

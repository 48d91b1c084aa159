-- How messages are taken back, one after another. Here lists of undos have the newest first.
use Rattle.std.specs.Prelude.{◌≡◌, ℕ, ◌+◌, List, [], ◌∷◌, ◌++◌, length, true}
use Rattle.pad_text.specs.declared.name.Name.{Name}
use Rattle.pad_text.specs.Hash.{document_hash}
use Rattle.pad_patch.specs.Piece.{text_after}
use Rattle.pad_patch.specs.Inverse.{inverse}
use Rattle.pad_patch.specs.Misfit.{CanApply}
use Rattle.pad_message.specs.declared.message.Message.{Message}
use Rattle.pad_message.specs.Kind.{is_checkpoint}
use Rattle.pad_model.specs.declared.base.Base.{Base}
use Rattle.pad_model.specs.Path.{text, IsSoundOn}
use Rattle.pad_branch.specs.declared.tip.Tip.{Tip}
use Rattle.pad_branch.specs.declared.undo.Undo.{Undo}
use Rattle.pad_branch.specs.Tip.{IsTip, IsTipOf}

-- the name of the message that the undo takes back
abbrev pub undone_name : Undo → Name
undone_name undo = undo.after.name

-- the text after these inverses
abbrev pub undone : List Undo → List ℕ → List ℕ
undone [] units = units
undone (undo ∷ undos) units = undone undos (text_after undo.inverse units)

-- the inverse was made for this text and can be applied to it; that of a checkpoint leaves it
pub record FitsBack (undo : Undo) (units : List ℕ) : Type 0 where
  pub applies : CanApply undo.inverse units
  pub made : undo.inverse.before ≡ document_hash units
  pub whole : is_checkpoint undo.kind ≡ true → text_after undo.inverse units ≡ units

-- each inverse fits the text in its turn, and each tip can be that of the text there; the root stands at the height `low`
abbrev pub Rewinds : Tip → ℕ → List Undo → List ℕ → Type 0
Rewinds root low [] units = IsTipOf root low units
Rewinds root low (undo ∷ undos) units =
    IsTipOf undo.after (low + length undos + 1) units × FitsBack undo units × Rewinds root low undos (text_after undo.inverse units)

-- the undo takes back the message, which is sound on the path
pub record TakesBack (base : Base) (path : List Message) (message : Message) (undo : Undo) : Type 0 where
  pub kind : undo.kind ≡ message.kind
  pub inverse : undo.inverse ≡ inverse message.patch (text base path)
  pub applies : CanApply undo.inverse (text base (message ∷ path))
  pub undoes : text_after undo.inverse (text base (message ∷ path)) ≡ text base path
  pub sound : IsSoundOn base path message
  pub after : IsTip base (message ∷ path) undo.after

-- one for each message of `above`, which stand on the path
abbrev pub AreUndos : Base → (path above : List Message) → List Undo → Type 0
AreUndos base path [] undos = undos ≡ []
AreUndos base path (message ∷ above) undos =
    (undo : Undo) × (rest : List Undo) × (undos ≡ undo ∷ rest) × TakesBack base (above ++ path) message undo × AreUndos base path above rest

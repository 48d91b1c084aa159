-- The document hash.
use Rattle.std.specs.Prelude.{ℕ, List}
use Rattle.pad_text.specs.declared.name.Name.{Name}
use Rattle.pad_text.specs.Name.{name_of_bytes}
use Rattle.pad_text.specs.Text.{utf8}

-- the document hash of a text: the SHA-256 of its bytes in UTF-8
abbrev pub document_hash : List ℕ → Name
document_hash units = name_of_bytes (utf8 units)

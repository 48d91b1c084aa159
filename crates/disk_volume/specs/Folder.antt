-- Files by name, a missing one being empty.
use Rattle.std.specs.Prelude.{◌≡◌, ℕ, List, [], ◌∷◌, bytes_eq, if◌then◌else◌}

-- the bytes of the first file of this name
abbrev pub bytes_in : List (List ℕ × List ℕ) → List ℕ → List ℕ
bytes_in [] name = []
bytes_in (file ∷ files) name = if bytes_eq file.0 name then file.1 else bytes_in files name

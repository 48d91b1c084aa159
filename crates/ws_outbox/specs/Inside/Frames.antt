-- Lists of bytes that wait behind one another.
use Rattle.std.specs.Prelude.{ℕ, ◌<◌, List, [], ◌∷◌, length, ⊤}

-- none of them is empty
abbrev pub NoneEmpty : List (List ℕ) → Type 0
NoneEmpty [] = ⊤
NoneEmpty (frame ∷ frames) = (0 < length frame) × NoneEmpty frames

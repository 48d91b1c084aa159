-- The files of a channel.
use Rattle.std.specs.Prelude.{◌⊎◌, ℕ, List, ◌++◌, codes}

-- the name of its log of form One
abbrev pub file_one : List ℕ → List ℕ
file_one channel = channel ++ codes ".padlog"

-- the name of its log of form Two
abbrev pub file_two : List ℕ → List ℕ
file_two channel = channel ++ codes ".padlog2"

-- the file is one of the channel's, by the files that belong to the name of a log of each form
abbrev pub OfChannel : (owns_one owns_two : (name file : List ℕ) → Type 0) → (channel file : List ℕ) → Type 0
OfChannel owns_one owns_two channel file = owns_one (file_one channel) file ⊎ owns_two (file_two channel) file

-- Scripts: the commands of their lines, and the first line outside a grammar. What a line says is a parameter here.
use Rattle.std.specs.Prelude.{◌≡◌, ℕ, ◌+◌, List, [], ◌∷◌, ◌++◌, length, Option, None, Some}
use Rattle.pad_script.specs.declared.command.Command.{Command}
use Rattle.pad_lines.specs.Line.{lines_of}

-- each line says what stands in its place
abbrev pub AreSaid : {A : Type 0} → (List ℕ → Option A → Type 0) → List (List ℕ) → List (Option A) → Type 0
AreSaid says [] [] = Unit {0}
AreSaid says [] (act ∷ acts) = ⊥
AreSaid says (line ∷ lines) [] = ⊥
AreSaid says (line ∷ lines) (act ∷ acts) = says line act × AreSaid says lines acts

-- the commands of lines that say this, of which the first has this number
abbrev pub commands_from : {A : Type 0} → ℕ → List (Option A) → List (Command A)
commands_from number [] = []
commands_from number (None ∷ acts) = commands_from (number + 1) acts
commands_from number (Some act ∷ acts) = record { line = number; act = act } ∷ commands_from (number + 1) acts

-- the commands of a script: each line says nothing or a command, which has the number of the line, from 1
pub record IsScript {A : Type 0} (says : List ℕ → Option A → Type 0) (bytes : List ℕ) (commands : List (Command A)) : Type 0 where
  pub acts : List (Option A)
  pub said : AreSaid says (lines_of bytes) acts
  pub numbered : commands ≡ commands_from 1 acts

-- the line of this number, from 1, is the first that says nothing of the grammar
pub record IsFirstOutside {A : Type 0} (says : List ℕ → Option A → Type 0) (bytes : List ℕ) (number : ℕ) : Type 0 where
  pub before : List (List ℕ)
  pub line : List ℕ
  pub after : List (List ℕ)
  pub lines : lines_of bytes ≡ before ++ line ∷ after
  pub place : number ≡ length before + 1
  pub acts : List (Option A)
  pub inside : AreSaid says before acts
  pub outside : (act : Option A) → ¬ (says line act)

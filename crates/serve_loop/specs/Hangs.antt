-- Hang-ups among outputs.
use Rattle.std.specs.Prelude.{◌≡◌, ℕ, List, [], ◌∷◌}
use Rattle.serve_loop.specs.declared.out.Out.{Out}
use Rattle.serve_loop.specs.declared.out.Out.TheVariants.{Send, HangUp}

-- each hang-up comes right behind a text to the same connection; `last` has the connection of the output before, if that was a text
abbrev pub HangsAfter : (last : List ℕ) → List Out → Type 0
HangsAfter last [] = Unit {0}
HangsAfter last (Send connection text ∷ outs) = HangsAfter (connection ∷ []) outs
HangsAfter [] (HangUp connection ∷ outs) = ⊥
HangsAfter (one ∷ last) (HangUp connection ∷ outs) = (connection ≡ one) × HangsAfter [] outs

-- each hang-up comes right behind a text to the same connection
abbrev pub HangsBehind : List Out → Type 0
HangsBehind outs = HangsAfter [] outs

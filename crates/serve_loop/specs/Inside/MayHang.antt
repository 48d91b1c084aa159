-- Whom a port may hang up.
use Rattle.std.specs.Prelude.{◌≡◌, ℕ, ◌≤◌, false, List, [], ◌∷◌}
use Rattle.serve_loop.specs.Connected.{is_among}
use Rattle.serve_loop.specs.declared.out.Out.{Out}
use Rattle.serve_loop.specs.declared.out.Out.TheVariants.{Send, HangUp}

-- the next output may be a hang-up of these, as far as they do not wait
abbrev pub MayHang : (last waiting : List ℕ) (spare : ℕ) → Type 0
MayHang [] waiting spare = Unit {0}
MayHang (connection ∷ last) waiting spare = is_among waiting connection ≡ false → 1 ≤ spare

-- this output may be carried out
abbrev pub MayDo : Out → (waiting : List ℕ) (spare : ℕ) → Type 0
MayDo (Send connection text) waiting spare = Unit {0}
MayDo (HangUp connection) waiting spare = is_among waiting connection ≡ false → 1 ≤ spare

-- whom the output behind it may hang up
abbrev pub texted_by : Out → List ℕ
texted_by (Send connection text) = connection ∷ []
texted_by (HangUp connection) = []

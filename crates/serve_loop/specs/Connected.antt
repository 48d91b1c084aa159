-- Connections that are open.
use Rattle.std.specs.Prelude.{◌≡◌, ◌==◌, ℕ, Bool, true, not, List, [], ◌∷◌}
use Rattle.std.specs.List.{list_any, filter}
use Rattle.serve_loop.specs.declared.event.Event.{Event}
use Rattle.serve_loop.specs.declared.event.Event.TheVariants.{Opened, Text, Closed}
use Rattle.serve_loop.specs.declared.out.Out.{Out}
use Rattle.serve_loop.specs.declared.out.Out.TheVariants.{Send, HangUp}

-- this connection is one of these
abbrev pub is_among : List ℕ → ℕ → Bool
is_among connections connection = list_any (λ one. one == connection) connections

-- these connections without this one
abbrev pub without : ℕ → List ℕ → List ℕ
without connection connections = filter (λ one. not (connection == one)) connections

-- each text goes to one of these connections
abbrev pub GoesTo : List ℕ → List Out → Type 0
GoesTo connections [] = Unit {0}
GoesTo connections (Send connection text ∷ outs) = (is_among connections connection ≡ true) × GoesTo connections outs
GoesTo connections (HangUp connection ∷ outs) = GoesTo connections outs

-- a closing closes its connection alone, and what is sent then goes to connections that are still open
abbrev pub ClosesAlone : Event → (before now : List ℕ) → List Out → Type 0
ClosesAlone (Opened connection) before now outs = Unit {0}
ClosesAlone (Text connection text) before now outs = Unit {0}
ClosesAlone (Closed connection) before now outs = (now ≡ without connection before) × GoesTo now outs

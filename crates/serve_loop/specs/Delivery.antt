-- What becomes of outputs.
use Rattle.std.specs.Prelude.{◌≡◌, ◌⊎◌, ℕ, List, [], ◌∷◌, ◌++◌, MatchBool}
use Rattle.pad_edge.specs.declared.sent.Sent.{Sent}
use Rattle.pad_edge.specs.declared.sent.Sent.TheVariants as sent
use Rattle.serve_loop.specs.Connected.{is_among}
use Rattle.serve_loop.specs.declared.out.Out.{Out}
use Rattle.serve_loop.specs.declared.out.Out.TheVariants.{Send, HangUp}

-- What becomes of outputs while these connections wait for their closing: what goes out, and whose sends fail. An output for one that
-- waits is left out; one whose send fails is hung up, and waits from then on.
abbrev pub Delivers : (waiting : List ℕ) → List Out → (gone : List Sent) → (failed : List ℕ) → Type 0
Delivers waiting [] gone failed = (gone ≡ []) × (failed ≡ [])
Delivers waiting (Send connection text ∷ outs) gone failed =
    MatchBool (is_among waiting connection)
    (Delivers waiting outs gone failed)
    (((rest : List Sent) × (gone ≡ sent.Text connection text ∷ rest) × Delivers waiting outs rest failed)
    ⊎ ((rest : List Sent) × (more : List ℕ) × (gone ≡ sent.HungUp connection ∷ rest) × (failed ≡ connection ∷ more) × Delivers (waiting ++ connection ∷ []) outs rest more))
Delivers waiting (HangUp connection ∷ outs) gone failed =
    MatchBool (is_among waiting connection)
    (Delivers waiting outs gone failed)
    ((rest : List Sent) × (gone ≡ sent.HungUp connection ∷ rest) × Delivers waiting outs rest failed)

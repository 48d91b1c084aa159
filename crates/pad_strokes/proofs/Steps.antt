-- The runs of what is left of a row, one entry on and at its end.
use Rattle.std.proofs.Common.{◌≡◌, ℕ, ◌+◌, ◌<◌, ◌≤◌, true, false, cond, ◌++◌, length, drop, ◌∙◌, ap}
use Rattle.std.specs.Prelude.{Option, slice_index_or}
use Rattle.std.proofs.lemmas.List.{at_drop_more, at_drop_all}
use Rattle.pad_stroke.specs.declared.mark.Mark.{Mark}
use Rattle.pad_stroke.specs.Row.{Row}
use Rattle.pad_strokes.specs.Row.{is_of}
use Rattle.pad_strokes.specs.Runs.{closed, runs_from}

module _ (stroke place run : ℕ) (row : Row) where
  abbrev rest : Row
  rest = drop (place + 1) row

  pub runs_own : (entry : Option Mark) → place < length row → is_of stroke (slice_index_or row place entry) ≡ true
      → runs_from stroke place run (drop place row) ≡ runs_from stroke (place + 1) (run + 1) rest
  runs_own entry within own =
      at_drop_more (runs_from stroke place run) row place entry within
      ∙ ap (λ b. cond b (runs_from stroke (place + 1) (run + 1) rest) (closed place run ++ runs_from stroke (place + 1) 0 rest)) own

  pub runs_other : (entry : Option Mark) → place < length row → is_of stroke (slice_index_or row place entry) ≡ false
      → runs_from stroke place run (drop place row) ≡ closed place run ++ runs_from stroke (place + 1) 0 rest
  runs_other entry within other =
      at_drop_more (runs_from stroke place run) row place entry within
      ∙ ap (λ b. cond b (runs_from stroke (place + 1) (run + 1) rest) (closed place run ++ runs_from stroke (place + 1) 0 rest)) other

  pub runs_end : length row ≤ place → runs_from stroke place run (drop place row) ≡ closed place run
  runs_end end = at_drop_all (runs_from stroke place run) row place end

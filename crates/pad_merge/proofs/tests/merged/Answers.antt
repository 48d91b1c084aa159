use Rattle.std.proofs.Common.{◌≡◌, true}
use Rattle.std.specs.Prelude.{Result, Ok, Err, OnOk, is_ok}
use Rattle.pad_patch.specs.declared.misfit.Misfit.{Misfit}
use Rattle.pad_patch.specs.Misfit.{CanApply}
use Rattle.pad_patch.specs.Piece.{text_after}
use Rattle.pad_merge.proofs.Applied.{CanMerge-CanApply}
use Rattle.pad_merge.proofs.tests.merged.Goals as goal

-- what an answer promises of its `Ok`
of_ok : (P : Type 0) (answer : Result (Unit {0}) Misfit) → is_ok answer ≡ true → OnOk answer P → P
of_ok P (Ok nothing) is holds = holds
of_ok P (Err misfit) is holds = cc

pub row_of-requires-clause-can : goal.row_of-requires-clause-can
row_of-requires-clause-can c =
    let first_ok : is_ok c.fits.result ≡ true = cc in
    let first = of_ok (CanApply c.in_ok-p.p c.in_ok-store.store.text) c.fits.result first_ok c.fits.ensures.applies in
    let second_ok : is_ok c.fits-then-length-lt100.result ≡ true = cc in
    let behind = of_ok (CanApply c.in_ok-q.q c.in_ok-after.after.text) c.fits-then-length-lt100.result second_ok c.fits-then-length-lt100.ensures.applies in
    let second : CanApply c.in_ok-q.q (text_after c.in_ok-p.p c.in_ok-store.store.text) = rw c.in_ok-after.ensures at behind in
    rw c.length-then-is_ok-2.ensures (CanMerge-CanApply c.in_ok-p.p c.in_ok-q.q c.in_ok-store.store.text first second)

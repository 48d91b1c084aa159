use Rattle.std.proofs.Common.{◌≡◌, true}
use Rattle.std.specs.Prelude.{Result, Ok, Err, OnOk, is_ok}
use Rattle.pad_patch.specs.declared.misfit.Misfit.{Misfit}
use Rattle.pad_patch.specs.Misfit.{CanApply}
use Rattle.pad_patch.proofs.tests.an_inverse_takes_a_patch_back.Goals as goal

-- what an answer promises of its `Ok`
of_ok : (P : Type 0) (answer : Result (Unit {0}) Misfit) → is_ok answer ≡ true → OnOk answer P → P
of_ok P (Ok nothing) is holds = holds
of_ok P (Err misfit) is holds = cc

pub invert-requires-clause-can : goal.invert-requires-clause-can
invert-requires-clause-can g c =
    let ok : is_ok c.fits.result ≡ true = cc in
    of_ok (CanApply c.in_ok-patch.patch c.in_ok-store.store.text) c.fits.result ok c.fits.ensures.applies

-- What holds after an answer.
use Rattle.std.proofs.Common.{Result, Ok, Err}
use Rattle.std.specs.Result.{IfOk, OnOk}

-- what holds after an `Ok`, by what is said of its value and what holds then
pub when_ok : {T E : Type 0} (result : Result T E) (Is : T → Type 0) (Has : Type 0) (tells : Type 0) (Keeps : Type 0) {All : Type 0}
    → ((value : T) → Is value → Has → (tells → Keeps) → All) → IfOk result Is → OnOk result Has → (tells → OnOk result Keeps) → OnOk result All
when_ok (Ok value) Is Has tells Keeps all is has keeps = all value is has keeps
when_ok (Err why) Is Has tells Keeps all is has keeps = tt

-- what is said of the value, and what holds then, together
pub if_ok_with : {T E : Type 0} (result : Result T E) (Is : T → Type 0) (Has : Type 0) (All : T → Type 0) → ((value : T) → Is value → Has → All value)
    → IfOk result Is → OnOk result Has → IfOk result All
if_ok_with (Ok value) Is Has All all is has = all value is has
if_ok_with (Err why) Is Has All all is has = tt

use Rattle.std.proofs.Common.{ℕ, List, length, arith, refl, ap}
use Rattle.std.proofs.lemmas.List.{length-drop}
use Rattle.keeper_entry.specs.declared.payload.TheConstants.{BEFORE_CONTENT}
use Rattle.keeper_channel.proofs.indexing.add_payload.Goals as goal

pub add-requires-clause-short : goal.add-requires-clause-short
add-requires-clause-short c =
    let entry = c.in-Some.ensures.found.0 refl in
    omega (arith, ap (λ (l : List ℕ). length l) c.in-Some.ensures.value, length-drop BEFORE_CONTENT c.as_slice.result.now, entry.short)

pub returns-in-Ok-clause-small : goal.returns-in-Ok-clause-small
returns-in-Ok-clause-small c =
    let entry = c.in-Some.ensures.found.0 refl in
    omega (arith, c.in-Ok.ensures.bytes, ap (λ (l : List ℕ). length l) c.in-Some.ensures.value, length-drop BEFORE_CONTENT c.as_slice.result.now, entry.short, c.requires.small)

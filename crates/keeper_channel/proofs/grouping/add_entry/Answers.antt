use Rattle.std.proofs.Common.{ℕ, List, length, arith, ap}
use Rattle.std.proofs.lemmas.List.{length-drop}
use Rattle.std.proofs.lemmas.Result.{on_ok_weaker}
use Rattle.keeper_entry.specs.declared.payload.TheConstants.{BEFORE_CONTENT}
use Rattle.keeper_channel.proofs.grouping.add_entry.Goals as goal

pub add-requires-clause-short : goal.add-requires-clause-short
add-requires-clause-short c = omega (arith, ap (λ (l : List ℕ). length l) c.in-Some.ensures.value, length-drop BEFORE_CONTENT c.args.payload.now, c.requires.entry.short)

pub returns-in-Some-clause-bytes : goal.returns-in-Some-clause-bytes
returns-in-Some-clause-bytes c =
    let size = ap (λ (l : List ℕ). length l) c.in-Some.ensures.value in
    on_ok_weaker c.add.result (λ bytes. omega (arith, bytes, size, length-drop BEFORE_CONTENT c.args.payload.now, c.requires.entry.long)) c.add.ensures.bytes

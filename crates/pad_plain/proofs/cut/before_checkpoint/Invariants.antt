use Rattle.std.proofs.Common.{◌≡◌, drop}
use Rattle.pad_model.specs.Choice.{to_checkpoint}
use Rattle.pad_plain.specs.Inside.Walk.{messages_at}
use Rattle.pad_plain.proofs.cut.before_checkpoint.Given as goal

abbrev pub invariant-loop-at : goal.invariant-loop-at
invariant-loop-at l = to_checkpoint (messages_at l.received (drop l.after l.places)) ≡ to_checkpoint (messages_at l.received (drop l.at l.places))

use Rattle.std.proofs.Common.{refl}
use Rattle.std.specs.List.{count_by}
use Rattle.keeper_table.specs.Span.{has_checkpoint}
use Rattle.keeper_table.proofs.Starts.{start}
use Rattle.keeper_table.proofs.laws.default_histories_start_at_the_last_but_one_checkpoint.Goals as goal

pub returns : goal.returns
returns c payloads = start payloads (count_by has_checkpoint payloads) refl

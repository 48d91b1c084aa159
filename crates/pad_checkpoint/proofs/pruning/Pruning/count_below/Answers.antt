use Rattle.std.proofs.Common.{count_by, ap, ◌∙◌, ◌+◌, ◌-◌, ◌^◌, min}
use Rattle.pad_checkpoint.specs.Below.{betters}
use Rattle.pad_checkpoint.proofs.Overtaken.{overtook}
use Rattle.pad_checkpoint.proofs.pruning.Pruning.count_below.Goals as goal

pub returns-clause-overtook : goal.returns-clause-overtook
returns-clause-overtook c b R m choice links d a told at =
    (count_by (betters c.args.best.now) c.args.below.now, overtook b R m choice links d a c.args.below.now told c.args.best.now at, c.saturating_add-self.ensures ∙ ap (λ n. min (c.args.self.now.overtaken + n) (2 ^ 64 - 1)) (c.count_better-more.ensures ∙ ap (count_by (betters c.args.best.now)) c.as_slice.ensures))

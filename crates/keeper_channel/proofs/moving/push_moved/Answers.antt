use Rattle.std.proofs.Common.{◌∙◌, ◌∷◌, [], ◌++◌, List, ℕ, ap}
use Rattle.std.proofs.lemmas.Result.{err_from_is_err_and}
use Rattle.keeper_channel.specs.declared.refused.KeeperRefused.TheVariants.{Damaged}
use Rattle.keeper_channel.proofs.Results.{err_of}
use Rattle.keeper_channel.proofs.moving.push_moved.Goals as goal

pub returns-in-Ok-clause-pushed : goal.returns-in-Ok-clause-pushed
returns-in-Ok-clause-pushed g c = (c.in_ok-payload.payload, c.in_ok-payload.ensures.entry, c.in-Ok.ensures)

pub returns-in-Ok-clause-moved : goal.returns-in-Ok-clause-moved
returns-in-Ok-clause-moved g c = λ told old holds.
    let got = c.in_ok-payload.ensures.payload told old holds in
    (got.0, got.1, c.in-Ok.ensures ∙ ap (λ (p : List ℕ). c.args.entries.now.items ++ p ∷ []) got.2)

pub returns-in_err-payload-clause-damaged : goal.returns-in_err-payload-clause-damaged
returns-in_err-payload-clause-damaged g c = let p = err_from_is_err_and c.from_residual.result c.from_residual.ensures.1 in rw (p.1, p.2) (λ told old holds damage is.
    c.in_err-payload.ensures.damaged told old holds damage (err_of _ (Damaged damage) is))

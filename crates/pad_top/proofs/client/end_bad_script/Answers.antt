use Rattle.std.proofs.Common.{inr, ◌∙◌, subst}
use Rattle.pad_edge.specs.Count.{Rose}
use Rattle.pad_top.specs.declared.status.Status.TheVariants as status
use Rattle.pad_top.specs.Inside.Ending.{IsEnd}
use Rattle.pad_top.proofs.client.end_bad_script.Goals as goal

pub returns-in-Ok-clause-end : goal.returns-in-Ok-clause-end
returns-in-Ok-clause-end g c =
    let O = g.O.Sink in
    inr (subst (λ text. IsEnd (O.written c.args.output.now) (O.written c.end.new.output) (Rose (O.faults c.args.output.now) (O.faults c.end.new.output)) text (status.BadScript c.args.number) c.end.result)
    (c.as_bytes.ensures.value ∙ c.in-Ok.ensures.ok) c.end.ensures.end)

use Rattle.std.proofs.Common.{refl, ◌∙◌, sym}
use Rattle.std.proofs.lemmas.Bool.{not-false, not-true, both_ways}
use Rattle.std.proofs.lemmas.Slice.Eq.{bytes_eq-Decides}
use Rattle.gated_log.proofs.Opening.{short_found}
use Rattle.gated_log.proofs.loading.found_short.Goals as goal

pub returns : goal.returns
returns c = λ name disk rests.
    short_found c.args.form name c.args.bytes.now disk _ c.requires
    (λ same. (bytes_eq-Decides c.args.bytes.now c.as_slice.result.now).0 (not-false _ (sym c.ne.ensures ∙ same)) ∙ c.as_slice.ensures ∙ c.empty_log.ensures)
    (λ other. λ is. both_ways _ (not-true _ (sym c.ne.ensures ∙ other)) ((bytes_eq-Decides c.args.bytes.now c.as_slice.result.now).1 (is ∙ sym (c.as_slice.ensures ∙ c.empty_log.ensures))))
    refl refl rests

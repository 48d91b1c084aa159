use Rattle.std.proofs.Common.{length, sym, ◌∙◌, ap, subst}
use Rattle.pad_patch.specs.declared.patch.Patch.{Patch}
use Rattle.pad_stroke.specs.Work.{Marked}
use Rattle.pad_client.specs.View.{View, StandsAs}
use Rattle.pad_client.proofs.Limits.{longer_as}
use Rattle.pad_client.proofs.client.Client.is_too_long.Goals as goal

pub returns : goal.returns
returns g c client stands =
    let stood = subst (λ (v : View). StandsAs v client) (sym c.self.view_is) stands in
    longer_as c.is_longer.result _ _ _ _ (c.length.ensures ∙ ap length (c.in_ok-shown.ensures.stands client.copy stood.copy))
    (ap length c.as_slice.ensures ∙ ap (λ (p : Patch). length p.ops) c.in_ok-patch.ensures.patch ∙ ap (λ (w : Marked). length w.patch.ops) (c.work.ensures.is ∙ stood.copy.work)) c.is_longer.ensures

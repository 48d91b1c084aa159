use Rattle.std.proofs.Common.{refl, sym, ◌∙◌, ap, subst}
use Rattle.pad_stroke.specs.Work.{Marked}
use Rattle.pad_checkpoint.specs.declared.place.Place.{Place}
use Rattle.pad_chain.specs.Tie.{StandsFor}
use Rattle.client_copy.specs.View.{View}
use Rattle.client_copy.proofs.working_copy.WorkingCopy.patch_message.Goals as goal

pub returns-clause-is : goal.returns-clause-is
returns-clause-is g c copy stands =
    let stood : StandsFor c.self.inside.chain copy.pad.base copy.pad.received copy.pad.choice =
    subst (λ (v : View). StandsFor v.pad.chain copy.pad.base copy.pad.received copy.pad.choice) (sym c.self.view_is) stands.pad.stands in
    record {
      plain = refl;
      patch = c.in_ok-patch.ensures.patch ∙ ap (λ (v : View). v.work.patch) c.self.view_is ∙ ap (λ (w : Marked). w.patch) stands.work;
      parent = ap (λ (p : Place). p.name) (c.best.ensures.stands copy.pad.base copy.pad.received copy.pad.choice stood);
    }

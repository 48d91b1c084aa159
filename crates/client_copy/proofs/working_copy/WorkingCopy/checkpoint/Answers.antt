use Rattle.std.proofs.Common.{ℕ, List, [], ◌∷◌, length, sym, ◌∙◌, ap, subst}
use Rattle.pad_message.specs.declared.kind.Kind.TheVariants as kind
use Rattle.pad_checkpoint.specs.declared.place.Place.{Place}
use Rattle.pad_patch.specs.declared.operation.Operation.{Operation}
use Rattle.pad_chain.specs.Tie.{StandsFor}
use Rattle.client_copy.specs.Make.{next_interval}
use Rattle.client_copy.specs.View.{View}
use Rattle.client_copy.proofs.working_copy.WorkingCopy.checkpoint.Goals as goal

abbrev whole_of : List ℕ → List Operation
whole_of units = record { offset = 0; remove = length units; insert = units } ∷ []

pub returns-clause-is : goal.returns-clause-is
returns-clause-is g c copy stands =
    let stood : StandsFor c.self.inside.chain copy.pad.base copy.pad.received copy.pad.choice =
    subst (λ (v : View). StandsFor v.pad.chain copy.pad.base copy.pad.received copy.pad.choice) (sym c.self.view_is) stands.pad.stands in
    record {
      interval = ap kind.Checkpoint (c.interval_of-interval.ensures.is ∙ ap (next_interval c.args.wanted) (c.interval.ensures.stands copy.pad.base copy.pad.received copy.pad.choice stood));
      whole = c.in_ok-ops.ensures ∙ ap whole_of (c.in_ok-insert.ensures ∙ c.text.ensures.stands copy.pad.base copy.pad.received copy.pad.choice stood);
      before = c.hash.ensures.stands copy.pad.base copy.pad.received copy.pad.choice stood;
      parent = ap (λ (p : Place). p.name) (c.best.ensures.stands copy.pad.base copy.pad.received copy.pad.choice stood);
    }

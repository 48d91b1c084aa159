use Rattle.std.proofs.Common.{refl, ap, ◌∙◌, sym, arith, rules}
use Rattle.std.proofs.lemmas.Grind.{common_steps}
use Rattle.pad_graph.specs.State.{state_of}
use Rattle.pad_checkpoint.specs.Cut.{last_but_one}
use Rattle.pad_checkpoint.proofs.Settling.{none_if, stays, is_linked, moves, same_links, risen_links}
use Rattle.pad_checkpoint.proofs.pruning.Pruning.settle.Goals as goal

pub returns-in_default-clause-settled : goal.returns-in_default-clause-settled
returns-in_default-clause-settled c b R root above links r =
    stays b R root above links c.args.self.now.root c.args.path.now (state_of c.args.graph.now) r c.chains_are_one.ensures (sym (none_if c.last_but_one.result c.in_default.not-Some) ∙ c.last_but_one.ensures ∙ ap last_but_one c.as_slice.ensures)

pub returns-in_default-standing-clause-settled : goal.returns-in_default-standing-clause-settled
returns-in_default-standing-clause-settled c b R root above links r =
    absurd (is_linked b R root above links c.args.self.now.root c.args.path.now (state_of c.args.graph.now) r c.in-Some.mark (c.in-Some.ensures ∙ ap last_but_one c.as_slice.ensures) (state_of c.args.graph.now) 0 c.chains_are_one.ensures (λ height e. c.in_default-standing.not-Linked height (c.standing.ensures.is ∙ e)))

pub returns-clause-settled : goal.returns-clause-settled
returns-clause-settled c b R root above links r =
    moves b R root above links c.args.self.now.root c.args.path.now (state_of c.args.graph.now) r c.in-Some.mark (c.in-Some.ensures ∙ ap last_but_one c.as_slice.ensures) (state_of c.keep_from.new.self) c.in_ok-dropped.dropped c.in_ok-dropped.ensures.stands c.in_ok-dropped.ensures.dropped c.in_ok-dropped.ensures.many

pub returns-in_default-clause-links : goal.returns-in_default-clause-links
returns-in_default-clause-links c = same_links (state_of c.args.graph.now) (state_of c.args.graph.now) refl

pub returns-in_default-standing-clause-links : goal.returns-in_default-standing-clause-links
returns-in_default-standing-clause-links c = same_links (state_of c.args.graph.now) (state_of c.args.graph.now) refl

pub returns-clause-links : goal.returns-clause-links
returns-clause-links c =
    risen_links c.in-Some.mark.place.name (state_of c.args.graph.now) (state_of c.keep_from.new.self) (first_of (search rules, grind (arith, common_steps))) c.in_ok-dropped.ensures.stands

use Rattle.std.proofs.Common.{[], refl, false}
use Rattle.pad_model.specs.Base.{first_base}
use Rattle.pad_model.specs.Choice.{first_choice}
use Rattle.client_copy.specs.View.{View}
use Rattle.client_copy.proofs.New.{new_held, new_stands}
use Rattle.client_copy.proofs.working_copy.WorkingCopy.new.Goals as goal

pub invariant_of-result : goal.invariant_of-result
invariant_of-result g c =
    new_held c.in_ok-chain.chain.branch.branch.units c.in_ok-work.work c.new-3.result.entries c.hash.result c.has_text.ensures.text c.has_text.ensures.short c.hash.ensures.is c.in_ok-work.ensures.empty c.new-3.ensures.empty

pub returns-clause-stands : goal.returns-clause-stands
returns-clause-stands g c =
    let held : View = record { pad = record { chain = c.in_ok-chain.chain; base = first_base.name; repaired = false }; work = c.in_ok-work.work; sent = c.new-3.result.entries; strokes = 0 } in
    new_stands held c.hash.result c.in_ok-chain.ensures.stands.0 c.in_ok-chain.ensures.stands.1 refl refl (c.hash.ensures.stands first_base [] first_choice c.in_ok-chain.ensures.stands.0) c.in_ok-work.ensures.empty c.new-3.ensures.empty refl

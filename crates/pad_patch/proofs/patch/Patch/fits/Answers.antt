use Rattle.std.proofs.Common.{◌∙◌, ◌<◌, ◌≤◌, length, arith, sym, refl}
use Rattle.pad_patch.specs.Piece.{length_after, text_after}
use Rattle.pad_patch.specs.Misfit.{longest_text}
use Rattle.pad_patch.specs.declared.misfit.Misfit.TheVariants.{Order, Range, Pair, TooLong, BeforeHash}
use Rattle.pad_patch.proofs.Copies.{length_after-size}
use Rattle.pad_patch.proofs.Misfits.{first_order, first_range, first_pair, first_too_long, first_hash, can_apply, fits, refused, other_name, same_name}
use Rattle.pad_patch.proofs.patch.Patch.fits.Goals as goal

pub returns-in-Some-clause-misfit : goal.returns-in-Some-clause-misfit
returns-in-Some-clause-misfit g c =
    first_order c.args.self.now (g.S.UnitStore.units c.args.text.now) c.in-Some.index c.in-Some.ensures

pub returns-in-Some-clause-fits : goal.returns-in-Some-clause-fits
returns-in-Some-clause-fits g c =
    refused c.args.self.now (g.S.UnitStore.units c.args.text.now) (Order c.in-Some.index) (returns-in-Some-clause-misfit g c)

pub returns-in-Some-first_past-clause-misfit : goal.returns-in-Some-first_past-clause-misfit
returns-in-Some-first_past-clause-misfit g c =
    first_range c.args.self.now (g.S.UnitStore.units c.args.text.now) c.in-Some-first_past.index c.in_default.ensures
    (rw c.length-size.ensures at c.in-Some-first_past.ensures)

pub returns-in-Some-first_past-clause-fits : goal.returns-in-Some-first_past-clause-fits
returns-in-Some-first_past-clause-fits g c =
    refused c.args.self.now (g.S.UnitStore.units c.args.text.now) (Range c.in-Some-first_past.index) (returns-in-Some-first_past-clause-misfit g c)

pub returns-in-Some-first_cut-clause-misfit : goal.returns-in-Some-first_cut-clause-misfit
returns-in-Some-first_cut-clause-misfit g c =
    first_pair c.args.self.now (g.S.UnitStore.units c.args.text.now) c.in-Some-first_cut.index c.in_default.ensures
    (rw c.length-size.ensures at c.in_default-first_past.ensures) c.in-Some-first_cut.ensures

pub returns-in-Some-first_cut-clause-fits : goal.returns-in-Some-first_cut-clause-fits
returns-in-Some-first_cut-clause-fits g c =
    refused c.args.self.now (g.S.UnitStore.units c.args.text.now) (Pair c.in-Some-first_cut.index) (returns-in-Some-first_cut-clause-misfit g c)

pub returns-then-is_too_long-clause-misfit : goal.returns-then-is_too_long-clause-misfit
returns-then-is_too_long-clause-misfit g c =
    let text = g.S.UnitStore.units c.args.text.now in
    let can = can_apply c.args.self.now text c.length-size.result c.length-size.ensures c.in_default.ensures c.in_default-first_past.ensures c.in_default-first_cut.ensures in
    let size = length_after-size c.args.self.now text c.length-size.result c.length-size.ensures can in
    first_too_long c.args.self.now text can (omega (arith, size, c.is_too_long.ensures.0 c.if-is_too_long.true))

pub returns-then-is_too_long-clause-fits : goal.returns-then-is_too_long-clause-fits
returns-then-is_too_long-clause-fits g c =
    refused c.args.self.now (g.S.UnitStore.units c.args.text.now) TooLong (returns-then-is_too_long-clause-misfit g c)

pub returns-then-ne-clause-misfit : goal.returns-then-ne-clause-misfit
returns-then-ne-clause-misfit g c =
    let text = g.S.UnitStore.units c.args.text.now in
    let can = can_apply c.args.self.now text c.length-size.result c.length-size.ensures c.in_default.ensures c.in_default-first_past.ensures c.in_default-first_cut.ensures in
    let size = length_after-size c.args.self.now text c.length-size.result c.length-size.ensures can in
    let not_long : longest_text < length_after c.args.self.now c.length-size.result → ⊥ =
    λ long. let told = c.is_too_long.ensures.1 long in cc in
    first_hash c.args.self.now text can (omega (arith, size)) (λ same. other_name c.args.self.now.before c.args.hash.now c.if-ne.ensures (same ∙ sym c.requires))

pub returns-then-ne-clause-fits : goal.returns-then-ne-clause-fits
returns-then-ne-clause-fits g c =
    refused c.args.self.now (g.S.UnitStore.units c.args.text.now) BeforeHash (returns-then-ne-clause-misfit g c)

pub returns-clause-fits : goal.returns-clause-fits
returns-clause-fits g c =
    let text = g.S.UnitStore.units c.args.text.now in
    let can = can_apply c.args.self.now text c.length-size.result c.length-size.ensures c.in_default.ensures c.in_default-first_past.ensures c.in_default-first_cut.ensures in
    let size = length_after-size c.args.self.now text c.length-size.result c.length-size.ensures can in
    let not_long : longest_text < length_after c.args.self.now c.length-size.result → ⊥ =
    λ long. let told = c.is_too_long.ensures.1 long in cc in
    let short : length (text_after c.args.self.now text) ≤ longest_text = omega (arith, size) in
    let same = same_name c.args.self.now.before c.args.hash.now c.if-ne.ensures ∙ c.requires in
    (λ yes. fits c.args.self.now text can short same, λ fitting. refl)

pub returns-clause-applies : goal.returns-clause-applies
returns-clause-applies g c =
    can_apply c.args.self.now (g.S.UnitStore.units c.args.text.now) c.length-size.result c.length-size.ensures c.in_default.ensures c.in_default-first_past.ensures c.in_default-first_cut.ensures

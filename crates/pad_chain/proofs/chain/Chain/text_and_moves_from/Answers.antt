use Rattle.std.proofs.Common.{◌≡◌, Option, None, Some, IsNone, reverse, refl, sym, subst}
use Rattle.pad_branch.specs.Undo.{undone}
use Rattle.pad_chain.specs.Leads.{Leads}
use Rattle.pad_chain.proofs.Handing.{ComesFrom, comes}
use Rattle.pad_chain.proofs.Leading.{back_to_fork}
use Rattle.pad_chain.proofs.chain.Chain.text_and_moves_from.Goals as goal

no_value : {A : Type 0} (o : Option A) → ((x : A) → o ≡ Some x → ⊥) → IsNone o
no_value None h = refl
no_value (Some x) h = absurd (h x refl)

pub returns-in_default-clause-none : goal.returns-in_default-clause-none
returns-in_default-clause-none g c none = c.in_ok-won.ensures.none (no_value _ c.in_default.not-Some)

pub returns-clause-some : goal.returns-clause-some
returns-clause-some g c =
    let won = rw c.in-Some.is at c.in_ok-won.ensures.won in
    let switch = rw c.in-Some.is at c.in_ok-won.ensures.switch in
    subst (λ units. ComesFrom c.args.self.now c.args.from.now units c.in_ok-both.both.1) (sym c.in_ok-both.ensures.text)
    (comes c.args.self.now c.args.from.now c.in-Some.won.keep c.in-Some.won.undos.items (g.S.UnitStore.units c.in-Some.won.text) c.in_ok-both.both.1 won switch c.in_ok-both.ensures.back c.in_ok-both.ensures.on)

pub returns-clause-back : goal.returns-clause-back
returns-clause-back g c =
    let switch = rw c.in-Some.is at c.in_ok-won.ensures.switch in
    let branch = c.args.self.now.branch.branch in
    let fork = undone (reverse c.in-Some.won.undos.items) (g.S.UnitStore.units c.in-Some.won.text) in (
      fork,
      subst (λ units. Leads c.in_ok-both.both.1.reverted units fork) (sym c.in_ok-both.ensures.text)
          (subst (λ moves. Leads moves (g.S.UnitStore.units c.in-Some.won.text) fork) (sym c.in_ok-both.ensures.back)
          (back_to_fork branch.root branch.low branch.undos c.in-Some.won.keep c.in-Some.won.undos.items (g.S.UnitStore.units c.in-Some.won.text) switch.rewinds)),
    )

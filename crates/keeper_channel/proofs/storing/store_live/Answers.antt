use Rattle.std.proofs.Common.{◌≡◌, ◌+◌, IfOk, IsTrue, List, ℕ, length, sym, subst}
use Rattle.log_format.specs.declared.form.Form.TheVariants.{One, Two}
use Rattle.keeper_channel.specs.Logs.{IsMoved}
use Rattle.keeper_channel.specs.Inside.Adding.{IsAdded}
use Rattle.keeper_channel.specs.Logs.{IsLogsOf, HasCount}
use Rattle.keeper_channel.proofs.storing.store_live.Goals as goal

pub returns-in-Moved-clause-added : goal.returns-in-Moved-clause-added
returns-in-Moved-clause-added g c = λ told held suspense is.
    let O = g.O.Ledger in let G = g.G.Ledger in let log = c.in-Moved.log in
    let old = g.V.Volume.disk c.args.volume.now in let new = g.V.Volume.disk c.store_new.new.volume in
    let named = (rw c.in-Moved.is at c.requires.made).0 in
    let R : List ℕ → Type 0 = λ n. IsAdded (O.opens_as One c.args.one.now) (G.opens_as Two n) (G.doubt Two n) O.holds G.holds held suspense c.args.group.now c.store_new.result old new in
    let there = subst (λ (n : List ℕ). IsMoved G.holds (G.doubt Two n) log c.in-Moved.marker held suspense old) (sym named) (rw c.in-Moved.is at is) in
    subst R named (c.store_new.ensures.added told held suspense there)

pub returns-in-Moved-clause-made : goal.returns-in-Moved-clause-made
returns-in-Moved-clause-made g c =
    let O = g.O.Ledger in let G = g.G.Ledger in
    let named = (rw c.in-Moved.is at c.requires.made).0 in
    let P : List ℕ → Type 0 = λ n. IfOk c.store_new.result (λ added. IsLogsOf (λ log. (O.name log ≡ c.args.one.now) × (O.form_of log ≡ One) × IsTrue (O.live log)) (λ log. (G.name log ≡ n) × (G.form_of log ≡ Two) × IsTrue (G.live log)) added.logs) in
    subst P named c.store_new.ensures.made

pub returns-in-Moved-clause-counted : goal.returns-in-Moved-clause-counted
returns-in-Moved-clause-counted g c = λ count has. c.store_new.ensures.counted count (rw c.in-Moved.is at has)

pub returns-in-Unmoved-clause-counted : goal.returns-in-Unmoved-clause-counted
returns-in-Unmoved-clause-counted g c = λ count has.
    let same : g.O.Ledger.count c.in-Unmoved.old ≡ count = rw c.in-Unmoved.is at has in
    subst (λ n. IfOk c.store_old.result (λ added. HasCount g.O.Ledger.count g.G.Ledger.count added.logs (n + length c.args.group.now))) same c.store_old.ensures.counted

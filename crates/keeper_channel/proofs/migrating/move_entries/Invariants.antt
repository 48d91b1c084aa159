use Rattle.std.proofs.Common.{◌≡◌, ◌≤◌, ◌-◌, ℕ, List, IsTrue}
use Rattle.log_format.specs.declared.form.Form.TheVariants.{One, Two}
use Rattle.keeper_channel.specs.Inside.Adding.{IsMoving}
use Rattle.keeper_channel.proofs.migrating.move_entries.Given as goal

abbrev pub invariant-loop-first : goal.invariant-loop-first
invariant-loop-first g l = let V = g.V.Volume in let G = g.G.Ledger in let O = g.O.Ledger in record {
  name : G.name l.log ≡ G.name l.fn.log;
  form : G.form_of l.log ≡ Two;
  live : IsTrue (G.live l.log);
  counted : G.count l.log ≡ l.first;
  within : l.first ≤ l.count;
  moving : V.tells → (old : List (List ℕ)) → O.holds l.one old (V.disk l.fn.volume)
      → IsMoving (O.opens_as One (O.name l.one)) (G.opens_as Two (G.name l.fn.log)) (G.doubt Two (G.name l.fn.log)) O.holds G.holds (G.owns (G.name l.fn.log)) l.one l.log old l.first (V.disk l.fn.volume) (V.disk l.volume);
  follows : V.follows l.fn.volume l.volume;
  faults : V.faults l.volume ≡ V.faults l.fn.volume;
}

abbrev pub decreases-loop-first : goal.decreases-loop-first
decreases-loop-first g l = l.count - l.first

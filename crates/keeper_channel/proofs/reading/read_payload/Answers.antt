use Rattle.std.proofs.Common.{◌≡◌, ◌∙◌, ℕ, ◌+◌, List, Some, arith, sym, ap, subst}
use Rattle.std.specs.Prelude.{slice_get}
use Rattle.std.proofs.lemmas.Result.{IfOk-weaker}
use Rattle.keeper_channel.proofs.Chans.{moved_get}
use Rattle.keeper_channel.proofs.Slots.{entry_of, few_entries}
use Rattle.keeper_channel.proofs.reading.read_payload.Goals as goal

pub place_of-requires : goal.place_of-requires
place_of-requires g c =
    let log = c.in-Moved.log in let given = c.requires.index in
    let has : g.G.Ledger.count log ≡ given.0 + 1 = rw c.in-Moved.is at given.1 in
    omega (arith, has, given.2, g.met.G.Ledger.count_few log, few_entries (g.G.Ledger.form_of log))

pub read-requires-clause-index : goal.read-requires-clause-index
read-requires-clause-index g c =
    let log = c.in-Moved.log in let given = c.requires.index in
    let has : g.G.Ledger.count log ≡ given.0 + 1 = rw c.in-Moved.is at given.1 in
    omega (arith, has, given.2, c.place_of.ensures.most)

pub read_unmoved-requires-clause-index : goal.read_unmoved-requires-clause-index
read_unmoved-requires-clause-index g c =
    let log = c.in-Unmoved.one in let given = c.requires.index in
    let has : g.O.Ledger.count log ≡ given.0 = rw c.in-Unmoved.is at given.1 in
    omega (arith, has, given.2)

pub read-requires-clause-holds : goal.read-requires-clause-holds
read-requires-clause-holds g c = λ told. let kept = c.requires.holds told in let is = rw c.in-Moved.is at kept.3 in (is.new, is.holds_new)

pub read_unmoved-requires-clause-holds : goal.read_unmoved-requires-clause-holds
read_unmoved-requires-clause-holds g c = λ told. let kept = c.requires.holds told in let is = rw c.in-Unmoved.is at kept.3 in (is.old, is.holds_old)

pub returns-in-Moved-clause-payload : goal.returns-in-Moved-clause-payload
returns-in-Moved-clause-payload g c = λ told doubt held suspense kept.
    let is = rw c.in-Moved.is at kept in
    IfOk-weaker c.read.result (λ payload. slice_get is.new c.place_of.result ≡ Some payload) (λ payload. slice_get held c.args.index ≡ Some payload)
    (λ payload got. subst (λ (l : List (List ℕ)). slice_get l c.args.index ≡ Some payload) (sym is.held_is)
    (entry_of is.new c.in-Moved.marker c.args.index c.place_of.result payload is.marked c.place_of.ensures.before c.place_of.ensures.behind got))
    (c.read.ensures.payload told is.new is.holds_new)

pub returns-in-Unmoved-clause-payload : goal.returns-in-Unmoved-clause-payload
returns-in-Unmoved-clause-payload g c = λ told doubt held suspense kept.
    let is = rw c.in-Unmoved.is at kept in
    IfOk-weaker c.read_unmoved.result _ (λ payload. slice_get held c.args.index ≡ Some payload)
    (λ payload found. subst (λ (l : List (List ℕ)). slice_get l c.args.index ≡ Some payload) (sym is.held_is)
    (moved_get is.old c.args.index found.0 found.1 ∙ ap Some (sym found.2)))
    (c.read_unmoved.ensures.payload told is.old is.holds_old)

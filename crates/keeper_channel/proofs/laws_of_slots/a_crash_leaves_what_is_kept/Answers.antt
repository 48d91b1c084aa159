use Rattle.std.proofs.Common.{◌≡◌, IsTrue}
use Rattle.log_format.specs.declared.form.Form.TheVariants.{One, Two}
use Rattle.keeper_channel.proofs.Others.{keeps_now}
use Rattle.keeper_channel.proofs.Slots.{by_name}
use Rattle.keeper_channel.proofs.laws_of_slots.a_crash_leaves_what_is_kept.Goals as goal

pub returns : goal.returns
returns g c = λ one two slot disk held suspense made kept.
    let O = g.O.Ledger in let G = g.G.Ledger in
    keeps_now (O.opens_as One one) (G.opens_as Two two) (G.doubt Two two) O.holds G.holds
    (λ log. (O.name log ≡ one) × (O.form_of log ≡ One) × IsTrue (O.live log)) (λ log. (G.name log ≡ two) × (G.form_of log ≡ Two) × IsTrue (G.live log)) O.count G.count slot held suspense disk
    (λ log payloads is holds. by_name O.opens_as O.name O.form_of O.live One one disk log payloads is (g.met.O.Ledger.holds_now log payloads disk holds))
    (λ log payloads is holds. by_name G.opens_as G.name G.form_of G.live Two two disk log payloads is (g.met.G.Ledger.holds_now log payloads disk holds)) made kept

use Rattle.keeper_table.specs.Files.{file_one, file_two}
use Rattle.keeper_state.specs.Slot.{IsSlotFor}
use Rattle.keeper_state.proofs.Standing.{stands_now}
use Rattle.keeper_state.proofs.laws.channels_keep_their_lists.Goals as goal

pub returns : goal.returns
returns g c = λ channel found state disk held suspense made stands has.
    let O = g.O.Ledger in let G = g.G.Ledger in
    stands_now O.rests G.rests O.opens_as G.opens_as G.doubt O.damage G.damage O.holds G.holds (IsSlotFor O.name O.form_of O.live O.count G.name G.form_of G.live G.count channel)
    channel found state disk held suspense
    (λ slot h s is kept. c.a_crash_leaves_what_is_kept.ensures (file_one channel) (file_two channel) slot disk h s is kept)
    (λ h s one two is. c.unloaded_channels_are_kept.ensures (file_one channel) (file_two channel) disk h s one two is)
    made stands has

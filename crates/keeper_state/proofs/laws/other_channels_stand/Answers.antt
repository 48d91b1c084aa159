use Rattle.log_format.specs.declared.form.Form.TheVariants.{One, Two}
use Rattle.keeper_table.specs.Files.{file_one, file_two}
use Rattle.keeper_state.specs.Slot.{IsSlotFor}
use Rattle.keeper_state.proofs.Standing.{stands_on}
use Rattle.keeper_state.proofs.laws.other_channels_stand.Goals as goal

pub returns : goal.returns
returns g c = λ channel other found state old new digits others differ read grew made stands.
    let O = g.O.Ledger in let G = g.G.Ledger in
    stands_on O.rests G.rests O.opens_as G.opens_as G.doubt O.damage G.damage O.holds G.holds (IsSlotFor O.name O.form_of O.live O.count G.name G.form_of G.live G.count other)
    other found state old new
    (λ slot h s is kept. c.other_channels_are_kept.ensures (file_one other) (file_two other) (file_one channel) (file_two channel) slot old new h s
    (λ file theirs mine. differ (c.channels_share_no_file.ensures channel other file digits others theirs mine)) read grew is kept)
    (λ one two. c.other_channels_stay.ensures.unloaded channel other One Two old new digits others differ grew one two)
    (λ h s one two is. c.unloaded_channels_are_kept.ensures (file_one other) (file_two other) old h s one two is)
    made stands

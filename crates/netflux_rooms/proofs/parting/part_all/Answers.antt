use Rattle.std.proofs.Common.{take, ◌++◌, ◌∷◌, [], ◌∙◌, sym, ap, subst, List, ℕ, ◌<◌, length, arith}
use Rattle.std.proofs.lemmas.List.{take_more}
use Rattle.netflux_rooms.proofs.Partings.{IsParted, parted_more}
use Rattle.netflux_rooms.proofs.parting.part_all.Goals as goal

pub loop-channel-preserved : goal.loop-channel-preserved
loop-channel-preserved c =
    let within : c.loop-channel.channel-index < length c.args.channels.now = omega arith in
    let longer = take_more c.args.channels.now c.loop-channel.channel-index c.channel-item.result within ∙ ap (λ (x : List ℕ). take c.loop-channel.channel-index c.args.channels.now ++ x ∷ []) (sym c.channel-item.is) in
    subst (λ done. IsParted c.args.rooms.now.rooms.entries c.part.new.rooms.rooms.entries c.args.id c.args.number done c.part.new.outs.items) (sym longer)
    (parted_more c.args.rooms.now.rooms.entries c.loop-channel.rooms.rooms.entries c.part.new.rooms.rooms.entries c.args.id c.args.number _ c.loop-channel.outs.items c.part.new.outs.items c.channel-item.result c.loop-channel.invariant
    c.in_ok-part.ensures.outs c.in_ok-part.ensures.here c.in_ok-part.ensures.apart)

use Rattle.std.proofs.Common.{◌∙◌, ◌++◌, ◌∷◌, [], ap}
use Rattle.netflux_codec.specs.declared.reply.Reply.TheVariants as reply
use Rattle.netflux_rooms.specs.Rooms.{tell, tell_each, but}
use Rattle.netflux_rooms.proofs.Ties.{id_is}
use Rattle.netflux_rooms.proofs.room_hub.RoomHub.post.Goals as goal

pub returns : goal.returns
returns c = λ identities rooms tie.
    let front = c.in_ok-push_one.ensures ∙ ap (λ l. l ++ tell c.args.number (reply.Ack c.args.seq) ∷ []) c.new-outs.ensures.items in
    let id = c.in_ok-id.ensures ∙ id_is identities c.args.self.now rooms tie c.args.number in
    let to = c.in_ok-to.ensures in
    let members = c.members.ensures ∙ tie.members c.args.channel.now in
    c.in_ok-push_others.ensures ∙ (λ i. front i ++ tell_each (but c.args.number (members i)) (reply.Msg (id i) (to i) c.args.content))

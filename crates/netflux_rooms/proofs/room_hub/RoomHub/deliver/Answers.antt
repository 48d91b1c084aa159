use Rattle.std.proofs.Common.{◌≡◌, ◌∙◌, ◌++◌, ◌∷◌, [], ap, sym, nat_lt, length, false}
use Rattle.std.proofs.lemmas.Bool.{le-ltb}
use Rattle.netflux_codec.specs.declared.reply.Reply.TheVariants as reply
use Rattle.netflux_rooms.specs.Rooms.{tell}
use Rattle.netflux_rooms.specs.Machine.{is_long}
use Rattle.netflux_rooms.specs.declared.limits.TheConstants.{LONGEST_MESSAGE}
use Rattle.netflux_rooms.proofs.Ties.{id_is}
use Rattle.netflux_rooms.proofs.Deliveries.{delivered_short}
use Rattle.netflux_rooms.proofs.room_hub.RoomHub.deliver.Goals as goal

pub returns : goal.returns
returns c = λ identities rooms tie.
    let short : is_long c.args.content ≡ false = ap (λ t. nat_lt LONGEST_MESSAGE (length t)) (sym c.as_str.ensures) ∙ le-ltb LONGEST_MESSAGE (length c.as_str.result.now) c.if-as_str-gt-LONGEST_MESSAGE.false in
    let front = c.in_ok-push_one.ensures ∙ ap (λ l. l ++ tell c.args.number (reply.Ack c.args.seq) ∷ []) c.new-outs.ensures.items in
    let id = c.in_ok-id.ensures ∙ id_is identities c.args.self.now rooms tie c.args.number in
    c.in_ok-push_one-2.ensures ∙ (λ i. front i ++ tell c.args.other (reply.Msg (id i) c.args.to c.args.content) ∷ [])
    ∙ sym (delivered_short identities rooms c.args.number c.args.seq c.args.other c.args.to c.args.content short)

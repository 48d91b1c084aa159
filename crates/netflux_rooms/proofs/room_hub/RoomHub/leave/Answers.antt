use Rattle.std.proofs.Common.{◌≡◌, ◌∙◌, ◌++◌, ◌∷◌, [], ap, sym}
use Rattle.std.proofs.lemmas.Result.{IfOk-weaker}
use Rattle.netflux_codec.specs.declared.word.Word.TheVariants as word
use Rattle.netflux_codec.specs.declared.reply.Reply.TheVariants as reply
use Rattle.netflux_rooms.specs.Rooms.{error, tell, tell_each, but}
use Rattle.netflux_rooms.proofs.Ties.{done_by, id_is, joined_is, left_absent, left_now, ties_left}
use Rattle.netflux_rooms.proofs.room_hub.RoomHub.leave.Goals as goal

pub returns-then-not-contains : goal.returns-then-not-contains
returns-then-not-contains c = λ identities rooms tie.
    let absent = sym (joined_is identities c.args.self.now rooms tie c.args.number c.args.channel.now) ∙ sym c.contains.ensures ∙ c.if-not-contains.true in
    IfOk-weaker c.refuse.result (λ outs. outs.items ≡ error c.args.number c.args.seq word.Enoent c.as_str.result.now) _
    (λ outs e. done_by identities _ _ _ c.args.self.now (left_absent identities rooms c.args.number c.args.seq c.args.channel.now c.args.reason absent)
    (e ∙ ap (λ about. error c.args.number c.args.seq word.Enoent about) c.as_str.ensures.value, tie)) c.refuse.ensures

pub returns : goal.returns
returns c = λ identities rooms tie.
    let there = sym (joined_is identities c.args.self.now rooms tie c.args.number c.args.channel.now) ∙ sym c.contains.ensures ∙ c.if-not-contains.false in
    let front = c.in_ok-push_one.ensures ∙ ap (λ l. l ++ tell c.args.number (reply.Ack c.args.seq) ∷ []) c.new-outs.ensures.items in
    let id = c.in_ok-id.ensures ∙ id_is identities c.args.self.now rooms tie c.args.number in
    let members = c.members.ensures ∙ tie.members c.args.channel.now in
    let made = c.in_ok-push_others.ensures ∙ (λ i. front i ++ tell_each (but c.args.number (members i)) (reply.Gone (id i) c.args.channel.now c.args.reason)) in
    done_by identities _ _ _ _ (left_now identities rooms c.args.number c.args.seq c.args.channel.now c.args.reason there)
    (made, ties_left identities c.args.self.now rooms tie c.args.number c.args.channel.now c.leave-2.new.self c.leave.new.self c.in_ok-leave-2.ensures.here c.in_ok-leave-2.ensures.apart c.in_ok-leave.ensures.here c.in_ok-leave.ensures.apart)

use Rattle.std.proofs.Common.{◌∙◌, ◌++◌, ◌∷◌, [], ap, sym, ◌+◌, refl, nat_le, length}
use Rattle.netflux_codec.specs.declared.reply.Reply.TheVariants as reply
use Rattle.serve_loop.specs.declared.out.Out.TheVariants.{HangUp}
use Rattle.netflux_rooms.specs.Rooms.{tell}
use Rattle.netflux_rooms.specs.declared.limits.TheConstants.{MOST_CONNECTIONS}
use Rattle.netflux_rooms.proofs.Ties.{done_by, full_is, opened_full, opened_taken, ties_opened, room_left}
use Rattle.netflux_rooms.proofs.room_hub.RoomHub.open.Goals as goal

pub returns-then-is_full : goal.returns-then-is_full
returns-then-is_full c = λ identities rooms tie.
    let full = sym (full_is identities c.args.self.now rooms tie) ∙ sym c.is_full.ensures ∙ c.if-is_full.true in
    let made = c.in_ok-push.ensures.items ∙ ap (λ l. l ++ HangUp c.args.number ∷ []) c.in_ok-outs.ensures in
    done_by identities _ _ _ c.args.self.now (opened_full identities rooms c.args.number full) (made, tie)

pub returns : goal.returns
returns c = λ identities rooms tie.
    let free = sym (full_is identities c.args.self.now rooms tie) ∙ sym c.is_full.ensures ∙ c.if-is_full.false in
    let fits = room_left (nat_le MOST_CONNECTIONS (length c.args.self.now.seats.table.entries)) c.args.self.now.taken (sym c.is_full.ensures ∙ c.if-is_full.false) in
    let id = c.in_ok-id.ensures ∙ tie.given (c.args.self.now.taken + 1) ∙ ap (λ t. identities.connection (t + 1)) tie.taken in
    let made = c.in_ok-push_one.ensures ∙ (λ i. c.new-outs.ensures.items i ++ tell c.args.number (reply.Ident (id i)) ∷ []) in
    done_by identities _ _ _ _ (opened_taken identities rooms c.args.number free) (made, ties_opened identities c.args.self.now rooms tie c.args.number _ c.add-2.new.self c.add.new.self fits c.requires c.digits-digits.ensures.are c.in_ok-add-2.ensures refl c.in_ok-id.ensures c.in_ok-add.ensures.here c.in_ok-add.ensures.apart)

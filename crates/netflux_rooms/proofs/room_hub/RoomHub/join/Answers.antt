use Rattle.std.proofs.Common.{◌≡◌, ◌∙◌, ap, sym, nat_le, length}
use Rattle.std.proofs.lemmas.Result.{IfOk-weaker}
use Rattle.std.proofs.lemmas.Bool.{le-leb, lt-leb}
use Rattle.netflux_codec.specs.declared.word.Word.TheVariants as word
use Rattle.netflux_rooms.specs.Rooms.{error}
use Rattle.netflux_rooms.specs.declared.limits.TheConstants.{MOST_CHANNELS}
use Rattle.netflux_rooms.proofs.Ties.{done_by, joined_is, joined_before, joined_many, joined_now, welcome_is, ties_joined}
use Rattle.netflux_rooms.proofs.room_hub.RoomHub.join.Goals as goal

pub returns-then-contains : goal.returns-then-contains
returns-then-contains c = λ identities rooms tie.
    let there = sym (joined_is identities c.args.self.now rooms tie c.args.number c.args.channel.now) ∙ sym c.contains.ensures ∙ c.if-contains.true in
    IfOk-weaker c.refuse.result (λ outs. outs.items ≡ error c.args.number c.args.seq word.Ejoined c.as_str.result.now) _
    (λ outs e. done_by identities _ _ _ c.args.self.now (joined_before identities rooms c.args.number c.args.seq c.args.channel.now there)
    (e ∙ ap (λ about. error c.args.number c.args.seq word.Ejoined about) c.as_str.ensures.value, tie)) c.refuse.ensures

pub returns-then-count-ge-MOST_CHANNELS : goal.returns-then-count-ge-MOST_CHANNELS
returns-then-count-ge-MOST_CHANNELS c = λ identities rooms tie.
    let there = sym (joined_is identities c.args.self.now rooms tie c.args.number c.args.channel.now) ∙ sym c.contains.ensures ∙ c.if-contains.false in
    let many = ap (λ l. nat_le MOST_CHANNELS (length l)) (sym (tie.channels c.args.number)) ∙ ap (λ n. nat_le MOST_CHANNELS n) (sym c.count.ensures) ∙ le-leb MOST_CHANNELS c.count.result c.if-count-ge-MOST_CHANNELS.true in
    IfOk-weaker c.refuse-then-count-ge-MOST_CHANNELS.result (λ outs. outs.items ≡ error c.args.number c.args.seq word.Efull c.as_str-then-count-ge-MOST_CHANNELS.result.now) _
    (λ outs e. done_by identities _ _ _ c.args.self.now (joined_many identities rooms c.args.number c.args.seq c.args.channel.now there many)
    (e ∙ ap (λ about. error c.args.number c.args.seq word.Efull about) c.as_str-then-count-ge-MOST_CHANNELS.ensures.value, tie)) c.refuse-then-count-ge-MOST_CHANNELS.ensures

pub returns : goal.returns
returns c = λ identities rooms tie.
    let there = sym (joined_is identities c.args.self.now rooms tie c.args.number c.args.channel.now) ∙ sym c.contains.ensures ∙ c.if-contains.false in
    let few = ap (λ l. nat_le MOST_CHANNELS (length l)) (sym (tie.channels c.args.number)) ∙ ap (λ n. nat_le MOST_CHANNELS n) (sym c.count.ensures) ∙ lt-leb MOST_CHANNELS c.count.result c.if-count-ge-MOST_CHANNELS.false in
    done_by identities _ _ _ _ (joined_now identities rooms c.args.number c.args.seq c.args.channel.now there few) (
      c.in_ok-outs.ensures ∙ welcome_is identities c.args.self.now rooms tie c.args.number c.args.seq c.args.channel.now,
      ties_joined identities c.args.self.now rooms tie c.args.number c.args.channel.now c.digits-digits.ensures.are c.join-2.new.self c.join.new.self c.in_ok-join-2.ensures.here c.in_ok-join-2.ensures.apart c.in_ok-join.ensures.here c.in_ok-join.ensures.apart,
    )

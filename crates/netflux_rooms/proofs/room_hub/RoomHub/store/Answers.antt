use Rattle.std.proofs.Common.{◌≡◌, ◌∙◌, ap, sym, refl, nat_lt, length, false}
use Rattle.std.proofs.lemmas.Bool.{le-ltb}
use Rattle.netflux_rooms.specs.Machine.{is_long}
use Rattle.netflux_rooms.specs.declared.heard.Heard.TheVariants as heard
use Rattle.netflux_rooms.specs.declared.limits.TheConstants.{LONGEST_MESSAGE}
use Rattle.netflux_rooms.proofs.Deliveries.{gives_by, stored_short}
use Rattle.netflux_rooms.proofs.room_hub.RoomHub.store.Goals as goal

pub returns : goal.returns
returns c = λ identities rooms tie.
    let short : is_long c.args.content ≡ false = ap (λ t. nat_lt LONGEST_MESSAGE (length t)) (sym c.as_str.ensures) ∙ le-ltb LONGEST_MESSAGE (length c.as_str.result.now) c.if-as_str-gt-LONGEST_MESSAGE.false in
    gives_by identities rooms _ _ (heard.Store c.args.number c.args.seq c.args.channel c.args.content) c.args.self.now (stored_short rooms c.args.number c.args.seq c.args.channel c.args.to c.args.content short) (refl, refl, refl, refl, tie)

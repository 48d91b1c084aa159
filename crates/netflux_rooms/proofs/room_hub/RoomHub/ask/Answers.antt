use Rattle.std.proofs.Common.{◌≡◌, ◌∙◌, ap, sym, refl, nat_lt, length, false}
use Rattle.std.proofs.lemmas.Bool.{le-ltb}
use Rattle.netflux_rooms.specs.Machine.{is_long}
use Rattle.netflux_rooms.specs.declared.heard.Heard.TheVariants as heard
use Rattle.netflux_rooms.specs.declared.limits.TheConstants.{LONGEST_MESSAGE}
use Rattle.netflux_rooms.proofs.Deliveries.{gives_by, asked_short}
use Rattle.netflux_rooms.proofs.room_hub.RoomHub.ask.Goals as goal

pub returns : goal.returns
returns c = λ identities rooms tie.
    let short : is_long c.args.content ≡ false = ap (λ t. nat_lt LONGEST_MESSAGE (length t)) (sym c.as_str.ensures) ∙ le-ltb LONGEST_MESSAGE (length c.as_str.result.now) c.if-as_str-gt-LONGEST_MESSAGE.false in
    gives_by identities rooms _ _ (heard.Ask c.args.number c.args.seq c.args.ask) c.args.self.now (asked_short rooms c.args.number c.args.seq c.args.to c.args.content c.args.ask short) (refl, refl, refl, tie)

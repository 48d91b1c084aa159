use Rattle.std.proofs.Common.{inl}
use Rattle.netflux_rooms.proofs.room_hub.RoomHub.hear.Goals as goal

pub returns-in_ok-outs-in-Err-Invalid : goal.returns-in_ok-outs-in-Err-Invalid
returns-in_ok-outs-in-Err-Invalid c = λ identities rooms tie.
    let invalid = c.in-Err-Invalid.ensures.invalid c.in-Err-Invalid.seq c.in-Err-Invalid.field-0-is in
    let seq = c.in-Err-Invalid.ensures.seq c.in-Err-Invalid.seq c.in-Err-Invalid.field-0-is in
    inl (invalid, c.in-Err-Invalid.seq, seq, (c.in_ok-outs-in-Err-Invalid.ensures, tie))

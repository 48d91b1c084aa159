use Rattle.netflux_rooms.proofs.Serving.{served_step}
use Rattle.netflux_rooms.proofs.room_hub.RoomHub.step.Goals as goal

pub returns-clause-served : goal.returns-clause-served
returns-clause-served c = λ w. served_step w.identities c.args.self.now w.rooms w.has w.members c.args.event c.in_ok-heard.heard c.take_event.new.self (c.in_ok-heard.ensures w.identities w.rooms w.has)

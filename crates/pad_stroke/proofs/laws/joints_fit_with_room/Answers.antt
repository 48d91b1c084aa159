use Rattle.pad_stroke.proofs.JointLaws.{joints_fit_with_room}
use Rattle.pad_stroke.proofs.laws.joints_fit_with_room.Goals as goal

pub returns : goal.returns
returns c = joints_fit_with_room

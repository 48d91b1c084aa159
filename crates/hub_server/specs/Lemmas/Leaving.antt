-- What steps leave of a volume, none or some and then some more.
use Rattle.std.proofs.Common.{ℕ, List}
use Rattle.std.proofs.Math.Nat.{le_refl, le_trans}
use Rattle.disk_volume.specs.Disk.{Disk}
use Rattle.disk_volume.specs.Moments.{still}
use Rattle.disk_volume.specs.Lemmas.Since.{grew_then}
use Rattle.hub_server.specs.Serving.{LeavesBehind}

pub leaves_none : (follows : Type 0) (faults : ℕ) (tells : Type 0) (owns : (channel file : List ℕ) → Type 0) (disk : Disk) → follows → LeavesBehind follows faults faults tells owns disk disk
leaves_none follows faults tells owns disk planned = (planned, le_refl faults, λ told. still)

pub leaves_more : (one two both : Type 0) (before mid now : ℕ) (tells : Type 0) (owns : (channel file : List ℕ) → Type 0) (old between new : Disk) → (one → two → both)
    → LeavesBehind one before mid tells owns old between → LeavesBehind two mid now tells owns between new → LeavesBehind both before now tells owns old new
leaves_more one two both before mid now tells owns old between new on first second =
    (on first.0 second.0, le_trans first.1 second.1, λ told. grew_then new (first.2 told) (second.2 told))

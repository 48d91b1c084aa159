-- A file that an image has at rest reads as it rests.
use Rattle.std.proofs.Common.{◌≡◌, ℕ, List, sym, ap, ◌∙◌}
use Rattle.disk_volume.specs.Disk.{Disk, File, file_at, at_rest, AtRest}
use Rattle.disk_volume.specs.Memory.{disk_of}
use Rattle.hub_keeper.proofs.tests.left_by.Goals as goal

rests_so : (disk : Disk) (name bytes : List ℕ) → file_at disk name ≡ at_rest bytes → AtRest disk name
rests_so disk name bytes e = e ∙ ap (λ (b : List ℕ). at_rest b) (sym (ap (λ (f : File). f.now) e))

pub returns : goal.returns
returns c = λ file. rests_so (disk_of c.in_ok-left.left) file _ (c.in_ok-left.ensures.files file)

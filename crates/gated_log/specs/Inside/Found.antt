-- What a load finds in a file.
use Rattle.std.specs.Prelude.{◌≡◌, ◌≢◌, List, ℕ, [], ◌∷◌, ◌++◌, true, Some, None}
use Rattle.disk_volume.specs.Disk.{Disk, reads}
use Rattle.log_format.specs.declared.form.Form.{Form}
use Rattle.log_format.specs.declared.layout.TheConstants.{MAGIC_SIZE}
use Rattle.log_format.specs.Damages.{damage_of}
use Rattle.log_format.specs.File.{opens}
use Rattle.log_format.specs.Form.{magic_of}
use Rattle.gated_log.specs.declared.extent.Extent.{Extent}
use Rattle.gated_log.specs.declared.loading.Found.{Found}
use Rattle.gated_log.specs.Extents.{extents}
use Rattle.gated_log.specs.Log.{HoldsFile}

-- It is how the file of this name, which is not damaged, stands on this disk, with the index of its payloads.
pub record IsFound (form : Form) (name : List ℕ) (disk : Disk) (index : List Extent) (found : Found) : Type 0 where
  pub payloads : List (List ℕ)
  pub opened : opens (magic_of form) (reads disk name) ≡ Some payloads
  pub undamaged : damage_of form (reads disk name) ≡ None
  pub indexed : index ≡ extents MAGIC_SIZE payloads
  pub held : HoldsFile form found.short name found.gate.place found.gate.byte payloads disk
  -- where it is told to be too short it is not the file of a log without entries
  pub needed : found.short ≡ true → reads disk name ≢ magic_of form ++ 0 ∷ []

use Rattle.std.proofs.Common.{rules}
use Rattle.disk_volume.specs.Inside.Step.{filled}
use Rattle.disk_volume.proofs.FolderLemmas.{changes_found, changes_none, missing_bytes, filled_nothing}
use Rattle.disk_volume.proofs.folder.Folder.tear.Goals as goal

pub returns-in-Some : goal.returns-in-Some
returns-in-Some c =
    changes_found (filled c.args.done.now.1 c.args.byte) c.args.done.now.0 c.args.self.now c.self.inside.files.items c.in-Some.place c.index_mut-held.result.now _ c.held.inside.bytes.items c.tear.new.bytes.items
    c.self.view_is (search rules) (search rules) c.held.view_is (search rules)

pub returns-in_default : goal.returns-in_default
returns-in_default c =
    changes_none c.args.done.now.0 c.args.self.now _ (search rules) (rw (missing_bytes c.args.done.now.0 c.args.self.now (search rules)) (filled_nothing c.args.done.now.1 c.args.byte))

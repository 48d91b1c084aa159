use Rattle.std.proofs.Common.{rules}
use Rattle.std.proofs.lemmas.Result.{on_ok_weaker}
use Rattle.disk_volume.specs.Step.{changed}
use Rattle.disk_volume.proofs.FolderLemmas.{changes_found, missing_bytes}
use Rattle.disk_volume.proofs.folder.Folder.apply.Goals as goal

pub returns-in-Some-clause-ok : goal.returns-in-Some-clause-ok
returns-in-Some-clause-ok c =
    on_ok_weaker c.apply.result (λ now.
    changes_found (changed c.args.done.now.1) c.args.done.now.0 c.args.self.now c.self.inside.files.items c.in-Some.place c.index_mut-held.result.now _ c.held.inside.bytes.items c.apply.new.bytes.items
    c.self.view_is (search rules) (search rules) c.held.view_is now)
    c.apply.ensures.ok

pub returns-in-None-clause-ok : goal.returns-in-None-clause-ok
returns-in-None-clause-ok c = rw (missing_bytes c.args.done.now.0 c.args.self.now (search rules)) c.add.ensures.ok

use Rattle.std.proofs.Common.{sym, ◌∙◌, ap, rules}
use Rattle.disk_volume.proofs.FolderLemmas.{found_bytes, missing_bytes}
use Rattle.disk_volume.proofs.folder.Folder.bytes.Goals as goal

pub returns-in-Some : goal.returns-in-Some
returns-in-Some c =
    c.deref.ensures.value ∙ ap (λ held. held.1) c.held.view_is
    ∙ sym (found_bytes c.args.name.now c.args.self.now c.in-Some.place c.index-held.result.now (sym c.in-Some.ensures) (search rules))

pub returns-in-None : goal.returns-in-None
returns-in-None c = sym (missing_bytes c.args.name.now c.args.self.now (sym c.in-None.ensures))

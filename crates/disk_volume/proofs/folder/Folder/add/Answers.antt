use Rattle.std.proofs.Common.{◌≡◌, ◌∙◌, [], arith, rules, sym, string_bytes}
use Rattle.std.proofs.lemmas.Grind.{common_steps}
use Rattle.std.proofs.lemmas.List.{nil_from_length}
use Rattle.disk_volume.specs.Step.{changed}
use Rattle.disk_volume.proofs.FolderLemmas.{changes_none, changes_push}
use Rattle.disk_volume.proofs.folder.Folder.add.Goals as goal

pub returns-then-is_empty-clause-ok : goal.returns-then-is_empty-clause-ok
returns-then-is_empty-clause-ok c =
    let made : c.apply.new.bytes.items ≡ changed c.args.done.now.1 [] = search rules in
    let empty : c.apply.new.bytes.items ≡ [] = nil_from_length _ (grind (arith, common_steps)) in
    changes_none c.args.done.now.0 c.args.self.now _ c.requires (sym made ∙ empty)

pub returns-clause-ok : goal.returns-clause-ok
returns-clause-ok c =
    changes_push c.args.done.now.0 c.args.self.now c.push.new.self.items (string_bytes c.in_ok-name.name) c.apply.new.bytes.items (changed c.args.done.now.1 []) c.requires (search rules) (search rules) (search rules)

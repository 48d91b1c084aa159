use Rattle.std.proofs.Common.{◌≡◌, ◌∙◌, ℕ, ◌+◌, List, [], ◌∷◌, ◌++◌, length, Some, None, bytes_eq, if◌then◌else◌, refl, sym, subst, true, false}
use Rattle.std.specs.BTreeMap.{get}
use Rattle.std.specs.Option.{option_or}
use Rattle.pad_text.specs.declared.name.Name.{Name}
use Rattle.keeper_entry.specs.declared.index.Index.{Index}
use Rattle.keeper_entry.specs.History.{is_checkpoint}
use Rattle.keeper_entry.specs.Index.{IsIndex, key_cmp}
use Rattle.keeper_entry.proofs.Pushing.{index_at}
use Rattle.keeper_entry.proofs.index.Index.add.Goals as goal
use Rattle.keeper_entry.proofs.index.Index.add.Goals.{then-is_checkpoint, else-is_checkpoint}

pub returns-clause-added : goal.returns-clause-added
returns-clause-added c = λ payloads payload is entry same.
    let content = c.args.content.now in let old = c.args.self.now in
    let P : Index → Type 0 = λ s. IsIndex (record { first = s.first; start = s.start; last = s.last; count = s.count + 1; bytes = s.bytes + (40 + length content) }) (payloads ++ payload ∷ []) in
    let Q : Name → Type 0 = λ key. (other : Name) → get key_cmp c.add_key.new.first other ≡ option_or (get key_cmp old.first other) (if bytes_eq key.0 other.0 then Some old.count else None) in
    let noted = subst Q c.key_of.ensures c.in_ok-add_key.ensures in
    elim c.if-is_checkpoint.branch [
      | then-is_checkpoint w ↦
          let yes : is_checkpoint content ≡ true = sym c.is_checkpoint.ensures ∙ w.if-is_checkpoint.true in
          subst P (sym w.self-is) (index_at old _ payloads payload content is entry same noted (rw yes w.unwrap_or-self.ensures) (rw yes refl) refl refl)
      | else-is_checkpoint w ↦
          let no : is_checkpoint content ≡ false = sym c.is_checkpoint.ensures ∙ w.if-is_checkpoint.false in
          subst P (sym w.self-is) (index_at old _ payloads payload content is entry same noted (rw no refl) (rw no refl) refl refl)
    ]

-- A table of messages with one more.
use Rattle.std.proofs.Common.{◌≡◌, List, [], Bool, true, false, is_eq, Some, IfSome, refl, sym, ap, subst}
use Rattle.std.specs.Map.{lookup}
use Rattle.std.specs.BTreeMap.{BTreeMap, get, is_at, Updates}
use Rattle.pad_text.specs.declared.name.Name.{Name}
use Rattle.pad_graph.specs.State.{name_cmp}
use Rattle.pad_branch.specs.declared.held.Held.{Held}
use Rattle.pad_branch.specs.Held.{IsHeldAs}
use Rattle.pad_branch.proofs.Marking.{name_same}

-- what is held is held at its name, where one more is held at its own
pub holds_more : (old new : BTreeMap Name Held) (name : Name) (held : Held) → Updates name_cmp old new name (Some held) → IsHeldAs name held → ((q : Name) → IfSome (get name_cmp old q) (IsHeldAs q)) → (q : Name) → IfSome (get name_cmp new q) (IsHeldAs q)
holds_more old new name held updates kept all q = go (is_eq (name_cmp name q)) refl
  where
    go : (e : Bool) → is_eq (name_cmp name q) ≡ e → IfSome (get name_cmp new q) (IsHeldAs q)
    go true e = subst (λ x. IfSome (get name_cmp new x) (IsHeldAs x)) (name_same name q e) (subst (λ o. IfSome o (IsHeldAs name)) (sym updates.1) kept)
    go false e = subst (λ o. IfSome o (IsHeldAs q)) (sym (updates.2 q e)) (all q)

-- nothing is held in a table without entries
pub holds_none : (table : BTreeMap Name Held) → table.entries ≡ [] → (q : Name) → IfSome (get name_cmp table q) (IsHeldAs q)
holds_none table none q = subst (λ o. IfSome o (IsHeldAs q)) (sym (ap (λ (entries : List (Name × Held)). lookup (is_at (name_cmp q)) entries) none)) tt

use Rattle.std.proofs.Common.{◌∷◌, refl, sym, ap, ◌∙◌, subst, arith}
use Rattle.std.specs.BTreeMap.{get, is_at}
use Rattle.pad_text.specs.declared.name.Name.{Name}
use Rattle.pad_graph.specs.declared.last.Last.{Last}
use Rattle.pad_graph.specs.declared.node.Mark.TheVariants.{Waiting}
use Rattle.pad_graph.specs.Inside.Tables.{marked}
use Rattle.pad_graph.specs.State.{state_of, name_cmp}
use Rattle.pad_graph.specs.Inside.Fields.{tables_of}
use Rattle.pad_graph.specs.Graph.{Stands}
use Rattle.pad_graph.proofs.Undone.{last_parent, last_known, undone, undone_links}
use Rattle.pad_graph.proofs.Fields.{names_listed, undoes_by, same_last}
use Rattle.pad_graph.proofs.graph.Graph.undo_add.Goals as goal

pub overflow_sub-self : goal.overflow_sub-self
overflow_sub-self c =
    let v = c.self.invariant in
    last_known (state_of (tables_of c.self.inside)) (state_of (tables_of c.self.inside)) v.base v.links v.root c.in-Some.last c.in-Some.is v.stands

pub invariant_of-self : goal.invariant_of-self
invariant_of-self c =
    let i = c.self.inside in
    let v = c.self.invariant in
    let last : Last = c.in-Some.last in
    let same = same_last (state_of c.args.self.now) last c.args.name.now (ap (λ t. (state_of t).last) (sym c.self.view_is) ∙ c.in-Some.is) c.requires in
    let l = v.stands.undo last c.in-Some.is in
    let parent = last_parent (state_of (tables_of i)) (state_of (tables_of i)) v.base v.links v.root last c.in-Some.is v.stands c.args.name.now c.parent_of-parent.result same c.parent_of-parent.ensures in
    let child = c.remove_child.ensures l.before last.name (sym (names_listed (is_at (name_cmp c.parent_of-parent.result)) i.children.entries) ∙ ap (λ p. (state_of (tables_of i)).children p) parent ∙ l.child) in
    let some = last_known (state_of (tables_of i)) (state_of (tables_of i)) v.base v.links v.root last c.in-Some.is v.stands in
    let marks = λ (q : Name). c.mark_all.ensures q ∙ ap (λ ls. marked Waiting (get name_cmp i.nodes) ls q) c.as_slice.ensures.value in
    let u = undoes_by i.nodes c.mark_all.new.nodes c.remove.new.self i.children c.remove_child.new.children i.root i.known i.waiting i.kept i.last i.linked.items c.clear.new.self.items i.dropped.items last c.args.name.now c.parent_of-parent.result same some marks c.remove.ensures.updates child in
    record {
      base = v.base;
      links = l.older;
      root = v.root;
      stands = undone (state_of (tables_of i)) _ v.base v.links v.root last c.in-Some.is v.stands c.parent_of-parent.result parent u;
      few = omega (arith, v.few);
    }

pub returns : goal.returns
returns c base link links root h =
    let i = c.self.inside in
    let was = subst (λ t. Stands (state_of t) base (link ∷ links) root) (sym c.self.view_is) h in
    let last : Last = c.in-Some.last in
    let same = same_last (state_of c.args.self.now) last c.args.name.now (ap (λ t. (state_of t).last) (sym c.self.view_is) ∙ c.in-Some.is) c.requires in
    let l = was.undo last c.in-Some.is in
    let parent = last_parent (state_of (tables_of i)) (state_of (tables_of i)) base (link ∷ links) root last c.in-Some.is was c.args.name.now c.parent_of-parent.result same c.parent_of-parent.ensures in
    let child = c.remove_child.ensures l.before last.name (sym (names_listed (is_at (name_cmp c.parent_of-parent.result)) i.children.entries) ∙ ap (λ p. (state_of (tables_of i)).children p) parent ∙ l.child) in
    let some = last_known (state_of (tables_of i)) (state_of (tables_of i)) base (link ∷ links) root last c.in-Some.is was in
    let marks = λ (q : Name). c.mark_all.ensures q ∙ ap (λ ls. marked Waiting (get name_cmp i.nodes) ls q) c.as_slice.ensures.value in
    let u = undoes_by i.nodes c.mark_all.new.nodes c.remove.new.self i.children c.remove_child.new.children i.root i.known i.waiting i.kept i.last i.linked.items c.clear.new.self.items i.dropped.items last c.args.name.now c.parent_of-parent.result same some marks c.remove.ensures.updates child in
    undone_links (state_of (tables_of i)) _ base (link ∷ links) root last c.in-Some.is was link links refl c.parent_of-parent.result parent u

use Rattle.std.proofs.Common.{◌++◌, ◌∷◌, List, length, sym, ap, ◌∙◌, subst, arith}
use Rattle.pad_graph.specs.declared.linking.Linking.{Linking}
use Rattle.pad_graph.specs.Chain.{Link}
use Rattle.pad_graph.specs.State.{Tables, state_of}
use Rattle.pad_graph.specs.Graph.{Stands}
use Rattle.pad_graph.specs.Inside.Fields.{tables_of}
use Rattle.pad_graph.proofs.Growth.{room, enters}
use Rattle.pad_graph.proofs.Fields.{same_state, waiting_small, kept_small, kept_by_small, enters_by, fresh_by}
use Rattle.pad_graph.proofs.graph.Graph.enter.Goals as goal

pub invariant_of-self : goal.invariant_of-self
invariant_of-self c =
    let i = c.self.inside in
    let same = same_state i.nodes c.hold.new.nodes i.children c.hold.new.children i.root i.known i.waiting i.kept i.last i.linked.items i.dropped.items c.in-Err.ensures.same_nodes c.in-Err.ensures.same_names in
    let v = c.self.invariant in
    record { base = v.base; links = v.links; root = v.root; stands = subst (λ s. Stands s v.base v.links v.root) (sym same) v.stands; few = v.few }

pub returns-in-Err-clause-err : goal.returns-in-Err-clause-err
returns-in-Err-clause-err c =
    let i = c.self.inside in
    same_state i.nodes c.hold.new.nodes i.children c.hold.new.children i.root i.known i.waiting i.kept i.last i.linked.items i.dropped.items c.in-Err.ensures.same_nodes c.in-Err.ensures.same_names ∙ ap state_of c.self.view_is

pub overflow_add-self-2 : goal.overflow_add-self-2
overflow_add-self-2 c =
    let v = c.self.invariant in
    omega (arith, waiting_small (state_of (tables_of c.self.inside)) v.base v.links v.root v.stands, v.few)

pub overflow_sub-self : goal.overflow_sub-self
overflow_sub-self c =
    let v = c.self.invariant in
    let s = state_of (tables_of c.self.inside) in
    let link : Link = record { name = c.args.name; parent = c.args.parent } in
    let f = c.requires.found v.base v.links v.root (subst (λ t. Stands (state_of t) v.base v.links v.root) c.self.view_is v.stands) in
    let fresh = fresh_by (state_of c.args.self.now) v.base v.links v.root c.args.name (subst (λ t. Stands (state_of t) v.base v.links v.root) c.self.view_is v.stands) c.requires.new in
    room s s v.base v.links v.root link c.args.mark c.args.found.now v.stands fresh f

pub overflow_add-self-3 : goal.overflow_add-self-3
overflow_add-self-3 c =
    let v = c.self.invariant in
    let s = state_of (tables_of c.self.inside) in
    let link : Link = record { name = c.args.name; parent = c.args.parent } in
    let now = subst (λ t. Stands (state_of t) v.base v.links v.root) c.self.view_is v.stands in
    let many = room s s v.base v.links v.root link c.args.mark c.args.found.now v.stands (fresh_by (state_of c.args.self.now) v.base v.links v.root c.args.name now c.requires.new) (c.requires.found v.base v.links v.root now) in
    omega (arith, many, waiting_small s v.base v.links v.root v.stands, kept_small s v.base v.links v.root v.stands, v.few, kept_by_small c.args.mark (length c.args.found.now), c.many_kept.ensures)

pub invariant_of-self-2 : goal.invariant_of-self-2
invariant_of-self-2 c =
    let i = c.self.inside in
    let v = c.self.invariant in
    let link : Link = record { name = c.args.name; parent = c.args.parent } in
    let linked = c.in_ok-extend_from_slice.ensures.items ∙ ap (λ (ls : List Linking). ls ++ c.args.found.now) c.new-linked.ensures.items in
    let e = enters_by i.nodes c.hold.new.nodes c.mark_all.new.nodes i.children c.hold.new.children i.root i.known i.waiting i.kept c.many_kept.result i.last i.linked.items c.extend_from_slice.new.self.items i.dropped.items c.args.found.now link c.args.mark c.in-Ok.ensures.node c.in-Ok.ensures.child c.mark_all.ensures c.many_kept.ensures linked in
    let now = subst (λ t. Stands (state_of t) v.base v.links v.root) c.self.view_is v.stands in
    record {
      base = v.base;
      links = link ∷ v.links;
      root = v.root;
      stands = enters (state_of (tables_of i)) _ v.base v.links v.root link c.args.mark c.args.found.now v.stands (fresh_by (state_of c.args.self.now) v.base v.links v.root c.args.name now c.requires.new) (c.requires.found v.base v.links v.root now) e;
      few = omega (arith, c.requires.room, ap (λ (t : Tables). t.known) c.self.view_is);
    }

pub returns-clause-ok : goal.returns-clause-ok
returns-clause-ok c base links root h =
    let i = c.self.inside in
    let link : Link = record { name = c.args.name; parent = c.args.parent } in
    let linked = c.in_ok-extend_from_slice.ensures.items ∙ ap (λ (ls : List Linking). ls ++ c.args.found.now) c.new-linked.ensures.items in
    let e = enters_by i.nodes c.hold.new.nodes c.mark_all.new.nodes i.children c.hold.new.children i.root i.known i.waiting i.kept c.many_kept.result i.last i.linked.items c.extend_from_slice.new.self.items i.dropped.items c.args.found.now link c.args.mark c.in-Ok.ensures.node c.in-Ok.ensures.child c.mark_all.ensures c.many_kept.ensures linked in
    let was = subst (λ t. Stands (state_of t) base links root) (sym c.self.view_is) h in
    enters (state_of (tables_of i)) _ base links root link c.args.mark c.args.found.now was (fresh_by (state_of c.args.self.now) base links root c.args.name h c.requires.new) (c.requires.found base links root h) e

use Rattle.std.proofs.Common.{◌+◌, [], ◌∷◌, map, sym, ap, subst, arith}
use Rattle.pad_graph.specs.State.{state_of, standing}
use Rattle.pad_graph.specs.Inside.Fields.{tables_of}
use Rattle.pad_graph.specs.declared.linking.Linking.{Linking}
use Rattle.pad_graph.specs.Graph.{AreFound, Stands}
use Rattle.pad_graph.proofs.Starting.{under_small}
use Rattle.pad_graph.proofs.Branches.{forest, found_on}
use Rattle.pad_graph.proofs.Chains.{link_name}
use Rattle.pad_graph.proofs.Fields.{fresh_by, hanging_listed, forest_listed}
use Rattle.pad_graph.proofs.Sorting.{sorted_hanging}
use Rattle.pad_list.proofs.CallerLemmas.{contains_map}
use Rattle.pad_graph.proofs.Spreading.{name_of}
use Rattle.pad_graph.specs.Added.{HasName}
use Rattle.pad_graph.proofs.graph.Graph.link.Goals as goal
use Rattle.pad_graph.specs.Inside.Marks.{IsUnder}

pub overflow_add-first : goal.overflow_add-first
overflow_add-first c =
    let v = c.self.invariant in
    let now = subst (λ t. Stands (state_of t) v.base v.links v.root) c.self.view_is v.stands in
    omega (arith, under_small (state_of c.args.self.now) v.base v.links v.root now c.args.mark c.args.height c.args.parent c.requires.under, ap (λ t. (state_of t).known) c.self.view_is, v.few)

pub hanging-requires : goal.hanging-requires
hanging-requires c =
    let v = c.self.invariant in
    let now = subst (λ t. Stands (state_of t) v.base v.links v.root) c.self.view_is v.stands in
    omega (arith, under_small (state_of c.args.self.now) v.base v.links v.root now c.args.mark c.args.height c.args.parent c.requires.under, ap (λ t. (state_of t).known) c.self.view_is, v.few)

pub enter-requires-clause-found : goal.enter-requires-clause-found
enter-requires-clause-found c base links root h =
    let i = c.self.inside in
    let was = subst (λ t. Stands (state_of t) base links root) (sym c.self.view_is) h in
    let under = subst (λ t. IsUnder c.args.mark c.args.height (standing (state_of t) c.args.parent)) (sym c.self.view_is) c.requires.under in
    let fresh = fresh_by (state_of c.args.self.now) base links root c.args.name h c.requires.new in
    let first : Linking = record { height = c.args.height + 1; name = c.args.name } in
    let found = c.in_ok-found.ensures (c.args.name ∷ map link_name links) (forest_listed i.children c.args.name c.args.name _ _ (forest (state_of (tables_of i)) base links root was c.args.name c.args.parent fresh)) in
    let hangs = hanging_listed i.children first c.args.name c.sort.new.self.items (sorted_hanging _ first c.args.name c.in_ok-found.found.items c.sort.new.self.items c.in_ok-sort.ensures.permutation found) in
    subst (AreFound base links root (record { name = c.args.name; parent = c.args.parent }) c.args.mark) (sym c.as_slice.ensures.value)
    (found_on (state_of (tables_of i)) base links root was c.args.name c.args.parent fresh c.args.mark c.args.height c.sort.new.self.items under hangs)

pub returns-clause-ok : goal.returns-clause-ok
returns-clause-ok c base links root h =
    let i = c.self.inside in
    let was = subst (λ t. Stands (state_of t) base links root) (sym c.self.view_is) h in
    let under = subst (λ t. IsUnder c.args.mark c.args.height (standing (state_of t) c.args.parent)) (sym c.self.view_is) c.requires.under in
    let fresh = fresh_by (state_of c.args.self.now) base links root c.args.name h c.requires.new in
    let first : Linking = record { height = c.args.height + 1; name = c.args.name } in
    let found = c.in_ok-found.ensures (c.args.name ∷ map link_name links) (forest_listed i.children c.args.name c.args.name _ _ (forest (state_of (tables_of i)) base links root was c.args.name c.args.parent fresh)) in
    let hangs = hanging_listed i.children first c.args.name c.sort.new.self.items (sorted_hanging _ first c.args.name c.in_ok-found.found.items c.sort.new.self.items c.in_ok-sort.ensures.permutation found) in (
      subst (AreFound base links root (record { name = c.args.name; parent = c.args.parent }) c.args.mark) (sym c.new.ensures)
          (found_on (state_of (tables_of i)) base links root was c.args.name c.args.parent fresh c.args.mark c.args.height c.sort.new.self.items under hangs),
      c.in_ok-enter.ensures.ok base links root h,
    )

-- it is the first of those that hang on it
pub returns-clause-itself : goal.returns-clause-itself
returns-clause-itself c =
    let i = c.self.inside in
    let v = c.self.invariant in
    let now = subst (λ t. Stands (state_of t) v.base v.links v.root) c.self.view_is v.stands in
    let fresh = fresh_by (state_of c.args.self.now) v.base v.links v.root c.args.name now c.requires.new in
    let first : Linking = record { height = c.args.height + 1; name = c.args.name } in
    let found = c.in_ok-found.ensures (c.args.name ∷ map link_name v.links) (forest_listed i.children c.args.name c.args.name _ _ (forest (state_of (tables_of i)) v.base v.links v.root v.stands c.args.name c.args.parent fresh)) in
    let hangs = sorted_hanging _ first c.args.name c.in_ok-found.found.items c.sort.new.self.items c.in_ok-sort.ensures.permutation found in
    subst (λ linkings. HasName linkings c.args.name) (sym c.new.ensures) (contains_map name_of c.sort.new.self.items _ (hangs.every [] tt))

use Rattle.std.proofs.Common.{◌≡◌, ◌≢◌, zero, suc, ℕ, ◌-◌, ◌<◌, List, [], cond, refl, sym, ap, ◌∙◌, subst, arith}
use Rattle.std.specs.BTreeMap.{get}
use Rattle.pad_text.specs.declared.name.Name.{Name}
use Rattle.pad_graph.specs.declared.node.Mark.TheVariants.{Gone}
use Rattle.pad_list.specs.Number.{IsNumberOf}
use Rattle.pad_graph.specs.Inside.Tables.{names_in, marked, is_among}
use Rattle.pad_graph.specs.State.{state_of, standing, IsHeld, name_cmp}
use Rattle.pad_graph.specs.Inside.Fields.{tables_of}
use Rattle.pad_graph.specs.Graph.{Stands, AreDropped, IsDropped}
use Rattle.pad_graph.specs.Inside.Hanging.{AreHanging}
use Rattle.pad_graph.proofs.Names.{name_yes, name_no}
use Rattle.pad_graph.proofs.Fields.{forest_listed, hanging_listed, drops_by, kept_small}
use Rattle.pad_graph.proofs.Dropping.{root_height, root_small, one_root, none_dropped, no_message, forest, are_dropped, first_found, fits, drops, with_base, without_base, other_dropped, held_chain}
use Rattle.pad_graph.proofs.graph.Graph.keep_from.Goals as goal

pub returns-then-eq-clause-stands : goal.returns-then-eq-clause-stands
returns-then-eq-clause-stands c base links below names h chain at =
    let i = c.self.inside in
    let s = state_of (tables_of i) in
    let was = subst (λ t. Stands (state_of t) base links below) (sym c.self.view_is) h in
    let held = subst (λ t. IsHeld (standing (state_of t) c.args.root.now)) (sym c.self.view_is) c.requires in
    let same = name_yes c.args.root.now i.root c.if-eq.ensures in
    subst (Stands _ base links) (sym (one_root s base links below was names c.args.root.now chain at held same)) (other_dropped s base links below c.clear.new.self.items was)

pub returns-then-eq-clause-dropped : goal.returns-then-eq-clause-dropped
returns-then-eq-clause-dropped c base links below names h chain at =
    let i = c.self.inside in
    let s = state_of (tables_of i) in
    let was = subst (λ t. Stands (state_of t) base links below) (sym c.self.view_is) h in
    let held = subst (λ t. IsHeld (standing (state_of t) c.args.root.now)) (sym c.self.view_is) c.requires in
    let same = name_yes c.args.root.now i.root c.if-eq.ensures in
    subst (AreDropped base links below names) (sym c.clear.ensures.items) (none_dropped s base links below was names c.args.root.now chain at held same)

pub returns-then-eq-clause-many : goal.returns-then-eq-clause-many
returns-then-eq-clause-many c base links below names h chain at =
    let i = c.self.inside in
    let s = state_of (tables_of i) in
    let was = subst (λ t. Stands (state_of t) base links below) (sym c.self.view_is) h in
    let held = subst (λ t. IsHeld (standing (state_of t) c.args.root.now)) (sym c.self.view_is) c.requires in
    let same = name_yes c.args.root.now i.root c.if-eq.ensures in
    no_message s base links below was names c.args.root.now chain at held same

pub hanging-requires : goal.hanging-requires
hanging-requires c =
    let s = state_of (tables_of c.self.inside) in
    let v = c.self.invariant in
    omega (arith, c.height_of-height.ensures ∙ root_height s v.base v.links v.root v.stands, root_small s v.base v.links v.root v.stands, kept_small s v.base v.links v.root v.stands, v.few)

pub without_base-messages-requires : goal.without_base-messages-requires
without_base-messages-requires c =
    let i = c.self.inside in
    let s = state_of (tables_of i) in
    let v = c.self.invariant in
    let held = subst (λ t. IsHeld (standing (state_of t) c.args.root.now)) (sym c.self.view_is) c.requires in
    let (names, chain, at) = held_chain s v.base v.links v.root c.args.root.now v.stands held in
    let rises = name_no c.args.root.now i.root c.if-eq.ensures in
    let high = c.height_of-height.ensures ∙ root_height s v.base v.links v.root v.stands in
    let hangs = subst (λ n. AreHanging s.children (record { height = n; name = i.root }) c.args.root.now c.in_ok-found.found.items) high (hanging_listed i.children (record { height = c.height_of-height.result; name = i.root }) c.args.root.now c.in_ok-found.found.items (c.in_ok-found.ensures (v.stands).kept.all (forest_listed i.children i.root c.args.root.now _ _ (forest s v.base v.links v.root v.stands names c.args.root.now chain at held rises)))) in
    omega (arith, first_found s v.base v.links v.root v.stands names c.args.root.now chain at held rises c.in_ok-found.found.items hangs, c.len-many.ensures, c.in_ok-found.found.ok.0)

pub overflow_sub-self : goal.overflow_sub-self
overflow_sub-self c =
    let i = c.self.inside in
    let s = state_of (tables_of i) in
    let v = c.self.invariant in
    let held = subst (λ t. IsHeld (standing (state_of t) c.args.root.now)) (sym c.self.view_is) c.requires in
    let (names, chain, at) = held_chain s v.base v.links v.root c.args.root.now v.stands held in
    let rises = name_no c.args.root.now i.root c.if-eq.ensures in
    let high = c.height_of-height.ensures ∙ root_height s v.base v.links v.root v.stands in
    let hangs = subst (λ n. AreHanging s.children (record { height = n; name = i.root }) c.args.root.now c.in_ok-found.found.items) high (hanging_listed i.children (record { height = c.height_of-height.result; name = i.root }) c.args.root.now c.in_ok-found.found.items (c.in_ok-found.ensures (v.stands).kept.all (forest_listed i.children i.root c.args.root.now _ _ (forest s v.base v.links v.root v.stands names c.args.root.now chain at held rises)))) in
    omega (arith, fits s v.base v.links v.root v.stands names c.args.root.now chain at held rises c.in_ok-found.found.items hangs, c.len-many.ensures, c.in_ok-found.found.ok.0)

pub invariant_of-self-2 : goal.invariant_of-self-2
invariant_of-self-2 c =
    let i = c.self.inside in
    let s = state_of (tables_of i) in
    let v = c.self.invariant in
    let held = subst (λ t. IsHeld (standing (state_of t) c.args.root.now)) (sym c.self.view_is) c.requires in
    let (names, chain, at) = held_chain s v.base v.links v.root c.args.root.now v.stands held in
    let rises = name_no c.args.root.now i.root c.if-eq.ensures in
    let high = c.height_of-height.ensures ∙ root_height s v.base v.links v.root v.stands in
    let hangs = subst (λ n. AreHanging s.children (record { height = n; name = i.root }) c.args.root.now c.in_ok-found.found.items) high (hanging_listed i.children (record { height = c.height_of-height.result; name = i.root }) c.args.root.now c.in_ok-found.found.items (c.in_ok-found.ensures (v.stands).kept.all (forest_listed i.children i.root c.args.root.now _ _ (forest s v.base v.links v.root v.stands names c.args.root.now chain at held rises)))) in
    let marks = λ (q : Name). c.mark_all.ensures q ∙ ap (λ ls. marked Gone (get name_cmp i.nodes) ls q) c.as_slice.ensures.value in
    let forgot = subst (λ ls. (q : Name) → names_in (get name_cmp c.forget_all.new.children q) ≡ cond {A = List Name} (is_among ls q) [] (names_in (get name_cmp i.children q))) c.as_slice-2.ensures.value c.forget_all.ensures in
    let d = drops_by i.nodes c.mark_all.new.nodes i.children c.forget_all.new.children i.root c.args.root.now i.known i.waiting i.kept c.len-many.result i.last i.linked.items c.clear-2.new.self.items i.dropped.items c.in_ok-found.found.items marks forgot (c.len-many.ensures ∙ c.in_ok-found.found.ok.0) in
    record { base = v.base; links = v.links; root = names; stands = drops s v.base v.links v.root v.stands names c.args.root.now chain at held rises c.in_ok-found.found.items hangs _ d; few = v.few }

pub returns-clause-stands : goal.returns-clause-stands
returns-clause-stands c base links below names h chain at =
    let i = c.self.inside in
    let s = state_of (tables_of i) in
    let was = subst (λ t. Stands (state_of t) base links below) (sym c.self.view_is) h in
    let held = subst (λ t. IsHeld (standing (state_of t) c.args.root.now)) (sym c.self.view_is) c.requires in
    let rises = name_no c.args.root.now i.root c.if-eq.ensures in
    let high = c.height_of-height.ensures ∙ root_height s base links below was in
    let hangs = subst (λ n. AreHanging s.children (record { height = n; name = i.root }) c.args.root.now c.in_ok-found.found.items) high (hanging_listed i.children (record { height = c.height_of-height.result; name = i.root }) c.args.root.now c.in_ok-found.found.items (c.in_ok-found.ensures (was).kept.all (forest_listed i.children i.root c.args.root.now _ _ (forest s base links below was names c.args.root.now chain at held rises)))) in
    let marks = λ (q : Name). c.mark_all.ensures q ∙ ap (λ ls. marked Gone (get name_cmp i.nodes) ls q) c.as_slice.ensures.value in
    let forgot = subst (λ ls. (q : Name) → names_in (get name_cmp c.forget_all.new.children q) ≡ cond {A = List Name} (is_among ls q) [] (names_in (get name_cmp i.children q))) c.as_slice-2.ensures.value c.forget_all.ensures in
    let d = drops_by i.nodes c.mark_all.new.nodes i.children c.forget_all.new.children i.root c.args.root.now i.known i.waiting i.kept c.len-many.result i.last i.linked.items c.clear-2.new.self.items i.dropped.items c.in_ok-found.found.items marks forgot (c.len-many.ensures ∙ c.in_ok-found.found.ok.0) in
    drops s base links below was names c.args.root.now chain at held rises c.in_ok-found.found.items hangs _ d

pub returns-clause-dropped : goal.returns-clause-dropped
returns-clause-dropped c base links below names h chain at =
    let i = c.self.inside in
    let s = state_of (tables_of i) in
    let was = subst (λ t. Stands (state_of t) base links below) (sym c.self.view_is) h in
    let held = subst (λ t. IsHeld (standing (state_of t) c.args.root.now)) (sym c.self.view_is) c.requires in
    let rises = name_no c.args.root.now i.root c.if-eq.ensures in
    let high = c.height_of-height.ensures ∙ root_height s base links below was in
    let hangs = subst (λ n. AreHanging s.children (record { height = n; name = i.root }) c.args.root.now c.in_ok-found.found.items) high (hanging_listed i.children (record { height = c.height_of-height.result; name = i.root }) c.args.root.now c.in_ok-found.found.items (c.in_ok-found.ensures (was).kept.all (forest_listed i.children i.root c.args.root.now _ _ (forest s base links below was names c.args.root.now chain at held rises)))) in
    are_dropped s base links below was names c.args.root.now chain at held rises c.in_ok-found.found.items hangs

messages : (P : ℕ → Type 0) (height many result : ℕ) → (height ≡ 0 → result ≡ many - 1) → (0 < height → result ≡ many) → (height ≡ 0 → P (many - 1)) → (height ≢ 0 → P many) → P result
messages P zero many result e f p q = subst P (sym (e refl)) (p refl)
messages P (suc height) many result e f p q = subst P (sym (f (omega arith))) (q (omega arith))

pub returns-clause-many : goal.returns-clause-many
returns-clause-many c base links below names h chain at =
    let i = c.self.inside in
    let s = state_of (tables_of i) in
    let was = subst (λ t. Stands (state_of t) base links below) (sym c.self.view_is) h in
    let held = subst (λ t. IsHeld (standing (state_of t) c.args.root.now)) (sym c.self.view_is) c.requires in
    let rises = name_no c.args.root.now i.root c.if-eq.ensures in
    let high = c.height_of-height.ensures ∙ root_height s base links below was in
    let hangs = subst (λ n. AreHanging s.children (record { height = n; name = i.root }) c.args.root.now c.in_ok-found.found.items) high (hanging_listed i.children (record { height = c.height_of-height.result; name = i.root }) c.args.root.now c.in_ok-found.found.items (c.in_ok-found.ensures (was).kept.all (forest_listed i.children i.root c.args.root.now _ _ (forest s base links below was names c.args.root.now chain at held rises)))) in
    let found = c.in_ok-found.found.items in
    let len = c.len-many.ensures ∙ c.in_ok-found.found.ok.0 in
    messages (IsNumberOf (IsDropped base links below names)) c.height_of-height.result c.len-many.result c.without_base-messages.result c.without_base-messages.ensures.base c.without_base-messages.ensures.message
    (λ e. subst (λ n. IsNumberOf (IsDropped base links below names) (n - 1)) (sym len) (with_base s base links below was names c.args.root.now chain at held rises found hangs (sym high ∙ e)))
    (λ e. subst (IsNumberOf (IsDropped base links below names)) (sym len) (without_base s base links below was names c.args.root.now chain at held rises found hangs (λ z. e (high ∙ z))))

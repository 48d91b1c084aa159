use Rattle.std.proofs.Common.{◌++◌, [], take, get_or, add-one, sym, ap, ◌∙◌}
use Rattle.std.proofs.Math.Seq.{take-suc}
use Rattle.pad_text.specs.declared.name.Name.{Name}
use Rattle.pad_graph.specs.Inside.Hanging.{linkings_of}
use Rattle.pad_graph.proofs.Names.{name_yes, name_no, name_equal, name_differs}
use Rattle.pad_graph.proofs.Loops.{names_skip, names_add}
use Rattle.pad_graph.proofs.hanging.with_names.Goals as goal

pub loop-name-preserved-then-eq : goal.loop-name-preserved-then-eq
loop-name-preserved-then-eq c =
    let none : Name = record { 0 = [] } in
    let name : Name = get_or c.args.names.now c.loop-name.name-index none in
    let turn = ap (λ k. take k c.args.names.now) (add-one c.loop-name.name-index) ∙ take-suc c.args.names.now c.loop-name.name-index none c.loop-name-test.true in
    names_skip c.args.stop.now c.args.height c.args.found.items c.loop-name.found.items (take c.loop-name.name-index c.args.names.now) name c.loop-name.invariant (name_equal name c.args.stop.now (name_yes name c.args.stop.now c.if-eq.ensures))
    ∙ ap (λ ns. c.args.found.items ++ linkings_of c.args.stop.now c.args.height ns) (sym turn)

pub loop-name-preserved : goal.loop-name-preserved
loop-name-preserved c =
    let none : Name = record { 0 = [] } in
    let name : Name = get_or c.args.names.now c.loop-name.name-index none in
    let turn = ap (λ k. take k c.args.names.now) (add-one c.loop-name.name-index) ∙ take-suc c.args.names.now c.loop-name.name-index none c.loop-name-test.true in
    names_add c.args.stop.now c.args.height c.args.found.items c.loop-name.found.items (take c.loop-name.name-index c.args.names.now) name c.loop-name.invariant c.push.new.self.items (name_differs name c.args.stop.now (name_no name c.args.stop.now c.if-eq.ensures)) c.in_ok-push.ensures.items
    ∙ ap (λ ns. c.args.found.items ++ linkings_of c.args.stop.now c.args.height ns) (sym turn)

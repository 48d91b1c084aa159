use Rattle.std.proofs.Common.{◌<◌, ◌++◌, ◌∷◌, [], List, length, add-one, sym, ap, ◌∙◌, subst, arith}
use Rattle.std.specs.BTreeMap.{get}
use Rattle.pad_graph.specs.declared.linking.Linking.{Linking}
use Rattle.pad_graph.specs.Inside.Tables.{names_in}
use Rattle.pad_graph.proofs.Spreading.{At, at_place, at_contains, low_on, low_start, spreads_start, spreads_on, spreads_done, spreads_end}
use Rattle.pad_graph.proofs.hanging.hanging.Goals as goal
use Rattle.pad_graph.specs.State.{name_cmp}

pub loop-at-init : goal.loop-at-init
loop-at-init c =
    let one = c.in_ok-push.ensures.items ∙ ap (λ (ls : List Linking). ls ++ c.args.first ∷ []) c.new-found.ensures.items in
    record {
      low = low_start c.args.first c.push.new.self.items one;
      spreads = λ all f. spreads_start (λ name. names_in (get name_cmp c.args.children.now name)) c.args.first c.args.stop.now all c.args.limit f c.push.new.self.items one;
    }

pub returns-then-at-len : goal.returns-then-at-len
returns-then-at-len c all f =
    spreads_done (λ name. names_in (get name_cmp c.args.children.now name)) c.args.first c.args.stop.now all c.args.limit f c.loop-at.found.items c.loop-at.at (c.loop-at.invariant.spreads all f)
    (omega (arith, c.if-at-len.true, c.len.ensures, c.loop-at.found.ok.0))

pub overflow_add-linking : goal.overflow_add-linking
overflow_add-linking c =
    let within : c.loop-at.at < length c.loop-at.found.items = omega (arith, c.if-at-len.false, c.len.ensures, c.loop-at.found.ok.0) in
    let here : At c.loop-at.found.items c.loop-at.at c.index.result.now = subst (At c.loop-at.found.items c.loop-at.at) (sym c.index.ensures) (at_place c.loop-at.found.items c.loop-at.at c.index.result.now within) in
    let low = c.loop-at.invariant.low c.index.result.now (at_contains c.loop-at.found.items c.loop-at.at c.index.result.now here) in
    omega (arith, low, c.loop-at-test.true, c.requires)

pub loop-at-preserved : goal.loop-at-preserved
loop-at-preserved c =
    let within : c.loop-at.at < length c.loop-at.found.items = omega (arith, c.if-at-len.false, c.len.ensures, c.loop-at.found.ok.0) in
    let here : At c.loop-at.found.items c.loop-at.at c.index.result.now = subst (At c.loop-at.found.items c.loop-at.at) (sym c.index.ensures) (at_place c.loop-at.found.items c.loop-at.at c.index.result.now within) in
    rw (c.in_ok-found.ensures, c.names_of-names.ensures, add-one c.loop-at.at) (record {
      low = low_on c.args.first.height c.loop-at.found.items c.loop-at.at c.index.result.now c.args.stop.now _ c.loop-at.invariant.low (at_contains c.loop-at.found.items c.loop-at.at c.index.result.now here);
      spreads = λ all f. spreads_on (λ name. names_in (get name_cmp c.args.children.now name)) c.args.first c.args.stop.now all c.args.limit f c.loop-at.found.items c.loop-at.at (c.loop-at.invariant.spreads all f) c.index.result.now here;
    })

pub returns : goal.returns
returns c all f = spreads_end (λ name. names_in (get name_cmp c.args.children.now name)) c.args.first c.args.stop.now all c.args.limit f c.loop-at.found.items c.loop-at.at (c.loop-at.invariant.spreads all f) (omega (arith, c.loop-at-test.false))

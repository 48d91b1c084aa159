use Rattle.std.proofs.Common.{◌≡◌, ◌∷◌, sym, ◌∙◌, ap, arith, drop, length}
use Rattle.std.proofs.lemmas.List.{drop_all}
use Rattle.pad_patch.specs.UnitStore.{replaced}
use Rattle.pad_patch.proofs.Copies.{copy_from, text_after-copy, copy_from-none, copy_from-replaced, IsRange-copy_from, turn}
use Rattle.pad_patch.proofs.patch.Patch.apply.Goals as goal

pub replace-requires : goal.replace-requires
replace-requires g c =
    let text = g.S.UnitStore.units c.args.text.now in
    let ops = c.as_slice-ops.result.now in
    let operation = c.index-ops-index.result in
    let t = turn c.args.self.now text ops c.loop-index.index operation c.requires c.as_slice-ops.ensures c.loop-index-test.true c.loop-index.auto.index c.index-ops-index.is in
    rw (c.start.ensures, c.end.ensures, c.loop-index.invariant)
    (IsRange-copy_from text operation (drop c.loop-index.index ops) (g.met.S.UnitStore.is_text c.args.text.now) t.next)

pub loop-index-preserved : goal.loop-index-preserved
loop-index-preserved g c =
    let text = g.S.UnitStore.units c.args.text.now in
    let ops = c.as_slice-ops.result.now in
    let operation = c.index-ops-index.result in
    let later = drop c.loop-index.index ops in
    let t = turn c.args.self.now text ops c.loop-index.index operation c.requires c.as_slice-ops.ensures c.loop-index-test.true c.loop-index.auto.index c.index-ops-index.is in
    let step : replaced c.start.result c.end.result operation.insert (g.S.UnitStore.units c.loop-index.after) ≡ copy_from text 0 (operation ∷ later) =
    rw (c.start.ensures, c.end.ensures, c.loop-index.invariant) (sym (copy_from-replaced text operation later t.next)) in
    c.in_ok-replace.ensures.ok ∙ step ∙ sym (ap (copy_from text 0) t.split)

pub loop-index-init : goal.loop-index-init
loop-index-init g c =
    let text = g.S.UnitStore.units c.args.text.now in
    let ops = c.as_slice-ops.result.now in
    c.in_ok-after.ensures ∙ sym (copy_from-none text) ∙ sym (ap (copy_from text 0) (drop_all (length ops) ops (omega arith)))

pub returns : goal.returns
returns g c =
    let text = g.S.UnitStore.units c.args.text.now in
    let ops = c.as_slice-ops.result.now in
    let all : c.loop-index.index ≡ 0 = omega arith in
    c.loop-index.invariant ∙ ap (λ n. copy_from text 0 (drop n ops)) all ∙ ap (copy_from text 0) c.as_slice-ops.ensures ∙ sym (text_after-copy c.args.self.now text)

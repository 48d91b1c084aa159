use Rattle.std.proofs.Common.{◌≡◌, ◌++◌, ◌+◌, ◌-◌, length, sym, ◌∙◌, ap, arith, rules, length-append}
use Rattle.std.proofs.lemmas.Result.{IfOk-weaker}
use Rattle.pad_text.proofs.CallerLemmas.{IsText-nil}
use Rattle.pad_patch.specs.UnitStore.{IsRange}
use Rattle.pad_rope.specs.Inside.Shape.{Shape}
use Rattle.pad_rope.specs.declared.tree.Node.{Node}
use Rattle.pad_rope.specs.Inside.Tree.{shape_of}
use Rattle.pad_rope.proofs.Replaced.{range-right, range-front, range-back, left-changed, right-changed, both-changed}
use Rattle.pad_rope.proofs.edit.+replace.Goals as goal

pub returns-then-to-seam : goal.returns-then-to-seam
returns-then-to-seam t c =
    let us = c.args.tree.now.value.units in
    let l = c.in-Fork.left.value in
    let r = c.in-Fork.right.value in
    let is : us ≡ l.units ++ r.units = ap (λ (s : Shape). s.units) (sym (c.inside.view_is ∙ c.deref-inside.ensures)) ∙ ap (λ (n : Node). (shape_of n).units) c.in-Fork.is in
    let seam : c.length-seam.result ≡ length l.units = c.length-seam.ensures.count ∙ ap (λ (s : Shape). length s.units) c.deref-in-Fork.ensures in
    IfOk-weaker c.append.result _ _ (λ tree made. made ∙ left-changed us l.units r.units c.args.insert.now c.in_ok-changed-in-Fork.changed.value.units c.args.from c.args.to c.length-seam.result is seam c.requires.range.ordered c.if-to-seam.true c.in_ok-changed-in-Fork.ensures) c.append.ensures.units

pub replace-requires-then-seam-from : goal.replace-requires-then-seam-from
replace-requires-then-seam-from t c =
    let us = c.args.tree.now.value.units in
    let l = c.in-Fork.left.value in
    let r = c.in-Fork.right.value in
    let is : us ≡ l.units ++ r.units = ap (λ (s : Shape). s.units) (sym (c.inside.view_is ∙ c.deref-inside.ensures)) ∙ ap (λ (n : Node). (shape_of n).units) c.in-Fork.is in
    let seam : c.length-seam.result ≡ length l.units = c.length-seam.ensures.count ∙ ap (λ (s : Shape). length s.units) c.deref-in-Fork.ensures in
    let size : length us ≡ length l.units + length r.units = ap length is ∙ length-append l.units r.units in
    let range : IsRange r.units (c.args.from - c.length-seam.result) (c.args.to - c.length-seam.result) = range-right us l.units r.units c.args.from c.args.to c.length-seam.result is seam c.requires.range c.if-seam-from.true in
    search rules

pub returns-then-seam-from : goal.returns-then-seam-from
returns-then-seam-from t c =
    let us = c.args.tree.now.value.units in
    let l = c.in-Fork.left.value in
    let r = c.in-Fork.right.value in
    let is : us ≡ l.units ++ r.units = ap (λ (s : Shape). s.units) (sym (c.inside.view_is ∙ c.deref-inside.ensures)) ∙ ap (λ (n : Node). (shape_of n).units) c.in-Fork.is in
    let seam : c.length-seam.result ≡ length l.units = c.length-seam.ensures.count ∙ ap (λ (s : Shape). length s.units) c.deref-in-Fork.ensures in
    IfOk-weaker c.append-then-seam-from.result _ _ (λ tree made. made ∙ right-changed us l.units r.units c.args.insert.now c.in_ok-changed-in-Fork-2.changed.value.units c.args.from c.args.to c.length-seam.result is seam c.requires.range.ordered c.if-seam-from.true c.in_ok-changed-in-Fork-2.ensures) c.append-then-seam-from.ensures.units

pub replace-requires-in-Fork : goal.replace-requires-in-Fork
replace-requires-in-Fork t c =
    let us = c.args.tree.now.value.units in
    let l = c.in-Fork.left.value in
    let r = c.in-Fork.right.value in
    let is : us ≡ l.units ++ r.units = ap (λ (s : Shape). s.units) (sym (c.inside.view_is ∙ c.deref-inside.ensures)) ∙ ap (λ (n : Node). (shape_of n).units) c.in-Fork.is in
    let seam : c.length-seam.result ≡ length l.units = c.length-seam.ensures.count ∙ ap (λ (s : Shape). length s.units) c.deref-in-Fork.ensures in
    let size : length us ≡ length l.units + length r.units = ap length is ∙ length-append l.units r.units in
    let low = c.if-seam-from.false in
    let high = c.if-to-seam.false in
    let range : IsRange l.units c.args.from c.length-seam.result = range-front us l.units r.units c.args.from c.args.to c.length-seam.result is seam c.requires.range (omega arith) in
    search rules

pub replace-requires-in-Fork-2 : goal.replace-requires-in-Fork-2
replace-requires-in-Fork-2 t c =
    let us = c.args.tree.now.value.units in
    let l = c.in-Fork.left.value in
    let r = c.in-Fork.right.value in
    let is : us ≡ l.units ++ r.units = ap (λ (s : Shape). s.units) (sym (c.inside.view_is ∙ c.deref-inside.ensures)) ∙ ap (λ (n : Node). (shape_of n).units) c.in-Fork.is in
    let seam : c.length-seam.result ≡ length l.units = c.length-seam.ensures.count ∙ ap (λ (s : Shape). length s.units) c.deref-in-Fork.ensures in
    let size : length us ≡ length l.units + length r.units = ap length is ∙ length-append l.units r.units in
    let low = c.if-seam-from.false in
    let high = c.if-to-seam.false in
    let range : IsRange r.units 0 (c.args.to - c.length-seam.result) = range-back us l.units r.units c.args.from c.args.to c.length-seam.result is seam c.requires.range (omega arith) in
    let none = IsText-nil in
    search rules

pub returns-in_ok-back-in-Fork : goal.returns-in_ok-back-in-Fork
returns-in_ok-back-in-Fork t c =
    let us = c.args.tree.now.value.units in
    let l = c.in-Fork.left.value in
    let r = c.in-Fork.right.value in
    let is : us ≡ l.units ++ r.units = ap (λ (s : Shape). s.units) (sym (c.inside.view_is ∙ c.deref-inside.ensures)) ∙ ap (λ (n : Node). (shape_of n).units) c.in-Fork.is in
    let seam : c.length-seam.result ≡ length l.units = c.length-seam.ensures.count ∙ ap (λ (s : Shape). length s.units) c.deref-in-Fork.ensures in
    let low = c.if-seam-from.false in
    let high = c.if-to-seam.false in
    IfOk-weaker c.append-in-Fork.result _ _ (λ tree made. made ∙ both-changed us l.units r.units c.args.insert.now c.in_ok-front-in-Fork.front.value.units c.in_ok-back-in-Fork.back.value.units c.args.from c.args.to c.length-seam.result is seam (omega arith) (omega arith) c.in_ok-front-in-Fork.ensures c.in_ok-back-in-Fork.ensures) c.append-in-Fork.ensures.units

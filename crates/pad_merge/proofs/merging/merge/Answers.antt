use Rattle.std.proofs.Common.{◌≡◌, ℕ, List, ◌∙◌, ap, length, map, sym, subst}
use Rattle.std.proofs.lemmas.Result.{IfOk-weaker}
use Rattle.pad_patch.specs.declared.patch.Patch.{Patch}
use Rattle.pad_patch.specs.Piece.{text_after}
use Rattle.pad_patch.specs.Misfit.{EndsAfter}
use Rattle.pad_merge.specs.CopiedUnit.{source_of}
use Rattle.pad_merge.specs.Merge.{merged, IsNormal}
use Rattle.pad_merge.proofs.Both.{patch_from, text_after-merged, IsNormal-merged, inside-merged}
use Rattle.pad_merge.proofs.merging.merge.Goals as goal

pub returns-clause-merged : goal.returns-clause-merged
unfolding merged
returns-clause-merged c =
    let size = c.args.len in
    let sources = ap (map source_of) c.as_slice.ensures.value ∙ c.in_ok-units.ensures.sources in
    IfOk-weaker c.patch_of.result (λ patch. patch ≡ patch_from size (map source_of c.as_slice.result.now) c.args.p.now.before) (λ patch. patch ≡ merged c.args.p.now c.args.q.now size)
    (λ patch is. is ∙ ap (λ xs. patch_from size xs c.args.p.now.before) sources)
    c.patch_of.ensures

pub returns-clause-normal : goal.returns-clause-normal
returns-clause-normal c =
    IfOk-weaker c.patch_of.result (λ patch. patch ≡ merged c.args.p.now c.args.q.now c.args.len) IsNormal
    (λ patch is. subst IsNormal (sym is) (IsNormal-merged c.args.p.now c.args.q.now c.args.len c.requires.can))
    (returns-clause-merged c)

pub returns-clause-inside : goal.returns-clause-inside
returns-clause-inside c =
    let Inside : Patch → Type 0 = λ patch. (index : ℕ) → ¬ (EndsAfter patch c.args.len index) in
    IfOk-weaker c.patch_of.result (λ patch. patch ≡ merged c.args.p.now c.args.q.now c.args.len) Inside
    (λ patch is. subst Inside (sym is) (inside-merged c.args.p.now c.args.q.now c.args.len c.requires.can))
    (returns-clause-merged c)

pub returns-clause-both : goal.returns-clause-both
returns-clause-both c =
    let Both : Patch → Type 0 = λ patch. (text : List ℕ) → length text ≡ c.args.len → text_after patch text ≡ text_after c.args.q.now (text_after c.args.p.now text) in
    IfOk-weaker c.patch_of.result (λ patch. patch ≡ merged c.args.p.now c.args.q.now c.args.len) Both
    (λ patch is. subst Both (sym is) (λ text size. text_after-merged c.args.p.now c.args.q.now c.args.len text c.requires.can size))
    (returns-clause-merged c)

use Rattle.std.proofs.Common.{◌∙◌, ap, map}
use Rattle.std.specs.List.{filter_map}
use Rattle.pad_merge.specs.CopiedUnit.{source_of, origin_of}
use Rattle.pad_merge.specs.Merge.{merged}
use Rattle.pad_merge.specs.Origin.{origins}
use Rattle.pad_merge.proofs.Both.{patch_from, text_after-merged, IsNormal-merged, inside-merged}
use Rattle.pad_merge.proofs.merging.merge_from.Goals as goal

pub returns-clause-merged : goal.returns-clause-merged
unfolding merged
returns-clause-merged c =
    let sources = ap (map source_of) c.as_slice.ensures.value ∙ c.in_ok-units.ensures.sources in
    c.in_ok-patch.ensures ∙ ap (λ xs. patch_from c.args.len xs c.args.p.now.before) sources

pub returns-clause-from : goal.returns-clause-from
unfolding origins
returns-clause-from c =
    c.in_ok-from.ensures
    ∙ ap (λ us. filter_map (λ origin. origin) (map origin_of us)) c.as_slice-2.ensures.value
    ∙ ap (filter_map (λ origin. origin)) c.in_ok-units.ensures.origins

pub returns-clause-normal : goal.returns-clause-normal
returns-clause-normal c =
    rw (returns-clause-merged c) (IsNormal-merged c.args.p.now c.args.q.now c.args.len c.requires.can)

pub returns-clause-inside : goal.returns-clause-inside
returns-clause-inside c =
    rw (returns-clause-merged c) (inside-merged c.args.p.now c.args.q.now c.args.len c.requires.can)

pub returns-clause-both : goal.returns-clause-both
returns-clause-both c text is =
    rw (returns-clause-merged c) (text_after-merged c.args.p.now c.args.q.now c.args.len text c.requires.can is)

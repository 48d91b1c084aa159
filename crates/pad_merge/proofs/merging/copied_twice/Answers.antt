use Rattle.std.proofs.Common.{◌≡◌, ℕ, sym, ◌∙◌, ap, subst, length, map}
use Rattle.std.proofs.lemmas.List.{length-map}
use Rattle.pad_text.specs.Text.{IsText}
use Rattle.pad_patch.specs.Misfit.{EndsAfter}
use Rattle.pad_merge.specs.UnitSource.{sources_after, sources_of, IsAscending}
use Rattle.pad_merge.specs.CopiedUnit.{source_of, new_or_letter}
use Rattle.pad_merge.proofs.Sources.{length-kept_from}
use Rattle.pad_merge.proofs.Both.{length-sources_of, rising_both, both_text}
use Rattle.pad_merge.proofs.merging.copied_twice.Goals as goal

pub copied-requires-clause-inside : goal.copied-requires-clause-inside
copied-requires-clause-inside c =
    let size = ap length c.as_slice.ensures.value ∙ sym (length-map c.in_ok-before.before.items source_of) ∙ ap length c.in_ok-before.ensures.sources ∙ length-kept_from 0 c.args.len in
    subst (λ n. (index : ℕ) → ¬ (EndsAfter c.args.p.now n index)) (sym size) c.requires.can.first_inside

pub copied-requires-2-clause-inside : goal.copied-requires-2-clause-inside
copied-requires-2-clause-inside c =
    let between : map source_of c.in_ok-between.between.items ≡ sources_of c.args.p.now c.args.len =
    c.in_ok-between.ensures.sources ∙ ap (λ us. sources_after c.args.p.now (map source_of us)) c.as_slice.ensures.value ∙ ap (sources_after c.args.p.now) c.in_ok-before.ensures.sources in
    let size = ap length c.as_slice-2.ensures.value ∙ sym (length-map c.in_ok-between.between.items source_of) ∙ ap length between
    ∙ length-sources_of c.args.p.now c.args.len c.requires.can.first_inside in
    subst (λ n. (index : ℕ) → ¬ (EndsAfter c.args.q.now n index)) (sym size) c.requires.can.second_inside

pub returns-clause-sources : goal.returns-clause-sources
returns-clause-sources c =
    let between : map source_of c.in_ok-between.between.items ≡ sources_of c.args.p.now c.args.len =
    c.in_ok-between.ensures.sources ∙ ap (λ us. sources_after c.args.p.now (map source_of us)) c.as_slice.ensures.value ∙ ap (sources_after c.args.p.now) c.in_ok-before.ensures.sources in
    c.in_ok-after.ensures.sources ∙ ap (λ us. sources_after c.args.q.now (map source_of us)) c.as_slice-2.ensures.value ∙ ap (sources_after c.args.q.now) between

pub returns-clause-rising : goal.returns-clause-rising
returns-clause-rising c =
    subst (IsAscending 0 c.args.len) (sym (returns-clause-sources c)) (rising_both c.args.p.now c.args.q.now c.args.len c.requires.can)

pub returns-clause-text : goal.returns-clause-text
returns-clause-text c =
    subst (λ xs. IsText (map new_or_letter xs)) (sym (returns-clause-sources c))
    (both_text c.args.p.now c.args.q.now c.args.len c.requires.can c.in_ok-between.ensures.texts c.in_ok-after.ensures.texts)

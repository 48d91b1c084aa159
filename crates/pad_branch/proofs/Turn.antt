-- One turn of the choice: a candidate that is pathless, or whose test fails.
use Rattle.std.proofs.Common.{◌≡◌, List, ◌∷◌, ◌++◌, Contains, Bool, true, false, append_assoc, refl, sym, ap, ◌∙◌, subst}
use Rattle.pad_text.specs.declared.name.Name.{Name}
use Rattle.pad_model.specs.declared.base.Base.{Base}
use Rattle.pad_message.specs.declared.message.Message.{Message}
use Rattle.pad_branch.specs.declared.candidate.Candidate.{Candidate}
use Rattle.pad_message.specs.Message.{name_of}
use Rattle.pad_model.specs.Path.{last_name, IsLinkedPath, EachSound, NamesDiffer}
use Rattle.pad_model.specs.Choice.{RunsThrough}
use Rattle.pad_branch.specs.Pathless.{HangsOn, KnowsPathless, AreFound}
use Rattle.pad_branch.specs.Inside.Passing.{PassesOn, IsLinkedThrough}
use Rattle.pad_branch.specs.Branch.{IsStopped}
use Rattle.pad_branch.specs.Inside.Candidates.{IsCandidate, NoPathIn}
use Rattle.pad_model.proofs.CallerLemmas.{linked_unique, linked_below}
use Rattle.pad_branch.proofs.Known.{alive_below, hangs_unsound, doomed, not_found, found_more}

module _ (b : Base) (R below chosen : List Message) (d : NamesDiffer R) (c : Candidate) (is : IsCandidate b R below chosen c) where
  -- it is known pathless
  pub skipped : (pathless : Name → Bool) → KnowsPathless b R below pathless → pathless c.name ≡ true → NoPathIn b R c
  skipped pathless k e p linked named sound =
      let same : p ≡ is.last ∷ is.rest ++ below = linked_unique b R p (is.last ∷ is.rest ++ below) d linked is.linked (named ∙ is.named) in
      k.really is.last (is.rest ++ below) is.linked (ap pathless (sym is.named) ∙ e) (subst (EachSound b) same sound)

  -- its test stopped at a message that is not sound
  module _ (first : Name) (s : IsStopped b R below (is.last ∷ is.rest) first) where
    whole : is.last ∷ is.rest ++ below ≡ s.over ++ s.message ∷ (s.under ++ below)
    whole = ap (λ q. q ++ below) s.whole ∙ append_assoc s.over (s.message ∷ s.under) below

    linked : IsLinkedPath b R (s.over ++ s.message ∷ (s.under ++ below))
    linked = subst (IsLinkedPath b R) whole is.linked

    hangs : HangsOn b R first c.name
    hangs = record { above = s.over; message = s.message; below = s.under ++ below; linked = linked; named = s.named; last = ap (last_name b) (sym whole) ∙ sym is.named }

    pub stands : IsLinkedThrough b R below first
    stands = record { message = s.message; path = s.under ++ below; linked = linked_below b R s.over (s.message ∷ (s.under ++ below)) linked; through = (s.under, refl); named = s.named }

    pub stopped : NoPathIn b R c
    stopped p h named = hangs_unsound b R d first c.name s.first hangs p h named

    pub is_new : (pathless : Name → Bool) (found : List Name) → KnowsPathless b R below pathless → AreFound b R below pathless found → pathless c.name ≡ false → ¬ (Contains found first)
    is_new pathless found k are alive =
        let through : RunsThrough below (s.under ++ below) = (s.under, refl) in
        let a : pathless (name_of s.message) ≡ false = alive_below b R below pathless k s.over s.message (s.under ++ below) linked through (ap pathless (ap (last_name b) (sym whole) ∙ sym is.named) ∙ alive) in
        subst (λ n. ¬ (Contains found n)) s.named (not_found b R below pathless found are s.message (s.under ++ below) (linked_below b R s.over (s.message ∷ s.under ++ below) linked) through a)

    pub knows_more : (before after : Name → Bool) → IsLinkedPath b R below → EachSound b below → KnowsPathless b R below before → PassesOn b R below first before after → KnowsPathless b R below after
    knows_more before after root_linked root_sound k passes = doomed b R below first before after d root_linked root_sound k s.first passes

    pub finds_more : (before after : Name → Bool) (found : List Name) → KnowsPathless b R below before → AreFound b R below before found → before c.name ≡ false → PassesOn b R below first before after → AreFound b R below after (first ∷ found)
    finds_more before after found k are alive passes = found_more b R below before after found first are (is_new before found k are alive) s.first passes

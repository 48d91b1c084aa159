-- The turns of the choice, over the tables.
use Rattle.std.proofs.Common.{Option, ◌≡◌, ℕ, ◌+◌, ◌-◌, ◌*◌, ◌<◌, ◌≤◌, List, [], ◌∷◌, ◌++◌, length, reverse, Some, slice_get, Bool, true, false, ◌||◌, add-one, refl, sym, ap, ◌∙◌, subst, arith, length-append}
use Rattle.std.specs.BTreeSet.{BTreeSet, contains}
use Rattle.std.specs.List.Sorted.{IsSorted}
use Rattle.std.proofs.Math.Nat.{mul-suc}
use Rattle.std.proofs.lemmas.List.{reverse-append}
use Rattle.std.proofs.lemmas.List.Elements.{All-contains}
use Rattle.std.proofs.lemmas.Option.{get_or_from_slice_get, slice_get_within}
use Rattle.pad_text.specs.declared.name.Name.{Name}
use Rattle.pad_model.specs.declared.base.Base.{Base}
use Rattle.pad_message.specs.declared.message.Message.{Message}
use Rattle.pad_branch.specs.declared.candidate.Candidate.{Candidate}
use Rattle.pad_branch.specs.declared.held.Held.{Held}
use Rattle.pad_graph.specs.State.{name_cmp}
use Rattle.pad_model.specs.Path.{last_name, IsLinkedPath, EachSound}
use Rattle.pad_model.specs.Choice.{IsBestThrough}
use Rattle.pad_branch.specs.Pathless.{KnowsPathless, AreFound, pathless_in}
use Rattle.pad_branch.specs.Inside.Passing.{PassesOn, IsLinkedThrough}
use Rattle.pad_branch.specs.Branch.{State, IsStopped}
use Rattle.pad_branch.specs.Inside.Candidates.{candidate_cmp, IsCandidate, AreReady, NoPathIn}
use Rattle.pad_branch.specs.Held.{mark_of, marks}
use Rattle.pad_branch.proofs.Turn.{skipped, stopped, stands, knows_more, finds_more}
use Rattle.pad_branch.proofs.Choosing.{wins, stays_best, none_more}
use Rattle.pad_model.proofs.CallerLemmas.{linked_below}

or_false : (t : Bool) → t ≡ t || false
or_false true = refl
or_false false = refl

none_more_marked : (table : Name → Option Held) (doomed : BTreeSet Name) → doomed.keys ≡ [] → (name : Name) → mark_of (table name) ≡ pathless_in table doomed name
none_more_marked table doomed e name =
    or_false (mark_of (table name)) ∙ sym (ap (λ (ks : List Name). mark_of (table name) || contains name_cmp (record { keys = ks }) name) e)

-- one test more costs at most three times the depth
pub cost_more : (depth n start before after undos above : ℕ) → undos ≤ depth → above ≤ depth → before ≤ start + 3 * depth * n → after ≤ before + undos + 2 * above → after ≤ start + 3 * depth * (n + 1)
cost_more depth n start before after undos above u a b t =
    let e : 3 * depth * (n + 1) ≡ 3 * depth * n + 3 * depth = ap (λ k. 3 * depth * k) (add-one n) ∙ mul-suc (3 * depth) n in
    omega (arith, e, u, a, b, t)

pub cost_same : (depth n start before : ℕ) → before ≤ start + 3 * depth * n → before ≤ start + 3 * depth * (n + 1)
cost_same depth n start before b =
    let e : 3 * depth * (n + 1) ≡ 3 * depth * n + 3 * depth = ap (λ k. 3 * depth * k) (add-one n) ∙ mul-suc (3 * depth) n in
    omega (arith, e, b)

module _ (b : Base) (R : List Message) (m : Message) (below chosen : List Message) (branch : State) (table : Name → Option Held) (children : Name → List Name) (longest : ℕ) (found : List Name) (xs : List Candidate) (ready : AreReady b R m below chosen branch table children longest found xs) where
  pub start : (doomed : BTreeSet Name) → doomed.keys ≡ [] → KnowsPathless b (m ∷ R) below (pathless_in table doomed) × AreFound b (m ∷ R) below (pathless_in table doomed) found
  start doomed e =
      let same : marks table ≡ pathless_in table doomed = λ i name. none_more_marked table doomed e name i in
      (subst (KnowsPathless b (m ∷ R) below) same ready.knows, subst (λ pathless. AreFound b (m ∷ R) below pathless found) same ready.are)

  module _ (i : ℕ) (c : Candidate) (at : slice_get xs i ≡ Some c) where
    pub item : IsCandidate b (m ∷ R) below chosen c
    item = All-contains (IsCandidate b (m ∷ R) below chosen) xs c ready.offered.each (i, slice_get_within xs i c at, get_or_from_slice_get xs i c c at)

    pub high : length (item.last ∷ item.rest) ≡ c.height.0 - branch.low
    high = omega (arith, item.high, ready.trunk.height, length-append (item.last ∷ item.rest) below)

    pub last : last_name b (item.last ∷ item.rest ++ below) ≡ c.name
    last = sym item.named

    pub skip : (pathless : Name → Bool) → KnowsPathless b (m ∷ R) below pathless → true ≡ pathless c.name → NoPathIn b (m ∷ R) c
    skip pathless k e = skipped b (m ∷ R) below chosen ready.offered.differ c item pathless k (sym e)

    module _ (first : Name) (s : IsStopped b (m ∷ R) below (item.last ∷ item.rest) first) where
      pub stands_there : IsLinkedThrough b (m ∷ R) below first
      stands_there = stands b (m ∷ R) below chosen ready.offered.differ c item first s

      pub fails : NoPathIn b (m ∷ R) c
      fails = stopped b (m ∷ R) below chosen ready.offered.differ c item first s

      pub more : (before after : Name → Bool) (earlier new : List Name) → KnowsPathless b (m ∷ R) below before → AreFound b (m ∷ R) below before (reverse earlier ++ found) → false ≡ before c.name → PassesOn b (m ∷ R) below first before after → new ≡ earlier ++ first ∷ []
          → KnowsPathless b (m ∷ R) below after × AreFound b (m ∷ R) below after (reverse new ++ found)
      more before after earlier new k are alive passes e =
          let root_linked : IsLinkedPath b (m ∷ R) below = linked_below b (m ∷ R) chosen below ready.trunk.linked in
          let turned : reverse new ++ found ≡ first ∷ (reverse earlier ++ found) = ap (λ ns. ns ++ found) (ap reverse e ∙ reverse-append earlier (first ∷ [])) in (
            knows_more b (m ∷ R) below chosen ready.offered.differ c item first s before after root_linked ready.trunk.root_sound k passes,
            subst (AreFound b (m ∷ R) below after) (sym turned) (finds_more b (m ∷ R) below chosen ready.offered.differ c item first s before after (reverse earlier ++ found) k are (sym alive) passes),
          )

    pub best : IsSorted candidate_cmp xs → EachSound b (item.last ∷ item.rest ++ below) → ((k : ℕ) (e : Candidate) → k < i → slice_get xs k ≡ Some e → NoPathIn b (m ∷ R) e) → IsBestThrough b (m ∷ R) below (item.last ∷ item.rest ++ below)
    best sorted sound none = wins b R m below chosen xs ready.offered sorted i c at (item.last ∷ item.rest) item.linked last sound none

    pub pass : NoPathIn b (m ∷ R) c → ((k : ℕ) (e : Candidate) → k < i → slice_get xs k ≡ Some e → NoPathIn b (m ∷ R) e) → (k : ℕ) (e : Candidate) → k < i + 1 → slice_get xs k ≡ Some e → NoPathIn b (m ∷ R) e
    pass here none = none_more b (m ∷ R) xs i c at here none

  pub stays : (n : ℕ) → length xs ≤ n → ((k : ℕ) (e : Candidate) → k < n → slice_get xs k ≡ Some e → NoPathIn b (m ∷ R) e) → IsBestThrough b (m ∷ R) below (chosen ++ below)
  stays n all none = stays_best b R m below chosen xs ready.offered (λ k e at. none k e (omega (arith, slice_get_within xs k e at, all)) at)

-- What the choice stands on, by candidates.
use Rattle.std.proofs.Common.{◌≡◌, ℕ, ◌≤◌, inl, inr, List, ◌∷◌, ◌++◌, length, reverse, get_or, All, Contains, Option, Some, None, IfSome, IfOk, Result, Ok, Err, sym, ap, ◌∙◌, subst, arith, length-append}
use Rattle.std.proofs.lemmas.List.{length-reverse}
use Rattle.std.proofs.lemmas.List.Elements.{All-contains, Contains-get_or}
use Rattle.pad_text.specs.declared.name.Name.{Name}
use Rattle.pad_text.specs.Name.{NameLess}
use Rattle.pad_message.specs.declared.message.Message.{Message}
use Rattle.pad_model.specs.declared.base.Base.{Base}
use Rattle.pad_model.specs.Path.{last_name, IsLinkedPath}
use Rattle.pad_model.specs.Best.{IsBetter}
use Rattle.pad_model.specs.Choice.{RunsThrough}
use Rattle.pad_list.proofs.CallerLemmas.{mapped_from}
use Rattle.pad_model.proofs.CallerLemmas.{linked_unique}
use Rattle.pad_graph.specs.declared.linking.Linking.{Linking}
use Rattle.pad_graph.specs.State as graph
use Rattle.pad_branch.specs.declared.candidate.Candidate.{Candidate}
use Rattle.pad_branch.specs.declared.held.Held.{Held}
use Rattle.pad_branch.specs.declared.tip.Tip.{Tip}
use Rattle.pad_branch.specs.Branch.{State, tip_of, height_of}
use Rattle.pad_branch.specs.Choice.{IsEnd, IsReady}
use Rattle.pad_branch.specs.Inside.Candidates.{candidate_of, Betters, BettersWithin, IsOneOf, IsCandidate, AreReady}
use Rattle.pad_branch.proofs.Trunk.{tip_of_path, undos_length}

module _ (b : Base) (R : List Message) (m : Message) (below chosen : List Message) (branch : State) (table : Name → Option Held) (names : graph.State) (found : List Name) (linkings : List Linking) (ready : IsReady b R m below chosen branch table names found linkings) where
  end_name : last_name b (chosen ++ below) ≡ (tip_of branch).name
  end_name = sym (tip_of_path b below chosen (reverse branch.undos) branch.root ready.trunk.undone ready.trunk.at_root).name

  end_height : length (chosen ++ below) ≡ height_of branch
  end_height = omega (arith, length-append chosen below, ready.trunk.height, undos_length b below chosen (reverse branch.undos) ready.trunk.undone, length-reverse branch.undos)

  -- what betters the end of the branch betters the path
  betters_path : (x : Linking) (p : List Message) → x.height ≡ length p → x.name ≡ last_name b p → Betters x (tip_of branch).name (height_of branch) → IsBetter b p (chosen ++ below)
  betters_path x p high named (inl h) = inl (omega (arith, h, high, end_height))
  betters_path x p high named (inr (e, l)) = inr (omega (arith, e, high, end_height), subst (NameLess (last_name b p)) (sym end_name) (subst (λ n. NameLess n (tip_of branch).name) named l))

  path_betters : (x : Linking) (p : List Message) → x.height ≡ length p → x.name ≡ last_name b p → IsBetter b p (chosen ++ below) → Betters x (tip_of branch).name (height_of branch)
  path_betters x p high named (inl h) = inl (omega (arith, h, high, end_height))
  path_betters x p high named (inr (e, l)) = inr (omega (arith, e, high, end_height), subst (λ n. NameLess n (tip_of branch).name) (sym named) (subst (NameLess (last_name b p)) end_name l))

  end_of_linking : (x : Linking) → Contains linkings x → IsEnd b (m ∷ R) below x
  end_of_linking x member = All-contains (IsEnd b (m ∷ R) below) linkings x ready.each member

  module _ (cs : List Candidate)
      (each : (c : Candidate) → Contains cs c → IsOneOf linkings (tip_of branch).name (height_of branch) names.known c)
      (every : (x : Linking) → Contains linkings x → BettersWithin x (tip_of branch).name (height_of branch) names.known → Contains cs (candidate_of x))
    where
      one : (c : Candidate) → IsOneOf linkings (tip_of branch).name (height_of branch) names.known c → IsCandidate b (m ∷ R) below chosen c
      one c o =
          let e = end_of_linking o.linking o.among in
          record {
            last = e.last;
            rest = e.rest;
            linked = e.linked;
            high = ap (λ (x : Candidate). x.height.0) o.is ∙ e.high;
            named = ap (λ (x : Candidate). x.name) o.is ∙ e.named;
            better = betters_path o.linking (e.last ∷ e.rest ++ below) e.high e.named o.betters.1;
          }

      all_of : (above under : List Message) → IsLinkedPath b (m ∷ R) (above ++ m ∷ under) → RunsThrough below (above ++ m ∷ under) → IsBetter b (above ++ m ∷ under) (chosen ++ below)
          → (c : Candidate) × Contains cs c × (c.name ≡ last_name b (above ++ m ∷ under))
      all_of above under linked through better =
          let (x, member, named) = mapped_from (λ (y : Linking). y.name) linkings (last_name b (above ++ m ∷ under)) (ready.every above under linked through) in
          let e = end_of_linking x member in
          let same : e.last ∷ e.rest ++ below ≡ above ++ m ∷ under = linked_unique b (m ∷ R) (e.last ∷ e.rest ++ below) (above ++ m ∷ under) ready.trunk.differ e.linked linked (sym e.named ∙ named) in
          let high : x.height ≡ length (above ++ m ∷ under) = e.high ∙ ap length same in
          let short = ready.short (above ++ m ∷ under) linked in
          (candidate_of x, every x member (omega (arith, high, short), path_betters x (above ++ m ∷ under) high named better), named)

      pub are_ready : AreReady b R m below chosen branch table names.children names.known found cs
      are_ready = record {
        offered = record {
          differ = ready.trunk.differ;
          best = ready.best;
          each = λ k d inside. one (get_or cs k d) (each (get_or cs k d) (Contains-get_or cs k d inside));
          every = all_of;
        };
        trunk = ready.trunk;
        holds = ready.holds;
        children_are = ready.children;
        short = ready.short;
        knows = ready.knows;
        are = ready.are;
      }

-- heights of candidates are those of linkings
pub heights_of : (linkings : List Linking) (name : Name) (height longest most : ℕ) (cs : List Candidate) → ((c : Candidate) → Contains cs c → IsOneOf linkings name height longest c) → All (λ (x : Linking). x.height ≤ most) linkings → All (λ (c : Candidate). c.height.0 ≤ most) cs
heights_of linkings name height longest most cs each all k d inside =
    let o = each (get_or cs k d) (Contains-get_or cs k d inside) in
    let low = All-contains (λ (x : Linking). x.height ≤ most) linkings o.linking all o.among in
    omega (arith, ap (λ (c : Candidate). c.height.0) o.is, low)

-- ---- the same with what a call says of the branch's end

pub ready_at : (b : Base) (R : List Message) (m : Message) (below chosen : List Message) (branch here : State) (table : Name → Option Held) (names : graph.State) (found : List Name) (linkings : List Linking) (tip : Tip) (height longest : ℕ) (cs seen : List Candidate)
    → here ≡ branch → tip ≡ tip_of branch → height ≡ height_of branch → longest ≡ names.known → seen ≡ cs
    → ((c : Candidate) → Contains cs c → IsOneOf linkings tip.name height longest c)
    → ((x : Linking) → Contains linkings x → BettersWithin x tip.name height longest → Contains cs (candidate_of x))
    → IsReady b R m below chosen branch table names found linkings → AreReady b R m below chosen here table names.children longest found seen
ready_at b R m below chosen branch here table names found linkings tip height longest cs seen here_is tip_is height_is longest_is seen_is each every ready =
    let lower = subst (λ n. (c : Candidate) → Contains cs c → IsOneOf linkings n height longest c) (ap (λ (t : Tip). t.name) tip_is) each in
    let lower2 = subst (λ h. (c : Candidate) → Contains cs c → IsOneOf linkings (tip_of branch).name h longest c) height_is lower in
    let lower3 = subst (λ k. (c : Candidate) → Contains cs c → IsOneOf linkings (tip_of branch).name (height_of branch) k c) longest_is lower2 in
    let upper = subst (λ n. (x : Linking) → Contains linkings x → BettersWithin x n height longest → Contains cs (candidate_of x)) (ap (λ (t : Tip). t.name) tip_is) every in
    let upper2 = subst (λ h. (x : Linking) → Contains linkings x → BettersWithin x (tip_of branch).name h longest → Contains cs (candidate_of x)) height_is upper in
    let upper3 = subst (λ k. (x : Linking) → Contains linkings x → BettersWithin x (tip_of branch).name (height_of branch) k → Contains cs (candidate_of x)) longest_is upper2 in
    subst (λ k. AreReady b R m below chosen here table names.children k found seen) (sym longest_is)
    (subst (AreReady b R m below chosen here table names.children names.known found) (sym seen_is)
    (subst (λ s. AreReady b R m below chosen s table names.children names.known found cs) (sym here_is)
    (are_ready b R m below chosen branch table names found linkings ready cs lower3 upper3)))

-- ---- what holds of a value

pub on_ok : {A E : Type 0} {P Q : A → Type 0} (r : Result A E) → ((x : A) → P x → Q x) → IfOk r P → IfOk r Q
on_ok (Ok x) f h = f x h
on_ok (Err e) f h = tt

pub on_some : {A : Type 0} {P Q : A → Type 0} (o : Option A) → ((x : A) → P x → Q x) → IfSome o P → IfSome o Q
on_some (Some x) f h = f x h
on_some None f h = tt

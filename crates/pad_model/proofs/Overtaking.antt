-- Each message overtakes at most once, since it becomes linked once.
use Rattle.std.proofs.Common.{◌≡◌, ℕ, ◌⊎◌, inl, inr, List, [], ◌∷◌, ◌++◌, length, Contains, ap, arith, length-append}
use Rattle.std.proofs.lemmas.List.Elements.{Contains-append_cases}
use Rattle.pad_message.specs.declared.message.Message.{Message}
use Rattle.pad_model.specs.declared.base.Base.{Base}
use Rattle.pad_model.specs.Path.{IsLinked}
use Rattle.pad_list.specs.Number.{NoRepeat}
use Rattle.pad_model.specs.Choice.{Choice, IsChoice}
use Rattle.pad_model.specs.Laws.{FewOvertake}
use Rattle.pad_list.proofs.CallerLemmas.{contains_head, contains_more, contains_none, distinct_short}
use Rattle.pad_model.proofs.Chains.{linked_more}

no_repeat_append : {A : Type 0} (xs ys : List A) → NoRepeat xs → NoRepeat ys → ((x : A) → Contains xs x → ¬ (Contains ys x)) → NoRepeat (xs ++ ys)
no_repeat_append [] ys h g apart = g
no_repeat_append {A = A} (x ∷ xs) ys h g apart =
    (λ c. go (Contains-append_cases xs ys x c), no_repeat_append xs ys h.1 g (λ y c. apart y (contains_more x xs y c)))
  where
    go : Contains xs x ⊎ Contains ys x → ⊥
    go (inl c) = h.0 c
    go (inr c) = apart x (contains_head x xs) c

-- linked messages, each once, as many as overtook
record Overtook (b : Base) (R : List Message) (number : ℕ) : Type 0 where
  all : List Message
  once : NoRepeat all
  linked : (x : Message) → Contains all x → IsLinked b R x
  many : number ≡ length all

overtook : (b : Base) (R : List Message) (c : Choice) → IsChoice b R c → Overtook b R c.overtaken
overtook b [] c h = record { all = []; once = tt; linked = λ x k. absurd (contains_none x k); many = ap (λ (d : Choice). d.overtaken) h }
overtook b (m ∷ R) c (before, h, next) =
    let old = overtook b R before h in
    record {
      all = next.overtook.all ++ old.all;
      once = no_repeat_append next.overtook.all old.all next.overtook.once old.once (λ x k j. ((next.overtook.these x).0 k).was_not_linked (old.linked x j));
      linked = λ x k. go old x (Contains-append_cases next.overtook.all old.all x k);
      many = omega (arith, next.overtaken, next.overtook.many, old.many, length-append next.overtook.all old.all);
    }
  where
    go : (old : Overtook b R before.overtaken) (x : Message) → Contains next.overtook.all x ⊎ Contains old.all x → IsLinked b (m ∷ R) x
    go old x (inl k) = let o = (next.overtook.these x).0 k in (o.before, o.below.0)
    go old x (inr k) = let l = old.linked x k in (l.0, linked_more b R (m ∷ R) (x ∷ l.0) (contains_more m R) l.1)

pub few_overtake : FewOvertake
few_overtake b R c h =
    let o = overtook b R c h in
    omega (arith, o.many, distinct_short o.all R o.once (λ x k. (o.linked x k).1.0.member))

-- No more messages overtook than are known: each of them became linked once.
use Rattle.std.proofs.Common.{◌≡◌, ℕ, ◌≤◌, ◌⊎◌, inl, inr, List, [], ◌∷◌, ◌++◌, length, map, Contains, ap, ◌∙◌, subst, arith, length-append}
use Rattle.std.proofs.lemmas.List.{length-map}
use Rattle.pad_text.specs.declared.name.Name.{Name}
use Rattle.pad_message.specs.declared.message.Message.{Message}
use Rattle.pad_message.specs.Message.{name_of}
use Rattle.pad_graph.specs.Chain.{Link}
use Rattle.pad_list.specs.Number.{NoRepeat}
use Rattle.pad_list.proofs.CallerLemmas.{contains_more, contains_none, contains_head, contains_append, contains_map, mapped_from, distinct_short, no_repeat_append}
use Rattle.pad_model.specs.declared.base.Base.{Base}
use Rattle.pad_model.specs.Path.{IsLinked, NamesDiffer}
use Rattle.pad_model.specs.Choice.{Choice, IsChoice}
use Rattle.pad_checkpoint.specs.Links.{link_of, AreLinks}
use Rattle.pad_chain.proofs.Coming.{more_path}

-- those that overtook, each once, each linked
record AllOvertook (b : Base) (R : List Message) (many : ℕ) : Type 0 where
  pub all : List Message
  pub once : NoRepeat all
  pub linked : (x : Message) → Contains all x → IsLinked b R x
  pub many_is : many ≡ length all

all_overtook : (b : Base) (R : List Message) (choice : Choice) → IsChoice b R choice → AllOvertook b R choice.overtaken
all_overtook b [] choice h = record { all = []; once = tt; linked = λ x c. absurd (contains_none x c); many_is = ap (λ (c : Choice). c.overtaken) h }
all_overtook b (m ∷ R) choice (before, h, n) = more (all_overtook b R before h)
  where
    more : AllOvertook b R before.overtaken → AllOvertook b (m ∷ R) choice.overtaken
    more o = record {
      all = n.overtook.all ++ o.all;
      once = no_repeat_append n.overtook.all o.all n.overtook.once o.once (λ x c k. ((n.overtook.these x).0 c).was_not_linked (o.linked x k));
      linked = λ x c. go x (contains_append n.overtook.all o.all x c);
      many_is = n.overtaken ∙ omega (arith, n.overtook.many, o.many_is, length-append n.overtook.all o.all);
    }
      where
        go : (x : Message) → Contains n.overtook.all x ⊎ Contains o.all x → IsLinked b (m ∷ R) x
        go x (inl c) = let over = (n.overtook.these x).0 c in (over.before, over.below.0)
        go x (inr c) = let l = o.linked x c in (l.0, more_path b R m (x ∷ l.0) l.1)

names_once : (R xs : List Message) → NamesDiffer R → NoRepeat xs → ((x : Message) → Contains xs x → Contains R x) → NoRepeat (map name_of xs)
names_once R [] d once sub = tt
names_once R (x ∷ xs) d once sub = (λ c. again (mapped_from name_of xs (name_of x) c), names_once R xs d once.1 (λ y c. sub y (contains_more x xs y c)))
  where
    again : (y : Message) × Contains xs y × (name_of y ≡ name_of x) → ⊥
    again (y, c, e) = once.0 (subst (Contains xs) (d y x (sub y (contains_more x xs y c)) (sub x (contains_head x xs)) e) c)

pub few_overtook : (b : Base) (R : List Message) (choice : Choice) (links : List Link) → NamesDiffer R → AreLinks b R links → IsChoice b R choice → choice.overtaken ≤ length links
few_overtook b R choice links d a h = go (all_overtook b R choice h)
  where
    go : AllOvertook b R choice.overtaken → choice.overtaken ≤ length links
    go o =
        omega (arith, o.many_is, distinct_short (map name_of o.all) (map (λ (l : Link). l.name) links) (names_once R o.all d o.once (λ x c. (o.linked x c).1.0.member)) among, length-map o.all name_of, length-map links (λ (l : Link). l.name))
      where
        among : (n : Name) → Contains (map name_of o.all) n → Contains (map (λ (l : Link). l.name) links) n
        among n c = at (mapped_from name_of o.all n c)
          where
            at : (x : Message) × Contains o.all x × (name_of x ≡ n) → Contains (map (λ (l : Link). l.name) links) n
            at (x, k, e) = let l = o.linked x k in subst (Contains (map (λ (l : Link). l.name) links)) e (contains_map (λ (l : Link). l.name) links (link_of x) (a.every x l.1.0.member l.1.0.not_base))

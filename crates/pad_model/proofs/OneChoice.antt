-- There is at most one choice.
use Rattle.std.proofs.Common.{◌≡◌, ◌+◌, List, [], ◌∷◌, sym, ap, ◌∙◌, subst}
use Rattle.pad_message.specs.declared.message.Message.{Message}
use Rattle.pad_model.specs.declared.base.Base.{Base}
use Rattle.pad_model.specs.Path.{NamesDiffer}
use Rattle.pad_model.specs.Choice.{cut, higher, IsBestThrough, Choice, Overtakes, IsNextChoice}
use Rattle.pad_model.specs.Laws.{AtMostOneChoice}
use Rattle.pad_model.proofs.Chains.{linked_unique, differ_before}
use Rattle.pad_model.proofs.Orders.{neither_better}
use Rattle.pad_list.proofs.CallerLemmas.{one_number}

one_through : (b : Base) (R r p q : List Message) → NamesDiffer R → IsBestThrough b R r p → IsBestThrough b R r q → p ≡ q
one_through b R r p q d h g = linked_unique b R p q d h.path.0 g.path.0 (neither_better b p q (g.none_better p h.path h.through) (h.none_better q g.path g.through))

same_choice : (c d : Choice) → c.root ≡ d.root → c.chosen ≡ d.chosen → c.overtaken ≡ d.overtaken → c ≡ d
same_choice c d r p n = λ i. record { root = r i; chosen = p i; overtaken = n i }

pub one_next : (b : Base) (R : List Message) (m : Message) (c d e : Choice) → NamesDiffer (m ∷ R) → IsNextChoice b R m c d → IsNextChoice b R m c e → d ≡ e
one_next b R m c d e u h g =
    let p = one_through b (m ∷ R) c.root d.chosen e.chosen u h.chosen g.chosen in
    same_choice d e (h.root ∙ ap (λ x. higher c.root (cut x)) p ∙ sym g.root) p
    (h.overtaken ∙ ap (λ x. c.overtaken + x) (one_number (Overtakes b R m c) h.more g.more h.overtook g.overtook) ∙ sym g.overtaken)

pub one_choice : AtMostOneChoice
one_choice b [] c d u h g = h ∙ sym g
one_choice b (m ∷ R) c d u (before, h, next) (past, g, follows) =
    let same : before ≡ past = one_choice b R before past (differ_before m R u) h g in
    one_next b R m past c d u (subst (λ x. IsNextChoice b R m x c) same next) follows

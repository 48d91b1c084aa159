-- There is at most one best path, and only the members matter.
use Rattle.std.proofs.Common.{◌∷◌, length, refl, sym, ap, ◌∙◌}
use Rattle.pad_model.specs.Laws.{AtMostOneBest, OrderIsNoPart, OneLinkedHeight}
use Rattle.pad_model.proofs.Chains.{linked_unique, path_more}
use Rattle.pad_model.proofs.Orders.{neither_better}

pub one_best : AtMostOneBest
one_best b R p q d h g =
    linked_unique b R p q d h.path.0 g.path.0 (neither_better b p q (g.none_better p h.path) (h.none_better q g.path))

pub same_members : OrderIsNoPart
same_members b R S p same h = record {
  path = path_more b R S p (λ m. (same m).0) h.path;
  none_better = λ q path. h.none_better q (path_more b S R q (λ m. (same m).1) path);
}

pub one_height : OneLinkedHeight
one_height b R m height other d (p, h, e) (q, g, k) = e ∙ ap length (linked_unique b R (m ∷ p) (m ∷ q) d h g refl) ∙ sym k

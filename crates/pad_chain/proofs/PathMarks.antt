-- The marks of a branch are those of its messages.
use Rattle.std.proofs.Common.{◌≡◌, ℕ, ◌+◌, List, [], ◌∷◌, ◌++◌, length, reverse, sym, ap, ap₂, ◌∙◌, arith, length-append}
use Rattle.std.proofs.lemmas.List.{reverse-append, reverse-reverse, length-reverse}
use Rattle.pad_message.specs.declared.message.Message.{Message}
use Rattle.pad_message.specs.Kind.{is_checkpoint}
use Rattle.pad_model.specs.declared.base.Base.{Base}
use Rattle.pad_checkpoint.specs.declared.path_mark.PathMark.{PathMark}
use Rattle.pad_checkpoint.specs.Place.{mark_of, marks_on}
use Rattle.pad_branch.specs.declared.undo.Undo.{Undo}
use Rattle.pad_branch.specs.Undo.{TakesBack, AreUndos}
use Rattle.pad_chain.specs.Inside.Marks.{mark_at, marks_from}
use Rattle.pad_chain.proofs.Ends.{many_undos}

pub marks_append : (low : ℕ) (xs ys : List Undo) → marks_from low (xs ++ ys) ≡ marks_from low xs ++ marks_from (low + length xs) ys
marks_append low [] ys = ap (λ n. marks_from n ys) (omega arith)
marks_append low (x ∷ xs) ys = ap (λ ms. mark_at x (low + 1) ∷ ms) (marks_append (low + 1) xs ys ∙ ap (λ n. marks_from (low + 1) xs ++ marks_from n ys) (omega arith))

pub marks_push : (low : ℕ) (xs : List Undo) (x : Undo) → marks_from low (xs ++ x ∷ []) ≡ marks_from low xs ++ mark_at x (low + length xs + 1) ∷ []
marks_push low xs x = marks_append low xs (x ∷ [])

mark_same : (b : Base) (path : List Message) (m : Message) (u : Undo) (h : ℕ) → TakesBack b path m u → h ≡ length (m ∷ path) → mark_at u h ≡ mark_of b path m
mark_same b path m u h takes e = λ i. record { place = record { name = takes.after.name i; height = e i }; checkpoint = is_checkpoint (takes.kind i) }

pub marks_of_branch : (b : Base) (root above : List Message) (us : List Undo) (low : ℕ) → low ≡ length root → AreUndos b root above us → marks_from low (reverse us) ≡ marks_on b root above
marks_of_branch b root [] us low at h = ap (λ xs. marks_from low (reverse xs)) h
marks_of_branch b root (m ∷ above) us low at (u, rest, e, takes, more) =
    ap (λ xs. marks_from low (reverse xs)) e ∙ ap (marks_from low) (reverse-append (u ∷ []) rest) ∙ marks_push low (reverse rest) u
    ∙ ap₂ (λ (xs : List PathMark) (x : PathMark). xs ++ x ∷ []) (marks_of_branch b root above rest low at more)
    (mark_same b (above ++ root) m u (low + length (reverse rest) + 1) takes (omega (arith, at, length-reverse rest, many_undos b root above rest more, length-append above root)))

pub marks_of_path : (b : Base) (root above : List Message) (us : List Undo) (low : ℕ) → low ≡ length root → AreUndos b root above (reverse us) → marks_from low us ≡ marks_on b root above
marks_of_path b root above us low at h = ap (marks_from low) (sym (reverse-reverse us)) ∙ marks_of_branch b root above (reverse us) low at h

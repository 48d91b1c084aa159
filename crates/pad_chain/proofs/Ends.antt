-- Where the branch ends.
use Rattle.std.specs.Prelude.{IsTrue, ◌%◌}
use Rattle.std.proofs.Common.{◌≡◌, ◌↔◌, ℕ, ◌+◌, Bool, List, [], ◌∷◌, ◌++◌, length, reverse, sym, ap, ◌∙◌, subst, arith, length-append}
use Rattle.std.proofs.lemmas.List.{length-reverse}
use Rattle.pad_message.specs.declared.message.Message.{Message}
use Rattle.pad_model.specs.declared.base.Base.{Base}
use Rattle.pad_model.specs.Path.{text}
use Rattle.pad_model.specs.Choice.{Choice}
use Rattle.pad_checkpoint.specs.Place.{place_of}
use Rattle.pad_branch.specs.declared.tip.Tip.{Tip}
use Rattle.pad_branch.specs.declared.undo.Undo.{Undo}
use Rattle.pad_branch.specs.Tip.{IsTip, tip_after}
use Rattle.pad_branch.specs.Undo.{AreUndos}
use Rattle.pad_branch.specs.Branch.{tip_of, height_of}
use Rattle.pad_chain.specs.State.{View}
use Rattle.pad_chain.specs.Tie.{StandsFor}

pub many_undos : (b : Base) (below chosen : List Message) (undos : List Undo) → AreUndos b below chosen undos → length undos ≡ length chosen
many_undos b below [] undos h = ap length h
many_undos b below (m ∷ chosen) undos (undo, rest, e, takes, more) = omega (arith, ap length e, many_undos b below chosen rest more)

tip_at_end : (b : Base) (below chosen : List Message) (root : Tip) (undos : List Undo) → IsTip b below root → AreUndos b below chosen undos → IsTip b (chosen ++ below) (tip_after root undos)
tip_at_end b below [] root undos at h = subst (λ us. IsTip b below (tip_after root us)) (sym h) at
tip_at_end b below (m ∷ chosen) root undos at (undo, rest, e, takes, more) = subst (λ us. IsTip b (m ∷ chosen ++ below) (tip_after root us)) (sym e) takes.after

module _ (b : Base) (R : List Message) (chain : View) (choice : Choice) (s : StandsFor chain b R choice) where
  pub end_tip : IsTip b choice.chosen (tip_of chain.branch.branch)
  end_tip = subst (λ p. IsTip b p (tip_of chain.branch.branch)) (sym s.through) (tip_at_end b choice.root s.above chain.branch.branch.root (reverse chain.branch.branch.undos) s.trunk.at_root s.trunk.undone)

  pub end_height : height_of chain.branch.branch ≡ length choice.chosen
  end_height =
      omega (arith, s.trunk.height, length-reverse chain.branch.branch.undos, many_undos b choice.root s.above (reverse chain.branch.branch.undos) s.trunk.undone, ap length s.through, length-append s.above choice.root)

  pub end_place : record { name = (tip_of chain.branch.branch).name; height = height_of chain.branch.branch } ≡ place_of b choice.chosen
  end_place = λ i. record { name = end_tip.name i; height = end_height i }

  pub end_text : chain.branch.branch.units ≡ text b choice.chosen
  end_text = s.trunk.text ∙ ap (text b) (sym s.through)

pub due_same : (r : Bool) (since other interval next : ℕ) → since ≡ other → interval ≡ next → IsTrue r ↔ ((since + 1) % interval ≡ 0) → IsTrue r ↔ ((other + 1) % next ≡ 0)
due_same r since other interval next e i h = subst (λ n. IsTrue r ↔ ((other + 1) % n ≡ 0)) i (subst (λ n. IsTrue r ↔ ((n + 1) % interval ≡ 0)) e h)

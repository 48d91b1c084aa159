-- What leaves the chosen path and what comes onto it, where a path won.
use Rattle.std.proofs.Common.{◌≡◌, ℕ, zero, suc, ◌-◌, List, [], ◌∷◌, ◌++◌, length, take, drop, map, reverse, Option, refl, sym, ap, ap₂, ◌∙◌, append_assoc, take-append-drop}
use Rattle.std.proofs.lemmas.List.{length-reverse}
use Rattle.pad_text.specs.declared.name.Name.{Name}
use Rattle.pad_message.specs.declared.message.Message.{Message}
use Rattle.pad_message.specs.Message.{name_of}
use Rattle.pad_patch.specs.Inverse.{inverse}
use Rattle.pad_model.specs.declared.base.Base.{Base}
use Rattle.pad_model.specs.Path.{text}
use Rattle.pad_branch.specs.declared.held.Held.{Held}
use Rattle.pad_branch.specs.declared.undo.Undo.{Undo}
use Rattle.pad_branch.specs.Undo.{TakesBack, AreUndos, undone_name}
use Rattle.pad_branch.specs.Held.{messages_at}
use Rattle.pad_branch.specs.Move.{move_back, move_on}
use Rattle.pad_branch.specs.Branch.{State, IsTrunk, IsWon}
use Rattle.pad_chain.specs.declared.moved.Moved.{Moved}
use Rattle.pad_chain.specs.Moved.{moves_back, IsMoved}
use Rattle.pad_chain.proofs.Ends.{many_undos}

-- the text where a message stands, if the path is split
split_text : (b : Base) (below above : List Message) (k : ℕ) → text b (above ++ below) ≡ text b (take k above ++ (drop k above ++ below))
split_text b below above k = ap (λ p. text b (p ++ below)) (sym (take-append-drop k above)) ∙ ap (text b) (append_assoc (take k above) (drop k above) below)

takes_move : (b : Base) (path : List Message) (message : Message) (undo : Undo) (units : List ℕ) → TakesBack b path message undo → text b path ≡ units → move_back undo ≡ record { name = name_of message; kind = message.kind; patch = inverse message.patch units }
takes_move b path message undo units t e = let inverted = t.inverse ∙ ap (inverse message.patch) e in λ i. record { name = t.after.name i; kind = t.kind i; patch = inverted i }

-- the first undos take back the first messages
pub back_first : (b : Base) (below above : List Message) (us : List Undo) (k : ℕ) → AreUndos b below above us → map move_back (take k us) ≡ moves_back b (drop k above ++ below) (take k above)
back_first b below above us zero h = refl
back_first b below [] us (suc k) h = ap (λ xs. map move_back (take (suc k) xs)) h
back_first b below (m ∷ above) us (suc k) (undo, rest, e, takes, more) =
    ap (λ xs. map move_back (take (suc k) xs)) e ∙ ap₂ ◌∷◌ (takes_move b (above ++ below) m undo (text b (take k above ++ (drop k above ++ below))) takes (split_text b below above k)) (back_first b below above rest k more)

module _ (b : Base) (R root above path : List Message) (branch : State) (table : Name → Option Held) (keep : ℕ) (new : List Undo) (units : List ℕ) (trunk : IsTrunk b R root above branch) (won : IsWon b R root above path branch table keep new units) (moved : Moved) where
  as_many : length branch.undos ≡ length above
  as_many = sym (length-reverse branch.undos) ∙ many_undos b root above (reverse branch.undos) trunk.undone

  pub is_moved : moved.reverted ≡ map move_back (take (length branch.undos - keep) (reverse branch.undos)) → moved.applied ≡ map move_on (messages_at table (map undone_name new)) → IsMoved b (above ++ root) (path ++ root) moved
  is_moved back on = record {
    common = drop (length above - keep) above ++ root;
    left = take (length above - keep) above;
    joined = won.joined;
    was = ap (λ p. p ++ root) (sym (take-append-drop (length above - keep) above)) ∙ append_assoc (take (length above - keep) above) (drop (length above - keep) above) root;
    is = ap (λ p. p ++ root) won.whole ∙ append_assoc won.joined (drop (length above - keep) above) root;
    apart = won.apart;
    back = back ∙ ap (λ n. map move_back (take (n - keep) (reverse branch.undos))) as_many ∙ back_first b root above (reverse branch.undos) (length above - keep) trunk.undone;
    on = on ∙ ap (map move_on) (sym won.named);
  }

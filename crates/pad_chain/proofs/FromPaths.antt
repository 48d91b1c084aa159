-- How the chosen path comes from a path through the root: what a test of that path says.
use Rattle.std.proofs.Common.{◌≡◌, ℕ, zero, suc, ◌-◌, ◌≤◌, List, [], ◌∷◌, ◌++◌, length, take, drop, map, reverse, Option, option_map, Some, refl, sym, ap, ap₂, ◌∙◌, subst, append_assoc, take-append-drop, length-append, length-drop, arith}
use Rattle.std.specs.List.{cons_option}
use Rattle.std.proofs.lemmas.List.{length-reverse, reverse-append, map-append}
use Rattle.std.proofs.lemmas.List.Elements.{filter_map-append}
use Rattle.pad_text.specs.declared.name.Name.{Name}
use Rattle.pad_message.specs.declared.message.Message.{Message}
use Rattle.pad_message.specs.Message.{name_of}
use Rattle.pad_model.specs.declared.base.Base.{Base}
use Rattle.pad_model.specs.Path.{IsLinkedPath}
use Rattle.pad_branch.specs.declared.held.Held.{Held}
use Rattle.pad_branch.specs.declared.undo.Undo.{Undo}
use Rattle.pad_branch.specs.Undo.{AreUndos, undone_name}
use Rattle.pad_branch.specs.Held.{HoldsKept, message_at, messages_at}
use Rattle.pad_branch.specs.Move.{move_back, move_on}
use Rattle.pad_branch.specs.Branch.{State, IsTrunk, IsWon}
use Rattle.pad_chain.specs.declared.moved.Moved.{Moved}
use Rattle.pad_chain.specs.Moved.{moves_back, IsMoved}
use Rattle.pad_chain.proofs.Ends.{many_undos}
use Rattle.pad_chain.proofs.Moving.{back_first}

-- ---- lists

take_first : {A : Type 0} (xs ys : List A) → take (length xs) (xs ++ ys) ≡ xs
take_first [] ys = refl
take_first (x ∷ xs) ys = ap (λ q. x ∷ q) (take_first xs ys)

pub drop_first : {A : Type 0} (xs ys : List A) → drop (length xs) (xs ++ ys) ≡ ys
drop_first [] ys = refl
drop_first (x ∷ xs) ys = drop_first xs ys

take_reverse : {A : Type 0} (xs : List A) (k : ℕ) → take (length xs - k) (reverse xs) ≡ reverse (drop k xs)
take_reverse xs k =
    ap (take (length xs - k)) (ap reverse (sym (take-append-drop k xs)) ∙ reverse-append (take k xs) (drop k xs))
    ∙ ap (λ n. take n (reverse (drop k xs) ++ reverse (take k xs))) (sym (length-reverse (drop k xs) ∙ length-drop k xs))
    ∙ take_first (reverse (drop k xs)) (reverse (take k xs))

pub twice_reversed : {A : Type 0} (xs : List A) → reverse (reverse xs) ≡ xs
twice_reversed [] = refl
twice_reversed (x ∷ xs) = ap reverse (reverse-append (x ∷ []) xs) ∙ reverse-append (reverse xs) (x ∷ []) ∙ ap (λ q. x ∷ q) (twice_reversed xs)

-- ---- the messages at the names of undos

pub held_message : (table : Name → Option Held) (names : List Name) (n : Name) (held : Held) → table n ≡ Some held → messages_at table (names ++ n ∷ []) ≡ messages_at table names ++ held.message ∷ []
held_message table names n held e = filter_map-append (message_at table) names (n ∷ []) ∙ ap (λ (o : Option Held). messages_at table names ++ cons_option (option_map (λ (h : Held). h.message) o) []) e

module _ (b : Base) (R root : List Message) (table : Name → Option Held) (holds : HoldsKept b R root table) where
  -- the first undos, the oldest of them first, are those of the first messages
  pub first_held : (above : List Message) (us : List Undo) (k : ℕ) → AreUndos b root above us → IsLinkedPath b R (above ++ root) → messages_at table (map undone_name (reverse (take k us))) ≡ reverse (take k above)
  first_held above us zero h linked = refl
  first_held [] us (suc k) h linked = ap (λ xs. messages_at table (map undone_name (reverse (take (suc k) xs)))) h
  first_held (m ∷ above) us (suc k) (undo, rest, e, takes, more) linked =
      ap (λ xs. messages_at table (map undone_name (reverse (take (suc k) xs)))) e
      ∙ ap (λ xs. messages_at table (map undone_name xs)) (reverse-append (undo ∷ []) (take k rest))
      ∙ ap (messages_at table) (map-append undone_name (reverse (take k rest)) (undo ∷ []))
      ∙ at (holds m (above ++ root) linked (above, refl)) (first_held above rest k more linked.1)
      ∙ sym (reverse-append (m ∷ []) (take k above))
    where
      at : (held : Held) × (table (name_of m) ≡ Some held) × (held.message ≡ m) → messages_at table (map undone_name (reverse (take k rest))) ≡ reverse (take k above) → messages_at table (map undone_name (reverse (take k rest)) ++ undone_name undo ∷ []) ≡ reverse (take k above) ++ m ∷ []
      at (held, there, is) before =
          held_message table (map undone_name (reverse (take k rest))) (undone_name undo) held (ap table takes.after.name ∙ there)
          ∙ ap₂ (λ xs x. xs ++ x ∷ []) before is

module _ (b : Base) (R root above path : List Message) (branch : State) (table : Name → Option Held) (keep : ℕ) (new : List Undo) (units : List ℕ) (trunk : IsTrunk b R root above branch) (holds : HoldsKept b R root table) (won : IsWon b R root above path branch table keep new units) (keeps : keep ≤ length branch.undos) (moved : Moved) where
  as_many : length branch.undos ≡ length above
  as_many = sym (length-reverse branch.undos) ∙ many_undos b root above (reverse branch.undos) trunk.undone

  abbrev low : List Message
  low = drop (length above - keep) above

  new_many : length new ≡ length won.joined
  new_many = omega (arith, keeps, as_many, length-drop (length above - keep) above, ap length won.whole, length-append won.joined low, many_undos b root path (reverse (take keep branch.undos ++ new)) won.trunk.undone, length-reverse (take keep branch.undos ++ new), length-append (take keep branch.undos) new, taken)
    where
      taken : length (take keep branch.undos) ≡ keep
      taken = omega (arith, keeps, ap length (take-append-drop keep branch.undos), length-append (take keep branch.undos) (drop keep branch.undos), length-drop keep branch.undos)

  pub new_first : reverse (take keep branch.undos ++ new) ≡ reverse new ++ reverse (take keep branch.undos)
  new_first = reverse-append (take keep branch.undos) new

  pub are_undos : AreUndos b root path (reverse new ++ reverse (take keep branch.undos))
  are_undos = subst (AreUndos b root path) new_first won.trunk.undone

  pub firsts : take (length won.joined) (reverse new ++ reverse (take keep branch.undos)) ≡ reverse new
  firsts = ap (λ n. take n (reverse new ++ reverse (take keep branch.undos))) (sym new_many ∙ sym (length-reverse new)) ∙ take_first (reverse new) (reverse (take keep branch.undos))

  back_is : map move_back (reverse new) ≡ moves_back b (low ++ root) won.joined
  back_is =
      ap (map move_back) (sym firsts) ∙ back_first b root path (reverse new ++ reverse (take keep branch.undos)) (length won.joined) are_undos
      ∙ ap₂ (λ p q. moves_back b (p ++ root) q) (ap (drop (length won.joined)) won.whole ∙ drop_first won.joined low) (ap (take (length won.joined)) won.whole ∙ take_first won.joined low)

  pub on_is : messages_at table (map undone_name (drop keep branch.undos)) ≡ reverse (take (length above - keep) above)
  on_is =
      ap (λ us. messages_at table (map undone_name us)) (sym (twice_reversed (drop keep branch.undos)) ∙ ap reverse (sym (take_reverse branch.undos keep) ∙ ap (λ n. take (n - keep) (reverse branch.undos)) as_many))
      ∙ first_held b R root table holds above (reverse branch.undos) (length above - keep) trunk.undone trunk.linked

  pub comes_from : moved.reverted ≡ map move_back (reverse new) → moved.applied ≡ map move_on (messages_at table (map undone_name (drop keep branch.undos))) → IsMoved b (path ++ root) (above ++ root) moved
  comes_from back on = record {
    common = low ++ root;
    left = won.joined;
    joined = take (length above - keep) above;
    was = ap (λ p. p ++ root) won.whole ∙ append_assoc won.joined low root;
    is = ap (λ p. p ++ root) (sym (take-append-drop (length above - keep) above)) ∙ append_assoc (take (length above - keep) above) low root;
    apart = λ m here there. won.apart m there here;
    back = back ∙ back_is;
    on = on ∙ ap (map move_on) on_is;
  }

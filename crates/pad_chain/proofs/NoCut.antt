-- Where no checkpoint comes onto the branch, the root stays.
use Rattle.std.proofs.Common.{◌≡◌, ℕ, zero, suc, ◌-◌, ◌≤◌, ◌⊎◌, inl, inr, nat_lt, List, [], ◌∷◌, ◌++◌, length, take, drop, reverse, Contains, Bool, true, false, Option, get_or, refl, sym, ap, ◌∙◌, subst, append_assoc, take-append-drop, arith, length-append, length-drop}
use Rattle.std.specs.Prelude.{if◌then◌else◌}
use Rattle.std.proofs.lemmas.List.{reverse-append, length-reverse, length-take}
use Rattle.std.proofs.lemmas.Bool.{ltb-true, ltb-false}
use Rattle.pad_text.specs.declared.name.Name.{Name}
use Rattle.pad_message.specs.declared.message.Message.{Message}
use Rattle.pad_message.specs.Kind.{is_checkpoint}
use Rattle.pad_graph.specs.declared.linking.Linking.{Linking}
use Rattle.pad_list.proofs.CallerLemmas.{contains_head, contains_more, contains_cases, contains_none}
use Rattle.pad_model.specs.declared.base.Base.{Base}
use Rattle.pad_model.specs.Choice.{cut, higher, Choice}
use Rattle.pad_model.specs.Laws.{RepeatChangesNoChoice}
use Rattle.pad_checkpoint.specs.Laws.{RootsRiseToCutsAbove}
use Rattle.pad_branch.specs.declared.held.Held.{Held}
use Rattle.pad_branch.specs.declared.undo.Undo.{Undo}
use Rattle.pad_branch.specs.Undo.{AreUndos}
use Rattle.pad_branch.specs.Branch.{IsTrunk, IsWon}
use Rattle.pad_branch.specs.Laws.{NoCheckpoint, RootStays}
use Rattle.pad_chain.specs.State.{View}
use Rattle.pad_chain.specs.Tie.{IsChosen}
use Rattle.pad_chain.specs.Inside.Receiving.{rising, IsJoining}
use Rattle.pad_chain.specs.Inside.Marks.{NoneIsCheckpoint}
use Rattle.pad_chain.proofs.Ends.{many_undos}
use Rattle.pad_chain.proofs.Chosen.{root_stays}
use Rattle.pad_chain.proofs.Settled.{no_front}

-- one turn more of the loop over undos
pub none_next : (us : List Undo) (x : Undo) → is_checkpoint x.kind ≡ false → NoneIsCheckpoint (reverse us) → NoneIsCheckpoint (reverse (us ++ x ∷ []))
none_next us x e none = subst NoneIsCheckpoint (sym (reverse-append us (x ∷ []))) (λ u c. go u (contains_cases x (reverse us) u c))
  where
    go : (u : Undo) → (x ≡ u) ⊎ Contains (reverse us) u → is_checkpoint u.kind ≡ false
    go u (inl s) = ap (λ (v : Undo). is_checkpoint v.kind) (sym s) ∙ e
    go u (inr c) = none u c

take_front : {A : Type 0} (xs ys : List A) → take (length xs) (xs ++ ys) ≡ xs
take_front [] ys = refl
take_front (x ∷ xs) ys = ap (λ zs. x ∷ zs) (take_front xs ys)

-- the messages that undos take back are of their kinds
kinds : (b : Base) (root above : List Message) (us : List Undo) (n : ℕ) → AreUndos b root above us → NoneIsCheckpoint (take n us) → (x : Message) → Contains (take n above) x → is_checkpoint x.kind ≡ false
kinds b root above us zero h none x c = absurd (contains_none x c)
kinds b root [] us (suc n) h none x c = absurd (contains_none x c)
kinds b root (y ∷ above) us (suc n) (u, rest, e, takes, more) none x c = go (contains_cases y (take n above) x c) (kinds b root above rest n more (λ v k. at_us v (contains_more u (take n rest) v k)) x)
  where
    at_us : NoneIsCheckpoint (u ∷ take n rest)
    at_us = subst (λ ls. NoneIsCheckpoint (take (suc n) ls)) e none

    go : (y ≡ x) ⊎ Contains (take n above) x → (Contains (take n above) x → is_checkpoint x.kind ≡ false) → is_checkpoint x.kind ≡ false
    go (inl s) rec = ap (λ (z : Message). is_checkpoint z.kind) (sym s) ∙ ap is_checkpoint (sym takes.kind) ∙ at_us u (contains_head u (take n rest))
    go (inr k) rec = rec k

each_in : (xs : List Message) → ((x : Message) → Contains xs x → is_checkpoint x.kind ≡ false) → NoCheckpoint xs
each_in xs f k e within = f (get_or xs k e) (at xs k e within)
  where
    at : (ys : List Message) (k : ℕ) (e : Message) → suc k ≤ length ys → Contains ys (get_or ys k e)
    at [] k e h = absurd (omega (arith, h))
    at (y ∷ ys) zero e h = contains_head y ys
    at (y ∷ ys) (suc k) e h = contains_more y ys (get_or ys k e) (at ys k e (omega (arith, h)))

-- the higher of two paths is the first: the other one is not longer
not_longer : (p q : List Message) → p ≡ higher p q → length q ≤ length p
not_longer p q e = go (nat_lt (length p) (length q)) refl e
  where
    go : (t : Bool) → nat_lt (length p) (length q) ≡ t → p ≡ (if t then q else p) → length q ≤ length p
    go true less same = omega (arith, ltb-true (length p) (length q) less, ap length same)
    go false less same = ltb-false (length p) (length q) less

module _ (before mid : View) (b : Base) (R : List Message) (m : Message) (choice : Choice) (linkings : List Linking) (j : IsJoining before mid b R m choice linkings) (trunk : IsTrunk b (m ∷ R) choice.root j.adding.stood.above mid.branch.branch) (path : List Message) (keep : ℕ) (come : List Undo) (units : List ℕ) (table : Name → Option Held) (won : IsWon b (m ∷ R) choice.root j.adding.stood.above path mid.branch.branch table keep come units) (none : NoneIsCheckpoint (reverse come)) where
  abbrev above : List Message
  above = j.adding.stood.above

  abbrev left : List Message
  left = take (length above - keep) above

  abbrev upper : List Message
  upper = drop (length above - keep) above

  abbrev stay : List Undo
  stay = take keep mid.branch.branch.undos

  as_many : length won.joined ≡ length (reverse come)
  as_many = omega (
    arith,
    many_undos b choice.root path (reverse (stay ++ come)) won.trunk.undone,
    length-reverse (stay ++ come),
    length-append stay come,
    length-take keep mid.branch.branch.undos,
    ap length won.whole,
    length-append won.joined upper,
    length-drop (length above - keep) above,
    many_undos b choice.root above (reverse mid.branch.branch.undos) trunk.undone,
    length-reverse mid.branch.branch.undos,
    length-reverse come,
  )

  in_front : take (length (reverse come)) path ≡ won.joined
  in_front = ap (λ n. take n path) (sym as_many) ∙ ap (take (length won.joined)) won.whole ∙ take_front won.joined upper

  first_undos : take (length (reverse come)) (reverse (stay ++ come)) ≡ reverse come
  first_undos = ap (take (length (reverse come))) (reverse-append stay come) ∙ take_front (reverse come) (reverse stay)

  joins_none : NoCheckpoint won.joined
  joins_none = each_in won.joined (λ x c. kinds b choice.root path (reverse (stay ++ come)) (length (reverse come)) won.trunk.undone (subst NoneIsCheckpoint (sym first_undos) none) x (subst (λ xs. Contains xs x) (sym in_front) c))

  was : left ++ (upper ++ choice.root) ≡ choice.chosen
  was = sym (append_assoc left upper choice.root) ∙ ap (λ q. q ++ choice.root) (take-append-drop (length above - keep) above) ∙ sym j.adding.stood.through

  is : path ++ choice.root ≡ won.joined ++ (upper ++ choice.root)
  is = ap (λ q. q ++ choice.root) won.whole ∙ append_assoc won.joined upper choice.root

  pub no_rise : RootStays → RepeatChangesNoChoice → RootsRiseToCutsAbove → rising mid.whole path ≡ []
  no_rise stays repeat rise = ap (λ w. rising w path) j.whole ∙ go before.whole j.adding.stood.chosen
    where
      go : (w : Bool) → IsChosen w b R choice → rising w path ≡ []
      go true h = refl
      go false h =
          let low : length (cut (left ++ (upper ++ choice.root))) ≤ length choice.root = subst (λ p. length (cut p) ≤ length choice.root) (sym was) (not_longer choice.root (cut choice.chosen) (root_stays repeat b R choice h)) in
          no_front (cut path) choice.root (sym (rise choice.root path) ∙ ap (λ p. higher choice.root (cut p)) is ∙ stays choice.root left won.joined (upper ++ choice.root) joins_none low)

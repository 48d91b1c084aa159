-- What a message does to a chain, whatever the chain stands for.
use Rattle.std.proofs.Common.{◌≡◌, ℕ, ◌+◌, ◌≤◌, ◌⊎◌, inl, inr, List, [], ◌∷◌, ◌++◌, length, map, reverse, Contains, Bool, true, false, cond, is_eq, Option, Some, None, Result, Ok, Err, IfOk, IfErr, OnOk, OnErr, refl, sym, ap, ap₂, ◌∙◌, subst, arith, length-append}
use Rattle.std.proofs.lemmas.List.{length-map, length-reverse, reverse-append, map-append}
use Rattle.std.specs.Map.{lookup}
use Rattle.std.specs.BTreeMap.{is_at}
use Rattle.pad_text.specs.declared.name.Name.{Name}
use Rattle.pad_message.specs.declared.message.Message.{Message}
use Rattle.pad_message.specs.Message.{name_of}
use Rattle.pad_graph.specs.declared.added.Added.{Added}
use Rattle.pad_graph.specs.Added.{links_after}
use Rattle.pad_graph.specs.Chain.{Link}
use Rattle.pad_graph.specs.State as graph
use Rattle.pad_graph.specs.State.{name_cmp}
use Rattle.pad_graph.specs.Graph.{Stands}
use Rattle.pad_list.proofs.CallerLemmas.{contains_head, contains_more, contains_map, mapped_from, distinct_short, one_number}
use Rattle.pad_model.specs.declared.base.Base.{Base}
use Rattle.pad_model.specs.Count.{IsKnown}
use Rattle.pad_branch.specs.declared.held.Held.{Held}
use Rattle.pad_branch.specs.declared.tip.Tip.{Tip}
use Rattle.pad_branch.specs.declared.undo.Undo.{Undo}
use Rattle.pad_branch.specs.Undo.{undone_name}
use Rattle.pad_branch.specs.Held.{messages_at}
use Rattle.pad_branch.specs.Move.{move_on}
use Rattle.pad_branch.specs.Branch.{LeadsTo}
use Rattle.pad_chain.specs.declared.moved.Moved.{Moved}
use Rattle.pad_chain.specs.State.{View, held_of}
use Rattle.pad_chain.specs.Leads.{Leads}
use Rattle.pad_chain.specs.Knows.{Knows}
use Rattle.pad_chain.specs.Receive.{KeepsBranch, KeepsHeld, KeepsStands}
use Rattle.pad_chain.specs.Inside.Receiving.{MovesNothing, UndoesName}
use Rattle.pad_chain.specs.Inside.Tables.{IsPut, IsSame}
use Rattle.pad_chain.proofs.FromPaths.{twice_reversed, held_message}
use Rattle.pad_chain.proofs.Names.{name_same}
use Rattle.pad_chain.proofs.Knowing.{Tells, number_known, known_cases}

-- ---- of a call's result

pub at_ok_too : {A E : Type 0} {P Q : A → Type 0} {F : Type 0} (r : Result A E) → ((x : A) → P x → F → Q x) → IfOk r P → OnOk r F → IfOk r Q
at_ok_too (Ok x) f h k = f x h k
at_ok_too (Err e) f h k = tt

pub on_ok : {A E : Type 0} {P Q : Type 0} (r : Result A E) → (P → Q) → OnOk r P → OnOk r Q
on_ok (Ok x) f h = f h
on_ok (Err e) f h = tt

pub at_err : {A E : Type 0} {Q : E → Type 0} (r : Result A E) → ((e : E) → Q e) → IfErr r Q
at_err (Ok x) f = tt
at_err (Err e) f = f e

pub on_err : {A E : Type 0} {P : Type 0} (r : Result A E) → P → OnErr r P
on_err (Ok x) h = tt
on_err (Err e) h = h

-- ---- moves

pub none_leads : (moved : Moved) (from to : List ℕ) → MovesNothing moved → from ≡ to → Leads (moved.reverted ++ moved.applied) from to
none_leads moved from to none same = subst (λ moves. Leads moves from to) (sym (ap₂ ◌++◌ none.left none.came)) same

one_on : (table : Name → Option Held) (u : Undo) (us : List Undo) (held : Held) → table u.after.name ≡ Some held
    → map move_on (messages_at table (map undone_name (reverse (u ∷ us)))) ≡ map move_on (messages_at table (map undone_name (reverse us))) ++ move_on held.message ∷ []
one_on table u us held found =
    ap (λ xs. map move_on (messages_at table (map undone_name xs))) (reverse-append (u ∷ []) us)
    ∙ ap (λ xs. map move_on (messages_at table xs)) (map-append undone_name (reverse us) (u ∷ []))
    ∙ ap (map move_on) (held_message table (map undone_name (reverse us)) (undone_name u) held found)
    ∙ map-append move_on (messages_at table (map undone_name (reverse us))) (held.message ∷ [])

on_many : (table : Name → Option Held) (units : List ℕ) (tip : Tip) (us : List Undo) (after : List ℕ) → LeadsTo table units tip us after → length (map move_on (messages_at table (map undone_name (reverse us)))) ≡ length us
on_many table units tip [] after e = refl
on_many table units tip (u ∷ us) after (held, before, found, grows, rest) =
    omega (arith, ap length (one_on table u us held found), length-append (map move_on (messages_at table (map undone_name (reverse us)))) (move_on held.message ∷ []), on_many table units tip us before rest)

-- each message that comes on is held, so none is left out
pub came_many : (table : Name → Option Held) (units : List ℕ) (tip : Tip) (new : List Undo) (after : List ℕ) → LeadsTo table units tip (reverse new) after → length (map move_on (messages_at table (map undone_name new))) ≡ length new
came_many table units tip new after h =
    ap (λ us. length (map move_on (messages_at table (map undone_name us)))) (sym (twice_reversed new)) ∙ on_many table units tip (reverse new) after h ∙ length-reverse new

-- ---- what stays

pub branch_stays : (v : View) → KeepsBranch v v
branch_stays v = record { pruning = refl; branch = refl; found = refl; whole = refl }

pub branch_on : (old mid new : View) → KeepsBranch mid new → mid.pruning ≡ old.pruning → mid.branch.branch ≡ old.branch.branch → mid.found ≡ old.found → mid.whole ≡ old.whole → KeepsBranch old new
branch_on old mid new h pruning branch found whole = record { pruning = h.pruning ∙ pruning; branch = h.branch ∙ branch; found = h.found ∙ found; whole = h.whole ∙ whole }

pub held_stays : (v : View) (name : Name) → KeepsHeld v v name
held_stays v name other = inl refl

pub held_same : (old new : View) (name : Name) → IsSame (held_of old) (held_of new) → KeepsHeld old new name
held_same old new name same other = inl (same other)

-- what is held at the name was put there, and taken out
pub held_again : (old mid stopped new : View) (name : Name) (held : Held) → IsPut (held_of old) (held_of mid) name (Some held) → stopped.messages ≡ mid.messages → IsPut (held_of stopped) (held_of new) name None → KeepsHeld old new name
held_again old mid stopped new name held put messages removed other = go (is_eq (name_cmp name other)) refl
  where
    is_now : (t : Bool) → is_eq (name_cmp name other) ≡ t → held_of new other ≡ cond t None (cond t (Some held) (held_of old other))
    is_now t e =
        removed other ∙ ap (λ (entries : List (Name × Held)). cond (is_eq (name_cmp name other)) None (lookup (is_at (name_cmp other)) entries)) messages
        ∙ ap (cond (is_eq (name_cmp name other)) None) (put other) ∙ ap (λ u. cond u None (cond u (Some held) (held_of old other))) e

    go : (t : Bool) → is_eq (name_cmp name other) ≡ t → (held_of new other ≡ held_of old other) ⊎ ((other ≡ name) × (held_of new other ≡ None))
    go true e = inr (sym (name_same name other e), is_now true e)
    go false e = inl (is_now false e)

pub stands_stay : (v : View) → KeepsStands v v
stands_stay v base links root h = h

pub stands_same : (old new : View) → graph.state_of new.graph ≡ graph.state_of old.graph → KeepsStands old new
stands_same old new same base links root h = subst (λ (s : graph.State). Stands s base links root) (sym same) h

-- the message was added, and taken back
pub stands_again : (old mid new : View) (name : Name) (m : Message) (added : Added) → ((links : List Link) → links_after (record { name = name; parent = m.parent }) links added ≡ record { name = name; parent = m.parent } ∷ links)
    → Tells old mid name m added → UndoesName mid new → KeepsStands old new
stands_again old mid new name m added one told undone base links root h =
    undone base (record { name = name; parent = m.parent }) links root (subst (λ (ls : List Link). Stands (graph.state_of mid.graph) base ls root) (one links) (told base links root h).1)

-- ---- how many names are known

named_in : (chain : View) (b : Base) (R : List Message) (k : Knows chain b R) (n : Name) → IsKnown b R n → Contains (map (λ (l : Link). l.name) k.links) n
named_in chain b R k n h = let a = (k.names n).1 h in subst (Contains (map (λ (l : Link). l.name) k.links)) a.2 (contains_map (λ (l : Link). l.name) k.links a.0 a.1)

one_more : (old new : View) (b : Base) (m : Message) (R : List Message) → Knows old b R → Knows new b (m ∷ R) → new.graph.known ≤ old.graph.known + 1
one_more old new b m R k h =
    omega (
      arith,
      h.stands.known,
      k.stands.known,
      length-map h.links (λ (l : Link). l.name),
      length-map k.links (λ (l : Link). l.name),
      distinct_short (map (λ (l : Link). l.name) h.links) (name_of m ∷ map (λ (l : Link). l.name) k.links) h.stands.differ inside,
    )
  where
    inside : (n : Name) → Contains (map (λ (l : Link). l.name) h.links) n → Contains (name_of m ∷ map (λ (l : Link). l.name) k.links) n
    inside n c = go (known_cases b m R n ((h.names n).0 (mapped_from (λ (l : Link). l.name) h.links n c)))
      where
        go : (name_of m ≡ n) ⊎ IsKnown b R n → Contains (name_of m ∷ map (λ (l : Link). l.name) k.links) n
        go (inl e) = subst (Contains (name_of m ∷ map (λ (l : Link). l.name) k.links)) e (contains_head (name_of m) (map (λ (l : Link). l.name) k.links))
        go (inr i) = contains_more (name_of m) (map (λ (l : Link). l.name) k.links) n (named_in old b R k n i)

-- one message makes at most one name known
pub grows : {E : Type 0} (r : Result Moved E) (old new : View) (m : Message) → OnOk r ((b : Base) (R : List Message) → Knows old b R → Knows new b (m ∷ R)) → OnErr r ((b : Base) (R : List Message) → Knows old b R → Knows new b R)
    → (b : Base) (R : List Message) → Knows old b R → new.graph.known ≤ old.graph.known + 1
grows (Ok moved) old new m received refused b R k = one_more old new b m R k (received b R k)
grows (Err e) old new m received refused b R k = omega (arith, one_number (IsKnown b R) new.graph.known old.graph.known (number_known new b R (refused b R k)) (number_known old b R k))

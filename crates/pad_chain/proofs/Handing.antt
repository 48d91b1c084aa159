-- What the questions on other paths hand over.
use Rattle.std.proofs.Common.{◌≡◌, ℕ, ◌≤◌, ◌<◌, ◌⊎◌, inl, inr, List, ◌++◌, length, drop, map, reverse, true, refl, sym, ap, ◌∙◌, subst, arith}
use Rattle.pad_text.specs.declared.name.Name.{Name}
use Rattle.pad_message.specs.declared.message.Message.{Message}
use Rattle.pad_graph.specs.declared.standing.Standing.{Standing}
use Rattle.pad_graph.specs.declared.standing.Standing.TheVariants as stand
use Rattle.pad_graph.specs.Chain.{Link}
use Rattle.pad_graph.specs.State as graph
use Rattle.pad_graph.specs.Graph.{Stands, IsStanding}
use Rattle.pad_model.specs.declared.base.Base.{Base}
use Rattle.pad_model.specs.Path.{last_name, text, IsLinkedPath, EachSound}
use Rattle.pad_model.specs.Choice.{RunsThrough, Choice}
use Rattle.pad_checkpoint.specs.Links.{names_of}
use Rattle.pad_branch.specs.declared.undo.Undo.{Undo}
use Rattle.pad_branch.specs.Undo.{undone_name}
use Rattle.pad_branch.specs.Held.{HoldsKept, marks, messages_at}
use Rattle.pad_branch.specs.Move.{move_back, move_on}
use Rattle.pad_branch.specs.Branch.{IsTrunk, IsWon, IsStopped, CanSwitch}
use Rattle.pad_chain.specs.declared.moved.Moved.{Moved}
use Rattle.pad_chain.specs.Moved.{EndsIn, IsMoved}
use Rattle.pad_chain.specs.Leads.{Leads}
use Rattle.pad_chain.specs.State.{View, held_of}
use Rattle.pad_chain.specs.Tie.{StandsFor}
use Rattle.pad_chain.proofs.Ends.{end_text}
use Rattle.pad_chain.proofs.FromPaths.{comes_from}
use Rattle.pad_chain.proofs.Leading.{leads_from}
use Rattle.pad_chain.proofs.KeptPaths.{path_of_kept, kept_of_path, height_between, stopped, marked_out}

-- what a test that won says
abbrev pub WonFrom : View → Name → ℕ → List Undo → List ℕ → Type 0
WonFrom chain from keep new units = (base : Base) (received : List Message) (choice : Choice) → (stands : StandsFor chain base received choice)
    → (path : List Message) × IsLinkedPath base received (path ++ choice.root) × (last_name base (path ++ choice.root) ≡ from)
    × IsWon base received choice.root stands.above path chain.branch.branch (held_of chain) keep new units

-- no path through the root ends in the name
abbrev pub NoneTo : View → Name → Type 0
NoneTo chain from = (base : Base) (received : List Message) (choice : Choice) → StandsFor chain base received choice
    → (path : List Message) → ¬ (EndsIn base received choice.root path from)

-- how the chosen path comes from it
abbrev pub ComesFrom : View → Name → List ℕ → Moved → Type 0
ComesFrom chain from units moved = (base : Base) (received : List Message) (choice : Choice) → StandsFor chain base received choice
    → (path : List Message) × EndsIn base received choice.root path from × (units ≡ text base path) × IsMoved base path choice.chosen moved × Leads (moved.reverted ++ moved.applied) units chain.branch.branch.units

-- and how it does for one who has not the text
abbrev pub MovesFrom : View → Name → Moved → Type 0
MovesFrom chain from moved = (base : Base) (received : List Message) (choice : Choice) → StandsFor chain base received choice
    → (path : List Message) × EndsIn base received choice.root path from × IsMoved base path choice.chosen moved × Leads (moved.reverted ++ moved.applied) (text base path) (text base choice.chosen)

module _ (chain : View) (from : Name) (how : Standing) (is : (base : Name) (links : List Link) (root : List Name) → Stands (graph.state_of chain.graph) base links root → IsStanding base links root from how) where
  stands_at : (b : Base) (R : List Message) (choice : Choice) (s : StandsFor chain b R choice) (path : List Message) → EndsIn b R choice.root path from → how ≡ stand.Linked (length path)
  stands_at b R choice s path e = kept_of_path b R choice chain s from how path (is b.name s.links (names_of choice.root) s.stands) e.is_path.0 e.through e.last

  pub not_linked : ((height : ℕ) → how ≡ stand.Linked height → ⊥) → NoneTo chain from
  not_linked never b R choice s path e = never (length path) (stands_at b R choice s path e)

  module _ (height : ℕ) (at : how ≡ stand.Linked height) where
    as_long : (b : Base) (R : List Message) (choice : Choice) (s : StandsFor chain b R choice) (path : List Message) → EndsIn b R choice.root path from → length path ≡ height
    as_long b R choice s path e = same (length path) height (sym (stands_at b R choice s path e) ∙ at)
      where
        same : (x y : ℕ) → stand.Linked x ≡ stand.Linked y → x ≡ y
        same x y k = cc

    pub too_low : (height < chain.branch.branch.low) ⊎ (chain.graph.known < height) → NoneTo chain from
    too_low out b R choice s path e = go out (height_between b R choice chain s path e.is_path.0 e.through) (as_long b R choice s path e)
      where
        go : (height < chain.branch.branch.low) ⊎ (chain.graph.known < height) → (chain.branch.branch.low ≤ length path) × (length path ≤ chain.graph.known) → length path ≡ height → ⊥
        go (inl low) (over, under) k = omega (arith, low, over, k)
        go (inr high) (over, under) k = omega (arith, high, under, k)

    pub is_marked : marks (held_of chain) from ≡ true → NoneTo chain from
    is_marked mark b R choice s path e = marked_out b R choice chain s from path e.is_path.0 e.through e.last mark e.is_path.1

    pub is_stopped : (first : Name) → ((base : Base) (received below chosen path : List Message) → HoldsKept base received below (held_of chain) → IsTrunk base received below chosen chain.branch.branch
        → IsLinkedPath base received (path ++ below) → length (path ++ below) ≡ height → last_name base (path ++ below) ≡ from → IsStopped base received below path first) → NoneTo chain from
    is_stopped first told b R choice s path e = go e.through
      where
        go : RunsThrough choice.root path → ⊥
        go (upper, whole) =
            let linked = subst (IsLinkedPath b R) whole e.is_path.0 in
            stopped b R choice chain s upper first linked (told b R choice.root s.above upper s.holds s.trunk linked (ap length (sym whole) ∙ as_long b R choice s path e) (ap (last_name b) (sym whole) ∙ e.last)) (subst (EachSound b) whole e.is_path.1)

    pub is_won : (keep : ℕ) (new : List Undo) (units : List ℕ) → ((base : Base) (received below chosen path : List Message) → HoldsKept base received below (held_of chain) → IsTrunk base received below chosen chain.branch.branch
        → IsLinkedPath base received (path ++ below) → length (path ++ below) ≡ height → last_name base (path ++ below) ≡ from → IsWon base received below chosen path chain.branch.branch (held_of chain) keep new units) → WonFrom chain from keep new units
    is_won keep new units told b R choice s = go (path_of_kept b R choice chain s from height (subst (IsStanding b.name s.links (names_of choice.root) from) at (is b.name s.links (names_of choice.root) s.stands)))
      where
        go : (upper : List Message) × IsLinkedPath b R (upper ++ choice.root) × (length (upper ++ choice.root) ≡ height) × (last_name b (upper ++ choice.root) ≡ from)
            → (path : List Message) × IsLinkedPath b R (path ++ choice.root) × (last_name b (path ++ choice.root) ≡ from) × IsWon b R choice.root s.above path chain.branch.branch (held_of chain) keep new units
        go (upper, linked, long, named) = (upper, linked, named, told b R choice.root s.above upper s.holds s.trunk linked long named)

pub comes : (chain : View) (from : Name) (keep : ℕ) (new : List Undo) (units : List ℕ) (moved : Moved) → WonFrom chain from keep new units → CanSwitch chain.branch.branch keep new units
    → moved.reverted ≡ map move_back (reverse new) → moved.applied ≡ map move_on (messages_at (held_of chain) (map undone_name (drop keep chain.branch.branch.undos))) → ComesFrom chain from units moved
comes chain from keep new units moved won switch back on b R choice s = go (won b R choice s)
  where
    go : (path : List Message) × IsLinkedPath b R (path ++ choice.root) × (last_name b (path ++ choice.root) ≡ from) × IsWon b R choice.root s.above path chain.branch.branch (held_of chain) keep new units
        → (path : List Message) × EndsIn b R choice.root path from × (units ≡ text b path) × IsMoved b path choice.chosen moved × Leads (moved.reverted ++ moved.applied) units chain.branch.branch.units
    go (path, linked, named, w) = (
      path ++ choice.root,
      record { is_path = (linked, w.sound); through = (path, refl); last = named },
      w.trunk.text,
      subst (λ p. IsMoved b (path ++ choice.root) p moved) (sym s.through) (comes_from b R choice.root s.above path chain.branch.branch (held_of chain) keep new units s.trunk s.holds w switch.keeps moved back on),
      leads_from b R choice.root s.above path chain.branch.branch (held_of chain) keep new units s.trunk s.holds w switch.keeps moved switch back on,
    )

pub without_text : (chain : View) (from : Name) (units : List ℕ) (moved : Moved) → ComesFrom chain from units moved → MovesFrom chain from moved
without_text chain from units moved comes b R choice s = go (comes b R choice s)
  where
    go : (path : List Message) × EndsIn b R choice.root path from × (units ≡ text b path) × IsMoved b path choice.chosen moved × Leads (moved.reverted ++ moved.applied) units chain.branch.branch.units
        → (path : List Message) × EndsIn b R choice.root path from × IsMoved b path choice.chosen moved × Leads (moved.reverted ++ moved.applied) (text b path) (text b choice.chosen)
    go (path, ends, is, is_moved, leads) = (path, ends, is_moved, subst (λ t. Leads (moved.reverted ++ moved.applied) t (text b choice.chosen)) is (subst (Leads (moved.reverted ++ moved.applied) units) (end_text b R chain choice s) leads))

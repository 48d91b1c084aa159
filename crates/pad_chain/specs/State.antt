-- What contracts see of a chain.
use Rattle.std.specs.Prelude.{List, Bool, Option}
use Rattle.std.specs.Map.{lookup}
use Rattle.std.specs.BTreeMap.{is_at}
use Rattle.pad_text.specs.declared.name.Name.{Name}
use Rattle.pad_graph.specs.State.{Tables, name_cmp}
use Rattle.pad_checkpoint.specs.declared.pruning.Pruning.{Pruning}
use Rattle.pad_branch.specs.declared.held.Held.{Held}
use Rattle.pad_branch.specs.Branch as branch

-- the graph of names; the root and what overtook; the messages that are kept or wait, by name; the chosen path above the root;
-- the names of the messages that were found not to be sound, the last first; whether it never truncates
pub record View : Type 0 where
  pub graph : Tables
  pub pruning : Pruning
  pub messages : List (Name × Held)
  pub branch : branch.View
  pub found : List Name
  pub whole : Bool

-- what is held at a name
abbrev pub held_of : View → Name → Option Held
held_of chain name = lookup (is_at (name_cmp name)) chain.messages

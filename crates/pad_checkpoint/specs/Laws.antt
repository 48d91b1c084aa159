-- Laws of cuts and of links.
use Rattle.std.specs.Prelude.{◌≡◌, List, ◌++◌}
use Rattle.pad_text.specs.declared.name.Name.{Name}
use Rattle.pad_message.specs.declared.message.Message.{Message}
use Rattle.pad_graph.specs.Chain.{Link, IsChain}
use Rattle.pad_model.specs.declared.base.Base.{Base}
use Rattle.pad_model.specs.Path.{IsLinkedPath}
use Rattle.pad_model.specs.Choice.{cut, higher}
use Rattle.pad_checkpoint.specs.Links.{names_of, AreLinks}

-- the higher of a root and of the cut of a path through it is the cut of what stands above the root, on top of it
abbrev pub RootsRiseToCutsAbove : Type 0
RootsRiseToCutsAbove = (root above : List Message) → higher root (cut (above ++ root)) ≡ cut above ++ root

-- the names of a linked path are a chain of the links, and each chain of them is that of a linked path
pub record AreChains (base : Base) (received : List Message) (links : List Link) : Type 0 where
  pub chain : (path : List Message) → IsLinkedPath base received path → IsChain base.name links (names_of path)
  pub path : (names : List Name) → IsChain base.name links names → (path : List Message) × IsLinkedPath base received path × (names_of path ≡ names)

abbrev pub LinkedPathsAreChains : Type 0
LinkedPathsAreChains = (base : Base) (received : List Message) (links : List Link) → AreLinks base received links → AreChains base received links

use Rattle.std.proofs.Common.{List}
use Rattle.pad_model.specs.declared.base.Base.{Base}
use Rattle.pad_message.specs.declared.message.Message.{Message}
use Rattle.pad_model.specs.Path.{NamesDiffer}
use Rattle.pad_branch.specs.Pathless.{KnowsPathless, pathless_in}
use Rattle.pad_branch.specs.Inside.Passing.{IsLinkedThrough}
use Rattle.pad_branch.specs.Choice.{AreLinkedOn}
use Rattle.pad_graph.specs.State.{name_cmp, state_of}
use Rattle.std.specs.BTreeMap.{get}
use Rattle.pad_branch.proofs.Levels.{Spreads}
use Rattle.pad_branch.proofs.passing.pass_on.Given as goal

abbrev pub invariant-loop-turn : goal.invariant-loop-turn
invariant-loop-turn l =
    (base : Base) (received below : List Message) → NamesDiffer received → KnowsPathless base received below (pathless_in (get name_cmp l.messages) l.fn.pathless) → AreLinkedOn base received below (state_of l.graph).children → IsLinkedThrough base received below l.name
    → Spreads base received below l.name (pathless_in (get name_cmp l.messages) l.fn.pathless) (get name_cmp l.messages) l.pathless l.names.items l.turn

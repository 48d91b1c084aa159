-- What becomes linked below the root, and which of it betters the best chain.
use Rattle.std.specs.Prelude.{List, Bool, nat_lt, ◌==◌, ◌&&◌, ◌||◌}
use Rattle.std.specs.Ordering.{is_lt}
use Rattle.pad_message.specs.declared.message.Message.{Message}
use Rattle.pad_graph.specs.declared.linking.Linking.{Linking}
use Rattle.pad_graph.specs.declared.added.Added.TheVariants.{Below}
use Rattle.pad_graph.specs.Chain.{Link}
use Rattle.pad_graph.specs.State.{name_cmp}
use Rattle.pad_graph.specs.Added.{IsAdded}
use Rattle.pad_model.specs.declared.base.Base.{Base}
use Rattle.pad_checkpoint.specs.declared.place.Place.{Place}
use Rattle.pad_checkpoint.specs.Links.{link_of, names_of}

-- whether the linking is higher than the place, or as high with a lesser name
abbrev pub betters : Place → Linking → Bool
betters best linking = nat_lt best.height linking.height || ((linking.height == best.height) && is_lt (name_cmp linking.name best.name))

-- a graph of these links, with this root, answers that these become linked below the root as the message comes
abbrev pub AreBelow : Base → List Link → Message → List Message → List Linking → Type 0
AreBelow base links message root below = IsAdded base.name links (names_of root) (link_of message) (Below below)

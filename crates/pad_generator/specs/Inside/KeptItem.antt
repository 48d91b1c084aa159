-- Items as the code keeps them.
use Rattle.pad_rope.specs.Rope.{rope_units}
use Rattle.pad_generator.specs.declared.kept_item.KeptItem.{KeptItem}
use Rattle.pad_generator.specs.Item.{Item}

-- the item that is kept
abbrev pub item_of : KeptItem → Item
item_of kept = record { name = kept.name; text = rope_units kept.text; height = kept.height }

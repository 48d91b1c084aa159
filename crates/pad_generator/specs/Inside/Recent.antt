-- The last items as the code keeps them.
use Rattle.std.specs.Prelude.{◌≡◌, List}
use Rattle.pad_generator.specs.declared.recent.Recent.{Recent}
use Rattle.pad_generator.specs.Item.{Item, item_before}
use Rattle.pad_generator.specs.Inside.KeptItem.{item_of}

-- the three last items of a list that has the newest first; the base where there are not so many
pub record AreRecent (recent : Recent) (items : List Item) : Type 0 where
  pub newest : item_of recent.newest ≡ item_before 0 items
  pub second : item_of recent.second ≡ item_before 1 items
  pub third : item_of recent.third ≡ item_before 2 items

-- What is given out are the contents of the messages, in another order.
use Rattle.std.proofs.Common.{◌≡◌, ℕ, suc, zero, [], ◌∷◌, length, map, ◌∙◌, refl, arith}
use Rattle.std.proofs.lemmas.List.{length-append, length-map}
use Rattle.pad_generator.specs.Blocks.{block_count}
use Rattle.pad_generator.specs.Item.{made, next_message}
use Rattle.pad_generator.specs.Contents.{content_of, messages}
use Rattle.pad_generator.specs.Laws.{AsManyAsAsked, OnlyTheOrderChanges}
use Rattle.pad_generator.proofs.Turned.{length-all, blocks_reach, contains_turned, turned_contains}

length-messages : (number count : ℕ) → length (messages number count) ≡ count
length-messages number zero = refl
length-messages number (suc count) = omega (arith, length-append (messages number count) (next_message number (made number count) ∷ []), length-messages number count)

pub as_many_as_asked : AsManyAsAsked
as_many_as_asked number count =
    let made_ones = map content_of (messages number count) in
    length-all (block_count (length made_ones)) made_ones (blocks_reach (length made_ones)) ∙ length-map (messages number count) content_of ∙ length-messages number count

pub only_the_order_changes : OnlyTheOrderChanges
only_the_order_changes number count content =
    let made_ones = map content_of (messages number count) in (
      λ given. turned_contains (block_count (length made_ones)) made_ones content given,
      λ is. contains_turned (block_count (length made_ones)) made_ones content (blocks_reach (length made_ones)) is,
    )

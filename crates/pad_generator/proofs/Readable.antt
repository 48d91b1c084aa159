-- Each content is read as its message.
use Rattle.std.proofs.Common.{◌≡◌, ℕ, suc, zero, ◌+◌, ◌*◌, ◌^◌, ◌<◌, ◌≤◌, Bool, true, false, List, [], ◌∷◌, ◌++◌, length, map, ap, subst, arith, inl, inr}
use Rattle.std.specs.Prelude.{Contains, if◌then◌else◌}
use Rattle.std.proofs.lemmas.List.{length-append}
use Rattle.std.proofs.lemmas.List.Elements.{All-nil, All-cons, Contains-append_cases}
use Rattle.pad_json.specs.Name.{IsName}
use Rattle.pad_text.specs.Hash.{document_hash}
use Rattle.pad_text.specs.Text.{utf8}
use Rattle.pad_patch.specs.declared.operation.Operation.{Operation}
use Rattle.pad_patch.proofs.CallerLemmas.{contains_has, has_contains, map_has}
use Rattle.pad_message.specs.declared.kind.Kind.{Kind}
use Rattle.pad_message.specs.declared.kind.Kind.TheVariants as kind
use Rattle.pad_message.specs.declared.kind.TheConstants.{USUAL_INTERVAL}
use Rattle.pad_message.specs.declared.message.Message.{Message}
use Rattle.pad_message.specs.Content.{Reads, CompactReads, MarkedReads, longest_content, mark, most_operations}
use Rattle.pad_message.specs.Kind.{HasInterval, is_checkpoint}
use Rattle.pad_message.specs.Message.{IsMessage, IsOperation, compact, name_of}
use Rattle.pad_generator.specs.declared.generator.TheConstants.{MOST_MESSAGES}
use Rattle.pad_generator.specs.Words.{word}
use Rattle.pad_generator.specs.Blocks.{block_count}
use Rattle.pad_generator.specs.Item.{Item, item_before, message_with, back_of, next_message, made, whole_text}
use Rattle.pad_generator.specs.Contents.{content_of, messages}
use Rattle.pad_generator.specs.Laws.{EachIsRead}
use Rattle.pad_generator.proofs.Drafts.{IsSmall, whole_small, on_each, IsLettered, each_lettered}
use Rattle.pad_generator.proofs.Lengths.{length-message}
use Rattle.pad_generator.proofs.Texts.{letters_text, utf8-letters, IsName-digest, IsName-zeros}
use Rattle.pad_generator.proofs.Turned.{turned_contains}

-- the name of an item is a name
is_named : (number count back : ℕ) → IsName (item_before back (made number count).items).name
unfolding name_of
is_named number zero zero = IsName-zeros
is_named number zero (suc back) = IsName-zeros
is_named number (suc count) zero = IsName-digest (compact (next_message number (made number count)))
is_named number (suc count) (suc back) = is_named number count back

-- a message that is read by its content
record IsRead (message : Message) : Type 0 where
  is : IsMessage message
  few : length message.patch.ops ≤ most_operations
  interval : HasInterval message.kind
  short : length (content_of message) ≤ longest_content

module _ (parent : Item) (count : ℕ) (lettered : IsLettered count parent) (few : count < MOST_MESSAGES) (named : IsName parent.name) where
  inserted : (operation : Operation) → IsSmall parent.text operation → length operation.insert ≤ 100000 × ((operation.offset < 2 ^ 32) × (operation.remove < 2 ^ 32))
  inserted operation small =
      let inside = small.inside in
      (omega (arith, small.grows, small.inside, lettered.short, lettered.low), (omega (arith, small.inside, lettered.short, lettered.low), omega (arith, small.inside, lettered.short, lettered.low)))

  is_read : (kind : Kind) (operation : Operation) → IsSmall parent.text operation → HasInterval kind
      → ((length (compact (message_with kind operation parent)) ≤ 6 * length (utf8 operation.insert) + 830) → length (content_of (message_with kind operation parent)) ≤ 6 * length (utf8 operation.insert) + 833)
      → (length (compact (message_with kind operation parent)) ≤ 6 * length (utf8 operation.insert) + 830) → IsRead (message_with kind operation parent)
  is_read kind operation small interval marked short =
      let bounds = inserted operation small in
      let P : Operation → Type 0 = IsOperation in
      record {
        is = record {
          patch = record {
            operations = All-cons P operation [] (record { offset = bounds.1.0; remove = bounds.1.1; insert = letters_text operation.insert small.letters }) (All-nil P);
            before = IsName-digest (utf8 parent.text);
          };
          parent = named;
        };
        few = omega arith;
        interval = interval;
        short = omega (arith, marked short, ap length (utf8-letters operation.insert small.letters), bounds.0);
      }

  of_patch : (operation : Operation) → IsSmall parent.text operation → IsRead (message_with kind.Patch operation parent)
  unfolding compact
  of_patch operation small =
      let bounds = inserted operation small in
      is_read kind.Patch operation small tt (λ short. omega (arith, short))
      (length-message 2 operation (document_hash parent.text) parent.name (omega arith) bounds.1.0 bounds.1.1 (IsName-digest (utf8 parent.text)) named)

  of_checkpoint : IsRead (message_with (kind.Checkpoint USUAL_INTERVAL) (whole_text parent.text) parent)
  unfolding compact
  of_checkpoint =
      let small = whole_small parent.text lettered.letters in
      let operation = whole_text parent.text in
      let bounds = inserted operation small in
      is_read (kind.Checkpoint USUAL_INTERVAL) operation small (omega arith, omega arith)
      (λ short. omega (arith, short, length-append mark (compact (message_with (kind.Checkpoint USUAL_INTERVAL) operation parent))))
      (length-message 4 operation (document_hash parent.text) parent.name (omega arith) bounds.1.0 bounds.1.1 (IsName-digest (utf8 parent.text)) named)

-- a list of one element has no other
only : (one other : Message) → Contains (one ∷ []) other → one ≡ other
only one other found = elim (contains_has other (one ∷ []) found) [ inl is ↦ is | inr none ↦ absurd none ]

all_read : (number count : ℕ) → count ≤ MOST_MESSAGES → (message : Message) → Contains (messages number count) message → IsRead message
all_read number zero few message (k, below, is) = absurd (omega arith)
all_read number (suc count) few message is =
    let so_far = made number count in
    let next = next_message number so_far in
    let back = back_of (word number so_far.place) in
    let parent = item_before back so_far.items in
    let lettered = each_lettered number count back in
    let named = is_named number count back in
    let last : IsRead next = on_each IsRead number (so_far.place + 1) parent
    (λ due. of_checkpoint parent count lettered (omega arith) named)
    (λ early operation small. of_patch parent count lettered (omega arith) named operation small) in
    elim (Contains-append_cases (messages number count) (next ∷ []) message is) [
      | inl earlier ↦ all_read number count (omega arith) message earlier
      | inr this ↦ subst IsRead (only next message this) last
    ]

reads_by : CompactReads → MarkedReads → (message : Message) → IsRead message → Reads (content_of message) message
reads_by plain marked message read = by (is_checkpoint message.kind) read.short
  where
    by : (b : Bool) → length (if b then mark ++ compact message else compact message) ≤ longest_content → Reads (if b then mark ++ compact message else compact message) message
    by true short = marked message read.is read.few read.interval short
    by false short = plain message read.is read.few read.interval short

pub each_is_read : CompactReads → MarkedReads → EachIsRead
each_is_read plain marked number count content few given =
    let all = map content_of (messages number count) in
    let of_all = contains_has content all (turned_contains (block_count (length all)) all content given) in
    let found = map_has content_of content (messages number count) of_all in
    let member = has_contains found.0 (messages number count) found.1 in
    (found.0, member, subst (λ (bytes : List ℕ). Reads bytes found.0) found.2 (reads_by plain marked found.0 (all_read number count few found.0 member)))

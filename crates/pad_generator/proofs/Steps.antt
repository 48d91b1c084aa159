-- One item more: what the code keeps of the items follows their definition.
use Rattle.std.proofs.Common.{◌≡◌, ℕ, suc, zero, ◌+◌, ◌≤◌, true, false, ◌*◌, List, [], ◌∷◌, ◌++◌, map, sym, ◌∙◌, ap, subst, arith, add-one}
use Rattle.std.specs.Prelude.{if◌then◌else◌}
use Rattle.std.proofs.lemmas.List.{map-append}
use Rattle.pad_message.specs.declared.message.Message.{Message}
use Rattle.pad_generator.specs.declared.recent.Recent.{Recent}
use Rattle.pad_generator.specs.Words.{word}
use Rattle.pad_generator.specs.Item.{Item, item_after, item_before, back_of, is_due, message_on, words_on, next_parent, next_message, one_more, made}
use Rattle.pad_generator.specs.Contents.{content_of, messages}
use Rattle.pad_generator.specs.Inside.Recent.{AreRecent}

-- what is kept after so many items
pub record Keeps (number count : ℕ) (words : ℕ × ℕ) (recent : Recent) (contents : List (List ℕ)) : Type 0 where
  pub words_are : words ≡ (number, (made number count).place)
  pub recent_are : AreRecent recent (made number count).items
  pub contents_are : contents ≡ map content_of (messages number count)

-- the words and the calls of one more item
pub record Drafted (number count : ℕ) (words next after : ℕ × ℕ) (parent item : Item) (message : Message) (content : List ℕ) : Type 0 where
  pub next_is : next ≡ (words.0, words.1 + 1)
  pub parent_is : parent ≡ item_before (back_of (word words.0 words.1)) (made number count).items
  pub message_is : message ≡ message_on next.0 next.1 parent
  pub after_is : after ≡ (next.0, next.1 + words_on parent)
  pub content_is : content ≡ content_of message
  pub item_is : item ≡ item_after parent message

module _ (number count : ℕ) (words next after : ℕ × ℕ) (recent later : Recent) (contents : List (List ℕ)) (parent item : Item) (message : Message) (content : List ℕ) where
  pub keeps_more : Keeps number count words recent contents → Drafted number count words next after parent item message content
      → ((items : List Item) → AreRecent recent items → AreRecent later (item ∷ items)) → Keeps number (count + 1) after later (contents ++ content ∷ [])
  keeps_more kept drafted turn =
      let so_far = made number count in
      let choice : word words.0 words.1 ≡ word number so_far.place = ap (λ (w : ℕ × ℕ). word w.0 w.1) kept.words_are in
      let parent_is : parent ≡ next_parent number so_far = drafted.parent_is ∙ ap (λ c. item_before (back_of c) so_far.items) choice in
      let next_is : next ≡ (number, so_far.place + 1) = drafted.next_is ∙ ap (λ (w : ℕ × ℕ). (w.0, w.1 + 1)) kept.words_are in
      let message_is : message ≡ next_message number so_far = drafted.message_is ∙ (λ i. message_on (next_is i).0 (next_is i).1 (parent_is i)) in
      let after_is : after ≡ (number, (one_more number so_far).place) = drafted.after_is ∙ (λ i. ((next_is i).0, (next_is i).1 + words_on (parent_is i))) in
      let item_is : item ≡ item_after (next_parent number so_far) (next_message number so_far) = drafted.item_is ∙ (λ i. item_after (parent_is i) (message_is i)) in
      let content_is : content ≡ content_of (next_message number so_far) = drafted.content_is ∙ ap content_of message_is in
      let more : Keeps number (suc count) after later (contents ++ content ∷ []) = record {
        words_are = after_is;
        recent_are = subst (λ it. AreRecent later (it ∷ so_far.items)) item_is (turn so_far.items kept.recent_are);
        contents_are = (λ i. kept.contents_are i ++ content_is i ∷ []) ∙ sym (map-append content_of (messages number count) (next_message number so_far ∷ []));
      } in
      subst (λ n. Keeps number n after later (contents ++ content ∷ [])) (sym (add-one count)) more

-- an item takes at most three words
pub few_words : (number count : ℕ) → (made number count).place ≤ 3 * count
few_words number zero = omega arith
few_words number (suc count) =
    let below = few_words number count in
    let some = words_few (next_parent number (made number count)) in
    omega arith
  where
    words_few : (parent : Item) → words_on parent ≤ 2
    words_few parent = elim (is_due parent) as (λ b. (if b then 0 else 2) ≤ 2) [ true ↦ omega arith | false ↦ omega arith ]

use Rattle.std.proofs.Common.{◌≡◌, ℕ, ◌+◌, List, map, ◌∙◌, ap, subst, sym, arith}
use Rattle.pad_message.specs.declared.message.Message.{Message}
use Rattle.pad_patch.specs.Misfit.{CanApply}
use Rattle.pad_generator.specs.Item.{Item, made, item_before, back_of}
use Rattle.pad_generator.specs.Contents.{content_of, messages}
use Rattle.pad_generator.specs.Inside.KeptItem.{item_of}
use Rattle.pad_generator.proofs.Drafts.{IsLettered, each_lettered, message_applies}
use Rattle.pad_generator.proofs.Steps.{Keeps, keeps_more, few_words}
use Rattle.pad_generator.proofs.generator.in_order.Goals as goal

pub items-init : goal.items-init
items-init c = record { words_are = c.new-words.ensures; recent_are = c.in_ok-recent.ensures; contents_are = c.in_ok-contents.ensures.items }

pub next-requires : goal.next-requires
next-requires c =
    let place = ap (λ (w : ℕ × ℕ). w.1) c.items.invariant.words_are in
    let few = few_words c.args.number c.items.counter in
    omega (arith, place, few, c.items-test.true, c.requires)

pub message_on-requires-clause-room : goal.message_on-requires-clause-room
message_on-requires-clause-room c =
    let place = ap (λ (w : ℕ × ℕ). w.1) c.items.invariant.words_are in
    let next = ap (λ (w : ℕ × ℕ). w.1) c.next.ensures.rest in
    let few = few_words c.args.number c.items.counter in
    omega (arith, place, next, few, c.items-test.true, c.requires)

pub message_on-requires-clause-short : goal.message_on-requires-clause-short
message_on-requires-clause-short c =
    let so_far = made c.args.number c.items.counter in
    let is = c.parent-parent.ensures so_far.items c.items.invariant.recent_are in
    let lettered = subst (λ (item : Item). IsLettered c.items.counter item) (sym is) (each_lettered c.args.number c.items.counter (back_of c.next.result)) in
    omega (arith, lettered.short, lettered.low, c.items-test.true, c.requires)

pub message_on-requires-clause-height : goal.message_on-requires-clause-height
message_on-requires-clause-height c =
    let so_far = made c.args.number c.items.counter in
    let is = c.parent-parent.ensures so_far.items c.items.invariant.recent_are in
    let lettered = subst (λ (item : Item). IsLettered c.items.counter item) (sym is) (each_lettered c.args.number c.items.counter (back_of c.next.result)) in
    omega (arith, lettered.low, c.items-test.true, c.requires)

pub after-requires-clause-height : goal.after-requires-clause-height
after-requires-clause-height c =
    let so_far = made c.args.number c.items.counter in
    let is = c.parent-parent.ensures so_far.items c.items.invariant.recent_are in
    let lettered = subst (λ (item : Item). IsLettered c.items.counter item) (sym is) (each_lettered c.args.number c.items.counter (back_of c.next.result)) in
    omega (arith, lettered.low, c.items-test.true, c.requires)

pub after-requires-clause-applies : goal.after-requires-clause-applies
after-requires-clause-applies c =
    let so_far = made c.args.number c.items.counter in
    let is = c.parent-parent.ensures so_far.items c.items.invariant.recent_are in
    let lettered = subst (λ (item : Item). IsLettered c.items.counter item) (sym is) (each_lettered c.args.number c.items.counter (back_of c.next.result)) in
    subst (λ (message : Message). CanApply message.patch (item_of c.parent-parent.result.now).text) (sym c.in_ok-message.ensures.message)
    (message_applies c.next.new.self.0 c.next.new.self.1 (item_of c.parent-parent.result.now) lettered.letters)

pub items-preserved : goal.items-preserved
items-preserved c =
    let so_far = made c.args.number c.items.counter in
    let is = c.parent-parent.ensures so_far.items c.items.invariant.recent_are in
    let parent_is = is ∙ ap (λ choice. item_before (back_of choice) so_far.items) c.next.ensures.word in
    subst (λ (contents : List (List ℕ)). Keeps c.args.number (c.items.counter + 1) c.message_on.new.words c.with-recent.result contents) (sym c.in_ok-push.ensures.items)
    (keeps_more c.args.number c.items.counter c.items.words c.next.new.self c.message_on.new.words c.items.recent c.with-recent.result c.items.contents.items
    (item_of c.parent-parent.result.now) (item_of c.in_ok-item.item) c.in_ok-message.message c.in_ok-content.content
    c.items.invariant
    (record {
      next_is = c.next.ensures.rest;
      parent_is = parent_is;
      message_is = c.in_ok-message.ensures.message;
      after_is = c.in_ok-message.ensures.words;
      content_is = c.in_ok-content.ensures.content;
      item_is = c.in_ok-item.ensures;
    })
    c.with-recent.ensures)

pub returns : goal.returns
returns c =
    let all : c.items.counter ≡ c.args.count = omega arith in
    subst (λ count. c.items.contents.items ≡ map content_of (messages c.args.number count)) all c.items.invariant.contents_are

use Rattle.std.proofs.Common.{◌≡◌, ◌∷◌, [], ◌++◌, map, length, true, false, is_some, arith, ap, sym, subst, ◌∙◌}
use Rattle.std.specs.BTreeMap.{get}
use Rattle.pad_message.specs.Message.{name_of}
use Rattle.pad_plain.specs.Inside.Table.{name_cmp, IsTableOf}
use Rattle.pad_plain.proofs.Tables.{table_kept, table_new, named_more, popped}
use Rattle.pad_plain.proofs.messages.Messages.push_named.Goals as goal

pub invariant_of-self-then-was_received : goal.invariant_of-self-then-was_received
invariant_of-self-then-was_received c =
    let has : is_some (get name_cmp c.self.inside.places (name_of c.args.message)) ≡ true = subst (λ n. is_some (get name_cmp c.self.inside.places n) ≡ true) c.requires (sym c.if-was_received.ensures) in
    let longer = rw c.if-is_err.ensures.negation at c.push-2.ensures.items in
    record {
      table = subst (λ l. IsTableOf l c.self.inside.places) (sym c.in_ok-push.ensures.items) (table_kept c.self.inside.items.items c.args.message c.self.inside.places c.self.invariant.table has);
      named = named_more _ _ _ _ c.args.message c.args.name c.self.invariant.named c.requires c.in_ok-push.ensures.items longer;
    }

pub invariant_of-self-in-Ok : goal.invariant_of-self-in-Ok
invariant_of-self-in-Ok c =
    let missing : is_some (get name_cmp c.self.inside.places (name_of c.args.message)) ≡ false = subst (λ n. is_some (get name_cmp c.self.inside.places n) ≡ false) c.requires (sym c.if-was_received.ensures) in
    let longer = rw c.if-is_err.ensures.negation at c.push-2.ensures.items in
    record {
      table = λ q. rw (c.in_ok-push.ensures.items, c.in-Ok.ensures.updates.0 q, c.requires) (table_new c.self.inside.items.items c.args.message c.self.inside.places _ q (ap length c.as_slice-place.ensures.value) c.self.invariant.table missing);
      named = named_more _ _ _ _ c.args.message c.args.name c.self.invariant.named c.requires c.in_ok-push.ensures.items longer;
    }

pub invariant_of-self-in-Err : goal.invariant_of-self-in-Err
invariant_of-self-in-Err c =
    let longer = rw c.if-is_err.ensures.negation at c.push-2.ensures.items in
    let count = rw c.if-is_err.ensures.negation at c.push-2.ensures.len in
    let items = popped c.self.inside.items.items c.pop-in-Err-2.new.self.items c.args.message c.pop-in-Err-2.result (sym c.in_ok-push.ensures.items ∙ c.pop-in-Err-2.ensures.items) (c.pop-in-Err-2.ensures.variant.1 (omega (arith, c.in_ok-push.ensures.len))) in
    let names = popped c.self.inside.names.items c.pop-in-Err.new.self.items c.args.name c.pop-in-Err.result (sym longer ∙ c.pop-in-Err.ensures.items) (c.pop-in-Err.ensures.variant.1 (omega (arith, count))) in
    record {
      table = λ q. rw (items, c.in-Err.ensures.err) (c.self.invariant.table q);
      named = names ∙ c.self.invariant.named ∙ ap (map name_of) (sym items);
    }

use Rattle.std.proofs.Common.{◌≡◌, ◌∙◌, List, ℕ, arith, sym, ap, subst}
use Rattle.std.proofs.lemmas.Result.{IfOk-weaker}
use Rattle.keeper_entry.specs.Entry.{payload_of, IsEntry}
use Rattle.keeper_log.proofs.entries.entry_payload.Goals as goal

pub returns-clause-payload : goal.returns-clause-payload
returns-clause-payload c =
    IfOk-weaker c.build_payload.result (λ (p : List ℕ). p ≡ payload_of c.args.moment c.digits.result.now c.args.content.now) (λ (p : List ℕ). p ≡ payload_of c.args.moment c.args.sender.now c.args.content.now)
    (λ p is. is ∙ ap (λ (s : List ℕ). payload_of c.args.moment s c.args.content.now) c.digits.ensures.value) c.build_payload.ensures

pub returns-clause-entry : goal.returns-clause-entry
returns-clause-entry c =
    let holds = c.payloads_hold_their_entries.ensures c.args.moment c.args.sender.now c.args.content.now (omega (arith, c.ranges.moment)) c.digits.ensures.are c.utf8.content c.requires.short in
    IfOk-weaker c.build_payload.result (λ (p : List ℕ). p ≡ payload_of c.args.moment c.digits.result.now c.args.content.now) IsEntry
    (λ p is. subst IsEntry (sym (is ∙ ap (λ (s : List ℕ). payload_of c.args.moment s c.args.content.now) c.digits.ensures.value)) holds.0) c.build_payload.ensures

use Rattle.std.proofs.Common.{List, take, sym, subst, arith}
use Rattle.std.proofs.lemmas.List.{take_all}
use Rattle.pad_message.specs.declared.message.Message.{Message}
use Rattle.client_outbox.specs.Outbox.{Unacknowledged}
use Rattle.pad_model.specs.Base.{first_base}
use Rattle.pad_chain.specs.Tie.{StandsFor}
use Rattle.pad_client.specs.Repair.{sent_before}
use Rattle.pad_client.proofs.Begun.{sent_more, differ_so_far}
use Rattle.pad_client.proofs.client.repairing.begun.Goals as goal

pub loop-own-preserved : goal.loop-own-preserved
loop-own-preserved g c =
    let owns = c.args.owns.now in
    let n = c.loop-own.own-index in
    let own = c.own-item.result in
    record {
      stands = λ differ.
          let so_far = c.loop-own.invariant.stands differ in
          let next = c.in_ok-receive_own.ensures.stands (sent_before (take n owns)) so_far.0 (differ_so_far owns n own (omega arith) c.own-item.is differ) so_far.1 in
          (next.0, subst (λ (ms : List Message). StandsFor c.receive_own.new.repair first_base ms next.0) (sym (sent_more owns n own (omega arith) c.own-item.is)) next.1);
      whole = c.in_ok-receive_own.ensures.whole;
    }

pub returns-clause-stands : goal.returns-clause-stands
returns-clause-stands g c differ =
    let so_far = c.loop-own.invariant.stands differ in
    (so_far.0, subst (λ (owns : List Unacknowledged). StandsFor c.loop-own.repair first_base (sent_before owns) so_far.0) (take_all c.loop-own.own-index c.args.owns.now (omega (arith, c.loop-own-test.false))) so_far.1)

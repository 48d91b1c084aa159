use Rattle.std.proofs.Common.{ℕ, List, length, ◌∙◌, ap, subst}
use Rattle.client_work.specs.Carrying.{Ground, IsOnGround, all_moves}
use Rattle.client_work.specs.Switch.{sent_as}
use Rattle.client_work.proofs.Typing.{behind_is, own_elsewhere, ready_for}
use Rattle.client_work.proofs.tests.follow.Goals as goal

pub carry-requires : goal.carry-requires
carry-requires g c = (
  record { text = c.args.chain.now.branch.branch.units; typed = c.requires.0; strokes = 2 },
  ready_for (all_moves c.in_ok-moved.moved) c.args.chain.now.branch.branch.units c.receive.new.self.branch.branch.units c.requires.0 2 c.args.sent.now.entries
      c.length-size.result c.hash-hash.result c.args.work.now c.in_ok-moved.ensures.leads (c.length-size.ensures ∙ ap (λ (t : List ℕ). length t) c.text.ensures.is)
      c.hash-hash.ensures.is c.requires.1 c.requires.2,
)

pub returns : goal.returns
returns g c = (
  c.requires.0,
  subst (λ (grounds : Ground). IsOnGround grounds c.carry.new.work)
      (behind_is (all_moves c.in_ok-moved.moved) c.args.chain.now.branch.branch.units c.receive.new.self.branch.branch.units c.requires.0 2 c.in_ok-moved.ensures.leads)
      (c.in_ok-carry.ensures.stands (record { text = c.args.chain.now.branch.branch.units; typed = c.requires.0; strokes = 2 })
      (ready_for (all_moves c.in_ok-moved.moved) c.args.chain.now.branch.branch.units c.receive.new.self.branch.branch.units c.requires.0 2 c.args.sent.now.entries
      c.length-size.result c.hash-hash.result c.args.work.now c.in_ok-moved.ensures.leads (c.length-size.ensures ∙ ap (λ (t : List ℕ). length t) c.text.ensures.is)
      c.hash-hash.ensures.is c.requires.1 c.requires.2)),
  λ name. own_elsewhere c.args.chain.now.branch.branch.units c.receive.new.self.branch.branch.units c.requires.0 2 (sent_as c.args.sent.now.entries name) (c.requires.2 name),
)

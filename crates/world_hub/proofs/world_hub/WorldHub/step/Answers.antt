use Rattle.std.proofs.Common.{◌∙◌, sym}
use Rattle.world_hub.proofs.Stepping.{stepped, still_set}
use Rattle.world_hub.proofs.world_hub.WorldHub.step.Goals as goal

pub step-requires-clause-whole : goal.step-requires-clause-whole
step-requires-clause-whole g c = c.requires.whole

pub step-requires-clause-sound : goal.step-requires-clause-sound
step-requires-clause-sound g c = c.requires.sound

pub step-requires-clause-tie : goal.step-requires-clause-tie
step-requires-clause-tie g c = λ told. c.requires.tie

pub returns-then-is_same-clause-steps : goal.returns-then-is_same-clause-steps
returns-then-is_same-clause-steps g c before stands =
    let K = g.K.Keep in
    let now = c.args.self.now in
    stepped K.logs (K.keeps now.keeper) (K.keeps c.step.new.keeper) now.hub.rooms c.step.new.self.rooms now.volume c.step.new.volume now.stream now.moment c.in_ok-moment.moment
    c.args.event c.in_ok-outs.outs before stands (c.in_ok-outs.ensures.step tt) c.in_ok-moment.ensures c.step.ensures.follows
    (sym c.starved-now.ensures ∙ c.is_same.ensures c.if-is_same.true ∙ c.starved-starved.ensures) c.in_ok-outs.ensures.kept

pub returns-then-is_same-clause-ready : goal.returns-then-is_same-clause-ready
returns-then-is_same-clause-ready g c = record {
  whole = (c.in_ok-outs.ensures.served).whole;
  sound = c.in_ok-outs.ensures.sound;
  tie = c.in_ok-outs.ensures.tie tt;
  set = still_set c.args.self.now.volume c.step.new.volume c.args.self.now.was_set c.step.ensures.follows c.requires.set;
}

pub returns-then-is_same-clause-fed : goal.returns-then-is_same-clause-fed
returns-then-is_same-clause-fed g c = sym c.starved-now.ensures ∙ c.is_same.ensures c.if-is_same.true ∙ c.starved-starved.ensures

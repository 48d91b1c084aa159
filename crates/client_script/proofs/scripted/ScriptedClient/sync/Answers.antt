use Rattle.std.proofs.Common.{refl}
use Rattle.pad_script.specs.declared.act.Act.TheVariants as act
use Rattle.client_script.proofs.Lines.{comes_so, synced, kept_unless_memory, refused_for}
use Rattle.client_script.proofs.scripted.ScriptedClient.sync.Goals as goal

pub returns-in-Ok-clause-does : goal.returns-in-Ok-clause-does
returns-in-Ok-clause-does g c client stands may =
    let done = c.in-Ok.ensures.syncs client stands may in
    comes_so (synced client c.args.line c.in-Ok.texts done.0 done.1 done.2) c.sends.ensures.texts c.sends.ensures.lines refl c.requires.quiet

pub returns-in_ok-refuses-in-Some : goal.returns-in_ok-refuses-in-Some
returns-in_ok-refuses-in-Some g c = record {
  does = λ client stands may.
      comes_so
      (refused_for c.args.self.now.client client c.args.line act.Sync c.in-Some.word.now stands (c.in-Err.refused, c.in-Err.ensures.cause client stands, c.in-Some.ensures.some))
      c.in_ok-refuses-in-Some.ensures.texts c.in_ok-refuses-in-Some.ensures.lines
      (kept_unless_memory c.in-Err.refused c.in-Some.ensures.some c.in-Err.ensures.unchanged) c.requires.quiet;
  full = tt;
  last = c.in-Err.ensures.last;
  strokes = c.in-Err.ensures.strokes;
}

use Rattle.std.proofs.Common.{◌≡◌, ◌∙◌, ℕ, List, ◌++◌, true, false, Err, IfErr, refl, sym, ap}
use Rattle.std.proofs.lemmas.Result.{err_from_is_err_and}
use Rattle.pad_conversation.proofs.Runs.{run_hears, run_where, stopped_hearing}
use Rattle.pad_conversation.proofs.Steps.{if_err}
use Rattle.pad_conversation.specs.Ends.{IsStopped}
use Rattle.pad_conversation.specs.Told.{told}
use Rattle.pad_conversation.proofs.conversing.hear_on.Goals as goal

pub loop-alloc-preserved : goal.loop-alloc-preserved
loop-alloc-preserved g c =
    let L = g.L.Link in let O = g.O.Sink in let M = g.M.Speaker in
    let same = c.loop-alloc.invariant.counts in
    record {
      lasts = λ rest has. c.in_ok-hear_one.ensures.lasts rest (c.loop-alloc.invariant.lasts rest has);
      run = λ first commands done rest before are run.
          run_hears M.machine (M.stands c.loop-alloc.speaker) (M.stands c.hear_one.new.speaker) first commands done rest L.tells before
          (told (L.heard c.loop-alloc.link) (L.sent c.loop-alloc.link) (O.written c.loop-alloc.output))
          (told (L.heard c.hear_one.new.link) (L.sent c.hear_one.new.link) (O.written c.hear_one.new.output))
          are (λ state stands. sym (c.waits.ensures state stands) ∙ c.loop-alloc-test.true) (c.loop-alloc.invariant.run first commands done rest before are run) c.in_ok-hear_one.ensures.heard;
      counts = (c.in_ok-hear_one.ensures.link ∙ same.0, c.in_ok-hear_one.ensures.ended ∙ same.1, c.in_ok-hear_one.ensures.write ∙ same.2);
    }

pub returns-in_err-hear_one-clause-stopped : goal.returns-in_err-hear_one-clause-stopped
returns-in_err-hear_one-clause-stopped g c = λ first commands done rest before are run.
    let L = g.L.Link in let O = g.O.Sink in let M = g.M.Speaker in
    let now = told (L.heard c.hear_one.new.link) (L.sent c.hear_one.new.link) (O.written c.hear_one.new.output) in
    let p = err_from_is_err_and c.from_residual.result c.from_residual.ensures.1 in
    let why = c.in_err-hear_one.field-0.0 in
    if_err (IsStopped M.machine first commands L.tells before now) c.from_residual.result why (p.1 ∙ ap Err p.2)
    (stopped_hearing M.machine (M.stands c.loop-alloc.speaker) first commands done rest L.tells before
    (told (L.heard c.loop-alloc.link) (L.sent c.loop-alloc.link) (O.written c.loop-alloc.output)) now why are
    (λ state stands. sym (c.waits.ensures state stands) ∙ c.loop-alloc-test.true) (c.loop-alloc.invariant.run first commands done rest before are run) c.in_err-hear_one.ensures.part)

pub returns-clause-run : goal.returns-clause-run
returns-clause-run g c = λ first commands done rest before are run.
    let L = g.L.Link in let O = g.O.Sink in let M = g.M.Speaker in
    run_where M.machine (M.stands c.loop-alloc.speaker) first commands done L.tells before (told (L.heard c.loop-alloc.link) (L.sent c.loop-alloc.link) (O.written c.loop-alloc.output))
    (λ state stands. sym (c.waits.ensures state stands) ∙ c.loop-alloc-test.false) (c.loop-alloc.invariant.run first commands done rest before are run)

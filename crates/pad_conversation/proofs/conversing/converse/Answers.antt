use Rattle.std.proofs.Common.{rules, ◌≡◌, ◌∙◌, ◌+◌, ℕ, List, [], ◌∷◌, ◌++◌, take, drop, false, Err, IfErr, refl, sym, ap, subst}
use Rattle.std.proofs.lemmas.List.{take_more, at_drop_more, take-append-drop, take_all, append_assoc}
use Rattle.std.proofs.lemmas.Result.{err_from_is_err_and}
use Rattle.std.proofs.KnownBytes.{Appends-nil}
use Rattle.pad_conversation.proofs.Runs.{run_none, run_does, stopped_doing}
use Rattle.pad_conversation.proofs.Steps.{if_err}
use Rattle.pad_conversation.specs.Ends.{IsRun, IsStopped}
use Rattle.pad_conversation.specs.Told.{told}
use Rattle.pad_conversation.proofs.conversing.converse.Goals as goal

pub carry_out-requires : goal.carry_out-requires
carry_out-requires g c =
    let commands = c.args.commands.now in let at = c.loop-command.command-index in let command = c.command-item.result in
    let first : drop at commands ≡ command ∷ drop (at + 1) commands = at_drop_more (λ (l : List g.row.C.Denot). l) commands at command c.loop-command-test.true ∙ ap (λ (o : g.row.C.Denot). o ∷ drop (at + 1) commands) (sym c.command-item.is) in
    (drop (at + 1) commands, subst (g.M.Speaker.lasts c.loop-command.speaker) first c.loop-command.invariant.lasts)

pub loop-command-init : goal.loop-command-init
loop-command-init g c = let L = g.L.Link in let O = g.O.Sink in let M = g.M.Speaker in record {
  lasts = c.requires;
  run = λ first stands idle. run_none M.machine (λ state. M.stands c.args.speaker.now state × (M.machine.waits state ≡ false)) first c.args.commands.now L.tells
      (told (L.heard c.args.link.now) (L.sent c.args.link.now) (O.written c.args.output.now)) (stands, idle) (Appends-nil (O.written c.args.output.now));
  counts = (refl, refl, refl);
}

pub returns-in_err-carry_out-clause-stopped : goal.returns-in_err-carry_out-clause-stopped
returns-in_err-carry_out-clause-stopped g c = λ first stands idle.
    let L = g.L.Link in let O = g.O.Sink in let M = g.M.Speaker in
    let commands = c.args.commands.now in let at = c.loop-command.command-index in let command = c.command-item.result in
    let next : drop at commands ≡ command ∷ drop (at + 1) commands = at_drop_more (λ (l : List g.row.C.Denot). l) commands at command c.loop-command-test.true ∙ ap (λ (o : g.row.C.Denot). o ∷ drop (at + 1) commands) (sym c.command-item.is) in
    let parts : commands ≡ take at commands ++ command ∷ drop (at + 1) commands = sym (take-append-drop at commands) ∙ ap (λ (l : List g.row.C.Denot). take at commands ++ l) next in
    let before = told (L.heard c.args.link.now) (L.sent c.args.link.now) (O.written c.args.output.now) in
    let mid = told (L.heard c.loop-command.link) (L.sent c.loop-command.link) (O.written c.loop-command.output) in
    let now = told (L.heard c.carry_out.new.link) (L.sent c.carry_out.new.link) (O.written c.carry_out.new.output) in
    let p = err_from_is_err_and c.from_residual.result c.from_residual.ensures.1 in
    let why = c.in_err-carry_out.field-0.0 in
    if_err (IsStopped M.machine first commands L.tells before now) c.from_residual.result why (p.1 ∙ ap Err p.2)
    (stopped_doing M.machine (M.stands c.loop-command.speaker) first commands (take at commands) (drop (at + 1) commands) command L.tells before mid now why parts
    (c.loop-command.invariant.run first stands idle) c.in_err-carry_out.ensures.part)

pub returns-in_err-hear_on-clause-stopped : goal.returns-in_err-hear_on-clause-stopped
returns-in_err-hear_on-clause-stopped g c = λ first stands idle.
    let L = g.L.Link in let O = g.O.Sink in let M = g.M.Speaker in
    let commands = c.args.commands.now in let at = c.loop-command.command-index in let command = c.command-item.result in
    let next : drop at commands ≡ command ∷ drop (at + 1) commands = at_drop_more (λ (l : List g.row.C.Denot). l) commands at command c.loop-command-test.true ∙ ap (λ (o : g.row.C.Denot). o ∷ drop (at + 1) commands) (sym c.command-item.is) in
    let parts : commands ≡ take at commands ++ command ∷ drop (at + 1) commands = sym (take-append-drop at commands) ∙ ap (λ (l : List g.row.C.Denot). take at commands ++ l) next in
    let before = told (L.heard c.args.link.now) (L.sent c.args.link.now) (O.written c.args.output.now) in
    let mid = told (L.heard c.loop-command.link) (L.sent c.loop-command.link) (O.written c.loop-command.output) in
    let later = told (L.heard c.carry_out.new.link) (L.sent c.carry_out.new.link) (O.written c.carry_out.new.output) in
    let now = told (L.heard c.hear_on.new.link) (L.sent c.hear_on.new.link) (O.written c.hear_on.new.output) in
    let run = run_does M.machine (M.stands c.loop-command.speaker) (M.stands c.carry_out.new.speaker) first commands (take at commands) (drop (at + 1) commands) command L.tells before mid later parts
    (c.loop-command.invariant.run first stands idle) c.in_ok-carry_out.ensures.done in
    let p = err_from_is_err_and c.from_residual-in_err-hear_on.result c.from_residual-in_err-hear_on.ensures.1 in
    let why = c.in_err-hear_on.field-0.0 in
    if_err (IsStopped M.machine first commands L.tells before now) c.from_residual-in_err-hear_on.result why (p.1 ∙ ap Err p.2)
    (c.in_err-hear_on.ensures.stopped first commands (take at commands ++ command ∷ []) (drop (at + 1) commands) before (parts ∙ sym (append_assoc (take at commands) (command ∷ []) (drop (at + 1) commands))) run)

pub loop-command-preserved : goal.loop-command-preserved
loop-command-preserved g c =
    let L = g.L.Link in let O = g.O.Sink in let M = g.M.Speaker in
    let commands = c.args.commands.now in let at = c.loop-command.command-index in let command = c.command-item.result in
    let next : drop at commands ≡ command ∷ drop (at + 1) commands = at_drop_more (λ (l : List g.row.C.Denot). l) commands at command c.loop-command-test.true ∙ ap (λ (o : g.row.C.Denot). o ∷ drop (at + 1) commands) (sym c.command-item.is) in
    let parts : commands ≡ take at commands ++ command ∷ drop (at + 1) commands = sym (take-append-drop at commands) ∙ ap (λ (l : List g.row.C.Denot). take at commands ++ l) next in
    let front : take (at + 1) commands ≡ take at commands ++ command ∷ [] = take_more commands at command c.loop-command-test.true ∙ ap (λ (o : g.row.C.Denot). take at commands ++ o ∷ []) (sym c.command-item.is) in
    let before = told (L.heard c.args.link.now) (L.sent c.args.link.now) (O.written c.args.output.now) in
    let mid = told (L.heard c.loop-command.link) (L.sent c.loop-command.link) (O.written c.loop-command.output) in
    let later = told (L.heard c.carry_out.new.link) (L.sent c.carry_out.new.link) (O.written c.carry_out.new.output) in
    let now = told (L.heard c.hear_on.new.link) (L.sent c.hear_on.new.link) (O.written c.hear_on.new.output) in
    let same = c.loop-command.invariant.counts in
    record {
      lasts = c.in_ok-hear_on.ensures.lasts (drop (at + 1) commands) (c.in_ok-carry_out.ensures.lasts (drop (at + 1) commands) (subst (M.lasts c.loop-command.speaker) next c.loop-command.invariant.lasts));
      run = λ first stands idle.
          let run = run_does M.machine (M.stands c.loop-command.speaker) (M.stands c.carry_out.new.speaker) first commands (take at commands) (drop (at + 1) commands) command L.tells before mid later parts
          (c.loop-command.invariant.run first stands idle) c.in_ok-carry_out.ensures.done in
          let Where : M.State → Type 0 = λ state. M.stands c.hear_on.new.speaker state × (M.machine.waits state ≡ false) in
          subst (λ (l : List g.row.C.Denot). IsRun M.machine Where first commands l L.tells before now) (sym front)
          (c.in_ok-hear_on.ensures.run first commands (take at commands ++ command ∷ []) (drop (at + 1) commands) before (parts ∙ sym (append_assoc (take at commands) (command ∷ []) (drop (at + 1) commands))) run);
      counts = (c.in_ok-hear_on.ensures.link ∙ c.in_ok-carry_out.ensures.link ∙ same.0, c.in_ok-hear_on.ensures.ended ∙ c.in_ok-carry_out.ensures.ended ∙ same.1, c.in_ok-hear_on.ensures.write ∙ c.in_ok-carry_out.ensures.write ∙ same.2);
    }

pub returns-clause-conversed : goal.returns-clause-conversed
returns-clause-conversed g c = λ first stands idle.
    let L = g.L.Link in let O = g.O.Sink in let M = g.M.Speaker in
    let commands = c.args.commands.now in let at = c.loop-command.command-index in
    let before = told (L.heard c.args.link.now) (L.sent c.args.link.now) (O.written c.args.output.now) in
    let now = told (L.heard c.loop-command.link) (L.sent c.loop-command.link) (O.written c.loop-command.output) in
    let Where : M.State → Type 0 = λ state. M.stands c.loop-command.speaker state × (M.machine.waits state ≡ false) in
    let all : take at commands ≡ commands = take_all at commands (search rules) in
    subst (λ (l : List g.row.C.Denot). IsRun M.machine Where first commands l L.tells before now) all (c.loop-command.invariant.run first stands idle)

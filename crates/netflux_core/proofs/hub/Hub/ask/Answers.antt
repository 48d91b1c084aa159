use Rattle.std.proofs.Common.{◌≡◌, ◌∙◌, ◌∷◌, ◌++◌, [], inl, inr, ℕ, List, Ok, Err, refl, ap, subst}
use Rattle.std.proofs.lemmas.Result.{IfOk-weaker}
use Rattle.pad_edge.specs.Count.{Rose}
use Rattle.pad_text.specs.Digits.{IsDigits}
use Rattle.disk_volume.specs.Disk.{reads}
use Rattle.disk_volume.specs.Lemmas.Since.{grew_within}
use Rattle.disk_volume.specs.Lemmas.Others.{syncs_grew}
use Rattle.netflux_codec.specs.declared.reply.Reply.TheVariants.{Ack}
use Rattle.netflux_rooms.specs.Rooms.{tell}
use Rattle.netflux_core.specs.Histories.{channel_of, tell_entries, answered}
use Rattle.netflux_core.specs.Words.{Refuses}
use Rattle.netflux_core.proofs.Asking.{told_held, asked_ends, asked_breaks}
use Rattle.netflux_core.proofs.Failing.{failures_rise, failures_stay, none_failed, ok_kept, err_kept, told_or_kept, as_err, on_err}
use Rattle.netflux_core.proofs.Steps.{refusal}
use Rattle.netflux_core.proofs.hub.Hub.ask.Goals as goal

-- every entry was read
pub returns-in-Ok-clause-ends : goal.returns-in-Ok-clause-ends
returns-in-Ok-clause-ends g c = λ told identities first state stands.
    let V = g.V.Volume in let K = g.K.Keep in
    let old = V.disk c.args.volume.now in let new = V.disk c.read_history.new.volume in
    let after = c.in-Ok.ensures.told told state.channels stands.channels in
    let held = told_held (λ outs. outs.items) (K.logs.finds (channel_of c.args.ask.now) (reads old)) state.channels.loaded (state.channels.at (channel_of c.args.ask.now)) c.keeper-identity.result c.args.number c.args.seq c.args.ask.now (Ok c.in-Ok.outs) c.in-Ok.outs after.0 refl after.1 in
    asked_ends K.logs (K.keeps c.args.keeper.now) (K.keeps c.read_history.new.keeper) identities c.args.self.now.rooms first (V.faults c.args.volume.now) (V.faults c.read_history.new.volume) state
    c.args.moment c.args.number c.args.seq c.args.ask.now old new stands (Ok held.0) after.0 c.in-Ok.outs.items
    held.2 after.2 (held.1 ∙ ap (λ (k : List ℕ). answered k c.args.number c.args.seq c.args.ask.now held.0) (c.keeper-identity.ensures ∙ stands.rooms.keeper)) after.3
    (failures_stay first state.failures (V.faults c.args.volume.now) (V.faults c.read_history.new.volume) stands.failures c.read_history.ensures.later)
    (none_failed first state.failures (V.faults c.args.volume.now) (V.faults c.read_history.new.volume) (Ok held.0) stands.unfailing (inr (ok_kept _ c.in-Ok.outs c.in-Ok.ensures.kept)))

-- the keeper refused
pub returns-in-Err-clause-ends : goal.returns-in-Err-clause-ends
returns-in-Err-clause-ends g c = λ told identities first state stands.
    let V = g.V.Volume in let K = g.K.Keep in
    let old = V.disk c.args.volume.now in let new = V.disk c.read_history.new.volume in
    let after = c.in-Err.ensures.told told state.channels stands.channels in
    IfOk-weaker c.refused.result (λ outs. Refuses c.args.number c.args.seq c.as_str.result.now c.in-Err.why outs.items) _
    (λ outs gives. asked_ends K.logs (K.keeps c.args.keeper.now) (K.keeps c.read_history.new.keeper) identities c.args.self.now.rooms first (V.faults c.args.volume.now) (V.faults c.read_history.new.volume) state
    c.args.moment c.args.number c.args.seq c.args.ask.now old new stands (Err c.in-Err.why) after.0 outs.items
    after.1 after.2 (subst (λ (about : List ℕ). Refuses c.args.number c.args.seq about c.in-Err.why outs.items) (c.as_str.ensures.value ∙ c.keeper-identity.ensures ∙ stands.rooms.keeper) gives) after.3
    (failures_rise first state.failures (V.faults c.args.volume.now) (V.faults c.read_history.new.volume) (Err c.in-Err.why) stands.failures (λ e. c.in-Err.ensures.store e) c.read_history.ensures.later)
    (none_failed {T = List (List ℕ)} first state.failures (V.faults c.args.volume.now) (V.faults c.read_history.new.volume) (Err c.in-Err.why) stands.unfailing (err_kept _ c.in-Err.why c.in-Err.ensures.kept)))
    c.refused.ensures

pub returns-in-Err-clause-broken : goal.returns-in-Err-clause-broken
returns-in-Err-clause-broken g c = λ told identities first state stands.
    let V = g.V.Volume in let K = g.K.Keep in
    let after = c.in-Err.ensures.told told state.channels stands.channels in
    on_err c.refused.result (asked_breaks K.logs (K.keeps c.args.keeper.now) (K.keeps c.read_history.new.keeper) identities c.args.self.now.rooms first (V.faults c.args.volume.now) (V.faults c.read_history.new.volume) state
    c.args.moment c.args.number c.args.seq c.args.ask.now (V.disk c.args.volume.now) (V.disk c.read_history.new.volume) stands (Err c.in-Err.why) after.0 after.1 after.3)

pub returns-in-Ok-clause-costs : goal.returns-in-Ok-clause-costs
returns-in-Ok-clause-costs g c = λ identities rooms is.
    let cost = c.in-Ok.ensures.cost in
    inl (cost.0, cost.1, cost.2 ∙ ap (λ (k : List ℕ). tell c.args.number (Ack c.args.seq) ∷ (tell_entries k c.args.number c.args.ask.now cost.0 ++ tell c.args.number cost.1 ∷ [])) (c.keeper-identity.ensures ∙ is.keeper), cost.3)

pub returns-in-Err-clause-costs : goal.returns-in-Err-clause-costs
returns-in-Err-clause-costs g c = λ identities rooms is.
    let V = g.V.Volume in
    IfOk-weaker c.refused.result (λ outs. Refuses c.args.number c.args.seq c.as_str.result.now c.in-Err.why outs.items) _
    (λ outs gives. inr (refusal (Rose (V.faults c.args.volume.now) (V.faults c.read_history.new.volume)) c.args.number c.args.seq identities.keeper c.in-Err.why outs.items (λ e. c.in-Err.ensures.store (as_err c.in-Err.why e))
    (subst (λ (about : List ℕ). Refuses c.args.number c.args.seq about c.in-Err.why outs.items) (c.as_str.ensures.value ∙ c.keeper-identity.ensures ∙ is.keeper) gives)))
    c.refused.ensures

pub returns-in-Ok-clause-tie : goal.returns-in-Ok-clause-tie
returns-in-Ok-clause-tie g c = λ told.
    let tie = c.requires.tie told in
    let after = c.in-Ok.ensures.told told tie.0 tie.1 in
    (after.2.now, after.2.kept)

pub returns-in-Ok-clause-files : goal.returns-in-Ok-clause-files
returns-in-Ok-clause-files g c = λ told.
    let tie = c.requires.tie told in
    let after = c.in-Ok.ensures.told told tie.0 tie.1 in
    grew_within (g.V.Volume.disk c.read_history.new.volume) (λ file own. (channel_of c.args.ask.now, subst (λ (l : List ℕ). IsDigits 32 l) c.channel_in-channel.ensures c.digits-digits.ensures.are, own))
    (syncs_grew (g.V.Volume.disk c.read_history.new.volume) after.3.syncs)

pub returns-in-Err-clause-tie : goal.returns-in-Err-clause-tie
returns-in-Err-clause-tie g c = λ told.
    let tie = c.requires.tie told in
    let after = c.in-Err.ensures.told told tie.0 tie.1 in
    (after.2.now, after.2.kept)

pub returns-in-Err-clause-files : goal.returns-in-Err-clause-files
returns-in-Err-clause-files g c = λ told.
    let tie = c.requires.tie told in
    let after = c.in-Err.ensures.told told tie.0 tie.1 in
    grew_within (g.V.Volume.disk c.read_history.new.volume) (λ file own. (channel_of c.args.ask.now, subst (λ (l : List ℕ). IsDigits 32 l) c.channel_in-channel.ensures c.digits-digits.ensures.are, own))
    (syncs_grew (g.V.Volume.disk c.read_history.new.volume) after.3.syncs)

pub returns-in-Ok-clause-kept : goal.returns-in-Ok-clause-kept
returns-in-Ok-clause-kept g c = inr (ok_kept _ c.in-Ok.outs c.in-Ok.ensures.kept)

pub returns-in-Err-clause-kept : goal.returns-in-Err-clause-kept
returns-in-Err-clause-kept g c =
    let V = g.V.Volume in
    IfOk-weaker c.refused.result (λ outs. Refuses c.args.number c.args.seq c.as_str.result.now c.in-Err.why outs.items) _
    (λ outs gives. told_or_kept (V.faults c.read_history.new.volume ≡ V.faults c.args.volume.now) c.args.number c.args.seq c.as_str.result.now c.in-Err.why outs.items c.in-Err.ensures.kept gives)
    c.refused.ensures

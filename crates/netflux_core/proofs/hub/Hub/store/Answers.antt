use Rattle.std.proofs.Common.{◌≡◌, inl, inr, ℕ, List, Ok, Err, subst}
use Rattle.std.proofs.lemmas.Result.{IfOk-weaker}
use Rattle.pad_edge.specs.Count.{Rose}
use Rattle.disk_volume.specs.Lemmas.Since.{grew_within}
use Rattle.disk_volume.specs.Moments.{still}
use Rattle.netflux_rooms.specs.Machine.{posted}
use Rattle.netflux_core.specs.Words.{Refuses}
use Rattle.netflux_core.proofs.Failing.{failures_rise, none_failed, ok_kept, told_or_kept, at_ok, as_err, on_err}
use Rattle.netflux_core.proofs.Steps.{refusal}
use Rattle.netflux_core.proofs.Storing.{stored_ends, stored_breaks}
use Rattle.netflux_core.proofs.hub.Hub.store.Goals as goal

pub returns-in-Ok-clause-ends : goal.returns-in-Ok-clause-ends
returns-in-Ok-clause-ends g c = λ told identities first state stands.
    let V = g.V.Volume in let K = g.K.Keep in
    let old = V.disk c.args.volume.now in let new = V.disk c.store_entry.new.volume in
    let stored = c.in-Ok.ensures.stored told state.channels stands.channels in
    let named = c.in_ok-sender.ensures identities state.rooms stands.rooms in
    IfOk-weaker c.post.result (λ outs. outs.items ≡ posted identities state.rooms c.args.number c.args.seq c.args.channel.now c.args.content) _
    (λ outs gives. stored_ends K.logs (K.keeps c.args.keeper.now) (K.keeps c.store_entry.new.self) identities c.args.self.now.rooms first (V.faults c.args.volume.now) (V.faults c.store_entry.new.volume) state
    c.args.moment c.args.number c.args.seq c.in_ok-sender.sender c.args.channel.now c.args.content old new stands named
    (Ok c.in-Ok.field-0) stored.0 outs.items stored.1 stored.2 gives stored.3
    (failures_rise first state.failures (V.faults c.args.volume.now) (V.faults c.store_entry.new.volume) (Ok c.in-Ok.field-0) stands.failures (λ e. c.in-Ok.ensures.store e) c.store_entry.ensures.later)
    (none_failed first state.failures (V.faults c.args.volume.now) (V.faults c.store_entry.new.volume) (Ok c.in-Ok.field-0) stands.unfailing c.in-Ok.ensures.kept))
    (c.post.ensures identities state.rooms stands.rooms)

pub returns-in-Ok-clause-broken : goal.returns-in-Ok-clause-broken
returns-in-Ok-clause-broken g c = λ told identities first state stands.
    let V = g.V.Volume in let K = g.K.Keep in
    let stored = c.in-Ok.ensures.stored told state.channels stands.channels in
    let named = c.in_ok-sender.ensures identities state.rooms stands.rooms in
    on_err c.post.result (inr (stored_breaks K.logs (K.keeps c.args.keeper.now) (K.keeps c.store_entry.new.self) identities c.args.self.now.rooms first (V.faults c.args.volume.now) (V.faults c.store_entry.new.volume) state
    c.args.moment c.args.number c.args.seq c.in_ok-sender.sender c.args.channel.now c.args.content (V.disk c.args.volume.now) (V.disk c.store_entry.new.volume) stands named
    (Ok c.in-Ok.field-0) stored.0 stored.1 stored.3))

pub returns-in-Ok-clause-tie : goal.returns-in-Ok-clause-tie
returns-in-Ok-clause-tie g c = λ told.
    let tie = c.requires.tie told in
    let after = c.in-Ok.ensures.stored told tie.0 tie.1 in
    (after.2.now, after.2.kept)

pub returns-in-Ok-clause-files : goal.returns-in-Ok-clause-files
returns-in-Ok-clause-files g c = λ told.
    let tie = c.requires.tie told in
    let after = c.in-Ok.ensures.stored told tie.0 tie.1 in
    grew_within (g.V.Volume.disk c.store_entry.new.volume) (λ file own. (c.args.channel.now, c.digits-digits.ensures.are, own)) after.3.acts

pub returns-in-Err-clause-ends : goal.returns-in-Err-clause-ends
returns-in-Err-clause-ends g c = λ told identities first state stands.
    let V = g.V.Volume in let K = g.K.Keep in
    let old = V.disk c.args.volume.now in let new = V.disk c.store_entry.new.volume in
    let stored = c.in-Err.ensures.stored told state.channels stands.channels in
    let named = c.in_ok-sender.ensures identities state.rooms stands.rooms in
    IfOk-weaker c.refused.result (λ outs. Refuses c.args.number c.args.seq c.as_str.result.now c.in-Err.why outs.items) _
    (λ outs gives. stored_ends K.logs (K.keeps c.args.keeper.now) (K.keeps c.store_entry.new.self) identities c.args.self.now.rooms first (V.faults c.args.volume.now) (V.faults c.store_entry.new.volume) state
    c.args.moment c.args.number c.args.seq c.in_ok-sender.sender c.args.channel.now c.args.content old new stands named
    (Err c.in-Err.why) stored.0 outs.items stored.1 stored.2 (subst (λ (about : List ℕ). Refuses c.args.number c.args.seq about c.in-Err.why outs.items) c.as_str.ensures.value gives) stored.3
    (failures_rise first state.failures (V.faults c.args.volume.now) (V.faults c.store_entry.new.volume) (Err c.in-Err.why) stands.failures (λ e. c.in-Err.ensures.store e) c.store_entry.ensures.later)
    (none_failed first state.failures (V.faults c.args.volume.now) (V.faults c.store_entry.new.volume) (Err c.in-Err.why) stands.unfailing c.in-Err.ensures.kept))
    c.refused.ensures

pub returns-in-Err-clause-broken : goal.returns-in-Err-clause-broken
returns-in-Err-clause-broken g c = λ told identities first state stands.
    let V = g.V.Volume in let K = g.K.Keep in
    let stored = c.in-Err.ensures.stored told state.channels stands.channels in
    let named = c.in_ok-sender.ensures identities state.rooms stands.rooms in
    on_err c.refused.result (inr (stored_breaks K.logs (K.keeps c.args.keeper.now) (K.keeps c.store_entry.new.self) identities c.args.self.now.rooms first (V.faults c.args.volume.now) (V.faults c.store_entry.new.volume) state
    c.args.moment c.args.number c.args.seq c.in_ok-sender.sender c.args.channel.now c.args.content (V.disk c.args.volume.now) (V.disk c.store_entry.new.volume) stands named
    (Err c.in-Err.why) stored.0 stored.1 stored.3))

pub returns-in-Err-clause-tie : goal.returns-in-Err-clause-tie
returns-in-Err-clause-tie g c = λ told.
    let tie = c.requires.tie told in
    let after = c.in-Err.ensures.stored told tie.0 tie.1 in
    (after.2.now, after.2.kept)

pub returns-in-Err-clause-files : goal.returns-in-Err-clause-files
returns-in-Err-clause-files g c = λ told.
    let tie = c.requires.tie told in
    let after = c.in-Err.ensures.stored told tie.0 tie.1 in
    grew_within (g.V.Volume.disk c.store_entry.new.volume) (λ file own. (c.args.channel.now, c.digits-digits.ensures.are, own)) after.3.acts

pub returns-in_err-sender-clause-files : goal.returns-in_err-sender-clause-files
returns-in_err-sender-clause-files g c = λ told. still

pub returns-in-Ok-clause-costs : goal.returns-in-Ok-clause-costs
returns-in-Ok-clause-costs g c = λ identities rooms is.
    IfOk-weaker c.post.result (λ outs. outs.items ≡ posted identities rooms c.args.number c.args.seq c.args.channel.now c.args.content) _ (λ outs gives. inl gives) (c.post.ensures identities rooms is)

pub returns-in-Err-clause-costs : goal.returns-in-Err-clause-costs
returns-in-Err-clause-costs g c = λ identities rooms is.
    let V = g.V.Volume in
    IfOk-weaker c.refused.result (λ outs. Refuses c.args.number c.args.seq c.as_str.result.now c.in-Err.why outs.items) _
    (λ outs gives. inr (refusal (Rose (V.faults c.args.volume.now) (V.faults c.store_entry.new.volume)) c.args.number c.args.seq c.args.channel.now c.in-Err.why outs.items (λ e. c.in-Err.ensures.store (as_err c.in-Err.why e))
    (subst (λ (about : List ℕ). Refuses c.args.number c.args.seq about c.in-Err.why outs.items) c.as_str.ensures.value gives)))
    c.refused.ensures

pub returns-in-Ok-clause-kept : goal.returns-in-Ok-clause-kept
returns-in-Ok-clause-kept g c = at_ok c.post.result _ (λ outs. inr (ok_kept _ c.in-Ok.field-0 c.in-Ok.ensures.kept))

pub returns-in-Err-clause-kept : goal.returns-in-Err-clause-kept
returns-in-Err-clause-kept g c =
    let V = g.V.Volume in
    IfOk-weaker c.refused.result (λ outs. Refuses c.args.number c.args.seq c.as_str.result.now c.in-Err.why outs.items) _
    (λ outs gives. told_or_kept (V.faults c.store_entry.new.volume ≡ V.faults c.args.volume.now) c.args.number c.args.seq c.as_str.result.now c.in-Err.why outs.items c.in-Err.ensures.kept gives)
    c.refused.ensures

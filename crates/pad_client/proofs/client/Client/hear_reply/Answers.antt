use Rattle.std.proofs.Common.{refl, sym, ◌∙◌, ap, subst, true, false}
use Rattle.std.proofs.lemmas.Result.{IfOk-weaker, IfErr-weaker}
use Rattle.pad_client.specs.declared.heard.Heard.TheVariants as heard
use Rattle.pad_client.specs.Hear.{addressed_to}
use Rattle.pad_client.specs.View.{View, StandsAs}
use Rattle.pad_client.proofs.Standing.{about}
use Rattle.pad_client.proofs.Addressed.{by_addressed, full_reply}
use Rattle.pad_client.proofs.Counting.{about_last}
use Rattle.pad_client.proofs.client.Client.hear_reply.Goals as goal

pub returns-in-Ident-clause-hears : goal.returns-in-Ident-clause-hears
returns-in-Ident-clause-hears g c client stands differs =
    let i = c.self.inside in
    let held : View = record { copy = i.copy; unreadable = i.unreadable; wanted = i.wanted; requests = i.requests; repair = i.repair; synced = i.synced } in
    about held c.told.new.self client c.args.reply heard.Ident c.told.result c.hear_id.new.self (subst (λ (v : View). StandsAs v client) (sym c.self.view_is) stands) (rw c.in-Ident.is (λ received no. no))
    (rw c.in-Ident.is (refl, c.hear_id.ensures)) c.told.ensures.drops c.told.ensures.is

pub returns-in-Ident-clause-last : goal.returns-in-Ident-clause-last
returns-in-Ident-clause-last g c =
    ap (λ (v : View). v.requests.last) c.told.ensures.drops ∙ about_last c.self.inside.requests c.args.reply heard.Ident c.hear_id.new.self (rw c.in-Ident.is (refl, c.hear_id.ensures)) ∙ ap (λ (v : View). v.requests.last) c.self.view_is

pub returns-in-Error-clause-hears : goal.returns-in-Error-clause-hears
returns-in-Error-clause-hears g c client stands differs =
    let i = c.self-in-Error.inside in
    let held : View = record { copy = i.copy; unreadable = i.unreadable; wanted = i.wanted; requests = i.requests; repair = i.repair; synced = i.synced } in
    about held c.told-in-Error.new.self client c.args.reply (heard.Error c.in-Error.number c.in-Error.word) c.told-in-Error.result c.forget.new.self (subst (λ (v : View). StandsAs v client) (sym c.self-in-Error.view_is) stands) (rw c.in-Error.is (λ received no. no))
    (rw c.in-Error.is (refl, c.forget.ensures)) c.told-in-Error.ensures.drops c.told-in-Error.ensures.is

pub returns-in-Error-clause-last : goal.returns-in-Error-clause-last
returns-in-Error-clause-last g c =
    ap (λ (v : View). v.requests.last) c.told-in-Error.ensures.drops ∙ about_last c.self-in-Error.inside.requests c.args.reply (heard.Error c.in-Error.number c.in-Error.word) c.forget.new.self (rw c.in-Error.is (refl, c.forget.ensures)) ∙ ap (λ (v : View). v.requests.last) c.self-in-Error.view_is

pub returns-in-Member-clause-hears : goal.returns-in-Member-clause-hears
returns-in-Member-clause-hears g c client stands differs =
    let i = c.self-in-Member.inside in
    let held : View = record { copy = i.copy; unreadable = i.unreadable; wanted = i.wanted; requests = i.requests; repair = i.repair; synced = i.synced } in
    about held c.told-in-Member.new.self client c.args.reply c.hear_who-heard.result c.told-in-Member.result c.hear_who-heard.new.requests (subst (λ (v : View). StandsAs v client) (sym c.self-in-Member.view_is) stands) (rw c.in-Member.is (λ received no. no))
    (rw c.in-Member.is c.hear_who-heard.ensures) c.told-in-Member.ensures.drops c.told-in-Member.ensures.is

pub returns-in-Member-clause-last : goal.returns-in-Member-clause-last
returns-in-Member-clause-last g c =
    ap (λ (v : View). v.requests.last) c.told-in-Member.ensures.drops ∙ about_last c.self-in-Member.inside.requests c.args.reply c.hear_who-heard.result c.hear_who-heard.new.requests (rw c.in-Member.is c.hear_who-heard.ensures) ∙ ap (λ (v : View). v.requests.last) c.self-in-Member.view_is

pub returns-in-Ack-clause-hears : goal.returns-in-Ack-clause-hears
returns-in-Ack-clause-hears g c client stands differs =
    let i = c.self-in-Ack.inside in
    let held : View = record { copy = i.copy; unreadable = i.unreadable; wanted = i.wanted; requests = i.requests; repair = i.repair; synced = i.synced } in
    about held c.told-in-Ack.new.self client c.args.reply c.hear_acked-heard.result c.told-in-Ack.result c.hear_acked-heard.new.requests (subst (λ (v : View). StandsAs v client) (sym c.self-in-Ack.view_is) stands) (rw c.in-Ack.is (λ received no. no))
    (rw c.in-Ack.is c.hear_acked-heard.ensures) c.told-in-Ack.ensures.drops c.told-in-Ack.ensures.is

pub returns-in-Ack-clause-last : goal.returns-in-Ack-clause-last
returns-in-Ack-clause-last g c =
    ap (λ (v : View). v.requests.last) c.told-in-Ack.ensures.drops ∙ about_last c.self-in-Ack.inside.requests c.args.reply c.hear_acked-heard.result c.hear_acked-heard.new.requests (rw c.in-Ack.is c.hear_acked-heard.ensures) ∙ ap (λ (v : View). v.requests.last) c.self-in-Ack.view_is

pub returns-in-Msg-clause-hears : goal.returns-in-Msg-clause-hears
returns-in-Msg-clause-hears g c =
    by_addressed c.args.self.now c.hear_content.new.self c.args.reply (addressed_to c.as_str.result.now false c.as_str-in-Msg.result.now) c.hear_content.result (rw c.in-Msg.is cc) c.hear_content.ensures.hears

pub returns-in-Msg-clause-full : goal.returns-in-Msg-clause-full
returns-in-Msg-clause-full g c =
    full_reply c.args.self.now c.args.reply (addressed_to c.as_str.result.now false c.as_str-in-Msg.result.now) c.hear_content.result (rw c.in-Msg.is cc) c.hear_content.ensures.full

pub returns-in-History-clause-hears : goal.returns-in-History-clause-hears
returns-in-History-clause-hears g c =
    by_addressed c.args.self.now c.hear_content-in-History.new.self c.args.reply (addressed_to c.as_str-in-History.result.now true c.as_str-in-History-2.result.now) c.hear_content-in-History.result (rw c.in-History.is cc) c.hear_content-in-History.ensures.hears

pub returns-in-History-clause-full : goal.returns-in-History-clause-full
returns-in-History-clause-full g c =
    full_reply c.args.self.now c.args.reply (addressed_to c.as_str-in-History.result.now true c.as_str-in-History-2.result.now) c.hear_content-in-History.result (rw c.in-History.is cc) c.hear_content-in-History.ensures.full

pub returns-in-HistoryEnd-clause-hears : goal.returns-in-HistoryEnd-clause-hears
returns-in-HistoryEnd-clause-hears g c =
    rw c.in-HistoryEnd.is (IfOk-weaker c.hear_end.result _ _ (λ answer heard client stands differs. heard c.in-HistoryEnd.field-0 client stands differs.0) c.hear_end.ensures.hears)

pub returns-in-HistoryEnd-clause-full : goal.returns-in-HistoryEnd-clause-full
returns-in-HistoryEnd-clause-full g c = IfErr-weaker c.hear_end.result _ _ (λ refused memory is. absurd (memory is)) c.hear_end.ensures.memory

pub returns-in-HistoryEnd-clause-still : goal.returns-in-HistoryEnd-clause-still
returns-in-HistoryEnd-clause-still g c = IfErr-weaker c.hear_end.result _ _ (λ refused memory is. absurd (memory is)) c.hear_end.ensures.memory

pub returns-in-HistoryUnknown-clause-hears : goal.returns-in-HistoryUnknown-clause-hears
returns-in-HistoryUnknown-clause-hears g c client stands differs =
    let i = c.self-in-HistoryUnknown.inside in
    let held : View = record { copy = i.copy; unreadable = i.unreadable; wanted = i.wanted; requests = i.requests; repair = i.repair; synced = i.synced } in
    about held c.told-in-HistoryUnknown.new.self client c.args.reply c.hear_unknown-heard.result c.told-in-HistoryUnknown.result c.hear_unknown-heard.new.requests (subst (λ (v : View). StandsAs v client) (sym c.self-in-HistoryUnknown.view_is) stands) (rw c.in-HistoryUnknown.is (λ received no. no))
    (rw c.in-HistoryUnknown.is c.hear_unknown-heard.ensures) c.told-in-HistoryUnknown.ensures.drops c.told-in-HistoryUnknown.ensures.is

pub returns-in-HistoryUnknown-clause-last : goal.returns-in-HistoryUnknown-clause-last
returns-in-HistoryUnknown-clause-last g c =
    ap (λ (v : View). v.requests.last) c.told-in-HistoryUnknown.ensures.drops ∙ about_last c.self-in-HistoryUnknown.inside.requests c.args.reply c.hear_unknown-heard.result c.hear_unknown-heard.new.requests (rw c.in-HistoryUnknown.is c.hear_unknown-heard.ensures) ∙ ap (λ (v : View). v.requests.last) c.self-in-HistoryUnknown.view_is

pub returns-in-Joined-clause-hears : goal.returns-in-Joined-clause-hears
returns-in-Joined-clause-hears g c client stands differs =
    about c.args.self.now c.told-in-Joined.new.self client c.args.reply heard.Ignored c.told-in-Joined.result c.args.self.now.requests stands (rw c.in-Joined.is (λ received no. no))
    (rw c.in-Joined.is (record { told = refl; state = refl })) c.told-in-Joined.ensures.drops c.told-in-Joined.ensures.is

pub returns-in-Joined-clause-last : goal.returns-in-Joined-clause-last
returns-in-Joined-clause-last g c = ap (λ (v : View). v.requests.last) c.told-in-Joined.ensures.drops

pub returns-in-Gone-clause-hears : goal.returns-in-Gone-clause-hears
returns-in-Gone-clause-hears g c client stands differs =
    about c.args.self.now c.told-in-Gone.new.self client c.args.reply heard.Ignored c.told-in-Gone.result c.args.self.now.requests stands (rw c.in-Gone.is (λ received no. no))
    (rw c.in-Gone.is (record { told = refl; state = refl })) c.told-in-Gone.ensures.drops c.told-in-Gone.ensures.is

pub returns-in-Gone-clause-last : goal.returns-in-Gone-clause-last
returns-in-Gone-clause-last g c = ap (λ (v : View). v.requests.last) c.told-in-Gone.ensures.drops

pub returns-clause-hears : goal.returns-clause-hears
returns-clause-hears g c client stands differs =
    about c.args.self.now c.told-in-Entry.new.self client c.args.reply heard.Ignored c.told-in-Entry.result c.args.self.now.requests stands (rw c.in-Entry.is (λ received no. no))
    (rw c.in-Entry.is (record { told = refl; state = refl })) c.told-in-Entry.ensures.drops c.told-in-Entry.ensures.is

pub returns-clause-last : goal.returns-clause-last
returns-clause-last g c = ap (λ (v : View). v.requests.last) c.told-in-Entry.ensures.drops

pub returns-in-Ident-clause-strokes : goal.returns-in-Ident-clause-strokes
returns-in-Ident-clause-strokes g c = ap (λ (v : View). v.copy.strokes) c.told.ensures.drops ∙ ap (λ (v : View). v.copy.strokes) c.self.view_is

pub returns-in-Error-clause-strokes : goal.returns-in-Error-clause-strokes
returns-in-Error-clause-strokes g c = ap (λ (v : View). v.copy.strokes) c.told-in-Error.ensures.drops ∙ ap (λ (v : View). v.copy.strokes) c.self-in-Error.view_is

pub returns-in-Member-clause-strokes : goal.returns-in-Member-clause-strokes
returns-in-Member-clause-strokes g c = ap (λ (v : View). v.copy.strokes) c.told-in-Member.ensures.drops ∙ ap (λ (v : View). v.copy.strokes) c.self-in-Member.view_is

pub returns-in-Ack-clause-strokes : goal.returns-in-Ack-clause-strokes
returns-in-Ack-clause-strokes g c = ap (λ (v : View). v.copy.strokes) c.told-in-Ack.ensures.drops ∙ ap (λ (v : View). v.copy.strokes) c.self-in-Ack.view_is

pub returns-in-HistoryUnknown-clause-strokes : goal.returns-in-HistoryUnknown-clause-strokes
returns-in-HistoryUnknown-clause-strokes g c = ap (λ (v : View). v.copy.strokes) c.told-in-HistoryUnknown.ensures.drops ∙ ap (λ (v : View). v.copy.strokes) c.self-in-HistoryUnknown.view_is

pub returns-in-Joined-clause-strokes : goal.returns-in-Joined-clause-strokes
returns-in-Joined-clause-strokes g c = ap (λ (v : View). v.copy.strokes) c.told-in-Joined.ensures.drops

pub returns-in-Gone-clause-strokes : goal.returns-in-Gone-clause-strokes
returns-in-Gone-clause-strokes g c = ap (λ (v : View). v.copy.strokes) c.told-in-Gone.ensures.drops

pub returns-clause-strokes : goal.returns-clause-strokes
returns-clause-strokes g c = ap (λ (v : View). v.copy.strokes) c.told-in-Entry.ensures.drops

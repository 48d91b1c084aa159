use Rattle.std.proofs.Common.{◌≡◌, ◌≤◌, ◌+◌, length, Some, refl, sym, ◌∙◌, ap, subst}
use Rattle.std.specs.BTreeMap.{Updates}
use Rattle.std.proofs.lemmas.Result.{IfOk-weaker, IfErr-weaker, on_ok_weaker}
use Rattle.pad_text.specs.declared.name.Name.{Name}
use Rattle.pad_message.specs.Message.{name_of}
use Rattle.pad_graph.specs.State.{name_cmp}
use Rattle.pad_stroke.specs.Work.{Marked}
use Rattle.pad_chain.specs.Tie.{StandsFor}
use Rattle.pad_chain.specs.Knows.{Knows}
use Rattle.client_copy.specs.View.{View, StandsAs}
use Rattle.client_copy.proofs.Making.{kept_as, in_between, stands_between, clash_twice, made}
use Rattle.client_copy.proofs.working_copy.WorkingCopy.make_patch.Goals as goal

pub returns-clause-makes : goal.returns-clause-makes
returns-clause-makes g c =
    let i = c.self.inside in
    let m = c.args.message in
    let old : View = record { pad = record { chain = i.chain; base = i.base; repaired = i.repaired }; work = i.work; sent = i.sent.entries; strokes = i.strokes } in
    let between : View = record { pad = old.pad; work = i.work; sent = c.keep.new.sent.entries; strokes = i.strokes } in
    let patch : m.patch ≡ i.work.patch = c.requires.patch ∙ sym (ap (λ (v : View). v.work.patch) c.self.view_is) in
    let updates : Updates name_cmp i.sent c.keep.new.sent (name_of m) (Some i.work) =
    subst (λ (n : Name). Updates name_cmp i.sent c.keep.new.sent n (Some i.work)) c.requires.named
    (subst (λ (w : Marked). Updates name_cmp i.sent c.keep.new.sent c.args.name (Some w)) c.in_ok-own.ensures.copy c.in_ok-keep.ensures.ok) in
    IfOk-weaker c.receive.result _ _ (λ moved follows copy stands clash.
    let stood : StandsAs old copy = subst (λ (v : View). StandsAs v copy) (sym c.self.view_is) stands in
    let at = follows (in_between copy m) (stands_between old between copy m stood c.requires.plain patch (kept_as i.sent c.keep.new.sent (name_of m) i.work updates) refl) (clash_twice m copy.pad.all clash) in
    made c.receive.new.self copy m moved at.0 c.requires.plain at.1 at.2) c.receive.ensures.follows

pub returns-clause-grows : goal.returns-clause-grows
returns-clause-grows g c base received knows =
    subst (λ (v : View). c.receive.new.self.pad.chain.graph.known ≤ v.pad.chain.graph.known + 1) c.self.view_is
    (c.receive.ensures.grows base received (subst (λ (v : View). Knows v.pad.chain base received) (sym c.self.view_is) knows))

pub returns-clause-limit : goal.returns-clause-limit
returns-clause-limit g c =
    IfErr-weaker c.receive.result _ _ (λ refused why is base received knows. why is base received (subst (λ (v : View). Knows v.pad.chain base received) (sym c.self.view_is) knows)) c.receive.ensures.limit

pub returns-clause-full : goal.returns-clause-full
returns-clause-full g c =
    IfErr-weaker c.receive.result _ _ (λ refused why is copy stands. why is copy.pad.base copy.pad.received
    (c.stood_is_known.ensures c.self.inside.chain copy.pad.base copy.pad.received copy.pad.choice (subst (λ (v : View). StandsFor v.pad.chain copy.pad.base copy.pad.received copy.pad.choice) (sym c.self.view_is) stands.pad.stands))) c.receive.ensures.limit

pub returns-clause-elsewhere : goal.returns-clause-elsewhere
returns-clause-elsewhere g c =
    on_ok_weaker c.receive.result (λ none base received knows. none base received (subst (λ (v : View). Knows v.pad.chain base received) (sym c.self.view_is) knows)) c.receive.ensures.elsewhere

pub returns-clause-room : goal.returns-clause-room
returns-clause-room g c =
    on_ok_weaker c.receive.result (λ none copy stands. none copy.pad.base copy.pad.received
    (c.stood_is_known.ensures c.self.inside.chain copy.pad.base copy.pad.received copy.pad.choice (subst (λ (v : View). StandsFor v.pad.chain copy.pad.base copy.pad.received copy.pad.choice) (sym c.self.view_is) stands.pad.stands))) c.receive.ensures.elsewhere

pub returns-clause-cost : goal.returns-clause-cost
returns-clause-cost g c =
    on_ok_weaker c.receive.result (λ costs base received choice depth rise stands within found. costs base received choice depth rise
    (subst (λ (v : View). StandsFor v.pad.chain base received choice) (sym c.self.view_is) stands) within
    (subst (λ (v : View). length c.receive.new.self.pad.chain.found ≡ length v.pad.chain.found + rise) (sym c.self.view_is) found)) c.receive.ensures.cost

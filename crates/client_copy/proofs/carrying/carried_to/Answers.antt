use Rattle.std.proofs.Common.{◌≡◌, ℕ, List, sym, ◌∙◌, ap, subst}
use Rattle.pad_text.specs.Hash.{document_hash}
use Rattle.pad_stroke.specs.Work.{Marked, empty}
use Rattle.pad_chain.specs.Leads.{Leads}
use Rattle.client_work.specs.Switch.{switched}
use Rattle.client_work.specs.Carrying.{all_moves}
use Rattle.client_copy.specs.Held.{IsHeldOn}
use Rattle.client_copy.proofs.Behind.{ground_on, ready_of, along_held}
use Rattle.client_copy.proofs.LeftMoves.{tried}
use Rattle.client_copy.proofs.carrying.carried_to.Goals as goal

pub bring_along-requires : goal.bring_along-requires
bring_along-requires g c =
    let text = g.S.UnitStore.units c.args.text.now in
    let to = c.args.chain.now.branch.branch.units in
    let sent = c.args.sent.now.entries in
    let leads = tried c.as_slice-back.result.now c.as_slice-on.result.now c.args.moved.now (g.S.UnitStore.units c.args.from.now) text (g.S.UnitStore.units c.text.result.now) to c.as_slice-back.ensures
    c.as_slice-on.ensures (c.is_same_text.ensures.0 c.if-not-is_same_text.false) c.text.ensures.is (c.in_ok-lead_to.ensures.lead.0 c.if-not-branch.false) in
    let held : IsHeldOn text c.in_ok-next.next sent c.requires.0 = subst (λ (w : Marked). IsHeldOn text w sent c.requires.0) (sym c.in_ok-next.ensures.copy) c.requires.1 in
    (ground_on text held.typed c.requires.0, ready_of text to c.in_ok-next.next sent c.requires.0 (all_moves c.args.moved.now) c.length.result c.hash.result held leads c.length.ensures c.hash.ensures.is)

pub returns-clause-held : goal.returns-clause-held
returns-clause-held g c strokes on =
    let text = g.S.UnitStore.units c.args.text.now in
    let to = c.args.chain.now.branch.branch.units in
    let sent = c.args.sent.now.entries in
    let leads = tried c.as_slice-back.result.now c.as_slice-on.result.now c.args.moved.now (g.S.UnitStore.units c.args.from.now) text (g.S.UnitStore.units c.text.result.now) to c.as_slice-back.ensures
    c.as_slice-on.ensures (c.is_same_text.ensures.0 c.if-not-is_same_text.false) c.text.ensures.is (c.in_ok-lead_to.ensures.lead.0 c.if-not-branch.false) in
    let held : IsHeldOn text c.in_ok-next.next sent strokes = subst (λ (w : Marked). IsHeldOn text w sent strokes) (sym c.in_ok-next.ensures.copy) on in
    along_held text to c.in_ok-next.next sent strokes (all_moves c.args.moved.now) c.length.result c.hash.result c.in_ok-spare.spare c.bring_along.new.work held leads c.length.ensures c.hash.ensures.is
    c.in_ok-spare.ensures.text c.in_ok-spare.ensures.short (c.in_ok-spare.ensures.empty ∙ ap empty (sym c.hash.ensures.is)) c.bring_along.ensures.stands c.bring_along.ensures.made

pub returns-clause-switched : goal.returns-clause-switched
returns-clause-switched g c same leads inverses =
    let text = g.S.UnitStore.units c.args.text.now in
    let to = c.args.chain.now.branch.branch.units in
    let sent = c.args.sent.now.entries in
    let on = subst (λ (t : List ℕ). Leads (all_moves c.args.moved.now) t to) same leads in
    let held : IsHeldOn text c.in_ok-next.next sent c.requires.0 = subst (λ (w : Marked). IsHeldOn text w sent c.requires.0) (sym c.in_ok-next.ensures.copy) c.requires.1 in
    let ready = ready_of text to c.in_ok-next.next sent c.requires.0 (all_moves c.args.moved.now) c.length.result c.hash.result held on c.length.ensures c.hash.ensures.is in
    subst (λ (w : Marked). (switched sent c.args.moved.now (record { text = text; work = w })).work.patch.before ≡ document_hash to
    → c.bring_along.new.work ≡ (switched sent c.args.moved.now (record { text = text; work = w })).work) c.in_ok-next.ensures.copy
    (λ made. c.in_ok-bring_along.ensures.switched (ground_on text held.typed c.requires.0) ready inverses (made ∙ sym c.hash.ensures.is))

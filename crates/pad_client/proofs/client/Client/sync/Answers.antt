use Rattle.std.proofs.Common.{◌≡◌, List, ℕ, [], inl, inr, sym, ◌∙◌, subst}
use Rattle.pad_branch.specs.declared.moved.Move.{Move}
use Rattle.pad_client.specs.Refusal.{is_due, MaySync, messages_made}
use Rattle.pad_client.specs.State.{ClientState}
use Rattle.pad_client.specs.Sync.{Syncs, idle, sends_work, sends_both}
use Rattle.pad_client.specs.View.{View, StandsAs}
use Rattle.pad_client.proofs.Sending.{none_made, one_made, both_made, made_two, begun, work_differs, both_differ}
use Rattle.pad_client.proofs.client.Client.sync.Goals as goal

-- nothing is made
synced_none : (held : View) (client : ClientState) (wires : List (List ℕ)) (none : List Move) → none ≡ [] → wires ≡ [] → StandsAs held client → MaySync client → messages_made client ≡ 0
    → (after : ClientState) × Syncs client wires after × StandsAs (record held { synced = none }) after
synced_none held client wires none empty no_wires stands may made = (
  record client { synced = [] },
  subst (λ (ws : List (List ℕ)). Syncs client ws (record client { synced = [] })) (sym no_wires) (idle may (none_made client.copy.work.patch.ops (is_due client.copy.pad) made)),
  begun held client none empty stands,
)

pub returns-then-made-eq0-clause-syncs : goal.returns-then-made-eq0-clause-syncs
returns-then-made-eq0-clause-syncs g c client stands differs =
    let i = c.self.inside in
    let held : View = record { copy = i.copy; unreadable = i.unreadable; wanted = i.wanted; requests = i.requests; repair = i.repair; synced = i.synced } in
    let stood = subst (λ (v : View). StandsAs v client) (sym c.self.view_is) stands in
    let may = c.in_ok-channel.ensures.may client stands in
    synced_none held client c.new-then-made-eq0-2.result c.new-2.result (c.new-2.ensures ∙ c.new.ensures.items) (c.new-then-made-eq0-2.ensures ∙ c.new-then-made-eq0.ensures.items) stood may.0
    (sym may.1 ∙ c.if-made-eq0.true)

pub returns-then-made-eq0-clause-as_sent : goal.returns-then-made-eq0-clause-as_sent
returns-then-made-eq0-clause-as_sent g c client stands clash =
    let i = c.self.inside in
    let held : View = record { copy = i.copy; unreadable = i.unreadable; wanted = i.wanted; requests = i.requests; repair = i.repair; synced = i.synced } in
    let stood = subst (λ (v : View). StandsAs v client) (sym c.self.view_is) stands in
    let may = c.in_ok-channel.ensures.may client stands in
    synced_none held client c.new-then-made-eq0-2.result c.new-2.result (c.new-2.ensures ∙ c.new.ensures.items) (c.new-then-made-eq0-2.ensures ∙ c.new-then-made-eq0.ensures.items) stood may.0
    (sym may.1 ∙ c.if-made-eq0.true)

pub returns-then-made-eq1-clause-syncs : goal.returns-then-made-eq1-clause-syncs
returns-then-made-eq1-clause-syncs g c client stands differs =
    let i = c.self.inside in
    let held : View = record { copy = i.copy; unreadable = i.unreadable; wanted = i.wanted; requests = i.requests; repair = i.repair; synced = i.synced } in
    let stood = subst (λ (v : View). StandsAs v client) (sym c.self.view_is) stands in
    let may = c.in_ok-channel.ensures.may client stands in
    let one = one_made client.copy.work.patch.ops (is_due client.copy.pad) (sym may.1 ∙ c.if-made-eq1.true) in
    let given = c.in_ok-send_work.ensures.sends (record client { synced = [] }) (begun held client c.new-2.result (c.new-2.ensures ∙ c.new.ensures.items) stood) (inl (work_differs client (may.0, sym may.1 ∙ c.if-made-eq1.true) differs)) in
    (given.0, sends_work c.in_ok-send_work.field-0 given.0 may.0 one.0 one.1 given.1, given.2)

pub returns-then-made-eq1-clause-as_sent : goal.returns-then-made-eq1-clause-as_sent
returns-then-made-eq1-clause-as_sent g c client stands clash =
    let i = c.self.inside in
    let held : View = record { copy = i.copy; unreadable = i.unreadable; wanted = i.wanted; requests = i.requests; repair = i.repair; synced = i.synced } in
    let stood = subst (λ (v : View). StandsAs v client) (sym c.self.view_is) stands in
    let may = c.in_ok-channel.ensures.may client stands in
    let one = one_made client.copy.work.patch.ops (is_due client.copy.pad) (sym may.1 ∙ c.if-made-eq1.true) in
    let given = c.in_ok-send_work.ensures.sends (record client { synced = [] }) (begun held client c.new-2.result (c.new-2.ensures ∙ c.new.ensures.items) stood) (inr clash) in
    (given.0, sends_work c.in_ok-send_work.field-0 given.0 may.0 one.0 one.1 given.1, given.2)

pub returns-clause-syncs : goal.returns-clause-syncs
returns-clause-syncs g c client stands differs =
    let i = c.self.inside in
    let held : View = record { copy = i.copy; unreadable = i.unreadable; wanted = i.wanted; requests = i.requests; repair = i.repair; synced = i.synced } in
    let stood = subst (λ (v : View). StandsAs v client) (sym c.self.view_is) stands in
    let may = c.in_ok-channel.ensures.may client stands in
    let both = both_made client.copy.work.patch.ops (is_due client.copy.pad) (λ none. c.if-made-eq0.false (may.1 ∙ none)) (λ one. c.if-made-eq1.false (may.1 ∙ one)) in
    let given = c.in_ok-send_both.ensures.sends (record client { synced = [] }) (begun held client c.new-2.result (c.new-2.ensures ∙ c.new.ensures.items) stood)
    (inl (both_differ client (may.0, made_two client.copy.work.patch.ops (is_due client.copy.pad) both.0 both.1) differs)) in
    (given.0, sends_both c.in_ok-send_both.field-0 given.0 may.0 both.0 both.1 given.1, given.2)

pub returns-clause-as_sent : goal.returns-clause-as_sent
returns-clause-as_sent g c client stands clash =
    let i = c.self.inside in
    let held : View = record { copy = i.copy; unreadable = i.unreadable; wanted = i.wanted; requests = i.requests; repair = i.repair; synced = i.synced } in
    let stood = subst (λ (v : View). StandsAs v client) (sym c.self.view_is) stands in
    let may = c.in_ok-channel.ensures.may client stands in
    let both = both_made client.copy.work.patch.ops (is_due client.copy.pad) (λ none. c.if-made-eq0.false (may.1 ∙ none)) (λ one. c.if-made-eq1.false (may.1 ∙ one)) in
    let given = c.in_ok-send_both.ensures.sends (record client { synced = [] }) (begun held client c.new-2.result (c.new-2.ensures ∙ c.new.ensures.items) stood)
    (inr clash) in
    (given.0, sends_both c.in_ok-send_both.field-0 given.0 may.0 both.0 both.1 given.1, given.2)

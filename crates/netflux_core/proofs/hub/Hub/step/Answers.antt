use Rattle.std.proofs.Common.{◌≡◌, ◌⊎◌, inr, List, refl, sym, subst}
use Rattle.pad_edge.specs.Count.{Rose}
use Rattle.disk_volume.specs.Moments.{still}
use Rattle.netflux_rooms.specs.Machine.{Answer, stores, asks, Gives, Steps}
use Rattle.netflux_rooms.specs.Whole.{connections_of}
use Rattle.netflux_rooms.specs.declared.heard.Heard.{Heard}
use Rattle.netflux_rooms.proofs.CallerLemmas.{steps_answer}
use Rattle.serve_loop.specs.Hangs.{HangsBehind}
use Rattle.serve_loop.specs.declared.out.Out.{Out}
use Rattle.netflux_core.specs.Machine.{ServeState, Becomes, Step, StandsFor, Costs}
use Rattle.netflux_core.specs.Words.{IsStoreError}
use Rattle.netflux_core.proofs.Failing.{on_err}
use Rattle.netflux_core.proofs.Steps.{IsDone, made_ends, step_of, broken_by, costs_of, made_costs, rooms_of, store_answer, ask_answer, stored_hangs, asked_hangs, store_closes, ask_closes}
use Rattle.netflux_core.proofs.hub.Hub.step.Goals as goal

pub returns-in_err-heard-clause-files : goal.returns-in_err-heard-clause-files
returns-in_err-heard-clause-files g c = λ told. still

-- an event that needs no keeper
pub returns-in-Done-clause-files : goal.returns-in-Done-clause-files
returns-in-Done-clause-files g c = λ told. still

pub returns-in-Done-clause-step : goal.returns-in-Done-clause-step
returns-in-Done-clause-step g c = λ told identities first state stands.
    let V = g.V.Volume in let K = g.K.Keep in
    let got = steps_answer identities state.rooms c.args.event (Gives identities state.rooms c.in_ok-heard.heard c.step.new.self) (c.in_ok-heard.ensures.step identities state.rooms stands.rooms) in
    let end = made_ends K.logs identities first state c.args.moment (K.keeps c.args.keeper.now) c.args.self.now.rooms c.step.new.self (V.disk c.args.volume.now) (V.faults c.args.volume.now)
    got.0 c.in_ok-heard.heard c.new.result stands (subst (λ (h : Heard). IsDone h c.new.result) (sym c.in-Done.is) (sym c.new.ensures)) got.1 in
    (end.next, step_of K.logs identities first state c.args.moment c.args.event got.0 c.new.result end.next got.3 end.becomes, end.stands)

pub returns-in-Done-clause-costs : goal.returns-in-Done-clause-costs
returns-in-Done-clause-costs g c = λ identities rooms has.
    let V = g.V.Volume in let K = g.K.Keep in
    let got = steps_answer identities rooms c.args.event (Gives identities rooms c.in_ok-heard.heard c.step.new.self) (c.in_ok-heard.ensures.step identities rooms has) in
    costs_of (K.is_loaded c.args.keeper.now) (Rose (V.faults c.args.volume.now) (V.faults c.args.volume.now)) identities rooms (V.clock c.args.volume.now) (V.clock c.args.volume.now) c.args.event got.0 c.new.result got.3
    (made_costs (K.is_loaded c.args.keeper.now) (Rose (V.faults c.args.volume.now) (V.faults c.args.volume.now)) identities rooms (V.clock c.args.volume.now) c.step.new.self got.0 c.in_ok-heard.heard c.new.result
    (subst (λ (h : Heard). IsDone h c.new.result) (sym c.in-Done.is) (sym c.new.ensures)) got.1)

pub returns-in_ok-outs-in-Store-clause-step : goal.returns-in_ok-outs-in-Store-clause-step
returns-in_ok-outs-in-Store-clause-step g c = λ told identities first state stands.
    let V = g.V.Volume in let K = g.K.Keep in
    let got = steps_answer identities state.rooms c.args.event (Gives identities state.rooms c.in_ok-heard.heard c.step.new.self) (c.in_ok-heard.ensures.step identities state.rooms stands.rooms) in
    let is = store_answer identities state.rooms c.in-Store.number c.in-Store.seq c.in-Store.channel c.in-Store.content c.step.new.self got.0 (subst (λ (h : Heard). Gives identities state.rooms h c.step.new.self got.0) c.in-Store.is got.1) in
    let end = c.in_ok-outs-in-Store.ensures.ends told identities first state (record { rooms = is.1; channels = stands.channels; disk_is = stands.disk_is; failures = stands.failures; unfailing = stands.unfailing }) in
    subst (λ (o : List Out). (next : ServeState) × Step K.logs identities state c.args.moment c.args.event o next × StandsFor (K.keeps c.store.new.keeper) identities c.step.new.self (V.disk c.store.new.volume) first (V.faults c.store.new.volume) next) (sym c.new-in-Store.ensures) (
      end.next,
      step_of K.logs identities first state c.args.moment c.args.event got.0 c.in_ok-outs-in-Store.outs.items end.next got.3
          (subst (λ (a : Answer). Becomes K.logs identities state c.args.moment c.in_ok-outs-in-Store.outs.items end.next a) (sym is.0) end.becomes),
      end.stands,
    )

pub returns-in_err-outs-in-Store-clause-broken : goal.returns-in_err-outs-in-Store-clause-broken
returns-in_err-outs-in-Store-clause-broken g c = λ told identities first state stands.
    let V = g.V.Volume in let K = g.K.Keep in
    let got = steps_answer identities state.rooms c.args.event (Gives identities state.rooms c.in_ok-heard.heard c.step.new.self) (c.in_ok-heard.ensures.step identities state.rooms stands.rooms) in
    let is = store_answer identities state.rooms c.in-Store.number c.in-Store.seq c.in-Store.channel c.in-Store.content c.step.new.self got.0 (subst (λ (h : Heard). Gives identities state.rooms h c.step.new.self got.0) c.in-Store.is got.1) in
    on_err c.from_residual-in_err-outs-in-Store.result (broken_by K.logs identities first state c.args.moment (V.disk c.args.volume.now) (V.disk c.store.new.volume) c.args.event got.0 (stores c.in-Store.number c.in-Store.seq c.in-Store.channel c.in-Store.content) stands.disk_is
    (c.crashes_leave_what_is_held.ensures c.args.keeper.now state.channels (V.disk c.args.volume.now) c.requires.sound stands.channels) is.0 got.3
    (c.in_err-outs-in-Store.ensures.broken told identities first state (record { rooms = is.1; channels = stands.channels; disk_is = stands.disk_is; failures = stands.failures; unfailing = stands.unfailing })))

pub returns-in_ok-outs-in-Store-clause-costs : goal.returns-in_ok-outs-in-Store-clause-costs
returns-in_ok-outs-in-Store-clause-costs g c = λ identities rooms has.
    let V = g.V.Volume in let K = g.K.Keep in
    let got = steps_answer identities rooms c.args.event (Gives identities rooms c.in_ok-heard.heard c.step.new.self) (c.in_ok-heard.ensures.step identities rooms has) in
    let is = store_answer identities rooms c.in-Store.number c.in-Store.seq c.in-Store.channel c.in-Store.content c.step.new.self got.0 (subst (λ (h : Heard). Gives identities rooms h c.step.new.self got.0) c.in-Store.is got.1) in
    subst (λ (o : List Out). Steps identities rooms c.args.event (Costs (K.is_loaded c.args.keeper.now) (Rose (V.faults c.args.volume.now) (V.faults c.store.new.volume)) identities rooms (V.clock c.args.volume.now) (V.clock c.store.new.volume) o)) (sym c.new-in-Store.ensures)
    (costs_of (K.is_loaded c.args.keeper.now) (Rose (V.faults c.args.volume.now) (V.faults c.store.new.volume)) identities rooms (V.clock c.args.volume.now) (V.clock c.store.new.volume) c.args.event got.0 c.in_ok-outs-in-Store.outs.items got.3
    (subst (λ (a : Answer). Costs (K.is_loaded c.args.keeper.now) (Rose (V.faults c.args.volume.now) (V.faults c.store.new.volume)) identities rooms (V.clock c.args.volume.now) (V.clock c.store.new.volume) c.in_ok-outs-in-Store.outs.items a) (sym is.0) (c.in_ok-outs-in-Store.ensures.costs identities rooms is.1)))

pub returns-in_ok-outs-in-Store-clause-served : goal.returns-in_ok-outs-in-Store-clause-served
returns-in_ok-outs-in-Store-clause-served g c =
    let V = g.V.Volume in let K = g.K.Keep in
    let w = c.requires.whole in
    let steps = c.in_ok-heard.ensures.step w.identities w.rooms w.has in
    let got = steps_answer w.identities w.rooms c.args.event (Gives w.identities w.rooms c.in_ok-heard.heard c.step.new.self) steps in
    let is = store_answer w.identities w.rooms c.in-Store.number c.in-Store.seq c.in-Store.channel c.in-Store.content c.step.new.self got.0 (subst (λ (h : Heard). Gives w.identities w.rooms h c.step.new.self got.0) c.in-Store.is got.1) in
    record {
      whole = (c.in_ok-heard.ensures.served w).whole;
      hangs = subst (λ (o : List Out). HangsBehind o) (sym c.new-in-Store.ensures) (stored_hangs (Rose (V.faults c.args.volume.now) (V.faults c.store.new.volume)) w.identities w.rooms c.in-Store.number c.in-Store.seq c.in-Store.channel c.in-Store.content c.in_ok-outs-in-Store.outs.items (c.in_ok-outs-in-Store.ensures.costs w.identities w.rooms is.1));
      closes = store_closes w.identities w.rooms c.in-Store.number c.in-Store.seq c.in-Store.channel c.in-Store.content c.step.new.self c.args.event (connections_of c.args.self.now.rooms) (connections_of c.step.new.self) c.new-in-Store.result
          (subst (λ (h : Heard). Steps w.identities w.rooms c.args.event (Gives w.identities w.rooms h c.step.new.self)) c.in-Store.is steps);
    }

pub returns-in_ok-outs-in-Ask-clause-step : goal.returns-in_ok-outs-in-Ask-clause-step
returns-in_ok-outs-in-Ask-clause-step g c = λ told identities first state stands.
    let V = g.V.Volume in let K = g.K.Keep in
    let got = steps_answer identities state.rooms c.args.event (Gives identities state.rooms c.in_ok-heard.heard c.step.new.self) (c.in_ok-heard.ensures.step identities state.rooms stands.rooms) in
    let is = ask_answer identities state.rooms c.in-Ask.number c.in-Ask.seq c.in-Ask.ask c.step.new.self got.0 (subst (λ (h : Heard). Gives identities state.rooms h c.step.new.self got.0) c.in-Ask.is got.1) in
    let end = c.in_ok-outs-in-Ask.ensures.ends told identities first state (record { rooms = is.1; channels = stands.channels; disk_is = stands.disk_is; failures = stands.failures; unfailing = stands.unfailing }) in
    subst (λ (o : List Out). (next : ServeState) × Step K.logs identities state c.args.moment c.args.event o next × StandsFor (K.keeps c.ask.new.keeper) identities c.step.new.self (V.disk c.ask.new.volume) first (V.faults c.ask.new.volume) next) (sym c.new-in-Ask.ensures) (
      end.next,
      step_of K.logs identities first state c.args.moment c.args.event got.0 c.in_ok-outs-in-Ask.outs.items end.next got.3
          (subst (λ (a : Answer). Becomes K.logs identities state c.args.moment c.in_ok-outs-in-Ask.outs.items end.next a) (sym is.0) end.becomes),
      end.stands,
    )

pub returns-in_err-outs-in-Ask-clause-broken : goal.returns-in_err-outs-in-Ask-clause-broken
returns-in_err-outs-in-Ask-clause-broken g c = λ told identities first state stands.
    let V = g.V.Volume in let K = g.K.Keep in
    let got = steps_answer identities state.rooms c.args.event (Gives identities state.rooms c.in_ok-heard.heard c.step.new.self) (c.in_ok-heard.ensures.step identities state.rooms stands.rooms) in
    let is = ask_answer identities state.rooms c.in-Ask.number c.in-Ask.seq c.in-Ask.ask c.step.new.self got.0 (subst (λ (h : Heard). Gives identities state.rooms h c.step.new.self got.0) c.in-Ask.is got.1) in
    on_err c.from_residual-in_err-outs-in-Ask.result (broken_by K.logs identities first state c.args.moment (V.disk c.args.volume.now) (V.disk c.ask.new.volume) c.args.event got.0 (asks c.in-Ask.number c.in-Ask.seq c.in-Ask.ask) stands.disk_is
    (c.crashes_leave_what_is_held.ensures c.args.keeper.now state.channels (V.disk c.args.volume.now) c.requires.sound stands.channels) is.0 got.3
    (inr (c.in_err-outs-in-Ask.ensures.broken told identities first state (record { rooms = is.1; channels = stands.channels; disk_is = stands.disk_is; failures = stands.failures; unfailing = stands.unfailing }))))

pub returns-in_ok-outs-in-Ask-clause-costs : goal.returns-in_ok-outs-in-Ask-clause-costs
returns-in_ok-outs-in-Ask-clause-costs g c = λ identities rooms has.
    let V = g.V.Volume in let K = g.K.Keep in
    let got = steps_answer identities rooms c.args.event (Gives identities rooms c.in_ok-heard.heard c.step.new.self) (c.in_ok-heard.ensures.step identities rooms has) in
    let is = ask_answer identities rooms c.in-Ask.number c.in-Ask.seq c.in-Ask.ask c.step.new.self got.0 (subst (λ (h : Heard). Gives identities rooms h c.step.new.self got.0) c.in-Ask.is got.1) in
    subst (λ (o : List Out). Steps identities rooms c.args.event (Costs (K.is_loaded c.args.keeper.now) (Rose (V.faults c.args.volume.now) (V.faults c.ask.new.volume)) identities rooms (V.clock c.args.volume.now) (V.clock c.ask.new.volume) o)) (sym c.new-in-Ask.ensures)
    (costs_of (K.is_loaded c.args.keeper.now) (Rose (V.faults c.args.volume.now) (V.faults c.ask.new.volume)) identities rooms (V.clock c.args.volume.now) (V.clock c.ask.new.volume) c.args.event got.0 c.in_ok-outs-in-Ask.outs.items got.3
    (subst (λ (a : Answer). Costs (K.is_loaded c.args.keeper.now) (Rose (V.faults c.args.volume.now) (V.faults c.ask.new.volume)) identities rooms (V.clock c.args.volume.now) (V.clock c.ask.new.volume) c.in_ok-outs-in-Ask.outs.items a) (sym is.0) (c.in_ok-outs-in-Ask.ensures.costs identities rooms is.1)))

pub returns-in_ok-outs-in-Ask-clause-served : goal.returns-in_ok-outs-in-Ask-clause-served
returns-in_ok-outs-in-Ask-clause-served g c =
    let V = g.V.Volume in let K = g.K.Keep in
    let w = c.requires.whole in
    let steps = c.in_ok-heard.ensures.step w.identities w.rooms w.has in
    let got = steps_answer w.identities w.rooms c.args.event (Gives w.identities w.rooms c.in_ok-heard.heard c.step.new.self) steps in
    let is = ask_answer w.identities w.rooms c.in-Ask.number c.in-Ask.seq c.in-Ask.ask c.step.new.self got.0 (subst (λ (h : Heard). Gives w.identities w.rooms h c.step.new.self got.0) c.in-Ask.is got.1) in
    record {
      whole = (c.in_ok-heard.ensures.served w).whole;
      hangs = subst (λ (o : List Out). HangsBehind o) (sym c.new-in-Ask.ensures) (asked_hangs (K.is_loaded c.args.keeper.now) (Rose (V.faults c.args.volume.now) (V.faults c.ask.new.volume)) w.identities w.rooms (V.clock c.args.volume.now) (V.clock c.ask.new.volume) c.in-Ask.number c.in-Ask.seq c.in-Ask.ask c.in_ok-outs-in-Ask.outs.items (c.in_ok-outs-in-Ask.ensures.costs w.identities w.rooms is.1));
      closes = ask_closes w.identities w.rooms c.in-Ask.number c.in-Ask.seq c.in-Ask.ask c.step.new.self c.args.event (connections_of c.args.self.now.rooms) (connections_of c.step.new.self) c.new-in-Ask.result
          (subst (λ (h : Heard). Steps w.identities w.rooms c.args.event (Gives w.identities w.rooms h c.step.new.self)) c.in-Ask.is steps);
    }

pub returns-in-Done-clause-rooms : goal.returns-in-Done-clause-rooms
returns-in-Done-clause-rooms g c = λ identities rooms has.
    rooms_of identities rooms c.args.event c.in_ok-heard.heard c.step.new.self (c.in_ok-heard.ensures.step identities rooms has)

pub returns-in_ok-outs-in-Store-clause-rooms : goal.returns-in_ok-outs-in-Store-clause-rooms
returns-in_ok-outs-in-Store-clause-rooms g c = λ identities rooms has.
    rooms_of identities rooms c.args.event c.in_ok-heard.heard c.step.new.self (c.in_ok-heard.ensures.step identities rooms has)

pub returns-in_ok-outs-in-Ask-clause-rooms : goal.returns-in_ok-outs-in-Ask-clause-rooms
returns-in_ok-outs-in-Ask-clause-rooms g c = λ identities rooms has.
    rooms_of identities rooms c.args.event c.in_ok-heard.heard c.step.new.self (c.in_ok-heard.ensures.step identities rooms has)

pub returns-in_ok-outs-in-Store-clause-kept : goal.returns-in_ok-outs-in-Store-clause-kept
returns-in_ok-outs-in-Store-clause-kept g c =
    let V = g.V.Volume in
    subst (λ (o : List Out). IsStoreError o ⊎ (V.faults c.store.new.volume ≡ V.faults c.args.volume.now)) (sym c.new-in-Store.ensures) c.in_ok-outs-in-Store.ensures.kept

pub returns-in_ok-outs-in-Ask-clause-kept : goal.returns-in_ok-outs-in-Ask-clause-kept
returns-in_ok-outs-in-Ask-clause-kept g c =
    let V = g.V.Volume in
    subst (λ (o : List Out). IsStoreError o ⊎ (V.faults c.ask.new.volume ≡ V.faults c.args.volume.now)) (sym c.new-in-Ask.ensures) c.in_ok-outs-in-Ask.ensures.kept

pub returns-in-Done-clause-kept : goal.returns-in-Done-clause-kept
returns-in-Done-clause-kept g c = inr refl

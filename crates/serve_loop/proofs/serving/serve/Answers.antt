use Rattle.std.proofs.Common.{◌≡◌, ◌∙◌, ◌+◌, ◌≤◌, inr, Bool, List, ℕ, [], ◌∷◌, ◌++◌, refl, sym, ap, subst, arith}
use Rattle.std.proofs.lemmas.List.{append-nil, append_assoc, length-append}
use Rattle.pad_edge.specs.Clock.{next_moment, moments_after}
use Rattle.pad_edge.specs.Count.{CountsIf, Rose}
use Rattle.pad_edge.specs.declared.port_event.PortEvent.{PortEvent}
use Rattle.serve_loop.specs.Run.{IsServed, IsTurns}
use Rattle.serve_loop.proofs.Running.{running_none, running_one, served_of, coming_more, stopped_between, stopped_within, IsUnended}
use Rattle.serve_loop.proofs.Turns.{none_pushed, turns_ended, turns_all, calls_one, calls_none}
use Rattle.serve_loop.proofs.Waiting.{on_err}
use Rattle.serve_loop.proofs.serving.serve.Goals as goal

pub loop-turn-init : goal.loop-turn-init
loop-turn-init g c = let P = g.P.Port in record {
  served = λ machine state stands.
      running_none g.M.Machine.Step (g.M.Machine.stands c.args.machine.now c.args.world.now) state P.tells g.C.Clock.tells (g.C.Clock.coming c.args.clock.now) (P.events c.args.port.now) (P.sent c.args.port.now) (P.failed c.args.port.now) stands;
  ready = c.requires;
  coming = λ told. refl;
  turns = λ port. ([], sym (append-nil (P.events c.args.port.now)), refl, λ place got. (cc));
  counts = (refl, refl);
  leaves = g.met.M.Machine.leaves_itself c.args.world.now;
}

pub returns-in_err-event-clause-stopped : goal.returns-in_err-event-clause-stopped
returns-in_err-event-clause-stopped g c = λ machine state stands.
    let P = g.P.Port in let M = g.M.Machine in let C = g.C.Clock in
    let so_far = c.loop-turn.invariant.served machine state stands in
    let within : c.loop-turn.turn ≤ c.args.turns = omega (arith, c.loop-turn-test.true) in
    on_err _ (stopped_between M.Step (M.stands c.loop-turn.machine c.loop-turn.world) (λ s m e. M.breaks s m e c.loop-turn.world) state IsUnended c.args.turns c.loop-turn.turn P.tells C.tells (C.coming c.args.clock.now)
    (P.events c.args.port.now) (P.events c.loop-turn.port) (P.events c.next.new.self) (P.sent c.args.port.now) (P.sent c.loop-turn.port) (P.sent c.next.new.self)
    (P.failed c.args.port.now) (P.failed c.loop-turn.port) (P.failed c.next.new.self)
    so_far (λ told. c.in_err-event.ensures.events told) (λ told. (c.next.ensures.lists told).0) (λ told. (c.next.ensures.lists told).1)
    (calls_none c.args.turns c.loop-turn.turn so_far.events within so_far.made_is so_far.are))

pub returns-in_err-event-clause-calls : goal.returns-in_err-event-clause-calls
returns-in_err-event-clause-calls g c = λ port.
    let so_far = c.loop-turn.invariant.turns port in
    let within : c.loop-turn.turn ≤ c.args.turns = omega (arith, c.loop-turn-test.true) in
    (so_far.0, c.in_err-event.ensures.events port ∙ so_far.1, calls_none c.args.turns c.loop-turn.turn so_far.0 within so_far.2 so_far.3)

pub returns-in_err-take_event-clause-stopped : goal.returns-in_err-take_event-clause-stopped
returns-in_err-take_event-clause-stopped g c = λ machine state stands.
    let P = g.P.Port in let M = g.M.Machine in let C = g.C.Clock in
    let so_far = c.loop-turn.invariant.served machine state stands in
    on_err _ (stopped_within M.Step (M.stands c.loop-turn.machine c.loop-turn.world) (M.stands c.take_event.new.machine c.take_event.new.world) (λ s m e. M.breaks s m e c.take_event.new.world) state IsUnended c.args.turns c.loop-turn.turn c.now-moment.result P.tells C.tells (C.coming c.args.clock.now) c.in_ok-event.event
    (P.events c.args.port.now) (P.events c.loop-turn.port) (P.events c.take_event.new.port) (P.sent c.args.port.now) (P.sent c.loop-turn.port) (P.sent c.next.new.self) (P.sent c.take_event.new.port)
    (P.failed c.args.port.now) (P.failed c.loop-turn.port) (P.failed c.next.new.self) (P.failed c.take_event.new.port)
    so_far (λ told. c.take_event.ensures.events told ∙ c.in_ok-event.ensures.events told) (λ told. (c.next.ensures.lists told).0) (λ told. (c.next.ensures.lists told).1)
    (c.in_err-take_event.ensures.part machine so_far.next so_far.stands)
    (λ told. c.now-moment.ensures.now told ∙ ap next_moment (c.loop-turn.invariant.coming told))
    (calls_one c.args.turns c.loop-turn.turn so_far.events c.in_ok-event.event c.loop-turn-test.true so_far.made_is so_far.are))

pub returns-in_err-take_event-clause-calls : goal.returns-in_err-take_event-clause-calls
returns-in_err-take_event-clause-calls g c = λ port.
    let so_far = c.loop-turn.invariant.turns port in let event = c.in_ok-event.event in let P = g.P.Port in (
      so_far.0 ++ event ∷ [],
      c.take_event.ensures.events port ∙ c.in_ok-event.ensures.events port ∙ ap (λ (l : List PortEvent). l ++ event ∷ []) so_far.1 ∙ append_assoc (P.events c.args.port.now) so_far.0 (event ∷ []),
      calls_one c.args.turns c.loop-turn.turn so_far.0 event c.loop-turn-test.true so_far.2 so_far.3,
    )

pub returns-then-last-clause-served : goal.returns-then-last-clause-served
returns-then-last-clause-served g c = λ machine state stands.
    let P = g.P.Port in let M = g.M.Machine in let C = g.C.Clock in
    let so_far = c.loop-turn.invariant.served machine state stands in
    let Are : List PortEvent → Type 0 = λ events. IsTurns c.args.turns (c.loop-turn.turn + 1) events in
    let ran = running_one M.Step (M.stands c.loop-turn.machine c.loop-turn.world) (M.stands c.take_event.new.machine c.take_event.new.world) state IsUnended Are c.loop-turn.turn c.now-moment.result P.tells C.tells (C.coming c.args.clock.now) c.in_ok-event.event
    (P.events c.args.port.now) (P.events c.loop-turn.port) (P.events c.take_event.new.port) (P.sent c.args.port.now) (P.sent c.loop-turn.port) (P.sent c.next.new.self) (P.sent c.take_event.new.port)
    (P.failed c.args.port.now) (P.failed c.loop-turn.port) (P.failed c.next.new.self) (P.failed c.take_event.new.port)
    so_far (λ told. c.take_event.ensures.events told ∙ c.in_ok-event.ensures.events told) (λ told. (c.next.ensures.lists told).0) (λ told. (c.next.ensures.lists told).1)
    (c.in_ok-take_event.ensures.taken machine so_far.next so_far.stands)
    (λ told. c.now-moment.ensures.now told ∙ ap next_moment (c.loop-turn.invariant.coming told))
    (turns_ended c.args.turns c.loop-turn.turn so_far.events c.in_ok-event.event c.loop-turn-test.true so_far.made_is so_far.are (sym c.is_end-last.ensures ∙ c.if-last.true)) in
    served_of M.Step (M.stands c.take_event.new.machine c.take_event.new.world) state Are c.args.turns (c.loop-turn.turn + 1) P.tells C.tells (C.coming c.args.clock.now)
    (P.events c.args.port.now) (P.events c.take_event.new.port) (P.sent c.args.port.now) (P.sent c.take_event.new.port) (P.failed c.args.port.now) (P.failed c.take_event.new.port) ran ran.are

pub loop-turn-preserved : goal.loop-turn-preserved
loop-turn-preserved g c = let P = g.P.Port in record {
  served = λ machine state stands.
      let M = g.M.Machine in let C = g.C.Clock in
      let so_far = c.loop-turn.invariant.served machine state stands in
      running_one M.Step (M.stands c.loop-turn.machine c.loop-turn.world) (M.stands c.take_event.new.machine c.take_event.new.world) state IsUnended IsUnended c.loop-turn.turn c.now-moment.result P.tells C.tells (C.coming c.args.clock.now) c.in_ok-event.event
      (P.events c.args.port.now) (P.events c.loop-turn.port) (P.events c.take_event.new.port) (P.sent c.args.port.now) (P.sent c.loop-turn.port) (P.sent c.next.new.self) (P.sent c.take_event.new.port)
      (P.failed c.args.port.now) (P.failed c.loop-turn.port) (P.failed c.next.new.self) (P.failed c.take_event.new.port)
      so_far (λ told. c.take_event.ensures.events told ∙ c.in_ok-event.ensures.events told) (λ told. (c.next.ensures.lists told).0) (λ told. (c.next.ensures.lists told).1)
      (c.in_ok-take_event.ensures.taken machine so_far.next so_far.stands)
      (λ told. c.now-moment.ensures.now told ∙ ap next_moment (c.loop-turn.invariant.coming told))
      (none_pushed so_far.events c.in_ok-event.event so_far.are (sym c.is_end-last.ensures ∙ c.if-last.false));
  ready = c.in_ok-take_event.ensures.ready;
  coming = λ told. c.now-moment.ensures.coming told ∙ ap moments_after (c.loop-turn.invariant.coming told) ∙ sym (coming_more c.loop-turn.turn (g.C.Clock.coming c.args.clock.now));
  turns = λ port.
      let so_far = c.loop-turn.invariant.turns port in let event = c.in_ok-event.event in (
        so_far.0 ++ event ∷ [],
        c.take_event.ensures.events port ∙ c.in_ok-event.ensures.events port ∙ ap (λ (l : List PortEvent). l ++ event ∷ []) so_far.1 ∙ append_assoc (P.events c.args.port.now) so_far.0 (event ∷ []),
        omega (arith, so_far.2, length-append so_far.0 (event ∷ [])),
        none_pushed so_far.0 event so_far.3 (sym c.is_end-last.ensures ∙ c.if-last.false),
      );
  counts =
      let E : Bool → Type 0 = λ b. CountsIf b (P.ends c.loop-turn.port) (P.ends c.next.new.self) in (
        c.take_event.ensures.counts.0 ∙ c.in_ok-event.ensures.cause ∙ c.loop-turn.invariant.counts.0,
        c.take_event.ensures.counts.1 ∙ subst E (sym c.is_end-last.ensures ∙ c.if-last.false) c.in_ok-event.ensures.ends ∙ c.loop-turn.invariant.counts.1,
      );
  leaves = g.met.M.Machine.leaves_on c.args.world.now c.loop-turn.world c.take_event.new.world c.loop-turn.invariant.leaves c.take_event.ensures.leaves;
}

pub returns-then-last-clause-calls : goal.returns-then-last-clause-calls
returns-then-last-clause-calls g c = λ port.
    let so_far = c.loop-turn.invariant.turns port in let event = c.in_ok-event.event in let P = g.P.Port in (
      so_far.0 ++ event ∷ [],
      c.take_event.ensures.events port ∙ c.in_ok-event.ensures.events port ∙ ap (λ (l : List PortEvent). l ++ event ∷ []) so_far.1 ∙ append_assoc (P.events c.args.port.now) so_far.0 (event ∷ []),
      calls_one c.args.turns c.loop-turn.turn so_far.0 event c.loop-turn-test.true so_far.2 so_far.3,
    )

pub returns-then-last-clause-turns : goal.returns-then-last-clause-turns
returns-then-last-clause-turns g c = λ port.
    let so_far = c.loop-turn.invariant.turns port in let event = c.in_ok-event.event in let P = g.P.Port in (
      so_far.0 ++ event ∷ [],
      c.take_event.ensures.events port ∙ c.in_ok-event.ensures.events port ∙ ap (λ (l : List PortEvent). l ++ event ∷ []) so_far.1 ∙ append_assoc (P.events c.args.port.now) so_far.0 (event ∷ []),
      turns_ended c.args.turns c.loop-turn.turn so_far.0 event c.loop-turn-test.true so_far.2 so_far.3 (sym c.is_end-last.ensures ∙ c.if-last.true),
    )

pub returns-then-last-clause-ended : goal.returns-then-last-clause-ended
returns-then-last-clause-ended g c =
    let P = g.P.Port in
    let E : Bool → Type 0 = λ b. CountsIf b (P.ends c.loop-turn.port) (P.ends c.next.new.self) in
    let rose = (subst E (sym c.is_end-last.ensures ∙ c.if-last.true) c.in_ok-event.ensures.ends).1 in
    let Q : ℕ → ℕ → Type 0 = λ before now. Rose before now in
    inr (subst (λ (before : ℕ). Q before (P.ends c.take_event.new.port)) c.loop-turn.invariant.counts.1 (subst (λ (now : ℕ). Q (P.ends c.loop-turn.port) now) (sym c.take_event.ensures.counts.1) rose))

pub returns-clause-served : goal.returns-clause-served
returns-clause-served g c = λ machine state stands.
    let P = g.P.Port in let M = g.M.Machine in let C = g.C.Clock in
    let so_far = c.loop-turn.invariant.served machine state stands in
    let all : c.loop-turn.turn ≡ c.args.turns = omega (arith, c.loop-turn-test.false) in
    let Q : ℕ → Type 0 = λ made. IsServed M.Step (M.stands c.loop-turn.machine c.loop-turn.world) state c.args.turns made P.tells C.tells (C.coming c.args.clock.now)
    (P.events c.args.port.now) (P.events c.loop-turn.port) (P.sent c.args.port.now) (P.sent c.loop-turn.port) (P.failed c.args.port.now) (P.failed c.loop-turn.port) in
    subst Q all (served_of M.Step (M.stands c.loop-turn.machine c.loop-turn.world) state IsUnended c.args.turns c.loop-turn.turn P.tells C.tells (C.coming c.args.clock.now)
    (P.events c.args.port.now) (P.events c.loop-turn.port) (P.sent c.args.port.now) (P.sent c.loop-turn.port) (P.failed c.args.port.now) (P.failed c.loop-turn.port) so_far
    (turns_all c.args.turns c.loop-turn.turn so_far.events all so_far.made_is so_far.are))

pub returns-clause-calls : goal.returns-clause-calls
returns-clause-calls g c = λ port.
    let so_far = c.loop-turn.invariant.turns port in
    let all : c.loop-turn.turn ≤ c.args.turns = omega (arith, c.loop-turn-test.false) in
    (so_far.0, so_far.1, calls_none c.args.turns c.loop-turn.turn so_far.0 all so_far.2 so_far.3)

use Rattle.std.proofs.Common.{◌≡◌, ◌<◌, length, get_or, All, sym, ◌∙◌, subst, arith, rules}
use Rattle.std.proofs.lemmas.List.Elements.{All-push}
use Rattle.std.proofs.lemmas.Option.{slice_get-get_or, slice_get_within}
use Rattle.pad_message.specs.Message.{name_of}
use Rattle.pad_plain.specs.Inside.Walk.{messages_at, LeadsTo}
use Rattle.pad_plain.proofs.Places.{Up, Down, up_start, down_start, up_step, down_step, up_end, no_parent, too_long, found_at, parent_at, some_same, name_yes, name_no}
use Rattle.pad_plain.proofs.walk.walk.Goals as goal

pub loop-turn-init : goal.loop-turn-init
loop-turn-init c = record {
  within = c.requires.within;
  above = c.requires.above;
  places_within = search rules;
  count = search rules;
  goes_up = up_start _ _ _ _ c.new-places.ensures.items;
  goes_down = down_start _ _ _ _ c.new-places.ensures.items;
}

pub returns-in-None-clause-some : goal.returns-in-None-clause-some
returns-in-None-clause-some c =
    let here = slice_get-get_or c.args.received.now c.loop-turn.at c.index-received-at.result c.loop-turn.invariant.within in
    subst (λ v. LeadsTo c.args.base.now c.args.received.now c.args.last (messages_at c.args.received.now v)) (sym c.in_ok-push.ensures.items)
    (up_end _ _ _ _ _ _ here c.loop-turn.invariant.goes_up (c.loop-turn.invariant.above _ here) (name_yes (get_or c.args.received.now c.loop-turn.at c.index-received-at.result).parent c.args.base.now.name c.if-eq.ensures))

pub returns-in-None-2-clause-none : goal.returns-in-None-2-clause-none
returns-in-None-2-clause-none c _ d m at_m =
    let here = slice_get-get_or c.args.received.now c.loop-turn.at c.index-received-at.result c.loop-turn.invariant.within in
    let unknown = parent_at _ _ _ _ _ _ c.requires.parents c.loop-turn.invariant.within here c.in-None-2.is in
    let above = name_no (get_or c.args.received.now c.loop-turn.at c.index-received-at.result).parent c.args.base.now.name c.if-eq.ensures in
    no_parent _ _ _ _ _ _ here c.loop-turn.invariant.goes_down d m at_m above (unknown above)

pub loop-turn-preserved : goal.loop-turn-preserved
loop-turn-preserved c =
    let x = found_at c.args.received.now c.loop-turn.at c.loop-turn.invariant.within in
    let y = parent_at c.args.base.now _ _ _ x.0 _ c.requires.parents c.loop-turn.invariant.within x.1 c.in-Some.is in
    let items = c.in_ok-push.ensures.items in
    record {
      within = slice_get_within _ _ _ y.1.1;
      above = λ m at_m same. y.0 (sym y.1.2 ∙ subst (λ z. name_of z ≡ c.args.base.now.name) (some_same m y.1.0 (sym at_m ∙ y.1.1)) same);
      places_within = subst (All (λ place. place < length c.args.received.now)) (sym items) (All-push (λ place. place < length c.args.received.now) _ _ c.loop-turn.invariant.places_within c.loop-turn.invariant.within);
      count = search rules;
      goes_up = subst (Up c.args.base.now c.args.received.now c.args.last c.in-Some.place) (sym items) (up_step _ _ _ _ _ x.0 x.1 c.loop-turn.invariant.goes_up (c.loop-turn.invariant.above x.0 x.1) _ y.1.0 y.1.1 y.1.2);
      goes_down = subst (Down c.args.base.now c.args.received.now c.args.last c.in-Some.place) (sym items) (down_step _ _ _ _ _ x.0 x.1 c.loop-turn.invariant.goes_down y.0 _ y.1.0 y.1.1 y.1.2);
    }

pub returns-clause-none : goal.returns-clause-none
returns-clause-none c _ d m at_m =
    too_long _ _ _ _ _ c.loop-turn.invariant.goes_down c.loop-turn.invariant.places_within (omega (arith, c.loop-turn.invariant.count)) d m at_m

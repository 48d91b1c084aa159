use Rattle.std.proofs.Common.{inl, inr, ◌≡◌, ◌∙◌, false, length, List, ℕ, [], take, drop, arith, refl, subst}
use Rattle.std.proofs.lemmas.List.{take_all}
use Rattle.std.proofs.lemmas.Result.{err_from_is_err_and}
use Rattle.disk_volume.specs.Disk.{reads}
use Rattle.disk_volume.specs.Moments.{Grew, EachSince, still}
use Rattle.disk_volume.specs.Lemmas.Since.{elsewhere, each_start, grew_then}
use Rattle.keeper_channel.specs.Chan.{moved, IsList}
use Rattle.log_format.specs.declared.form.Form.{Form}
use Rattle.log_format.specs.declared.form.Form.TheVariants.{One, Two}
use Rattle.keeper_channel.specs.Inside.Adding.{IsAdding}
use Rattle.keeper_channel.proofs.Chans.{unmoved_list, moved_group, moved_unmarked}
use Rattle.keeper_channel.proofs.Rooms.{no_room_moving}
use Rattle.gated_log.specs.Ledger.{has_room}
use Rattle.log_format.specs.Frames.{size_of}
use Rattle.keeper_channel.proofs.Stays.{moved_each}
use Rattle.keeper_channel.proofs.migrating.move_entries.Goals as goal

pub loop-first-init : goal.loop-first-init
loop-first-init g c =
    let O = g.O.Ledger in let G = g.G.Ledger in let one = c.args.one.now in let log = c.args.log.now in let disk = g.V.Volume.disk c.args.volume.now in
    record {
      name = refl;
      form = c.requires.form_two;
      live = c.requires.live;
      counted = c.requires.none;
      within = omega arith;
      moving = λ told old holds.
          let given = c.requires.holds told in
          let now_one = g.met.O.Ledger.rests_now One (O.name one) disk old (subst (λ (f : Form). O.rests f (O.name one) disk) c.requires.form_one (g.met.O.Ledger.holds_rests one old disk holds))
          (subst (λ (f : Form). O.opens_as f (O.name one) (reads disk) old) c.requires.form_one (g.met.O.Ledger.holds_reads one old disk holds)) in
          let now_two = g.met.G.Ledger.rests_now Two (G.name log) disk [] (subst (λ (f : Form). G.rests f (G.name log) disk) c.requires.form_two (g.met.G.Ledger.holds_rests log [] disk given.2))
          (subst (λ (f : Form). G.opens_as f (G.name log) (reads disk) []) c.requires.form_two (g.met.G.Ledger.holds_reads log [] disk given.2)) in
          record {
            holds_old = holds;
            holds_new = given.2;
            sure = given.3;
            each = each_start disk (λ image. IsList (O.opens_as One (O.name one)) (G.opens_as Two (G.name log)) image (moved old))
                (λ image now. unmoved_list (O.opens_as One (O.name one)) (G.opens_as Two (G.name log)) image [] old (now_two image now) refl (now_one image now));
            files = still;
          };
      follows = g.met.V.Volume.follows_itself c.args.volume.now;
      faults = refl;
    }

pub returns-in_err-move_group-clause-files : goal.returns-in_err-move_group-clause-files
returns-in_err-move_group-clause-files g c = λ told.
    let O = g.O.Ledger in let G = g.G.Ledger in let one = c.args.one.now in let name = g.G.Ledger.name c.args.log.now in
    let mid = g.V.Volume.disk c.loop-first.volume in let new = g.V.Volume.disk c.move_group.new.volume in
    let grew : Grew (G.owns name) mid new = subst (λ (n : List ℕ). Grew (G.owns n) mid new) c.loop-first.invariant.name (c.move_group.ensures.files told) in
    let given = c.requires.holds told in
    grew_then new (c.loop-first.invariant.moving told given.0 given.1).files grew

pub returns-in_err-move_group-clause-any_moment : goal.returns-in_err-move_group-clause-any_moment
returns-in_err-move_group-clause-any_moment g c = λ told old holds.
    let O = g.O.Ledger in let G = g.G.Ledger in let one = c.args.one.now in let name = g.G.Ledger.name c.args.log.now in
    let mid = g.V.Volume.disk c.loop-first.volume in let new = g.V.Volume.disk c.move_group.new.volume in
    let grew : Grew (G.owns name) mid new = subst (λ (n : List ℕ). Grew (G.owns n) mid new) c.loop-first.invariant.name (c.move_group.ensures.files told) in
    let so_far = c.loop-first.invariant.moving told old holds in
    let done = moved (take c.loop-first.first old) in
    let group = take c.min-many.result (drop c.loop-first.first old) in
    let P : Form → List ℕ → Type 0 = λ f n. EachSince mid new (λ image. IsAdding (G.opens_as f n image) done (G.doubt f n (reads mid)) (moved group)) in
    let rests = subst (λ (f : Form). O.rests f (O.name one) mid) c.requires.form_one (g.met.O.Ledger.holds_rests one old mid so_far.holds_old) in
    let opens = subst (λ (f : Form). O.opens_as f (O.name one) (reads mid) old) c.requires.form_one (g.met.O.Ledger.holds_reads one old mid so_far.holds_old) in
    moved_each (O.opens_as One (O.name one)) (G.opens_as Two name) (G.doubt Two name) O.holds G.holds (O.owns (O.name one)) one c.loop-first.log old c.loop-first.first
    (g.V.Volume.disk c.args.volume.now) mid new (moved group) so_far (g.met.V.Volume.as_it_reads c.loop-first.volume told) grew c.requires.apart (λ a b. g.met.O.Ledger.opened_by One (O.name one) a b old)
    (g.met.O.Ledger.rests_now One (O.name one) mid old rests opens) (moved_unmarked group)
    (subst (λ (n : List ℕ). P Two n) c.loop-first.invariant.name (subst (λ (f : Form). P f (G.name c.loop-first.log)) c.loop-first.invariant.form
    (c.in_err-move_group.ensures.any_moment told old done so_far.holds_old so_far.holds_new)))

pub loop-first-preserved : goal.loop-first-preserved
loop-first-preserved g c = record {
  name = c.move_group.ensures.name ∙ c.loop-first.invariant.name;
  form = c.move_group.ensures.form ∙ c.loop-first.invariant.form;
  live = c.in_ok-move_group.ensures.live;
  counted = omega (arith, c.in_ok-move_group.ensures.counted, c.loop-first.invariant.counted);
  within = omega (arith, c.min-many.ensures, c.loop-first-test.true);
  moving = λ told old holds.
      let O = g.O.Ledger in let G = g.G.Ledger in let one = c.args.one.now in let name = g.G.Ledger.name c.args.log.now in
      let mid = g.V.Volume.disk c.loop-first.volume in let new = g.V.Volume.disk c.move_group.new.volume in
      let grew : Grew (G.owns name) mid new = subst (λ (n : List ℕ). Grew (G.owns n) mid new) c.loop-first.invariant.name (c.move_group.ensures.files told) in
      let so_far = c.loop-first.invariant.moving told old holds in
      let done = moved (take c.loop-first.first old) in
      let log = c.move_group.new.log in
      let group = take c.min-many.result (drop c.loop-first.first old) in
      let P : Form → List ℕ → Type 0 = λ f n. EachSince mid new (λ image. IsAdding (G.opens_as f n image) done (G.doubt f n (reads mid)) (moved group)) in
      let S : Form → List ℕ → Type 0 = λ f n. G.doubt f n (reads new) ≡ [] in
      let rests = subst (λ (f : Form). O.rests f (O.name one) mid) c.requires.form_one (g.met.O.Ledger.holds_rests one old mid so_far.holds_old) in
      let opens = subst (λ (f : Form). O.opens_as f (O.name one) (reads mid) old) c.requires.form_one (g.met.O.Ledger.holds_reads one old mid so_far.holds_old) in
      record {
        holds_old = g.met.O.Ledger.holds_on one old mid new so_far.holds_old (λ file mine. elsewhere new file grew (λ theirs. c.requires.apart file theirs mine));
        holds_new = subst (λ (l : List (List ℕ)). G.holds log l new) (moved_group old c.loop-first.first c.min-many.result) (c.in_ok-move_group.ensures.moved told old done so_far.holds_old so_far.holds_new);
        sure = subst (λ (n : List ℕ). S Two n) (c.move_group.ensures.name ∙ c.loop-first.invariant.name) (subst (λ (f : Form). S f (G.name log)) (c.move_group.ensures.form ∙ c.loop-first.invariant.form) (c.in_ok-move_group.ensures.sure told done so_far.holds_new));
        each = moved_each (O.opens_as One (O.name one)) (G.opens_as Two name) (G.doubt Two name) O.holds G.holds (O.owns (O.name one)) one c.loop-first.log old c.loop-first.first
            (g.V.Volume.disk c.args.volume.now) mid new (moved group) so_far (g.met.V.Volume.as_it_reads c.loop-first.volume told) grew c.requires.apart (λ a b. g.met.O.Ledger.opened_by One (O.name one) a b old)
            (g.met.O.Ledger.rests_now One (O.name one) mid old rests opens) (moved_unmarked group)
            (subst (λ (n : List ℕ). P Two n) c.loop-first.invariant.name (subst (λ (f : Form). P f (G.name c.loop-first.log)) c.loop-first.invariant.form
            (c.in_ok-move_group.ensures.any_moment told old done so_far.holds_old so_far.holds_new)));
        files = grew_then new so_far.files grew;
      };
  follows = g.met.V.Volume.follows_on c.args.volume.now c.loop-first.volume c.move_group.new.volume c.loop-first.invariant.follows c.move_group.ensures.follows;
  faults = elim c.in_ok-move_group.ensures.kept [ inl store ↦ absurd (cc) | inr same ↦ same ∙ c.loop-first.invariant.faults ];
}

pub returns-in_err-move_group-clause-full : goal.returns-in_err-move_group-clause-full
returns-in_err-move_group-clause-full g c = let p = err_from_is_err_and c.from_residual.result c.from_residual.ensures.1 in rw (p.1, p.2) (λ told old holds is_full.
    let so_far = c.loop-first.invariant.moving told old holds in
    let done = moved (take c.loop-first.first old) in
    let group = moved (take c.min-many.result (drop c.loop-first.first old)) in
    no_room_moving old c.loop-first.first c.min-many.result
    (subst (λ (f : Form). has_room f done (length group) (size_of group) ≡ false) c.loop-first.invariant.form
    (c.in_err-move_group.ensures.full told old done so_far.holds_old so_far.holds_new is_full)))

pub returns-in_err-move_group-clause-damaged : goal.returns-in_err-move_group-clause-damaged
returns-in_err-move_group-clause-damaged g c = let p = err_from_is_err_and c.from_residual.result c.from_residual.ensures.1 in rw (p.1, p.2) (λ told old holds damage is all.
    let so_far = c.loop-first.invariant.moving told old holds in
    c.in_err-move_group.ensures.damaged told old so_far.holds_old damage is all)

pub returns-clause-counted : goal.returns-clause-counted
returns-clause-counted g c = omega (arith, c.loop-first.invariant.counted, c.loop-first.invariant.within, c.loop-first-test.false, c.count-count.ensures)

pub move_group-requires-clause-some : goal.move_group-requires-clause-some
move_group-requires-clause-some g c = omega (arith, c.min-many.ensures, c.loop-first-test.true)

pub move_group-requires-clause-few : goal.move_group-requires-clause-few
move_group-requires-clause-few g c = omega (arith, c.min-many.ensures)

pub move_group-requires-clause-within : goal.move_group-requires-clause-within
move_group-requires-clause-within g c = omega (arith, c.min-many.ensures, c.loop-first-test.true, c.count-count.ensures)

pub returns-clause-moved : goal.returns-clause-moved
returns-clause-moved g c = λ told old holds.
    let G = g.G.Ledger in let disk = g.V.Volume.disk c.loop-first.volume in
    let so_far = c.loop-first.invariant.moving told old holds in
    let counts = g.met.O.Ledger.holds_count c.args.one.now old (g.V.Volume.disk c.args.volume.now) holds in
    let all : take c.loop-first.first old ≡ old = take_all c.loop-first.first old (omega (arith, counts, c.loop-first-test.false, c.count-count.ensures)) in
    (subst (λ (l : List (List ℕ)). G.holds c.loop-first.log (moved l) disk) all so_far.holds_new, so_far.holds_old, so_far.sure)

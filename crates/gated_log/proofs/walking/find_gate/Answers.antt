use Rattle.std.proofs.Common.{List, ℕ, ◌≡◌, ◌+◌, ◌-◌, length, take, drop, refl, sym, subst, arith}
use Rattle.std.proofs.lemmas.List.{length-drop, length-take-le, take_all}
use Rattle.std.proofs.lemmas.Result.{IfOk-weaker}
use Rattle.disk_volume.specs.Disk.{reads}
use Rattle.gated_log.specs.declared.walk.Walk.{Walk}
use Rattle.gated_log.specs.Inside.Walked.{IsGoing, IsLast}
use Rattle.gated_log.proofs.Walks.{going_begins, going_on, going_ends, shown_behind}
use Rattle.gated_log.proofs.walking.find_gate.Goals as goal

pub returns-in-On-clause-last : goal.returns-in-On-clause-last
returns-in-On-clause-last g c = λ told count same.
    let bytes = reads (g.V.Volume.disk c.args.volume.now) c.args.file.now in
    let size = c.requires.told told in
    let walk : Walk = record { before = 8; gate = 8; end = c.args.size } in
    let all : take c.args.size bytes ≡ bytes = take_all c.args.size bytes (omega (arith, size)) in
    let whole = length-take-le (c.args.count - 8) (drop 8 c.args.piece.now) (omega (arith, length-drop 8 c.args.piece.now, c.requires.within, c.requires.buffer)) in
    let step = rw c.in-On.is at (c.in_ok-next.ensures.step bytes (sym size) (shown_behind c.args.piece.now bytes c.args.count (omega (arith, c.requires.some)) (omega (arith, c.requires.within, c.requires.buffer)) same)
    (omega (arith, whole, count, c.requires.buffer))) in
    let begun = going_begins bytes walk c.args.index.now.items refl size (omega (arith, size, c.requires.within, c.requires.some)) c.requires.fresh in
    let going = going_on bytes bytes c.args.most (length bytes) walk c.in-On.next _ _ begun refl step in
    let P : List ℕ → Type 0 = λ file. IsGoing file c.args.size c.in-On.next c.next_step.new.index.items in
    let Q : ℕ → Type 0 = λ end. IsGoing bytes end c.in-On.next c.next_step.new.index.items in
    IfOk-weaker c.go_through.result _ (IsLast bytes c.args.most c.go_through.new.index.items)
    (λ gate last. let R : List ℕ → Type 0 = λ file. IsLast file c.args.most c.go_through.new.index.items gate in subst R all last)
    (c.go_through.ensures.last told c.args.size (subst P (sym all) (subst Q (sym size) going)))

pub returns-in-On-clause-clock : goal.returns-in-On-clause-clock
returns-in-On-clause-clock g c =
    let calls = c.go_through.ensures.clock in
    let ahead = rw c.in-On.is at c.in_ok-next.ensures.ahead in
    (calls.0 + 1, omega (arith, calls.1), omega (arith, calls.2, ahead.1, ahead.2, c.requires.buffer))

pub returns-in-Last-clause-last : goal.returns-in-Last-clause-last
returns-in-Last-clause-last g c = λ told count same.
    let bytes = reads (g.V.Volume.disk c.args.volume.now) c.args.file.now in
    let size = c.requires.told told in
    let walk : Walk = record { before = 8; gate = 8; end = c.args.size } in
    let whole = length-take-le (c.args.count - 8) (drop 8 c.args.piece.now) (omega (arith, length-drop 8 c.args.piece.now, c.requires.within, c.requires.buffer)) in
    let step = rw c.in-Last.is at (c.in_ok-next.ensures.step bytes (sym size) (shown_behind c.args.piece.now bytes c.args.count (omega (arith, c.requires.some)) (omega (arith, c.requires.within, c.requires.buffer)) same)
    (omega (arith, whole, count, c.requires.buffer))) in
    let begun = going_begins bytes walk c.args.index.now.items refl size (omega (arith, size, c.requires.within, c.requires.some)) c.requires.fresh in
    going_ends bytes bytes c.args.most (length bytes) walk c.in-Last.gate _ _ begun refl step

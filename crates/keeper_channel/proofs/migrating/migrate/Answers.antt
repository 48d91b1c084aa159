use Rattle.std.proofs.Common.{◌≡◌, ◌∙◌, List, ℕ, [], sym, subst}
use Rattle.disk_volume.specs.Disk.{Disk, reads}
use Rattle.disk_volume.specs.Moments.{Grew, EachSince}
use Rattle.disk_volume.specs.Lemmas.Since.{each_then, grew_then}
use Rattle.keeper_channel.specs.Chan.{moved, IsList}
use Rattle.log_format.specs.declared.form.Form.TheVariants.{One, Two}
use Rattle.std.proofs.lemmas.Result.{err_from_is_err_and}
use Rattle.keeper_channel.specs.declared.refused.KeeperRefused.TheVariants.{Full, Damaged}
use Rattle.keeper_channel.proofs.Results.{err_of}
use Rattle.keeper_channel.proofs.migrating.migrate.Goals as goal

pub returns-in_err-move_entries-clause-files : goal.returns-in_err-move_entries-clause-files
returns-in_err-move_entries-clause-files g c = λ told.
    let O = g.O.Ledger in let G = g.G.Ledger in let one = c.args.one.now in let two = c.args.two.now in let V = g.V.Volume in
    let start = V.disk c.args.volume.now in let mid = V.disk c.restart_channel.new.volume in let next = V.disk c.move_entries.new.volume in
    let named = (c.in_ok-log.ensures.made).0 in
    let first = c.in_ok-log.ensures.files told in
    let second = subst (λ (n : List ℕ). Grew (G.owns n) mid next) named (c.move_entries.ensures.files told) in
    grew_then next first second

pub returns-in_err-move_entries-clause-any_moment : goal.returns-in_err-move_entries-clause-any_moment
returns-in_err-move_entries-clause-any_moment g c = λ told old holds.
    let O = g.O.Ledger in let G = g.G.Ledger in let one = c.args.one.now in let two = c.args.two.now in let V = g.V.Volume in
    let start = V.disk c.args.volume.now in let mid = V.disk c.restart_channel.new.volume in let next = V.disk c.move_entries.new.volume in
    let named = (c.in_ok-log.ensures.made).0 in
    let first = c.in_ok-log.ensures.files told in
    let second = subst (λ (n : List ℕ). Grew (G.owns n) mid next) named (c.move_entries.ensures.files told) in
    let given = c.requires.unmarked told in
    let P : (List ℕ → List ℕ) → Type 0 = λ image. IsList (O.opens_as One (O.name one)) (G.opens_as Two two) image (moved old) in
    let Q : Disk → Disk → List ℕ → Type 0 = λ a b n. EachSince a b (λ image. IsList (O.opens_as One (O.name one)) (G.opens_as Two n) image (moved old)) in
    let moving = c.in_ok-log.ensures.moving told old given.0 holds given.1 given.2 in
    let each_first = c.in_ok-log.ensures.any_moment told old given.0 holds given.1 given.2 in
    let each_second = subst (λ (n : List ℕ). Q mid next n) named (c.move_entries.ensures.any_moment told old moving.holds_old) in
    let through = each_then start mid next P second each_first each_second in
    through

pub returns-in_err-mark-clause-files : goal.returns-in_err-mark-clause-files
returns-in_err-mark-clause-files g c = λ told.
    let O = g.O.Ledger in let G = g.G.Ledger in let one = c.args.one.now in let two = c.args.two.now in let V = g.V.Volume in
    let start = V.disk c.args.volume.now in let mid = V.disk c.restart_channel.new.volume in let next = V.disk c.move_entries.new.volume in
    let named = (c.in_ok-log.ensures.made).0 in
    let first = c.in_ok-log.ensures.files told in
    let second = subst (λ (n : List ℕ). Grew (G.owns n) mid next) named (c.move_entries.ensures.files told) in
    let last = V.disk c.mark.new.volume in
    let third = subst (λ (n : List ℕ). Grew (G.owns n) next last) (c.move_entries.ensures.name ∙ named) (c.mark.ensures.files told) in
    grew_then last (grew_then next first second) third

pub returns-in_err-mark-clause-any_moment : goal.returns-in_err-mark-clause-any_moment
returns-in_err-mark-clause-any_moment g c = λ told old holds.
    let O = g.O.Ledger in let G = g.G.Ledger in let one = c.args.one.now in let two = c.args.two.now in let V = g.V.Volume in
    let start = V.disk c.args.volume.now in let mid = V.disk c.restart_channel.new.volume in let next = V.disk c.move_entries.new.volume in
    let named = (c.in_ok-log.ensures.made).0 in
    let first = c.in_ok-log.ensures.files told in
    let second = subst (λ (n : List ℕ). Grew (G.owns n) mid next) named (c.move_entries.ensures.files told) in
    let last = V.disk c.mark.new.volume in
    let third = subst (λ (n : List ℕ). Grew (G.owns n) next last) (c.move_entries.ensures.name ∙ named) (c.mark.ensures.files told) in
    let given = c.requires.unmarked told in
    let P : (List ℕ → List ℕ) → Type 0 = λ image. IsList (O.opens_as One (O.name one)) (G.opens_as Two two) image (moved old) in
    let Q : Disk → Disk → List ℕ → Type 0 = λ a b n. EachSince a b (λ image. IsList (O.opens_as One (O.name one)) (G.opens_as Two n) image (moved old)) in
    let moving = c.in_ok-log.ensures.moving told old given.0 holds given.1 given.2 in
    let each_first = c.in_ok-log.ensures.any_moment told old given.0 holds given.1 given.2 in
    let each_second = subst (λ (n : List ℕ). Q mid next n) named (c.move_entries.ensures.any_moment told old moving.holds_old) in
    let through = each_then start mid next P second each_first each_second in
    let all = c.in_ok-move_entries.ensures.moved told old moving.holds_old in
    let sure = subst (λ (n : List ℕ). G.doubt Two n (reads next) ≡ []) (sym c.move_entries.ensures.name) all.2 in
    let each_third = subst (λ (n : List ℕ). Q next last n) (c.move_entries.ensures.name ∙ named) (c.mark.ensures.any_moment told old all.1 all.0 sure) in
    each_then start next last P third through each_third

pub returns-clause-files : goal.returns-clause-files
returns-clause-files g c = λ told.
    let O = g.O.Ledger in let G = g.G.Ledger in let one = c.args.one.now in let two = c.args.two.now in let V = g.V.Volume in
    let start = V.disk c.args.volume.now in let mid = V.disk c.restart_channel.new.volume in let next = V.disk c.move_entries.new.volume in
    let named = (c.in_ok-log.ensures.made).0 in
    let first = c.in_ok-log.ensures.files told in
    let second = subst (λ (n : List ℕ). Grew (G.owns n) mid next) named (c.move_entries.ensures.files told) in
    let last = V.disk c.mark.new.volume in
    let third = subst (λ (n : List ℕ). Grew (G.owns n) next last) (c.move_entries.ensures.name ∙ named) (c.mark.ensures.files told) in
    grew_then last (grew_then next first second) third

pub returns-clause-any_moment : goal.returns-clause-any_moment
returns-clause-any_moment g c = λ told old holds.
    let O = g.O.Ledger in let G = g.G.Ledger in let one = c.args.one.now in let two = c.args.two.now in let V = g.V.Volume in
    let start = V.disk c.args.volume.now in let mid = V.disk c.restart_channel.new.volume in let next = V.disk c.move_entries.new.volume in
    let named = (c.in_ok-log.ensures.made).0 in
    let first = c.in_ok-log.ensures.files told in
    let second = subst (λ (n : List ℕ). Grew (G.owns n) mid next) named (c.move_entries.ensures.files told) in
    let last = V.disk c.mark.new.volume in
    let third = subst (λ (n : List ℕ). Grew (G.owns n) next last) (c.move_entries.ensures.name ∙ named) (c.mark.ensures.files told) in
    let given = c.requires.unmarked told in
    let P : (List ℕ → List ℕ) → Type 0 = λ image. IsList (O.opens_as One (O.name one)) (G.opens_as Two two) image (moved old) in
    let Q : Disk → Disk → List ℕ → Type 0 = λ a b n. EachSince a b (λ image. IsList (O.opens_as One (O.name one)) (G.opens_as Two n) image (moved old)) in
    let moving = c.in_ok-log.ensures.moving told old given.0 holds given.1 given.2 in
    let each_first = c.in_ok-log.ensures.any_moment told old given.0 holds given.1 given.2 in
    let each_second = subst (λ (n : List ℕ). Q mid next n) named (c.move_entries.ensures.any_moment told old moving.holds_old) in
    let through = each_then start mid next P second each_first each_second in
    let all = c.in_ok-move_entries.ensures.moved told old moving.holds_old in
    let sure = subst (λ (n : List ℕ). G.doubt Two n (reads next) ≡ []) (sym c.move_entries.ensures.name) all.2 in
    let each_third = subst (λ (n : List ℕ). Q next last n) (c.move_entries.ensures.name ∙ named) (c.mark.ensures.any_moment told old all.1 all.0 sure) in
    each_then start next last P third through each_third

pub returns-in_err-move_entries-clause-full : goal.returns-in_err-move_entries-clause-full
returns-in_err-move_entries-clause-full g c = let p = err_from_is_err_and c.from_residual-in_err-move_entries.result c.from_residual-in_err-move_entries.ensures.1 in rw (p.1, p.2) (λ told old holds is_full.
    let given = c.requires.unmarked told in
    let moving = c.in_ok-log.ensures.moving told old given.0 holds given.1 given.2 in
    c.in_err-move_entries.ensures.full told old moving.holds_old (err_of _ Full is_full))

pub returns-in_err-move_entries-clause-damaged : goal.returns-in_err-move_entries-clause-damaged
returns-in_err-move_entries-clause-damaged g c = let p = err_from_is_err_and c.from_residual-in_err-move_entries.result c.from_residual-in_err-move_entries.ensures.1 in rw (p.1, p.2) (λ told old holds damage is all.
    let given = c.requires.unmarked told in
    let moving = c.in_ok-log.ensures.moving told old given.0 holds given.1 given.2 in
    c.in_err-move_entries.ensures.damaged told old moving.holds_old damage (err_of _ (Damaged damage) is) all)

pub returns-in_err-mark-clause-full : goal.returns-in_err-mark-clause-full
returns-in_err-mark-clause-full g c = let p = err_from_is_err_and c.from_residual-in_err-mark.result c.from_residual-in_err-mark.ensures.1 in rw (p.1, p.2) (λ told old holds is_full.
    let given = c.requires.unmarked told in
    let moving = c.in_ok-log.ensures.moving told old given.0 holds given.1 given.2 in
    let all = c.in_ok-move_entries.ensures.moved told old moving.holds_old in
    c.in_err-mark.ensures.full told old all.0 (err_of _ Full is_full))

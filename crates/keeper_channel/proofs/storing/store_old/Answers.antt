use Rattle.std.proofs.Common.{Result, Ok, Err, MatchResult, IfOk, IsTrue, ◌≡◌, false, length, ◌∙◌, ◌⊎◌, inl, inr, List, ℕ, [], ◌∷◌, ◌++◌, sym, subst}
use Rattle.std.proofs.lemmas.Result.{err_from_is_err_and}
use Rattle.disk_volume.specs.Disk.{reads}
use Rattle.disk_volume.specs.Moments.{Grew, EachNow, EachSince}
use Rattle.disk_volume.specs.Lemmas.Since.{each_then, grew_then}
use Rattle.keeper_channel.specs.Chan.{MarkerAt, moved, channel_room, IsList, IsWithin}
use Rattle.log_format.specs.declared.form.Form.{Form}
use Rattle.log_format.specs.Frames.{size_of}
use Rattle.log_format.specs.declared.form.Form.TheVariants.{One, Two}
use Rattle.keeper_channel.specs.Inside.Adding.{IsAdded}
use Rattle.keeper_channel.specs.Logs.{IsLive, IsLogsOf}
use Rattle.keeper_channel.proofs.Chans.{marker_behind, moved_without}
use Rattle.keeper_channel.proofs.Rooms.{no_room_more}
use Rattle.keeper_channel.specs.Entries.{AreEntries}
use Rattle.keeper_channel.specs.declared.logs.Added.{Added}
use Rattle.keeper_channel.specs.declared.refused.KeeperRefused.{KeeperRefused}
use Rattle.keeper_channel.specs.declared.refused.KeeperRefused.TheVariants.{Full, Store, Damaged}
use Rattle.keeper_channel.proofs.Results.{err_of}
use Rattle.keeper_channel.proofs.storing.store_old.Goals as goal

pub migrate-requires-clause-holds : goal.migrate-requires-clause-holds
migrate-requires-clause-holds g c = λ told. let is = (c.requires.holds told).2 in (is.old, is.holds_old)

pub migrate-requires-clause-rests : goal.migrate-requires-clause-rests
migrate-requires-clause-rests g c = λ told.
    let is = (c.requires.holds told).2 in let disk = g.V.Volume.disk c.args.volume.now in
    subst (λ (n : List ℕ). g.G.Ledger.rests Two n disk) c.requires.named_two
    (subst (λ (f : Form). g.G.Ledger.rests f (g.G.Ledger.name c.args.loaded) disk) c.requires.form_two (g.met.G.Ledger.holds_rests c.args.loaded is.new disk is.holds_new))

pub migrate-requires-clause-unmarked : goal.migrate-requires-clause-unmarked
migrate-requires-clause-unmarked g c = λ told.
    let is = (c.requires.holds told).2 in let disk = g.V.Volume.disk c.args.volume.now in (
      is.new,
      subst (λ (n : List ℕ). g.G.Ledger.opens_as Two n (reads disk) is.new) c.requires.named_two
          (subst (λ (f : Form). g.G.Ledger.opens_as f (g.G.Ledger.name c.args.loaded) (reads disk) is.new) c.requires.form_two (g.met.G.Ledger.holds_reads c.args.loaded is.new disk is.holds_new)),
      is.unmoved,
    )

pub returns-clause-files : goal.returns-clause-files
returns-clause-files g c = λ told.
    let mid = g.V.Volume.disk c.migrate.new.volume in let new = g.V.Volume.disk c.store_new.new.volume in
    grew_then new (c.in_ok-log.ensures.files told) (subst (λ (n : List ℕ). Grew (g.G.Ledger.owns n) mid new) (c.in_ok-log.ensures.made).0 (c.store_new.ensures.files told))

-- a refusal of the one kind, told from an earlier moment on
refused_since : {T S E : Type 0} (answer : Result T KeeperRefused) (P : T → Type 0) (Q : KeeperRefused → Type 0) → (S → E) → MatchResult answer P (λ refused. S ⊎ Q refused)
    → MatchResult answer P (λ refused. E ⊎ Q refused)
refused_since (Ok added) P Q by is = is
refused_since (Err refused) P Q by (inl since) = inl (by since)
refused_since (Err refused) P Q by (inr other) = inr other

pub returns-clause-added : goal.returns-clause-added
returns-clause-added g c = λ told held suspense is.
    let O = g.O.Ledger in let G = g.G.Ledger in let log = c.in_ok-log.log in
    let old = g.V.Volume.disk c.args.volume.now in let mid = g.V.Volume.disk c.migrate.new.volume in let new = g.V.Volume.disk c.store_new.new.volume in
    let opens_one = O.opens_as One c.args.one.now in let opens_two = G.opens_as Two c.args.two.now in
    let named = (c.in_ok-log.ensures.made).0 in
    let migrated = c.in_ok-log.ensures.migrated told is.old is.holds_old in
    let sure = subst (λ (n : List ℕ). G.doubt Two n (reads mid) ≡ []) (sym named) migrated.1 in
    let stored = c.store_new.ensures.added told held [] (record {
      new = moved is.old ++ [] ∷ [];
      holds_new = migrated.0;
      marked = subst (λ n. MarkerAt (moved is.old ++ [] ∷ []) n) (sym (c.count.ensures ∙ g.met.O.Ledger.holds_count c.args.old is.old old is.holds_old)) (marker_behind is.old);
      held_is = is.held_is ∙ sym (moved_without is.old);
      suspense_is = sym sure;
    }) in
    let R : List ℕ → Type 0 = λ n. IsAdded opens_one (G.opens_as Two n) (G.doubt Two n) O.holds G.holds held [] c.args.group.now c.store_new.result mid new in
    let there = subst R named stored in
    let P : List (List ℕ) → (List ℕ → List ℕ) → Type 0 = λ s image. IsWithin (IsList opens_one opens_two image) held s ⊎ IsWithin (IsList opens_one opens_two image) held c.args.group.now in
    let before = subst (λ (n : List ℕ). EachSince old mid (λ image. IsList (O.opens_as One n) opens_two image (moved is.old))) c.requires.named_one (c.in_ok-log.ensures.any_moment told is.old is.holds_old) in
    let grew = subst (λ (n : List ℕ). Grew (G.owns n) mid new) named (c.store_new.ensures.files told) in
    let ready : EachSince old mid (λ image. IsList opens_one opens_two image held) = λ image left. subst (IsList opens_one opens_two image) (sym is.held_is) (before image left) in
    let stored_is : Added _ _ → Type 0 = λ added. IsLive O.holds G.holds (G.doubt Two c.args.two.now) added.logs (held ++ c.args.group.now) [] new × (added.index ≡ length held) in
    let failed_is : KeeperRefused → Type 0 = λ refused. (refused ≡ Store) × EachNow new (λ image. IsWithin (IsList opens_one opens_two image) held c.args.group.now) in
    let S : List (List ℕ) → Type 0 = λ s. IsAdded opens_one opens_two (G.doubt Two c.args.two.now) O.holds G.holds held s c.args.group.now c.store_new.result old new in
    subst S (sym is.suspense_is) (record {
      each = each_then old mid new (P []) grew (λ image left. inl (inl (ready image left))) there.each;
      left = refused_since c.store_new.result stored_is failed_is (each_then old mid new (λ image. IsWithin (IsList opens_one opens_two image) held []) grew (λ image left. inl (ready image left))) there.left;
      full = there.full;
      sound = there.sound;
    })

pub returns-in_err-log-clause-added : goal.returns-in_err-log-clause-added
returns-in_err-log-clause-added g c = let p = err_from_is_err_and c.from_residual.result c.from_residual.ensures.1 in rw (p.1, p.2) (λ told held suspense is.
    let O = g.O.Ledger in let G = g.G.Ledger in
    let old = g.V.Volume.disk c.args.volume.now in let mid = g.V.Volume.disk c.migrate.new.volume in
    let opens_one = O.opens_as One c.args.one.now in let opens_two = G.opens_as Two c.args.two.now in
    let before = subst (λ (n : List ℕ). EachSince old mid (λ image. IsList (O.opens_as One n) opens_two image (moved is.old))) c.requires.named_one (c.migrate.ensures.any_moment told is.old is.holds_old) in
    record {
      each = λ image left. inl (inl (subst (IsList opens_one opens_two image) (sym is.held_is) (before image left)));
      left = inl (λ image left. inl (subst (IsList opens_one opens_two image) (sym is.held_is) (before image left)));
      full = λ is_full. subst (λ (l : List (List ℕ)). channel_room l (length c.args.group.now) (size_of c.args.group.now) ≡ false) (sym is.held_is)
          (no_room_more (moved is.old) (length c.args.group.now) (size_of c.args.group.now) (c.in_err-log.ensures.full told is.old is.holds_old (err_of _ Full is_full)));
      sound = λ damage is_damaged all. c.in_err-log.ensures.damaged told is.old is.holds_old damage (err_of _ (Damaged damage) is_damaged) (subst AreEntries is.held_is all);
    })

pub returns-clause-made : goal.returns-clause-made
returns-clause-made g c =
    let O = g.O.Ledger in let G = g.G.Ledger in
    let P : List ℕ → Type 0 = λ n. IfOk c.store_new.result (λ added. IsLogsOf (λ log. (O.name log ≡ c.args.one.now) × (O.form_of log ≡ One) × IsTrue (O.live log)) (λ log. (G.name log ≡ n) × (G.form_of log ≡ Two) × IsTrue (G.live log)) added.logs) in
    subst P (c.in_ok-log.ensures.made).0 c.store_new.ensures.made

pub returns-clause-counted : goal.returns-clause-counted
returns-clause-counted g c = c.store_new.ensures.counted (g.O.Ledger.count c.args.old) c.in_ok-log.ensures.counted

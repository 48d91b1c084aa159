use Rattle.std.proofs.Common.{◌≡◌, ◌-◌, ◌<◌, arith, ◌∙◌, inl, inr, true, false, List, ℕ, Option, None, Some, Result, Ok, Err, IfErr, refl, sym, ap, subst}
use Rattle.std.proofs.lemmas.Result.{IfOk-weaker, on_ok_weaker, err_from_is_err_and}
use Rattle.disk_volume.specs.Disk.{Disk, reads, IsImage}
use Rattle.disk_volume.specs.Moments.{Grew, OnlySyncs, EachSince}
use Rattle.disk_volume.specs.Lemmas.Since.{grew_within, grew_then}
use Rattle.keeper_channel.specs.Chan.{has_marker, unmarked}
use Rattle.keeper_channel.specs.Disks.{Either}
use Rattle.keeper_channel.specs.Logs.{IsFoundIn, IsDamaged, NamesDamage}
use Rattle.log_format.specs.declared.damage.Damage.{Damage}
use Rattle.gated_log.specs.Refused.{MayRefuse}
use Rattle.gated_log.specs.declared.refused.LoadRefused.{LoadRefused}
use Rattle.gated_log.specs.declared.refused.LoadRefused.TheVariants.{Store, Damaged, NoMemory}
use Rattle.keeper_channel.specs.declared.logs.Logs.{Logs}
use Rattle.log_format.specs.declared.form.Form.TheVariants.{One, Two}
use Rattle.keeper_channel.proofs.Chans.{marked_at, chan_new, doubt_marked, found_by}
use Rattle.keeper_channel.proofs.Stays.{loads_twice, syncs_within, syncs_then}
use Rattle.keeper_channel.proofs.loading.load_logs.Goals as goal

pub returns-in_err-log-clause-files : goal.returns-in_err-log-clause-files
returns-in_err-log-clause-files g c = λ told. grew_within (g.V.Volume.disk c.load.new.volume) (λ file is. inr is) (c.load.ensures.files told)

pub returns-in_err-log-clause-syncs : goal.returns-in_err-log-clause-syncs
returns-in_err-log-clause-syncs g c = λ told. syncs_within (g.V.Volume.disk c.load.new.volume) (λ file is. inr is) (c.load.ensures.syncs told)

pub returns-in-Some-clause-files : goal.returns-in-Some-clause-files
returns-in-Some-clause-files g c = λ told.
    let P : Disk → Type 0 = λ disk. Grew (Either (g.O.Ledger.owns c.args.one.now) (g.G.Ledger.owns c.args.two.now)) (g.V.Volume.disk c.args.volume.now) disk in
    subst P (sym (c.find_marker.ensures.disk told)) (grew_within (g.V.Volume.disk c.load.new.volume) (λ file is. inr is) (c.load.ensures.files told))

pub returns-in-Some-clause-syncs : goal.returns-in-Some-clause-syncs
returns-in-Some-clause-syncs g c = λ told.
    let P : Disk → Type 0 = λ disk. OnlySyncs (Either (g.O.Ledger.owns c.args.one.now) (g.G.Ledger.owns c.args.two.now)) (g.V.Volume.disk c.args.volume.now) disk in
    subst P (sym (c.find_marker.ensures.disk told)) (syncs_within (g.V.Volume.disk c.load.new.volume) (λ file is. inr is) (c.load.ensures.syncs told))

pub returns-in-Err-Store-clause-files : goal.returns-in-Err-Store-clause-files
returns-in-Err-Store-clause-files g c = λ told.
    let P : Disk → Type 0 = λ disk. Grew (Either (g.O.Ledger.owns c.args.one.now) (g.G.Ledger.owns c.args.two.now)) (g.V.Volume.disk c.args.volume.now) disk in
    subst P (sym (c.find_marker.ensures.disk told)) (grew_within (g.V.Volume.disk c.load.new.volume) (λ file is. inr is) (c.load.ensures.files told))

pub returns-in-Err-Store-clause-syncs : goal.returns-in-Err-Store-clause-syncs
returns-in-Err-Store-clause-syncs g c = λ told.
    let P : Disk → Type 0 = λ disk. OnlySyncs (Either (g.O.Ledger.owns c.args.one.now) (g.G.Ledger.owns c.args.two.now)) (g.V.Volume.disk c.args.volume.now) disk in
    subst P (sym (c.find_marker.ensures.disk told)) (syncs_within (g.V.Volume.disk c.load.new.volume) (λ file is. inr is) (c.load.ensures.syncs told))

pub returns-in-Err-NoMemory-clause-files : goal.returns-in-Err-NoMemory-clause-files
returns-in-Err-NoMemory-clause-files g c = λ told.
    let P : Disk → Type 0 = λ disk. Grew (Either (g.O.Ledger.owns c.args.one.now) (g.G.Ledger.owns c.args.two.now)) (g.V.Volume.disk c.args.volume.now) disk in
    subst P (sym (c.find_marker.ensures.disk told)) (grew_within (g.V.Volume.disk c.load.new.volume) (λ file is. inr is) (c.load.ensures.files told))

pub returns-in-Err-NoMemory-clause-syncs : goal.returns-in-Err-NoMemory-clause-syncs
returns-in-Err-NoMemory-clause-syncs g c = λ told.
    let P : Disk → Type 0 = λ disk. OnlySyncs (Either (g.O.Ledger.owns c.args.one.now) (g.G.Ledger.owns c.args.two.now)) (g.V.Volume.disk c.args.volume.now) disk in
    subst P (sym (c.find_marker.ensures.disk told)) (syncs_within (g.V.Volume.disk c.load.new.volume) (λ file is. inr is) (c.load.ensures.syncs told))

pub returns-in-None-clause-files : goal.returns-in-None-clause-files
returns-in-None-clause-files g c = λ told.
    let P : Disk → Type 0 = λ disk. Grew (g.O.Ledger.owns c.args.one.now) disk (g.V.Volume.disk c.load_old.new.volume) in
    let new = g.V.Volume.disk c.load_old.new.volume in
    grew_then new (grew_within (g.V.Volume.disk c.load.new.volume) (λ file is. inr is) (c.load.ensures.files told))
    (grew_within new (λ file is. inl is) (subst P (c.find_marker.ensures.disk told) (c.load_old.ensures.files told)))

pub returns-in-None-clause-syncs : goal.returns-in-None-clause-syncs
returns-in-None-clause-syncs g c = λ told.
    let P : Disk → Type 0 = λ disk. OnlySyncs (g.O.Ledger.owns c.args.one.now) disk (g.V.Volume.disk c.load_old.new.volume) in
    let new = g.V.Volume.disk c.load_old.new.volume in
    syncs_then new (syncs_within (g.V.Volume.disk c.load.new.volume) (λ file is. inr is) (c.load.ensures.syncs told))
    (syncs_within new (λ file is. inl is) (subst P (c.find_marker.ensures.disk told) (c.load_old.ensures.syncs told)))

pub returns-in-None-clause-any_moment : goal.returns-in-None-clause-any_moment
returns-in-None-clause-any_moment g c = λ told.
    let new = g.V.Volume.disk c.load_old.new.volume in
    let P : Disk → Type 0 = λ disk. Grew (g.O.Ledger.owns c.args.one.now) disk new in
    let Q : Disk → Type 0 = λ disk. EachSince disk new (IsImage disk) in
    loads_twice (g.V.Volume.disk c.args.volume.now) (g.V.Volume.disk c.load.new.volume) new
    (subst P (c.find_marker.ensures.disk told) (c.load_old.ensures.files told)) (c.load.ensures.any_moment told) (subst Q (c.find_marker.ensures.disk told) (c.load_old.ensures.any_moment told))

names_two : (damage_one damage_two : (List ℕ → List ℕ) → Option Damage) (opens_two : (List ℕ → List ℕ) → List (List ℕ) → Type 0) (files : List ℕ → List ℕ) (refused : LoadRefused)
    → MayRefuse (damage_two files) refused → NamesDamage (IsDamaged damage_one damage_two opens_two files) refused
names_two damage_one damage_two opens_two files Store may = tt
names_two damage_one damage_two opens_two files (Damaged damage) may = inl may
names_two damage_one damage_two opens_two files (NoMemory error) may = tt

names_one : {T : Type 0} (damage_one damage_two : (List ℕ → List ℕ) → Option Damage) (opens_two : (List ℕ → List ℕ) → List (List ℕ) → Type 0) (files later : List ℕ → List ℕ)
    (two : List (List ℕ)) (answer : Result T LoadRefused) → damage_two files ≡ None → opens_two files two → has_marker two ≡ false → damage_one later ≡ damage_one files
    → IfErr answer (MayRefuse (damage_one later)) → IfErr answer (NamesDamage (IsDamaged damage_one damage_two opens_two files))
names_one damage_one damage_two opens_two files later two (Ok value) sound opened unmarked same may = tt
names_one damage_one damage_two opens_two files later two (Err Store) sound opened unmarked same may = tt
names_one damage_one damage_two opens_two files later two (Err (Damaged damage)) sound opened unmarked same may = inr (two, sound, opened, unmarked, sym same ∙ may)
names_one damage_one damage_two opens_two files later two (Err (NoMemory error)) sound opened unmarked same may = tt

sound_moved : (damage_one damage_two : (List ℕ → List ℕ) → Option Damage) (opens_two : (List ℕ → List ℕ) → List (List ℕ) → Type 0) (files : List ℕ → List ℕ) (two : List (List ℕ))
    → ((a b : List (List ℕ)) → opens_two files a → opens_two files b → a ≡ b) → damage_two files ≡ None → opens_two files two → has_marker two ≡ true
    → (damage : Damage) → IsDamaged damage_one damage_two opens_two files damage → ⊥
sound_moved damage_one damage_two opens_two files two once sound opened marked damage (inl is) = let e : None ≡ Some damage = sym sound ∙ is in cc
sound_moved damage_one damage_two opens_two files two once sound opened marked damage (inr is) =
    let e : true ≡ false = sym marked ∙ ap has_marker (once two is.0 opened is.2) ∙ is.3 in cc

sound_unmoved : (damage_one damage_two : (List ℕ → List ℕ) → Option Damage) (opens_two : (List ℕ → List ℕ) → List (List ℕ) → Type 0) (files : List ℕ → List ℕ)
    → damage_two files ≡ None → damage_one files ≡ None → (damage : Damage) → IsDamaged damage_one damage_two opens_two files damage → ⊥
sound_unmoved damage_one damage_two opens_two files sound sound_one damage (inl is) = let e : None ≡ Some damage = sym sound ∙ is in cc
sound_unmoved damage_one damage_two opens_two files sound sound_one damage (inr is) = let e : None ≡ Some damage = sym sound_one ∙ is.4 in cc

pub returns-in_err-log-clause-damaged : goal.returns-in_err-log-clause-damaged
returns-in_err-log-clause-damaged g c = let p = err_from_is_err_and c.from_residual.result c.from_residual.ensures.1 in rw (p.1, p.2) (λ told.
    names_two (g.O.Ledger.damage One c.args.one.now) (g.G.Ledger.damage Two c.args.two.now) (g.G.Ledger.opens_as Two c.args.two.now) (reads (g.V.Volume.disk c.args.volume.now)) _
    (c.in_err-log.ensures.damaged told))

pub returns-in-Some-clause-undamaged : goal.returns-in-Some-clause-undamaged
returns-in-Some-clause-undamaged g c = λ told.
    let G = g.G.Ledger in let files = reads (g.V.Volume.disk c.args.volume.now) in
    let list = c.in_ok-log.ensures.list told in
    let at = rw c.in-Some.is at (c.in-Ok.ensures.found told list.0 list.2) in
    sound_moved (g.O.Ledger.damage One c.args.one.now) (G.damage Two c.args.two.now) (G.opens_as Two c.args.two.now) files list.0
    (λ a b. g.met.G.Ledger.opens_once Two c.args.two.now files a b) (c.in_ok-log.ensures.undamaged told) list.1 (marked_at list.0 c.in-Some.marker at)

pub returns-in-None-clause-damaged : goal.returns-in-None-clause-damaged
returns-in-None-clause-damaged g c = λ told.
    let G = g.G.Ledger in let files = reads (g.V.Volume.disk c.args.volume.now) in let mid = reads (g.V.Volume.disk c.find_marker.new.volume) in
    let list = c.in_ok-log.ensures.list told in
    let none : has_marker list.0 ≡ false = rw c.in-None.is at (c.in-Ok.ensures.found told list.0 list.2) in
    let same = g.met.O.Ledger.damaged_by One c.args.one.now mid files (λ file mine. ap (λ (disk : Disk). reads disk file) (c.find_marker.ensures.disk told) ∙ c.load.ensures.reads told file) in
    names_one (g.O.Ledger.damage One c.args.one.now) (G.damage Two c.args.two.now) (G.opens_as Two c.args.two.now) files mid list.0 c.load_old.result
    (c.in_ok-log.ensures.undamaged told) list.1 none same (c.load_old.ensures.damaged told)

pub returns-in-None-clause-undamaged : goal.returns-in-None-clause-undamaged
returns-in-None-clause-undamaged g c = λ told.
    let G = g.G.Ledger in let files = reads (g.V.Volume.disk c.args.volume.now) in let mid = reads (g.V.Volume.disk c.find_marker.new.volume) in
    let same = g.met.O.Ledger.damaged_by One c.args.one.now mid files (λ file mine. ap (λ (disk : Disk). reads disk file) (c.find_marker.ensures.disk told) ∙ c.load.ensures.reads told file) in
    on_ok_weaker c.load_old.result
    (λ sound. sound_unmoved (g.O.Ledger.damage One c.args.one.now) (G.damage Two c.args.two.now) (G.opens_as Two c.args.two.now) files (c.in_ok-log.ensures.undamaged told) (sym same ∙ sound))
    (c.load_old.ensures.undamaged told)

pub returns-in-Some-clause-found : goal.returns-in-Some-clause-found
returns-in-Some-clause-found g c = λ told.
    let G = g.G.Ledger in
    let list = c.in_ok-log.ensures.list told in
    let files = reads (g.V.Volume.disk c.args.volume.now) in
    let new = g.V.Volume.disk c.find_marker.new.volume in
    let at = rw c.in-Some.is at (c.in-Ok.ensures.found told list.0 list.2) in
    let marked = marked_at list.0 c.in-Some.marker at in (
      unmarked list.0,
      G.doubt Two c.args.two.now (reads new),
      record {
        two = list.0;
        opened = list.1;
        is = chan_new (g.O.Ledger.opens_as One c.args.one.now files) list.0 marked;
        doubtful = g.met.G.Ledger.doubted_by Two c.args.two.now (reads new) files (λ file is. ap (λ (disk : Disk). reads disk file) (c.find_marker.ensures.disk told) ∙ c.load.ensures.reads told file)
            ∙ doubt_marked list.0 (G.doubt Two c.args.two.now files) marked;
      },
      record {
        new = list.0;
        holds_new = subst (λ (disk : Disk). G.holds c.in_ok-log.log list.0 disk) (sym (c.find_marker.ensures.disk told)) list.2;
        marked = at;
        held_is = refl;
        suspense_is = refl;
      },
    )

pub returns-in-None-clause-found : goal.returns-in-None-clause-found
returns-in-None-clause-found g c = λ told.
    let G = g.G.Ledger in let O = g.O.Ledger in
    let log = c.in_ok-log.log in
    let list = c.in_ok-log.ensures.list told in
    let named = (c.in_ok-log.ensures.made).0 in
    let files = reads (g.V.Volume.disk c.args.volume.now) in
    let mid = g.V.Volume.disk c.find_marker.new.volume in
    let new = g.V.Volume.disk c.load_old.new.volume in
    let same : (file : List ℕ) → reads mid file ≡ files file = λ file. ap (λ (disk : Disk). reads disk file) (c.find_marker.ensures.disk told) ∙ c.load.ensures.reads told file in
    let none : has_marker list.0 ≡ false = rw c.in-None.is at (c.in-Ok.ensures.found told list.0 list.2) in
    let here = subst (λ (disk : Disk). G.holds log list.0 disk) (sym (c.find_marker.ensures.disk told)) list.2 in
    let opened = subst (λ (n : List ℕ). G.opens_as Two n (reads mid) list.0) (sym named) (g.met.G.Ledger.opened_by Two c.args.two.now files (reads mid) list.0 (λ file is. sym (same file)) list.1) in
    let P : List ℕ → Logs _ _ → Type 0 = λ n slot. IsFoundIn (O.opens_as One c.args.one.now) (G.opens_as Two n) (G.doubt Two n) O.holds G.holds (reads mid) slot new in
    let Q : Logs _ _ → Type 0 = λ slot. IsFoundIn (O.opens_as One c.args.one.now) (G.opens_as Two c.args.two.now) (G.doubt Two c.args.two.now) O.holds G.holds files slot new in
    IfOk-weaker c.load_old.result (P (G.name log)) Q
    (λ slot found. let there = subst (λ (n : List ℕ). P n slot) named found in (
      there.0,
      there.1,
      found_by (O.opens_as One c.args.one.now) (G.opens_as Two c.args.two.now) (G.doubt Two c.args.two.now) (reads mid) files there.0 there.1
          (λ old is. g.met.O.Ledger.opened_by One c.args.one.now (reads mid) files old (λ file mine. same file) is)
          (λ two is. g.met.G.Ledger.opened_by Two c.args.two.now (reads mid) files two (λ file mine. same file) is)
          (g.met.G.Ledger.doubted_by Two c.args.two.now (reads mid) files (λ file mine. same file)) there.2,
      there.3,
    ))
    (c.load_old.ensures.found told list.0 here opened none)

pub returns-in-Some-clause-counted : goal.returns-in-Some-clause-counted
returns-in-Some-clause-counted g c =
    let within : c.in-Some.marker < g.G.Ledger.count c.in_ok-log.log = rw c.in-Some.is at c.in-Ok.ensures.within in
    (g.G.Ledger.count c.in_ok-log.log - 1, omega (arith, within))

-- The loops over a record that make the files of a pick.
use Rattle.std.proofs.Common.{◌≡◌, ◌∙◌, ◌+◌, ◌<◌, ℕ, Bool, true, false, ◌&&◌, ◌||◌, List, [], ◌∷◌, ◌++◌, length, get_or, take, drop, refl, sym, ap, subst, bytes_eq, if◌then◌else◌}
use Rattle.std.specs.List.{list_any}
use Rattle.std.proofs.Math.Bool.{and-true}
use Rattle.std.proofs.lemmas.List.{take_more, drop_more}
use Rattle.std.proofs.lemmas.Slice.Eq.{bytes_eq-Decides}
use Rattle.disk_volume.specs.Disk.{Disk, began, File, at_rest, after, file_at, reads}
use Rattle.disk_volume.specs.Folder.{bytes_in}
use Rattle.disk_volume.specs.Inside.Folder.{ChangesFile}
use Rattle.disk_volume.specs.Lemmas.Names.{same_name}
use Rattle.disk_volume.specs.Pick.{torn}
use Rattle.disk_volume.specs.Lemmas.Replay.{replay-push}
use Rattle.disk_volume.specs.Step.{Step, writes, cuts, syncs, changed, act_of, after_step, replay}
use Rattle.disk_volume.specs.Inside.Step.{filled, is_sync, is_sync_of}
use Rattle.disk_volume.specs.Lemmas.Torn.{torn_none, torn_more}

never : (test : Bool) → (test && false) ≡ false
never true = refl
never false = refl

-- One call further: the files are as G says of what comes later and of the disk so far.
module _ (G : Bool → File → List ℕ → List ℕ) where
  abbrev pub AsFar : List (List ℕ × Step) → Disk → List (List ℕ × List ℕ) → Type 0
  AsFar rest disk files = (name : List ℕ) → bytes_in files name ≡ G (list_any (is_sync_of name) rest) (file_at disk name) name

  one_further : (call : List ℕ × Step) (rest : List (List ℕ × Step)) (disk : Disk) (files new : List (List ℕ × List ℕ)) (bytes : List ℕ) → AsFar (call ∷ rest) disk files
      → ChangesFile call.0 bytes files new → bytes ≡ G (list_any (is_sync_of call.0) rest) (after (act_of call.1 (reads disk call.0)) (file_at disk call.0)) call.0 → AsFar rest (after_step call disk) new
  one_further call rest disk files new bytes so_far changes here name = choose (bytes_eq call.0 name) (bytes_eq-Decides call.0 name).0 (changes name) (so_far name)
    where
      choose : (test : Bool) → (test ≡ true → call.0 ≡ name) → bytes_in new name ≡ (if test then bytes else bytes_in files name)
          → bytes_in files name ≡ G ((is_sync call.1 && test) || list_any (is_sync_of name) rest) (file_at disk name) name
          → bytes_in new name ≡ G (list_any (is_sync_of name) rest) (if test then after (act_of call.1 (reads disk call.0)) (file_at disk name) else file_at disk name) name
      choose true same now before =
          now ∙ subst (λ n. bytes ≡ G (list_any (is_sync_of n) rest) (after (act_of call.1 (reads disk call.0)) (file_at disk n)) n) (same refl) here
      choose false same now before = now ∙ before ∙ ap (λ later. G (later || list_any (is_sync_of name) rest) (file_at disk name) name) (never (is_sync call.1))

-- what is left of the record at a place
at_place : (calls : List (List ℕ × Step)) (place : ℕ) (call : List ℕ × Step) (name : List ℕ) (later : List (List ℕ × Step)) (test : Bool) → place < length calls → call ≡ get_or calls place call
    → name ≡ call.0 → later ≡ drop place calls → list_any (is_sync_of name) later ≡ test → list_any (is_sync_of call.0) (call ∷ drop (place + 1) calls) ≡ test
at_place calls place call name later test within read same all found =
    let rest : later ≡ call ∷ drop (place + 1) calls = all ∙ drop_more calls place call within ∙ ap (λ x. x ∷ drop (place + 1) calls) (sym read) in
    subst (λ n. list_any (is_sync_of n) (call ∷ drop (place + 1) calls) ≡ test) same (subst (λ list. list_any (is_sync_of name) list ≡ test) rest found)

-- the disk one call further
disk_further : (first : Disk) (calls : List (List ℕ × Step)) (place : ℕ) (call : List ℕ × Step) → place < length calls → call ≡ get_or calls place call
    → replay first (take (place + 1) calls) ≡ after_step call (replay first (take place calls))
disk_further first calls place call within read =
    ap (replay first) (take_more calls place call within ∙ ap (λ x. take place calls ++ x ∷ []) (sym read)) ∙ replay-push first (take place calls) call

-- and so over the record
further : (G : Bool → File → List ℕ → List ℕ) (first : Disk) (calls : List (List ℕ × Step)) (place : ℕ) (call : List ℕ × Step) (files new : List (List ℕ × List ℕ)) → place < length calls → call ≡ get_or calls place call
    → (AsFar G (call ∷ drop (place + 1) calls) (replay first (take place calls)) files → AsFar G (drop (place + 1) calls) (after_step call (replay first (take place calls))) new)
    → AsFar G (drop place calls) (replay first (take place calls)) files → AsFar G (drop (place + 1) calls) (replay first (take (place + 1) calls)) new
further G first calls place call files new within read step so_far =
    let rest : drop place calls ≡ call ∷ drop (place + 1) calls = drop_more calls place call within ∙ ap (λ x. x ∷ drop (place + 1) calls) (sym read) in
    subst (λ d. AsFar G (drop (place + 1) calls) d new) (sym (disk_further first calls place call within read)) (step (subst (λ later. AsFar G later (replay first (take place calls)) files) rest so_far))

-- a file that stays as it is
no_change : (name : List ℕ) (files : List (List ℕ × List ℕ)) → ChangesFile name (bytes_in files name) files files
no_change name files other = choose (bytes_eq name other) (bytes_eq-Decides name other).0
  where
    choose : (test : Bool) → (test ≡ true → name ≡ other) → bytes_in files other ≡ (if test then bytes_in files name else bytes_in files other)
    choose true same = ap (bytes_in files) (sym (same refl))
    choose false same = refl

-- the bytes at the last sync so far, or as they read where a later sync puts these on the disk
abbrev pub old_so_far : Bool → File → List ℕ → List ℕ
old_so_far later f name = if later then f.now else f.stood

old_applied : (step : Step) (f : File) (later : Bool) (name : List ℕ) → (is_sync step || later) ≡ true → changed step f.now ≡ old_so_far later (after (act_of step f.now) f) name
old_applied (writes at piece) f true name e = refl
old_applied (writes at piece) f false name e = cc
old_applied (cuts to) f true name e = refl
old_applied (cuts to) f false name e = cc
old_applied syncs f true name e = refl
old_applied syncs f false name e = refl

old_left : (step : Step) (f : File) (later : Bool) (name : List ℕ) → (is_sync step || later) ≡ false → f.stood ≡ old_so_far later (after (act_of step f.now) f) name
old_left (writes at piece) f true name e = cc
old_left (writes at piece) f false name e = refl
old_left (cuts to) f true name e = cc
old_left (cuts to) f false name e = refl
old_left syncs f later name e = cc

-- the files as they stood at the beginning
pub old_start : (first : List (List ℕ × List ℕ)) (calls : List (List ℕ × Step)) → AsFar old_so_far calls (began (bytes_in first)) first
old_start first calls name = choose (list_any (is_sync_of name) calls)
  where
    choose : (later : Bool) → bytes_in first name ≡ old_so_far later (at_rest (bytes_in first name)) name
    choose true = refl
    choose false = refl

-- a call that a later sync puts on the disk is done again
pub old_apply : (first : Disk) (calls : List (List ℕ × Step)) (place : ℕ) (call : List ℕ × Step) (name : List ℕ) (later : List (List ℕ × Step)) (files new : List (List ℕ × List ℕ)) → place < length calls → call ≡ get_or calls place call
    → name ≡ call.0 → later ≡ drop place calls → list_any (is_sync_of name) later ≡ true → ChangesFile call.0 (changed call.1 (bytes_in files call.0)) files new
    → AsFar old_so_far (drop place calls) (replay first (take place calls)) files → AsFar old_so_far (drop (place + 1) calls) (replay first (take (place + 1) calls)) new
old_apply first calls place call name later files new within read same all found changes = further old_so_far first calls place call files new within read
    (λ so_far.
    let disk = replay first (take place calls) in
    let synced : list_any (is_sync_of call.0) (call ∷ drop (place + 1) calls) ≡ true = at_place calls place call name later true within read same all found in
    let test : (is_sync call.1 || list_any (is_sync_of call.0) (drop (place + 1) calls)) ≡ true = rw (same_name call.0, and-true (is_sync call.1)) at synced in
    let reading : bytes_in files call.0 ≡ reads disk call.0 = rw synced at (so_far call.0) in
    one_further old_so_far call (drop (place + 1) calls) disk files new (changed call.1 (bytes_in files call.0)) so_far changes
    (rw reading (old_applied call.1 (file_at disk call.0) (list_any (is_sync_of call.0) (drop (place + 1) calls)) call.0 test)))

-- and another is not
pub old_skip : (first : Disk) (calls : List (List ℕ × Step)) (place : ℕ) (call : List ℕ × Step) (name : List ℕ) (later : List (List ℕ × Step)) (files : List (List ℕ × List ℕ)) → place < length calls → call ≡ get_or calls place call
    → name ≡ call.0 → later ≡ drop place calls → list_any (is_sync_of name) later ≡ false
    → AsFar old_so_far (drop place calls) (replay first (take place calls)) files → AsFar old_so_far (drop (place + 1) calls) (replay first (take (place + 1) calls)) files
old_skip first calls place call name later files within read same all found = further old_so_far first calls place call files files within read
    (λ so_far.
    let disk = replay first (take place calls) in
    let pending : list_any (is_sync_of call.0) (call ∷ drop (place + 1) calls) ≡ false = at_place calls place call name later false within read same all found in
    let test : (is_sync call.1 || list_any (is_sync_of call.0) (drop (place + 1) calls)) ≡ false = rw (same_name call.0, and-true (is_sync call.1)) at pending in
    let standing : bytes_in files call.0 ≡ (file_at disk call.0).stood = rw pending at (so_far call.0) in
    one_further old_so_far call (drop (place + 1) calls) disk files files (bytes_in files call.0) so_far (no_change call.0 files)
    (rw standing (old_left call.1 (file_at disk call.0) (list_any (is_sync_of call.0) (drop (place + 1) calls)) call.0 test)))

-- the bytes as they read at last, with the ranges torn that are pending so far and that no later sync puts on the disk
abbrev pub torn_so_far : ℕ → (List ℕ → List ℕ) → Bool → File → List ℕ → List ℕ
torn_so_far byte now later f name = torn (if later then [] else f.written) byte (now name)

torn_filled : (byte : ℕ) (bytes : List ℕ) (step : Step) (f : File) (later : Bool) → (is_sync step || later) ≡ false
    → filled step byte (torn f.written byte bytes) ≡ torn (if later then [] else (after (act_of step f.now) f).written) byte bytes
torn_filled byte bytes (writes at piece) f true e = cc
torn_filled byte bytes (writes at piece) f false e = torn_more (at, at + length piece) f.written byte bytes
torn_filled byte bytes (cuts to) f true e = cc
torn_filled byte bytes (cuts to) f false e = refl
torn_filled byte bytes syncs f later e = cc

torn_left : (byte : ℕ) (bytes : List ℕ) (step : Step) (f : File) (later : Bool) → (is_sync step || later) ≡ true
    → torn [] byte bytes ≡ torn (if later then [] else (after (act_of step f.now) f).written) byte bytes
torn_left byte bytes (writes at piece) f true e = refl
torn_left byte bytes (writes at piece) f false e = cc
torn_left byte bytes (cuts to) f true e = refl
torn_left byte bytes (cuts to) f false e = cc
torn_left byte bytes syncs f true e = refl
torn_left byte bytes syncs f false e = refl

-- the files as they read, before the first call
pub torn_start : (byte : ℕ) (first files : List (List ℕ × List ℕ)) (calls : List (List ℕ × Step)) → AsFar (torn_so_far byte (bytes_in files)) calls (began (bytes_in first)) files
torn_start byte first files calls name = choose (list_any (is_sync_of name) calls)
  where
    choose : (later : Bool) → bytes_in files name ≡ torn_so_far byte (bytes_in files) later (at_rest (bytes_in first name)) name
    choose true = torn_none byte (bytes_in files name)
    choose false = torn_none byte (bytes_in files name)

-- the range of a call that no later sync puts on the disk is torn
pub torn_tear : (byte : ℕ) (now : List ℕ → List ℕ) (first : Disk) (calls : List (List ℕ × Step)) (place : ℕ) (call : List ℕ × Step) (name : List ℕ) (later : List (List ℕ × Step)) (files new : List (List ℕ × List ℕ))
    → place < length calls → call ≡ get_or calls place call → name ≡ call.0 → later ≡ drop place calls → list_any (is_sync_of name) later ≡ false → ChangesFile call.0 (filled call.1 byte (bytes_in files call.0)) files new
    → AsFar (torn_so_far byte now) (drop place calls) (replay first (take place calls)) files → AsFar (torn_so_far byte now) (drop (place + 1) calls) (replay first (take (place + 1) calls)) new
torn_tear byte now first calls place call name later files new within read same all found changes = further (torn_so_far byte now) first calls place call files new within read
    (λ so_far.
    let disk = replay first (take place calls) in
    let pending : list_any (is_sync_of call.0) (call ∷ drop (place + 1) calls) ≡ false = at_place calls place call name later false within read same all found in
    let test : (is_sync call.1 || list_any (is_sync_of call.0) (drop (place + 1) calls)) ≡ false = rw (same_name call.0, and-true (is_sync call.1)) at pending in
    let so : bytes_in files call.0 ≡ torn (file_at disk call.0).written byte (now call.0) = rw pending at (so_far call.0) in
    one_further (torn_so_far byte now) call (drop (place + 1) calls) disk files new (filled call.1 byte (bytes_in files call.0)) so_far changes
    (rw so (torn_filled byte (now call.0) call.1 (file_at disk call.0) (list_any (is_sync_of call.0) (drop (place + 1) calls)) test)))

-- and that of another is not
pub torn_skip : (byte : ℕ) (now : List ℕ → List ℕ) (first : Disk) (calls : List (List ℕ × Step)) (place : ℕ) (call : List ℕ × Step) (name : List ℕ) (later : List (List ℕ × Step)) (files : List (List ℕ × List ℕ))
    → place < length calls → call ≡ get_or calls place call → name ≡ call.0 → later ≡ drop place calls → list_any (is_sync_of name) later ≡ true
    → AsFar (torn_so_far byte now) (drop place calls) (replay first (take place calls)) files → AsFar (torn_so_far byte now) (drop (place + 1) calls) (replay first (take (place + 1) calls)) files
torn_skip byte now first calls place call name later files within read same all found = further (torn_so_far byte now) first calls place call files files within read
    (λ so_far.
    let disk = replay first (take place calls) in
    let synced : list_any (is_sync_of call.0) (call ∷ drop (place + 1) calls) ≡ true = at_place calls place call name later true within read same all found in
    let test : (is_sync call.1 || list_any (is_sync_of call.0) (drop (place + 1) calls)) ≡ true = rw (same_name call.0, and-true (is_sync call.1)) at synced in
    let so : bytes_in files call.0 ≡ torn [] byte (now call.0) = rw synced at (so_far call.0) in
    one_further (torn_so_far byte now) call (drop (place + 1) calls) disk files files (bytes_in files call.0) so_far (no_change call.0 files)
    (rw so (torn_left byte (now call.0) call.1 (file_at disk call.0) (list_any (is_sync_of call.0) (drop (place + 1) calls)) test)))

-- a file one call on it further
pub file_on : (first : Disk) (calls : List (List ℕ × Step)) (place : ℕ) (call : List ℕ × Step) (name : List ℕ) → place < length calls → call ≡ get_or calls place call → bytes_eq call.0 name ≡ true
    → file_at (replay first (take (place + 1) calls)) name ≡ after (act_of call.1 (reads (replay first (take place calls)) name)) (file_at (replay first (take place calls)) name)
file_on first calls place call name within read here =
    let disk = replay first (take place calls) in
    let same : call.0 ≡ name = (bytes_eq-Decides call.0 name).0 here in
    ap (λ d. file_at d name) (disk_further first calls place call within read)
    ∙ rw here (ap (λ n. after (act_of call.1 (reads disk n)) (file_at disk name)) same)

-- and one call on another file further
pub file_off : (first : Disk) (calls : List (List ℕ × Step)) (place : ℕ) (call : List ℕ × Step) (name : List ℕ) → place < length calls → call ≡ get_or calls place call → bytes_eq call.0 name ≡ false
    → file_at (replay first (take (place + 1) calls)) name ≡ file_at (replay first (take place calls)) name
file_off first calls place call name within read elsewhere =
    ap (λ d. file_at d name) (disk_further first calls place call within read) ∙ rw elsewhere refl

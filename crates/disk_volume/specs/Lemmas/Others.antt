-- Lemmas: what acts on some files, and syncs of them, leave of a disk.
use Rattle.std.proofs.Common.{◌≡◌, ◌∙◌, Bool, true, false, List, ℕ, inl, inr, refl, sym, ap, subst, bytes_eq, if◌then◌else◌}
use Rattle.std.proofs.lemmas.Slice.Eq.{bytes_eq-Decides}
use Rattle.disk_volume.specs.Disk.{Act, Disk, did, File, at_rest, after, synced, file_at, reads, MayLeave, IsImage, AtRest}
use Rattle.disk_volume.specs.Moments.{Grew, still, more, OnlySyncs, JustSyncs, no_sync, one_sync, LeftBefore, EachSince}
use Rattle.disk_volume.specs.Lemmas.Since.{now_alone}

-- some of these acts was on this file
abbrev acted : {own : List ℕ → Type 0} {old : Disk} {new : Disk} → Grew own old new → List ℕ → Bool
acted still name = false
acted (more {act = act} {name = file} {new = mid} mine grew) name = if bytes_eq file name then true else acted grew name

-- a file on which none was is as it was
one_untouched : (act : Act) (mid : File) (here : Bool) (rest : Bool) → (if here then true else rest) ≡ false → ((if here then after act mid else mid) ≡ mid) × (rest ≡ false)
one_untouched act mid true rest e = cc
one_untouched act mid false rest e = (refl, e)

untouched : {own : List ℕ → Type 0} {old : Disk} (new : Disk) (grew : Grew own old new) (name : List ℕ) → acted grew name ≡ false → file_at new name ≡ file_at old name
untouched new still name e = refl
untouched {own} {old} new (more {act = act} {name = file} {new = mid} mine grew) name e =
    let parts = one_untouched act (file_at mid name) (bytes_eq file name) (acted grew name) e in
    parts.0 ∙ untouched mid grew name parts.1

-- and a file on which one was is one of those
one_acted : (own : List ℕ → Type 0) (file name : List ℕ) (here : Bool) (rest : Bool) → (here ≡ true → file ≡ name) → own file → (rest ≡ true → own name) → (if here then true else rest) ≡ true → own name
one_acted own file name true rest same mine others e = subst own (same refl) mine
one_acted own file name false rest same mine others e = others e

acted_own : {own : List ℕ → Type 0} {old : Disk} (new : Disk) (grew : Grew own old new) (name : List ℕ) → acted grew name ≡ true → own name
acted_own new still name e = cc
acted_own {own} {old} new (more {act = act} {name = file} {new = mid} mine grew) name e =
    one_acted own file name (bytes_eq file name) (acted grew name) (bytes_eq-Decides file name).0 mine (acted_own mid grew name) e

-- an image now, with the files that were acted on as they read before
one_left : (old new : File) (was now : List ℕ) (touched : Bool) → MayLeave old was → MayLeave new now → (touched ≡ false → new ≡ old) → MayLeave old (if touched then was else now)
one_left old new was now true read left same = read
one_left old new was now false read left same = subst (λ f. MayLeave f now) (same refl) left

one_other : (was now : List ℕ) (touched : Bool) → (touched ≡ true → ⊥) → (if touched then was else now) ≡ now
one_other was now true other = absurd (other refl)
one_other was now false other = refl

now_leaves : {own : List ℕ → Type 0} {old : Disk} (new : Disk) → IsImage old (reads old) → Grew own old new → (image : List ℕ → List ℕ) → IsImage new image → LeftBefore own old image
now_leaves {own} {old} new read grew image now = record {
  earlier = λ name. if acted grew name then reads old name else image name;
  is = λ name. one_left (file_at old name) (file_at new name) (reads old name) (image name) (acted grew name) (read name) (now name) (untouched new grew name);
  others = λ name other. one_other (reads old name) (image name) (acted grew name) (λ e. other (acted_own new grew name e));
}

-- a crash since acts on some files began leaves of all others what one crash before may have left
pub others_leave : {own : List ℕ → Type 0} {old : Disk} (new : Disk) → IsImage old (reads old) → Grew own old new → EachSince old new (LeftBefore own old)
others_leave {own} {old} new read still image left = record { earlier = image; is = now_alone old image left; others = λ name other. refl }
others_leave {own} {old} new read (more {act = act} {name = file} {new = mid} mine grew) image (inl now) =
    now_leaves (did act file mid) read (more mine grew) image now
others_leave {own} {old} new read (more {act = act} {name = file} {new = mid} mine grew) image (inr earlier) = others_leave mid read grew image earlier.1

-- syncs are acts
pub syncs_grew : {own : List ℕ → Type 0} {old : Disk} (new : Disk) → OnlySyncs own old new → Grew own old new
syncs_grew new no_sync = still
syncs_grew new (one_sync {name = file} {new = mid} mine syncs) = more mine (syncs_grew mid syncs)

one_rests : (old mid : File) (here : Bool) → mid ≡ old → old ≡ at_rest old.now → (if here then after synced mid else mid) ≡ old
one_rests old mid true same rests = ap (λ (f : File). at_rest f.now) same ∙ sym rests
one_rests old mid false same rests = same

-- and they leave a file at rest as it was
pub syncs_rest : {own : List ℕ → Type 0} {old : Disk} (new : Disk) (name : List ℕ) → OnlySyncs own old new → AtRest old name → file_at new name ≡ file_at old name
syncs_rest new name no_sync rests = refl
syncs_rest {own} {old} new name (one_sync {name = file} {new = mid} mine syncs) rests =
    one_rests (file_at old name) (file_at mid name) (bytes_eq file name) (syncs_rest mid name syncs rests) rests

-- syncs of these files are syncs
pub syncs_any : {own : List ℕ → Type 0} {old : Disk} (new : Disk) → OnlySyncs own old new → JustSyncs old new
syncs_any new no_sync = no_sync
syncs_any new (one_sync {name = file} {new = mid} mine syncs) = one_sync (tt {0}) (syncs_any mid syncs)

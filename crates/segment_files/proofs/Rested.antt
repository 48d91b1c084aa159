-- Files on which nothing is pending, and what follows from the segments to which a load comes.
use Rattle.std.proofs.Common.{◌≡◌, ◌∙◌, inl, inr, ℕ, zero, suc, ◌<◌, Bool, true, false, List, Option, Some, None, bytes_eq, if◌then◌else◌, refl, sym, ap, subst}
use Rattle.std.proofs.lemmas.Bool.{cases_Bool}
use Rattle.disk_volume.specs.Disk.{Disk, File, did, synced, after, file_at, at_rest, reads, IsImage, AtRest}
use Rattle.disk_volume.specs.Moments.{EachNow, OnlySyncs, no_sync, one_sync, JustSyncs}
use Rattle.log_format.specs.declared.damage.Damage.{Damage}
use Rattle.log_format.specs.declared.form.Form.{Form}
use Rattle.log_format.specs.Damages.{damage_of}
use Rattle.log_format.specs.File.{opens, doubt_of}
use Rattle.log_format.specs.Form.{magic_of}
use Rattle.gated_log.specs.Lemmas.Laws.{rest_alone, rests_synced as file_rests_synced}
use Rattle.segment_files.specs.Damages.{or_damage, own_damage, lists_from, list_of, segment_damage, joint_damage, damage_joined}
use Rattle.segment_files.specs.Doubt.{last_filled, most_segments, doubt_joined}
use Rattle.segment_files.specs.Joined.{segment_opens, has_payloads, IsReached, opens_joined}
use Rattle.segment_files.specs.Names.{segment_name, IsSegmentOf}
use Rattle.segment_files.specs.Rests.{rests_joined}
use Rattle.segment_files.proofs.Joined.{Agree, reached_first, reached_next, joins_same}

-- a load comes to the last segment that is not empty
last_reached : (opened : ℕ → Option (List (List ℕ))) (most k before : ℕ) → IsReached opened k → IsReached opened before → IsReached opened (last_filled opened most k before)
last_reached opened zero k before reached front = front
last_reached opened (suc most) k before reached front = elim (cases_Bool (has_payloads (opened k))) [
  | inl some ↦ rw some (last_reached opened most (suc k) k (reached_next opened k reached some) reached)
  | inr none ↦ rw none front
]

last_same : (opened other : ℕ → Option (List (List ℕ))) (most k before : ℕ) → Agree opened other → IsReached opened k → last_filled other most k before ≡ last_filled opened most k before
last_same opened other zero k before agree reached = refl
last_same opened other (suc most) k before agree reached = elim (cases_Bool (has_payloads (opened k))) [
  | inl some ↦
      let there : has_payloads (other k) ≡ true = ap has_payloads (agree k reached) ∙ some in
      rw (some, there) (last_same opened other most (suc k) k agree (reached_next opened k reached some))
  | inr none ↦
      let there : has_payloads (other k) ≡ false = ap has_payloads (agree k reached) ∙ none in
      rw (none, there) refl
]

own_same : (opened other : ℕ → Option (List (List ℕ))) (damaged damaged' : ℕ → Option Damage) (most k : ℕ) → Agree opened other
    → ((j : ℕ) → IsReached opened j → damaged' j ≡ damaged j) → IsReached opened k → own_damage other damaged' most k ≡ own_damage opened damaged most k
own_same opened other damaged damaged' zero k agree same reached = refl
own_same opened other damaged damaged' (suc most) k agree same reached = elim (cases_Bool (has_payloads (opened k))) [
  | inl some ↦
      let there : has_payloads (other k) ≡ true = ap has_payloads (agree k reached) ∙ some in
      let behind = own_same opened other damaged damaged' most (suc k) agree same (reached_next opened k reached some) in
      rw (some, there, same k reached, behind) refl
  | inr none ↦
      let there : has_payloads (other k) ≡ false = ap has_payloads (agree k reached) ∙ none in
      rw (none, there, same k reached) refl
]

lists_same : (opened other : ℕ → Option (List (List ℕ))) (most k : ℕ) → Agree opened other → IsReached opened k → lists_from other most k ≡ lists_from opened most k
lists_same opened other zero k agree reached = refl
lists_same opened other (suc most) k agree reached = elim (cases_Bool (has_payloads (opened k))) [
  | inl some ↦
      let there : has_payloads (other k) ≡ true = ap has_payloads (agree k reached) ∙ some in
      let behind = lists_same opened other most (suc k) agree (reached_next opened k reached some) in
      rw (some, there, agree k reached, behind) refl
  | inr none ↦
      let there : has_payloads (other k) ≡ false = ap has_payloads (agree k reached) ∙ none in
      rw (none, there) refl
]

-- files that agree on the segments to which a load of the first comes
abbrev pub AgreeFiles : Form → (name : List ℕ) → (one other : List ℕ → List ℕ) → Type 0
AgreeFiles form name one other = (k : ℕ) → IsReached (segment_opens form name one) k → other (segment_name name k) ≡ one (segment_name name k)

agree_opens : (form : Form) (name : List ℕ) (one other : List ℕ → List ℕ) → AgreeFiles form name one other → Agree (segment_opens form name one) (segment_opens form name other)
agree_opens form name one other agree k reached = ap (opens (magic_of form)) (agree k reached)

pub opened_same : (form : Form) (name : List ℕ) (one other : List ℕ → List ℕ) (payloads : List (List ℕ)) → AgreeFiles form name one other
    → opens_joined form name one payloads → opens_joined form name other payloads
opened_same form name one other payloads agree = joins_same (segment_opens form name one) (segment_opens form name other) payloads (agree_opens form name one other agree)

pub doubt_same : (form : Form) (name : List ℕ) (one other : List ℕ → List ℕ) → AgreeFiles form name one other → doubt_joined form name other ≡ doubt_joined form name one
doubt_same form name one other agree =
    let opened = segment_opens form name one in
    let opened' = segment_opens form name other in
    let first = reached_first opened in
    let last = last_filled opened (most_segments form) 0 0 in
    ap (λ n. doubt_of (other (segment_name name n))) (last_same opened opened' (most_segments form) 0 0 (agree_opens form name one other agree) first)
    ∙ ap doubt_of (agree last (last_reached opened (most_segments form) 0 0 first first))

pub damage_same : (form : Form) (name : List ℕ) (one other : List ℕ → List ℕ) → AgreeFiles form name one other → damage_joined form name other ≡ damage_joined form name one
damage_same form name one other agree =
    let opened = segment_opens form name one in
    let opened' = segment_opens form name other in
    let first = reached_first opened in
    let agrees = agree_opens form name one other agree in
    let own = own_same opened opened' (segment_damage form name one) (segment_damage form name other) (most_segments form) 0 agrees
    (λ k reached. ap (damage_of form) (agree k reached)) first in
    let lists = lists_same opened opened' (most_segments form) 0 agrees first in
    ap (λ d. or_damage d (joint_damage form (lists_from opened' (most_segments form) 0))) own
    ∙ ap (λ l. or_damage (own_damage opened (segment_damage form name one) (most_segments form) 0) (joint_damage form l)) lists

-- files that are the same on each segment
pub all_agree : (form : Form) (name : List ℕ) (one other : List ℕ → List ℕ) → ((file : List ℕ) → IsSegmentOf name file → one file ≡ other file) → AgreeFiles form name one other
all_agree form name one other same k reached = sym (same (segment_name name k) (k, refl))

-- a crash leaves files that agree with what a read gives
pub rest_agree : (form : Form) (name : List ℕ) (disk : Disk) → rests_joined form name disk → EachNow disk (λ image. AgreeFiles form name (reads disk) image)
rest_agree form name disk rests image left k reached = rest_alone (segment_name name k) disk image (rests k reached) left

-- what was reached before
still_reached : (form : Form) (name : List ℕ) (old new : List ℕ → List ℕ) (k : ℕ) → ((j : ℕ) → new (segment_name name j) ≡ old (segment_name name j))
    → IsReached (segment_opens form name new) k → IsReached (segment_opens form name old) k
still_reached form name old new k same reached j below = ap (λ (bytes : List ℕ). has_payloads (opens (magic_of form) bytes)) (sym (same j)) ∙ reached j below

-- syncs change nothing that a read gives
one_sync_reads : (f : File) (here : Bool) → (if here then after synced f else f).now ≡ f.now
one_sync_reads f true = refl
one_sync_reads f false = refl

syncs_read : {own : List ℕ → Type 0} {old : Disk} (new : Disk) (file : List ℕ) → OnlySyncs own old new → reads new file ≡ reads old file
syncs_read new file no_sync = refl
syncs_read {own} {old} new file (one_sync {name = name} {new = mid} mine syncs) = one_sync_reads (file_at mid file) (bytes_eq name file) ∙ syncs_read mid file syncs

pub rests_synced : (form : Form) (name : List ℕ) (old new : Disk) → rests_joined form name old → JustSyncs old new → rests_joined form name new
rests_synced form name old new rests syncs k reached =
    let before = still_reached form name (reads old) (reads new) k (λ j. syncs_read new (segment_name name j) syncs) reached in
    file_rests_synced (segment_name name k) old new (rests k before) syncs

-- How a run of `log` ends.
use Rattle.std.proofs.Common.{◌≡◌, ◌≢◌, ◌∙◌, inl, inr, ◌⊎◌, ℕ, List, [], ◌++◌, Option, refl, sym, subst}
use Rattle.std.proofs.KnownBytes.{Appends-nil, Appends-trans}
use Rattle.std.specs.Io.{StartsWith}
use Rattle.std.specs.Io.KnownBytes.{Appends}
use Rattle.log_format.specs.declared.damage.Damage.{Damage}
use Rattle.pad_log.specs.Lines.{log_text}
use Rattle.pad_log.specs.Log.{IsLogPart}
use Rattle.pad_log.proofs.CallerLemmas.{part_behind, whole_front, part_weaker}
use Rattle.pad_output.specs.Output.{AppendsSome}
use Rattle.pad_top.specs.declared.status.Status.{Status}
use Rattle.pad_top.specs.declared.status.Status.TheVariants as status
use Rattle.pad_top.specs.Inside.Ending.{IsEnd}
use Rattle.pad_top.specs.Log.{IsChannelDamage, IsPartOfLog, LogEnds, LogIsCutShort}
use Rattle.pad_top.specs.Status.{status_line}

-- nothing was written
pub nothing_written : (channel : List ℕ) (told : Type 0) (files : List ℕ → List ℕ) (old : Option (List ℕ)) → AppendsSome (IsPartOfLog channel told files) old old
nothing_written channel told files old = ([], inl refl, Appends-nil old)

-- what was written of the log of files is a part of that of files that are the same where they are told
pub front_written : {S : Type 0} (written : S → Option (List ℕ)) (channel : List ℕ) (told : Type 0) (is_it is_also : List (List ℕ) → Type 0) (old new : S)
    → (told → (list : List (List ℕ)) → is_it list → is_also list)
    → (new ≡ old) ⊎ AppendsSome (IsLogPart told (λ part. (list : List (List ℕ)) × is_it list × StartsWith (log_text list) part)) (written old) (written new)
    → AppendsSome (λ part. (part ≡ []) ⊎ IsLogPart told (λ part. (list : List (List ℕ)) × is_also list × StartsWith (log_text list) part) part) (written old) (written new)
front_written written channel told is_it is_also old new follows (inl same) = ([], inl refl, subst (λ it. Appends (written old) (written it) []) (sym same) (Appends-nil (written old)))
front_written written channel told is_it is_also old new follows (inr some) =
    let part = part_weaker told (λ part. (list : List (List ℕ)) × is_it list × StartsWith (log_text list) part) (λ part. (list : List (List ℕ)) × is_also list × StartsWith (log_text list) part)
    (written old) (written new) (λ is part from_list. (from_list.0, follows is from_list.0 from_list.1, from_list.2)) some in
    (part.0, inr part.1, part.2)

-- a log of which a write failed
pub log_cut : (channel : List ℕ) (told : Type 0) (files : List ℕ → List ℕ) (store_failed : Type 0) (old new : Option (List ℕ))
    → AppendsSome (IsPartOfLog channel told files) old new → LogIsCutShort channel told files store_failed old new
log_cut channel told files store_failed old new front = (status.NoMemory, (front.0, front.1, (front.0, whole_front front.0, front.2)))

-- a log that a call of the volume ended, with its line behind what was written
pub store_ends : (channel : List ℕ) (told : Type 0) (files : List ℕ → List ℕ) (store_failed : Type 0) (old mid new : Option (List ℕ)) (write_failed : Type 0) (result : Status)
    → store_failed → AppendsSome (IsPartOfLog channel told files) old mid → IsEnd mid new write_failed (status_line status.StoreFault) status.StoreFault result
    → result ≢ status.WriteFault → AppendsSome (LogEnds channel told files store_failed result) old new
store_ends channel told files store_failed old mid new write_failed result failed front (inl whole) other =
    subst (λ s. AppendsSome (LogEnds channel told files store_failed s) old new) (sym whole.0)
    (front.0 ++ status_line status.StoreFault, (failed, (front.0, front.1, refl)), Appends-trans old mid new front.0 (status_line status.StoreFault) front.2 whole.1)
store_ends channel told files store_failed old mid new write_failed result failed front (inr part) other = absurd (other part.0)

pub store_cut : (channel : List ℕ) (told : Type 0) (files : List ℕ → List ℕ) (store_failed : Type 0) (old mid new : Option (List ℕ)) (write_failed : Type 0) (result : Status)
    → store_failed → AppendsSome (IsPartOfLog channel told files) old mid → IsEnd mid new write_failed (status_line status.StoreFault) status.StoreFault result
    → result ≡ status.WriteFault → LogIsCutShort channel told files store_failed old new
store_cut channel told files store_failed old mid new write_failed result failed front (inl whole) cut =
    let no : status.StoreFault ≡ status.WriteFault = sym whole.0 ∙ cut in absurd (cc)
store_cut channel told files store_failed old mid new write_failed result failed front (inr part) cut =
    (status.StoreFault, (front.0 ++ status_line status.StoreFault, (failed, (front.0, front.1, refl)), part_behind old mid new front.0 (status_line status.StoreFault) front.2 part.2))

-- of a channel that is damaged nothing was written
none_written : (channel : List ℕ) (told : Type 0) (files : List ℕ → List ℕ) (part : List ℕ) (damage : Damage)
    → (told → IsChannelDamage channel files damage) → IsPartOfLog channel told files part → told → (part ≡ []) × ((damage : Damage) × IsChannelDamage channel files damage)
none_written channel told files part damage has (inl none) is = (none, (damage, has is))
none_written channel told files part damage has (inr some) is = let from_list = some.1 is in absurd (from_list.1.1 damage (has is))

-- a log that a damage ended, with its line behind what was written
pub damage_ends : (channel : List ℕ) (told : Type 0) (files : List ℕ → List ℕ) (store_failed : Type 0) (old mid new : Option (List ℕ)) (write_failed : Type 0) (result : Status) (damage : Damage)
    → (told → IsChannelDamage channel files damage) → AppendsSome (IsPartOfLog channel told files) old mid
    → IsEnd mid new write_failed (status_line status.Damaged) status.Damaged result
    → result ≢ status.WriteFault → AppendsSome (LogEnds channel told files store_failed result) old new
damage_ends channel told files store_failed old mid new write_failed result damage has front (inl whole) other =
    subst (λ s. AppendsSome (LogEnds channel told files store_failed s) old new) (sym whole.0) (
      front.0 ++ status_line status.Damaged,
      (front.0, front.1, none_written channel told files front.0 damage has front.1, refl),
      Appends-trans old mid new front.0 (status_line status.Damaged) front.2 whole.1,
    )
damage_ends channel told files store_failed old mid new write_failed result damage has front (inr part) other = absurd (other part.0)

pub damage_cut : (channel : List ℕ) (told : Type 0) (files : List ℕ → List ℕ) (store_failed : Type 0) (old mid new : Option (List ℕ)) (write_failed : Type 0) (result : Status) (damage : Damage)
    → (told → IsChannelDamage channel files damage) → AppendsSome (IsPartOfLog channel told files) old mid
    → IsEnd mid new write_failed (status_line status.Damaged) status.Damaged result
    → result ≡ status.WriteFault → LogIsCutShort channel told files store_failed old new
damage_cut channel told files store_failed old mid new write_failed result damage has front (inl whole) cut =
    let no : status.Damaged ≡ status.WriteFault = sym whole.0 ∙ cut in absurd (cc)
damage_cut channel told files store_failed old mid new write_failed result damage has front (inr part) cut = (
  status.Damaged,
  (
    front.0 ++ status_line status.Damaged,
    (front.0, front.1, none_written channel told files front.0 damage has front.1, refl),
    part_behind old mid new front.0 (status_line status.Damaged) front.2 part.2,
  ),
)

-- a log without a failed write that a damage ended
pub damage_told : (damaged : Type 0) (old new : Option (List ℕ)) (write_failed : Type 0) (text : List ℕ) (result : Status) → damaged → (write_failed → ⊥)
    → IsEnd old new write_failed text status.Damaged result → (result ≡ status.Ok) ⊎ ((result ≡ status.NoMemory) ⊎ ((result ≡ status.Damaged) × damaged))
damage_told damaged old new write_failed text result is none (inl whole) = inr (inr (whole.0, is))
damage_told damaged old new write_failed text result is none (inr part) = absurd (none part.1)

-- The disk of a record: as it reads, and as a stop leaves it, it is one of its images.
use Rattle.std.proofs.Common.{◌≡◌, ◌∙◌, ◌+◌, ◌<◌, ◌≤◌, ◌⊎◌, ℕ, Bool, true, false, List, [], ◌∷◌, length, get_or, max, refl, sym, subst, inl, inr, arith, length-take, bytes_eq, if◌then◌else◌}
use Rattle.std.proofs.lemmas.Grind.{common_steps}
use Rattle.std.proofs.lemmas.Slice.Eq.{bytes_eq-Decides}
use Rattle.disk_volume.specs.Disk.{Disk, began, File, at_rest, after, file_at, reads, put, MayLeave, IsImage}
use Rattle.disk_volume.specs.Pick.{left}
use Rattle.disk_volume.specs.Step.{Step, writes, cuts, syncs, act_of, after_step, replay}
use Rattle.disk_volume.specs.Stop.{left_by}
use Rattle.disk_volume.specs.Lemmas.Torn.{length-torn, torn-outside}
use Rattle.disk_volume.specs.declared.pick.Pick.{Pick}
use Rattle.disk_volume.specs.declared.pick.Pick.TheVariants.{Old, New, Torn}
use Rattle.disk_volume.specs.declared.stop.Stop.{Stop}
use Rattle.disk_volume.specs.declared.stop.Stop.TheVariants.{Unset, Set, Past}

-- a crash may leave a file as it reads, and as it stood
record Sound (f : File) : Type 0 where
  as_it_reads : MayLeave f f.now
  as_it_stood : MayLeave f f.stood

rest_sound : (bytes : List ℕ) → Sound (at_rest bytes)
rest_sound bytes = let same : MayLeave (at_rest bytes) bytes = record { no_shorter = omega arith; no_longer = omega arith; kept = λ place within fixed out. refl } in record { as_it_reads = same; as_it_stood = same }

length-put_low : (old : List ℕ) (at : ℕ) (piece : List ℕ) → length old ≤ length (put old at piece)
length-put_low old at piece = grind (arith, common_steps)

length-put_high : (old : List ℕ) (at : ℕ) (piece : List ℕ) → length (put old at piece) ≤ max (length old) (at + length piece)
length-put_high old at piece = grind (arith, common_steps)

get_or-put_elsewhere : (old : List ℕ) (at : ℕ) (piece : List ℕ) (place : ℕ) → place < length old → (place < at) ⊎ (at + length piece ≤ place) → get_or (put old at piece) place 0 ≡ get_or old place 0
get_or-put_elsewhere old at piece place within (inl low) = grind (arith, common_steps)
get_or-put_elsewhere old at piece place within (inr high) = grind (arith, common_steps)

step_sound : (step : Step) (f : File) → Sound f → Sound (after (act_of step f.now) f)
step_sound (writes at piece) f sound = record {
  as_it_reads = record {
    no_shorter = omega (arith, sound.as_it_reads.no_shorter, length-put_low f.now at piece);
    no_longer = omega (arith, sound.as_it_reads.no_longer, length-put_high f.now at piece);
    kept = λ place within fixed out. let old : place < length f.now = omega (arith, sound.as_it_reads.no_shorter) in
        get_or-put_elsewhere f.now at piece place old out.0 ∙ sound.as_it_reads.kept place old (omega arith) out.1;
  };
  as_it_stood = record { no_shorter = sound.as_it_stood.no_shorter; no_longer = omega (arith, sound.as_it_stood.no_longer); kept = λ place within fixed out. refl };
}
step_sound (cuts to) f sound = record {
  as_it_reads = record {
    no_shorter = omega (arith, sound.as_it_reads.no_shorter, length-take to f.now);
    no_longer = omega (arith, sound.as_it_reads.no_longer, length-take to f.now);
    kept = λ place within fixed out. let front : place < to = omega (arith, length-take to f.now) in
        let old : place < length f.now = omega (arith, length-take to f.now) in
        (grind (arith, common_steps)) ∙ sound.as_it_reads.kept place old fixed out;
  };
  as_it_stood = record { no_shorter = omega (arith, sound.as_it_stood.no_shorter); no_longer = sound.as_it_stood.no_longer; kept = λ place within fixed out. refl };
}
step_sound syncs f sound = rest_sound f.now

call_sound : (step : Step) (disk : Disk) (file name : List ℕ) (here : Bool) → (here ≡ true → file ≡ name) → Sound (file_at disk name) → Sound (if here then after (act_of step (reads disk file)) (file_at disk name) else file_at disk name)
call_sound step disk file name true same sound = subst (λ n. Sound (after (act_of step (reads disk n)) (file_at disk name))) (sym (same refl)) (step_sound step (file_at disk name) sound)
call_sound step disk file name false same sound = sound

replay_sound : (disk : Disk) (calls : List (List ℕ × Step)) → ((name : List ℕ) → Sound (file_at disk name)) → (name : List ℕ) → Sound (file_at (replay disk calls) name)
replay_sound disk [] sound name = sound name
replay_sound disk (call ∷ calls) sound name =
    replay_sound (after_step call disk) calls (λ other. call_sound call.1 disk call.0 other (bytes_eq call.0 other) (bytes_eq-Decides call.0 other).0 (sound other)) name

record_sound : (files : List ℕ → List ℕ) (calls : List (List ℕ × Step)) (name : List ℕ) → Sound (file_at (replay (began files) calls) name)
record_sound files calls name = replay_sound (began files) calls (λ other. rest_sound (files other)) name

-- as it reads it is one of its images
pub reads_image : (files : List ℕ → List ℕ) (calls : List (List ℕ × Step)) → IsImage (replay (began files) calls) (reads (replay (began files) calls))
reads_image files calls name = (record_sound files calls name).as_it_reads

left_image : (pick : Pick) (f : File) → Sound f → MayLeave f (left pick f)
left_image Old f sound = sound.as_it_stood
left_image New f sound = sound.as_it_reads
left_image (Torn byte) f sound = record {
  no_shorter = omega (arith, sound.as_it_reads.no_shorter, length-torn f.written byte f.now);
  no_longer = omega (arith, sound.as_it_reads.no_longer, length-torn f.written byte f.now);
  kept = λ place within fixed out. let old : place < length f.now = omega (arith, length-torn f.written byte f.now) in
      torn-outside f.written byte f.now place old out ∙ sound.as_it_reads.kept place old fixed out;
}

stop_image : (stop : Stop) (f : File) → Sound f → MayLeave f (left_by stop f)
stop_image Unset f sound = sound.as_it_reads
stop_image (Set number pick) f sound = sound.as_it_reads
stop_image (Past pick) f sound = left_image pick f sound

-- and so it is as a stop leaves it
pub left_by_image : (stop : Stop) (files : List ℕ → List ℕ) (calls : List (List ℕ × Step)) → IsImage (replay (began files) calls) (λ name. left_by stop (file_at (replay (began files) calls) name))
left_by_image stop files calls name = stop_image stop (file_at (replay (began files) calls) name) (record_sound files calls name)

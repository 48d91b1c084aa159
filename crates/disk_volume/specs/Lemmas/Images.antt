-- What a crash may leave of a file after one act.
use Rattle.std.proofs.Common.{◌≡◌, ◌+◌, ◌≤◌, ◌<◌, ℕ, List, length, get_or, take, drop, inl, inr, arith, bytes_eq, Bool, true, false, if◌then◌else◌}
use Rattle.std.proofs.lemmas.List.{ext_get_or}
use Rattle.std.proofs.lemmas.Grind.{common_steps}
use Rattle.disk_volume.specs.Disk.{File, Disk, did, at_rest, after, file_at, wrote, cut, MayLeave, IsImage, Partly, put}

-- at rest only the bytes that stand
pub rest_leaves : (bytes image : List ℕ) → MayLeave (at_rest bytes) image → image ≡ bytes
rest_leaves bytes image left =
    ext_get_or 0 image bytes (omega (arith, left.no_shorter, left.no_longer))
    (λ place within. left.kept place within (omega (arith, left.no_shorter, left.no_longer)) tt)

-- after one write what that write may do in part
pub write_leaves : (old : List ℕ) (at size : ℕ) (now image : List ℕ) → at ≤ length old → MayLeave (after (wrote at size now) (at_rest old)) image → Partly at size old image
write_leaves old at size now image within left = record {
  before = ext_get_or 0 (take at image) (take at old) (grind (arith, common_steps, left.no_shorter))
      (λ place front. let low : place < at = grind (arith, common_steps) in
      let kept : get_or image place 0 ≡ get_or old place 0 = left.kept place (omega (arith, left.no_shorter)) (omega arith) (inl low, tt) in
      grind (arith, common_steps));
  after = ext_get_or 0 (drop (at + size) image) (drop (at + size) old) (grind (arith, common_steps, left.no_shorter, left.no_longer))
      (λ place behind. let within_image : at + size + place < length image = grind (arith, common_steps) in
      let within_old : at + size + place < length old = omega (arith, left.no_longer) in
      let kept : get_or image (at + size + place) 0 ≡ get_or old (at + size + place) 0 = left.kept (at + size + place) within_image (omega arith) (inr (omega arith), tt) in
      grind (arith, common_steps));
  no_shorter = left.no_shorter;
  no_longer = left.no_longer;
}

-- after one cut a front of the bytes that stood
pub cut_leaves : (old : List ℕ) (to : ℕ) (now image : List ℕ) → MayLeave (after (cut to now) (at_rest old)) image → image ≡ take (length image) old
cut_leaves old to now image left = ext_get_or 0 image (take (length image) old) (grind (arith, common_steps, left.no_longer))
    (λ place within. let kept : get_or image place 0 ≡ get_or old place 0 = left.kept place within (omega (arith, left.no_longer)) tt in grind (arith, common_steps))

-- what stands behind the bytes that were put
put_behind : (old : List ℕ) (at : ℕ) (piece : List ℕ) → at ≤ length old → drop (at + length piece) (put old at piece) ≡ drop (at + length piece) old
put_behind old at piece within =
    ext_get_or 0 (drop (at + length piece) (put old at piece)) (drop (at + length piece) old) (grind (arith, common_steps))
    (λ place behind. grind (arith, common_steps))

-- the whole write is a part of it
pub put_is_part : (old : List ℕ) (at : ℕ) (piece : List ℕ) → at ≤ length old → Partly at (length piece) old (put old at piece)
put_is_part old at piece within = record {
  before = grind (arith, common_steps);
  after = put_behind old at piece within;
  no_shorter = grind (arith, common_steps);
  no_longer = grind (arith, common_steps);
}

-- a write takes no image away
pub write_adds : (f : File) (at size : ℕ) (now bytes : List ℕ) → MayLeave f bytes → MayLeave (after (wrote at size now) f) bytes
write_adds f at size now bytes left = record {
  no_shorter = left.no_shorter;
  no_longer = omega (arith, left.no_longer);
  kept = λ place within fixed out. left.kept place within (omega arith) out.1;
}

-- and a cut takes none away
pub cut_adds : (f : File) (to : ℕ) (now bytes : List ℕ) → MayLeave f bytes → MayLeave (after (cut to now) f) bytes
cut_adds f to now bytes left = record { no_shorter = omega (arith, left.no_shorter); no_longer = left.no_longer; kept = left.kept }

if_here : (here : Bool) (old new : File) (bytes : List ℕ) → MayLeave old bytes → MayLeave new bytes → MayLeave (if here then new else old) bytes
if_here true old new bytes left added = added
if_here false old new bytes left added = left

-- so each image before a write is one after it
pub image_after_write : (disk : Disk) (file : List ℕ) (at size : ℕ) (now : List ℕ) (image : List ℕ → List ℕ) → IsImage disk image → IsImage (did (wrote at size now) file disk) image
image_after_write disk file at size now image left name =
    if_here (bytes_eq file name) (file_at disk name) (after (wrote at size now) (file_at disk name)) (image name) (left name) (write_adds (file_at disk name) at size now (image name) (left name))

-- and each before a cut
pub image_after_cut : (disk : Disk) (file : List ℕ) (to : ℕ) (now : List ℕ) (image : List ℕ → List ℕ) → IsImage disk image → IsImage (did (cut to now) file disk) image
image_after_cut disk file to now image left name =
    if_here (bytes_eq file name) (file_at disk name) (after (cut to now) (file_at disk name)) (image name) (left name) (cut_adds (file_at disk name) to now (image name) (left name))

-- Lines behind lines, and what is written of them.
use Rattle.std.proofs.Common.{◌≡◌, ◌∙◌, ℕ, zero, suc, ◌+◌, List, [], ◌∷◌, ◌++◌, length, take, drop, Some, Option, Err, IsErrOf, refl, sym, ap, subst, arith, append_assoc}
use Rattle.std.proofs.lemmas.List.{append-nil, length-append}
use Rattle.std.proofs.lemmas.Option.{slice_get_within, get_or_from_slice_get}
use Rattle.std.proofs.Math.Seq.{take-append_seam, take-suc}
use Rattle.std.proofs.KnownBytes.{Appends-nil, Appends-trans, starts_with_rest}
use Rattle.std.specs.Io.{StartsWith}
use Rattle.std.specs.Io.KnownBytes.{Appends}
use Rattle.std.specs.Prelude.{slice_get}
use Rattle.log_format.specs.declared.damage.Damage.{Damage}
use Rattle.gated_log.specs.declared.refused.LoadRefused.{LoadRefused}
use Rattle.gated_log.specs.declared.refused.LoadRefused.TheVariants.{Damaged as LoadDamaged}
use Rattle.keeper_channel.specs.Logs.{NamesDamage}
use Rattle.pad_output.specs.Output.{AppendsPart}
use Rattle.pad_log.specs.Lines.{line_of_entry, line_of_count, lines_from, log_text}
use Rattle.pad_log.specs.Log.{Gathers}

-- the payloads before an index and the one that has it
pub take_more : (n : ℕ) (payloads : List (List ℕ)) (payload : List ℕ) → slice_get payloads n ≡ Some payload → take n payloads ++ payload ∷ [] ≡ take (n + 1) payloads
take_more n payloads payload got =
    let e : suc n ≡ n + 1 = omega arith in
    sym (take-suc payloads n [] (slice_get_within payloads n payload got) ∙ ap (λ (p : List ℕ). take n payloads ++ p ∷ []) (get_or_from_slice_get payloads n payload [] got))
    ∙ ap (λ (k : ℕ). take k payloads) e

-- one entry more, behind a list of which the first has this index
lines_behind : (index : ℕ) (list : List (List ℕ)) (payload : List ℕ) → lines_from index (list ++ payload ∷ []) ≡ lines_from index list ++ line_of_entry (index + length list) payload
lines_behind index [] payload =
    let here : index ≡ index + 0 = omega arith in
    append-nil (line_of_entry index payload) ∙ ap (λ (i : ℕ). line_of_entry i payload) here
lines_behind index (first ∷ list) payload =
    let place : suc index + length list ≡ index + suc (length list) = omega arith in
    ap (λ (rest : List ℕ). line_of_entry index first ++ rest) (lines_behind (suc index) list payload ∙ ap (λ (i : ℕ). lines_from (suc index) list ++ line_of_entry i payload) place)
    ∙ sym (append_assoc (line_of_entry index first) (lines_from (suc index) list) (line_of_entry (index + suc (length list)) payload))

-- one entry more, behind as many as its index says
pub lines_more : (index : ℕ) (list : List (List ℕ)) (payload : List ℕ) → length list ≡ index → lines_from 0 list ++ line_of_entry index payload ≡ lines_from 0 (list ++ payload ∷ [])
lines_more index list payload long =
    let place : index ≡ 0 + length list = omega (arith, long) in
    ap (λ (i : ℕ). lines_from 0 list ++ line_of_entry i payload) place ∙ sym (lines_behind 0 list payload)

pub length_more : (index : ℕ) (list : List (List ℕ)) (payload : List ℕ) → length list ≡ index → length (list ++ payload ∷ []) ≡ index + 1
length_more index list payload long = length-append list (payload ∷ []) ∙ ap (λ (n : ℕ). n + 1) long

-- the lines of all entries are those of the first and those of the others
pub lines_parts : (index n : ℕ) (payloads : List (List ℕ)) → (rest : List ℕ) × (lines_from index payloads ≡ lines_from index (take n payloads) ++ rest)
lines_parts index zero payloads = (lines_from index payloads, refl)
lines_parts index (suc n) [] = ([], refl)
lines_parts index (suc n) (payload ∷ payloads) =
    let parts = lines_parts (suc index) n payloads in
    (parts.0, ap (λ (l : List ℕ). line_of_entry index payload ++ l) parts.1 ∙ sym (append_assoc (line_of_entry index payload) (lines_from (suc index) (take n payloads)) parts.0))

-- the front of a text
front_of : (whole front rest : List ℕ) → whole ≡ front ++ rest → StartsWith whole front
front_of whole front rest parts = ap (take (length front)) parts ∙ take-append_seam front rest

-- a part from the front of a text is one of a longer text
pub front_more : (whole text rest part : List ℕ) → whole ≡ text ++ rest → StartsWith text part → StartsWith whole part
front_more whole text rest part parts starts =
    let behind : List ℕ = drop (length part) text in
    let inner : text ≡ part ++ behind = starts_with_rest text part starts in
    front_of whole part (behind ++ rest) (parts ∙ ap (λ (t : List ℕ). t ++ rest) inner ∙ append_assoc part behind rest)

-- the whole text is its own front
pub whole_front : (text : List ℕ) → StartsWith text text
whole_front text = front_of text text [] (sym (append-nil text))

-- a part from the front of the lines of a list's entries
pub lines_front : (list : List (List ℕ)) (part : List ℕ) → StartsWith (lines_from 0 list) part → StartsWith (log_text list) part
lines_front list part starts = front_more (log_text list) (lines_from 0 list) (line_of_count (length list)) part refl starts

-- a part from the front of the lines of a list's first entries
pub first_front : (n : ℕ) (list : List (List ℕ)) (part : List ℕ) → StartsWith (lines_from 0 (take n list)) part → StartsWith (log_text list) part
first_front n list part starts =
    let parts = lines_parts 0 n list in
    lines_front list part (front_more (lines_from 0 list) (lines_from 0 (take n list)) parts.0 part parts.1 starts)

-- a part of a text behind a text that was written whole
pub part_behind : (old mid new : Option (List ℕ)) (front text : List ℕ) → Appends old mid front → AppendsPart mid new text → AppendsPart old new (front ++ text)
part_behind old mid new front text first written =
    let behind : List ℕ = drop (length written.0) text in
    let inner : text ≡ written.0 ++ behind = starts_with_rest text written.0 written.1 in
    (front ++ written.0, front_of (front ++ text) (front ++ written.0) behind (ap (λ (t : List ℕ). front ++ t) inner ∙ sym (append_assoc front written.0 behind)), Appends-trans old mid new front written.0 first written.2)

-- what holds of a channel's files by their names
pub by_names : (P : List ℕ → List ℕ → Type 0) (one two one_name two_name : List ℕ) → one ≡ one_name → two ≡ two_name → P one two → P one_name two_name
by_names P one two one_name two_name same_one same_two is = subst (λ (n : List ℕ). P one_name n) same_two (subst (λ (n : List ℕ). P n two) same_one is)

pub same_refusal : {T E : Type 0} (refused other : E) → IsErrOf {T = T} (Err refused) other → refused ≡ other
same_refusal refused other is = cc

-- the damage that a refused load names
pub names_damage : (is : Damage → Type 0) (refused : LoadRefused) (damage : Damage) → refused ≡ LoadDamaged damage → NamesDamage is refused → is damage
names_damage is refused damage same names = subst (λ (r : LoadRefused). NamesDamage is r) same names

-- nothing is written yet
pub gathered_none : (old : Option (List ℕ)) (before after text : List ℕ) → after ≡ before ++ text → Gathers old old before after text
gathered_none old before after text waits = ([], Appends-nil old, waits)

-- all is written
pub gathered_all : (old new : Option (List ℕ)) (before lines after text : List ℕ) → lines ≡ before ++ text → Appends old new lines → after ≡ [] → Gathers old new before after text
gathered_all old new before lines after text are written none =
    (lines, written, ap (λ (rest : List ℕ). lines ++ rest) none ∙ append-nil lines ∙ are)

-- nothing of a text is written
pub part_none : (old : Option (List ℕ)) (text : List ℕ) → AppendsPart old old text
part_none old text = ([], refl, Appends-nil old)

-- more comes behind what waits
pub gathered_more : (old mid new : Option (List ℕ)) (waits after text more : List ℕ) → Gathers old mid [] waits text → Gathers mid new waits after more → Gathers old new [] after (text ++ more)
gathered_more old mid new waits after text more first next = (
  first.0 ++ next.0,
  Appends-trans old mid new first.0 next.0 first.1 next.1,
  append_assoc first.0 next.0 after ∙ ap (λ (rest : List ℕ). first.0 ++ rest) next.2 ∙ sym (append_assoc first.0 waits more) ∙ ap (λ (front : List ℕ). front ++ more) first.2,
)

-- what waits and a text behind it are written
pub gathered_written : (old mid new : Option (List ℕ)) (waits text more : List ℕ) → Gathers old mid [] waits text → Appends mid new (waits ++ more) → Appends old new (text ++ more)
gathered_written old mid new waits text more first next =
    subst (Appends old new) (sym (append_assoc first.0 waits more) ∙ ap (λ (front : List ℕ). front ++ more) first.2) (Appends-trans old mid new first.0 (waits ++ more) first.1 next)

-- a part of them is
pub gathered_part : (old mid new : Option (List ℕ)) (waits text more : List ℕ) → Gathers old mid [] waits text → AppendsPart mid new (waits ++ more) → AppendsPart old new (text ++ more)
gathered_part old mid new waits text more first next =
    subst (AppendsPart old new) (sym (append_assoc first.0 waits more) ∙ ap (λ (front : List ℕ). front ++ more) first.2) (part_behind old mid new first.0 (waits ++ more) first.1 next)

-- what is written of a text whose rest waits
pub gathered_front : (old new : Option (List ℕ)) (waits text : List ℕ) → Gathers old new [] waits text → AppendsPart old new text
gathered_front old new waits text first = (first.0, front_of text first.0 waits (sym first.2), first.1)

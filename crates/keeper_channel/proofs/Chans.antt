-- Laws of a channel's list, over lists alone.
use Rattle.std.proofs.Common.{◌≡◌, ◌∙◌, inl, inr, ◌⊎◌, ℕ, zero, suc, ◌+◌, ◌<◌, ◌≤◌, arith, Bool, true, false, List, [], ◌∷◌, ◌++◌, length, take, drop, None, Some, Option, MatchBool, refl, sym, ap, subst}
use Rattle.std.specs.Prelude.{slice_get, ◌==◌}
use Rattle.std.proofs.lemmas.List.{take_more, take-take, take-append-drop, drop-take, nil_from_length}
use Rattle.std.proofs.lemmas.Option.{slice_get_within, get_or_from_slice_get}
use Rattle.keeper_channel.specs.Chan.{MarkerAt, has_marker, unmarked, at_moment_zero, moved, IsChan, IsList, IsWithin, doubt_if}
use Rattle.gated_log.specs.Ledger.{LeavesOut}
use Rattle.std.proofs.lemmas.Bool.{eqb-true}
use Rattle.std.specs.Option.{option_map}
use Rattle.keeper_entry.specs.Entry.{IsEntry}
use Rattle.keeper_channel.specs.Entries.{AreEntries}
use Rattle.keeper_channel.specs.Logs.{IsFound}
use Rattle.keeper_channel.specs.Inside.Adding.{IsAdding}
use Rattle.gated_log.specs.Ledger.{Within}

-- without a marker it is what form one opens as, moved
pub chan_old : (one : List (List ℕ) → Type 0) (two old : List (List ℕ)) → has_marker two ≡ false → one old → IsChan one two (moved old)
chan_old one two old none is =
    let P : Bool → Type 0 = λ marked. MatchBool marked (moved old ≡ unmarked two) ((other : List (List ℕ)) × one other × (moved old ≡ moved other)) in
    subst P (sym none) (old, is, refl)

-- with one it is what form two opens as, without it
pub chan_new : (one : List (List ℕ) → Type 0) (two : List (List ℕ)) → has_marker two ≡ true → IsChan one two (unmarked two)
chan_new one two some =
    let P : Bool → Type 0 = λ marked. MatchBool marked (unmarked two ≡ unmarked two) ((other : List (List ℕ)) × one other × (unmarked two ≡ moved other)) in
    subst P (sym some) refl

-- moved entries have no marker
pub moved_unmarked : (old : List (List ℕ)) → has_marker (moved old) ≡ false
moved_unmarked [] = refl
moved_unmarked (payload ∷ old) = moved_unmarked old

pub marked_more : (two more : List (List ℕ)) → has_marker two ≡ true → has_marker (two ++ more) ≡ true
marked_more [] more some = cc
marked_more ([] ∷ two) more some = refl
marked_more ((byte ∷ bytes) ∷ two) more some = marked_more two more some

pub unmarked_more : (two more : List (List ℕ)) → has_marker two ≡ true → unmarked (two ++ more) ≡ unmarked two ++ more
unmarked_more [] more some = cc
unmarked_more ([] ∷ two) more some = refl
unmarked_more ((byte ∷ bytes) ∷ two) more some = ap (λ (l : List (List ℕ)). (byte ∷ bytes) ∷ l) (unmarked_more two more some)

-- the marker is one payload
pub length-unmarked : (two : List (List ℕ)) → has_marker two ≡ true → length two ≡ length (unmarked two) + 1
length-unmarked [] some = cc
length-unmarked ([] ∷ two) some = omega arith
length-unmarked ((byte ∷ bytes) ∷ two) some = omega (arith, length-unmarked two some)

-- moved entries and then the marker
pub moved_marked : (old : List (List ℕ)) → has_marker (moved old ++ [] ∷ []) ≡ true
moved_marked [] = refl
moved_marked (payload ∷ old) = moved_marked old

pub moved_without : (old : List (List ℕ)) → unmarked (moved old ++ [] ∷ []) ≡ moved old
moved_without [] = refl
moved_without (payload ∷ old) = ap (λ (l : List (List ℕ)). at_moment_zero payload ∷ l) (moved_without old)

-- what leaves some of a list out has no marker where that has none
pub left_unmarked : (left whole : List (List ℕ)) → LeavesOut left whole → has_marker whole ≡ false → has_marker left ≡ false
left_unmarked [] whole out none = refl
left_unmarked (payload ∷ left) [] out none = absurd out
left_unmarked (payload ∷ left) ([] ∷ whole) out none = cc
left_unmarked ([] ∷ left) ((byte ∷ bytes) ∷ whole) (inl (same, out)) none = cc
left_unmarked ((b ∷ bs) ∷ left) ((byte ∷ bytes) ∷ whole) (inl (same, out)) none = left_unmarked left whole out none
left_unmarked (payload ∷ left) ((byte ∷ bytes) ∷ whole) (inr out) none = left_unmarked (payload ∷ left) whole out none

pub doubt_unmarked : (two doubt : List (List ℕ)) → has_marker two ≡ false → [] ≡ doubt_if (has_marker two) doubt
doubt_unmarked two doubt none = let P : Bool → Type 0 = λ marked. [] ≡ doubt_if marked doubt in subst P (sym none) refl

pub doubt_marked : (two doubt : List (List ℕ)) → has_marker two ≡ true → doubt ≡ doubt_if (has_marker two) doubt
doubt_marked two doubt some = let P : Bool → Type 0 = λ marked. doubt ≡ doubt_if marked doubt in subst P (sym some) refl

-- a channel is one list at most
chan_once : (one : List (List ℕ) → Type 0) (two first second : List (List ℕ)) (marked : Bool)
    → ((a b : List (List ℕ)) → one a → one b → a ≡ b)
    → MatchBool marked (first ≡ unmarked two) ((old : List (List ℕ)) × one old × (first ≡ moved old))
    → MatchBool marked (second ≡ unmarked two) ((old : List (List ℕ)) × one old × (second ≡ moved old)) → first ≡ second
chan_once one two first second true once a b = a ∙ sym b
chan_once one two first second false once a b = a.2 ∙ ap moved (once a.0 b.0 a.1 b.1) ∙ sym b.2

pub list_once : (opens_one opens_two : (List ℕ → List ℕ) → List (List ℕ) → Type 0) (files : List ℕ → List ℕ) (first second : List (List ℕ))
    → ((a b : List (List ℕ)) → opens_one files a → opens_one files b → a ≡ b) → ((a b : List (List ℕ)) → opens_two files a → opens_two files b → a ≡ b)
    → IsList opens_one opens_two files first → IsList opens_one opens_two files second → first ≡ second
list_once opens_one opens_two files first second once_one once_two a b =
    let P : List (List ℕ) → Type 0 = λ two. IsChan (opens_one files) two first in
    chan_once (opens_one files) b.0 first second (has_marker b.0) once_one (subst P (once_two a.0 b.0 a.1 b.1) a.2) b.2

-- two lists without a marker
pub unmarked_append : (front more : List (List ℕ)) → has_marker front ≡ false → has_marker more ≡ false → has_marker (front ++ more) ≡ false
unmarked_append [] more none_front none_more = none_more
unmarked_append ([] ∷ front) more none_front none_more = cc
unmarked_append ((byte ∷ bytes) ∷ front) more none_front none_more = unmarked_append front more none_front none_more

pub moved_push : (front : List (List ℕ)) (payload : List ℕ) → moved (front ++ payload ∷ []) ≡ moved front ++ at_moment_zero payload ∷ []
moved_push [] payload = refl
moved_push (first ∷ front) payload = ap (λ (l : List (List ℕ)). at_moment_zero first ∷ l) (moved_push front payload)

-- one entry more of those to move
pub moved_more : (old : List (List ℕ)) (index : ℕ) (payload : List ℕ) → slice_get old index ≡ Some payload → moved (take index old) ++ at_moment_zero payload ∷ [] ≡ moved (take (index + 1) old)
moved_more old index payload got =
    let within : index < length old = slice_get_within old index payload got in
    sym (moved_push (take index old) payload)
    ∙ ap moved (ap (λ (p : List ℕ). take index old ++ p ∷ []) (sym (get_or_from_slice_get old index payload payload got)) ∙ sym (take_more old index payload within))

-- what stands in the rest of a list
pub get_drop : (old : List (List ℕ)) (first index : ℕ) → slice_get (drop first old) index ≡ slice_get old (first + index)
get_drop old zero index = let same : index ≡ zero + index = omega arith in ap (slice_get old) same
get_drop [] (suc first) index = refl
get_drop (payload ∷ old) (suc first) index = let same : suc (first + index) ≡ suc first + index = omega arith in get_drop old first index ∙ ap (slice_get (payload ∷ old)) same

take_then : (old : List (List ℕ)) (first many : ℕ) → take (first + many) old ≡ take first old ++ take many (drop first old)
take_then old first many =
    sym (take-append-drop first (take (first + many) old)) ∙ ap (λ (l : List (List ℕ)). l ++ drop first (take (first + many) old)) (take-take first (first + many) old (omega arith))
    ∙ ap (λ (l : List (List ℕ)). take first old ++ l) (drop-take first many old)

pub moved_append : (front back : List (List ℕ)) → moved (front ++ back) ≡ moved front ++ moved back
moved_append [] back = refl
moved_append (payload ∷ front) back = ap (λ (l : List (List ℕ)). at_moment_zero payload ∷ l) (moved_append front back)

-- a group more of those to move
pub moved_group : (old : List (List ℕ)) (first many : ℕ) → moved (take first old) ++ moved (take many (drop first old)) ≡ moved (take (first + many) old)
moved_group old first many = sym (ap moved (take_then old first many) ∙ moved_append (take first old) (take many (drop first old)))

-- files whose log of form two has no marker are what form one opens as, moved
pub unmoved_list : (opens_one opens_two : (List ℕ → List ℕ) → List (List ℕ) → Type 0) (files : List ℕ → List ℕ) (two old : List (List ℕ))
    → opens_two files two → has_marker two ≡ false → opens_one files old → IsList opens_one opens_two files (moved old)
unmoved_list opens_one opens_two files two old opened none is = (two, opened, chan_old (opens_one files) two old none is)

pub moved_list : (opens_one opens_two : (List ℕ → List ℕ) → List (List ℕ) → Type 0) (files : List ℕ → List ℕ) (two : List (List ℕ))
    → opens_two files two → has_marker two ≡ true → IsList opens_one opens_two files (unmarked two)
moved_list opens_one opens_two files two opened some = (two, opened, chan_new (opens_one files) two some)

-- an empty payload is a marker
pub marker_found : (payloads : List (List ℕ)) (index : ℕ) (payload : List ℕ) → slice_get payloads index ≡ Some payload → payload ≡ [] → has_marker payloads ≡ true
marker_found [] index payload got empty = cc
marker_found ([] ∷ payloads) index payload got empty = refl
marker_found ((byte ∷ bytes) ∷ payloads) zero payload got empty = cc
marker_found ((byte ∷ bytes) ∷ payloads) (suc index) payload got empty = marker_found payloads index payload got empty

one_unmarked : (payload : List ℕ) → 1 ≤ length payload → has_marker (payload ∷ []) ≡ false
one_unmarked [] long = absurd (omega arith)
one_unmarked (byte ∷ bytes) long = refl

-- and one that is not empty is none
pub none_more : (payloads : List (List ℕ)) (index : ℕ) (payload : List ℕ) → slice_get payloads index ≡ Some payload → 1 ≤ length payload
    → has_marker (take index payloads) ≡ false → has_marker (take (index + 1) payloads) ≡ false
none_more payloads index payload got long none =
    let within : index < length payloads = slice_get_within payloads index payload got in
    let more : take (index + 1) payloads ≡ take index payloads ++ payload ∷ [] =
    take_more payloads index payload within ∙ ap (λ (p : List ℕ). take index payloads ++ p ∷ []) (get_or_from_slice_get payloads index payload payload got) in
    ap has_marker more ∙ unmarked_append (take index payloads) (payload ∷ []) none (one_unmarked payload long)

-- a log that may have moved entries more is still what form one opens as
pub adding_unmoved : (opens_one opens_two : (List ℕ → List ℕ) → List (List ℕ) → Type 0) (files : List ℕ → List ℕ) (done doubt old added : List (List ℕ))
    → has_marker done ≡ false → doubt ≡ [] → has_marker added ≡ false → opens_one files old → IsAdding (opens_two files) done doubt added → IsList opens_one opens_two files (moved old)
adding_unmoved opens_one opens_two files done doubt old added none sure none_added is (inl (inl opened)) = unmoved_list opens_one opens_two files done old opened none is
adding_unmoved opens_one opens_two files done doubt old added none sure none_added is (inl (inr opened)) =
    unmoved_list opens_one opens_two files (done ++ doubt) old opened (unmarked_append done doubt none (ap has_marker sure)) is
adding_unmoved opens_one opens_two files done doubt old added none sure none_added is (inr (inl opened)) = unmoved_list opens_one opens_two files done old opened none is
adding_unmoved opens_one opens_two files done doubt old added none sure none_added is (inr (inr opened)) =
    unmoved_list opens_one opens_two files (done ++ added) old opened (unmarked_append done added none none_added) is

-- the marker behind moved entries
pub adding_marker : (opens_one opens_two : (List ℕ → List ℕ) → List (List ℕ) → Type 0) (files : List ℕ → List ℕ) (doubt old : List (List ℕ))
    → doubt ≡ [] → opens_one files old → IsAdding (opens_two files) (moved old) doubt ([] ∷ []) → IsList opens_one opens_two files (moved old)
adding_marker opens_one opens_two files doubt old sure is (inl (inl opened)) = unmoved_list opens_one opens_two files (moved old) old opened (moved_unmarked old) is
adding_marker opens_one opens_two files doubt old sure is (inl (inr opened)) =
    unmoved_list opens_one opens_two files (moved old ++ doubt) old opened (unmarked_append (moved old) doubt (moved_unmarked old) (ap has_marker sure)) is
adding_marker opens_one opens_two files doubt old sure is (inr (inl opened)) = unmoved_list opens_one opens_two files (moved old) old opened (moved_unmarked old) is
adding_marker opens_one opens_two files doubt old sure is (inr (inr opened)) =
    subst (IsList opens_one opens_two files) (moved_without old) (moved_list opens_one opens_two files (moved old ++ [] ∷ []) opened (moved_marked old))

-- a moved channel that may have what is added
pub adding_moved : (opens_one opens_two : (List ℕ → List ℕ) → List (List ℕ) → Type 0) (files : List ℕ → List ℕ) (new doubt added : List (List ℕ))
    → has_marker new ≡ true → IsAdding (opens_two files) new doubt added
    → IsWithin (IsList opens_one opens_two files) (unmarked new) doubt ⊎ IsWithin (IsList opens_one opens_two files) (unmarked new) added
adding_moved opens_one opens_two files new doubt added some (inl (inl opened)) = inl (inl (moved_list opens_one opens_two files new opened some))
adding_moved opens_one opens_two files new doubt added some (inl (inr opened)) =
    inl (inr (subst (IsList opens_one opens_two files) (unmarked_more new doubt some) (moved_list opens_one opens_two files (new ++ doubt) opened (marked_more new doubt some))))
adding_moved opens_one opens_two files new doubt added some (inr (inl opened)) = inr (inl (moved_list opens_one opens_two files new opened some))
adding_moved opens_one opens_two files new doubt added some (inr (inr opened)) =
    inr (inr (subst (IsList opens_one opens_two files) (unmarked_more new added some) (moved_list opens_one opens_two files (new ++ added) opened (marked_more new added some))))

pub empty_payload : (payload slice : List ℕ) (test : Bool) → slice ≡ payload → test ≡ (length slice == 0) → test ≡ true → payload ≡ []
empty_payload payload slice test same is true_is = let none : length slice ≡ 0 = eqb-true (length slice) 0 (sym is ∙ true_is) in sym same ∙ nil_from_length slice (omega arith)

pub full_payload : (payload slice : List ℕ) (test : Bool) → slice ≡ payload → test ≡ (length slice == 0) → test ≡ false → 1 ≤ length payload
full_payload [] slice test same is false_is = absurd (no (sym false_is ∙ is ∙ ap (λ (l : List ℕ). length l == 0) same))
  where
    no : false ≡ true → ⊥
    no e = cc
full_payload (byte ∷ bytes) slice test same is false_is = omega arith

-- the same list in files that open alike
chan_by : (one other : List (List ℕ) → Type 0) (marked : Bool) (two list : List (List ℕ)) → ((old : List (List ℕ)) → one old → other old)
    → MatchBool marked (list ≡ unmarked two) ((old : List (List ℕ)) × one old × (list ≡ moved old)) → MatchBool marked (list ≡ unmarked two) ((old : List (List ℕ)) × other old × (list ≡ moved old))
chan_by one other true two list by is = is
chan_by one other false two list by is = (is.0, by is.0 is.1, is.2)

pub list_by : (opens_one opens_two : (List ℕ → List ℕ) → List (List ℕ) → Type 0) (files other : List ℕ → List ℕ) (list : List (List ℕ))
    → ((old : List (List ℕ)) → opens_one files old → opens_one other old) → ((new : List (List ℕ)) → opens_two files new → opens_two other new)
    → IsList opens_one opens_two files list → IsList opens_one opens_two other list
list_by opens_one opens_two files other list by_one by_two is = (is.0, by_two is.0 is.1, chan_by (opens_one files) (opens_one other) (has_marker is.0) is.0 list by_one is.2)

pub found_by : (opens_one opens_two : (List ℕ → List ℕ) → List (List ℕ) → Type 0) (doubt : (List ℕ → List ℕ) → List (List ℕ)) (files other : List ℕ → List ℕ) (held suspense : List (List ℕ))
    → ((old : List (List ℕ)) → opens_one files old → opens_one other old) → ((new : List (List ℕ)) → opens_two files new → opens_two other new) → doubt files ≡ doubt other
    → IsFound opens_one opens_two doubt files held suspense → IsFound opens_one opens_two doubt other held suspense
found_by opens_one opens_two doubt files other held suspense by_one by_two same found = record {
  two = found.two;
  opened = by_two found.two found.opened;
  is = chan_by (opens_one files) (opens_one other) (has_marker found.two) found.two held by_one found.is;
  doubtful = found.doubtful ∙ ap (doubt_if (has_marker found.two)) same;
}

-- what was found is the channel's list
pub found_list : (opens_one opens_two : (List ℕ → List ℕ) → List (List ℕ) → Type 0) (doubt : (List ℕ → List ℕ) → List (List ℕ)) (files : List ℕ → List ℕ) (held suspense : List (List ℕ))
    → IsFound opens_one opens_two doubt files held suspense → IsList opens_one opens_two files held
found_list opens_one opens_two doubt files held suspense found = (found.two, found.opened, found.is)

pub within_moved : (opens_one opens_two : (List ℕ → List ℕ) → List (List ℕ) → Type 0) (files : List ℕ → List ℕ) (two added : List (List ℕ))
    → has_marker two ≡ true → Within (opens_two files) two added → IsWithin (IsList opens_one opens_two files) (unmarked two) added
within_moved opens_one opens_two files two added some (inl opened) = inl (moved_list opens_one opens_two files two opened some)
within_moved opens_one opens_two files two added some (inr opened) =
    inr (subst (IsList opens_one opens_two files) (unmarked_more two added some) (moved_list opens_one opens_two files (two ++ added) opened (marked_more two added some)))

-- of two lists the one that the files open as
pub which_list : (opens_one opens_two : (List ℕ → List ℕ) → List (List ℕ) → Type 0) (files : List ℕ → List ℕ) (loaded held suspense : List (List ℕ))
    → ((a b : List (List ℕ)) → opens_one files a → opens_one files b → a ≡ b) → ((a b : List (List ℕ)) → opens_two files a → opens_two files b → a ≡ b)
    → IsList opens_one opens_two files loaded → IsWithin (IsList opens_one opens_two files) held suspense → (loaded ≡ held) ⊎ (loaded ≡ held ++ suspense)
which_list opens_one opens_two files loaded held suspense once_one once_two is (inl there) = inl (list_once opens_one opens_two files loaded held once_one once_two is there)
which_list opens_one opens_two files loaded held suspense once_one once_two is (inr there) = inr (list_once opens_one opens_two files loaded (held ++ suspense) once_one once_two is there)

pub within_by : (opens_one opens_two : (List ℕ → List ℕ) → List (List ℕ) → Type 0) (files other : List ℕ → List ℕ) (held suspense : List (List ℕ))
    → ((old : List (List ℕ)) → opens_one files old → opens_one other old) → ((new : List (List ℕ)) → opens_two files new → opens_two other new)
    → IsWithin (IsList opens_one opens_two files) held suspense → IsWithin (IsList opens_one opens_two other) held suspense
within_by opens_one opens_two files other held suspense by_one by_two (inl is) = inl (list_by opens_one opens_two files other held by_one by_two is)
within_by opens_one opens_two files other held suspense by_one by_two (inr is) = inr (list_by opens_one opens_two files other (held ++ suspense) by_one by_two is)

-- a list with a marker at an index has one
pub marked_at : (two : List (List ℕ)) (marker : ℕ) → MarkerAt two marker → has_marker two ≡ true
marked_at two marker at = marker_found two marker [] at.0 refl

pub marker_more : (two more : List (List ℕ)) (marker : ℕ) → MarkerAt two marker → MarkerAt (two ++ more) marker
marker_more [] more marker at = let e : None ≡ Some [] = at.0 in absurd (cc)
marker_more ([] ∷ two) more zero at = (refl, refl)
marker_more ([] ∷ two) more (suc marker) at = let e : true ≡ false = at.1 in absurd (cc)
marker_more ((byte ∷ bytes) ∷ two) more zero at = let e : Some (byte ∷ bytes) ≡ Some [] = at.0 in absurd (cc)
marker_more ((byte ∷ bytes) ∷ two) more (suc marker) at = marker_more two more marker at

pub marker_behind : (old : List (List ℕ)) → MarkerAt (moved old ++ [] ∷ []) (length old)
marker_behind [] = (refl, refl)
marker_behind (payload ∷ old) = marker_behind old

-- what stands in the list without the marker
pub get_before : (two : List (List ℕ)) (marker index : ℕ) → MarkerAt two marker → index < marker → slice_get (unmarked two) index ≡ slice_get two index
get_before [] marker index at before = let e : None ≡ Some [] = at.0 in absurd (cc)
get_before two zero index at before = absurd (omega (arith, before))
get_before ([] ∷ two) (suc marker) index at before = let e : true ≡ false = at.1 in absurd (cc)
get_before ((byte ∷ bytes) ∷ two) (suc marker) zero at before = refl
get_before ((byte ∷ bytes) ∷ two) (suc marker) (suc index) at before = get_before two marker index at (omega (arith, before))

pub get_behind : (two : List (List ℕ)) (marker index : ℕ) → MarkerAt two marker → marker ≤ index → slice_get (unmarked two) index ≡ slice_get two (suc index)
get_behind [] marker index at behind = let e : None ≡ Some [] = at.0 in absurd (cc)
get_behind ([] ∷ two) marker index at behind = refl
get_behind ((byte ∷ bytes) ∷ two) zero index at behind = let e : Some (byte ∷ bytes) ≡ Some [] = at.0 in absurd (cc)
get_behind ((byte ∷ bytes) ∷ two) (suc marker) zero at behind = absurd (omega (arith, behind))
get_behind ((byte ∷ bytes) ∷ two) (suc marker) (suc index) at behind = get_behind two marker index at (omega (arith, behind))

pub moved_get : (old : List (List ℕ)) (index : ℕ) (payload : List ℕ) → slice_get old index ≡ Some payload → slice_get (moved old) index ≡ Some (at_moment_zero payload)
moved_get [] index payload got = cc
moved_get (first ∷ old) zero payload got = ap (λ (o : Option (List ℕ)). option_map at_moment_zero o) got
moved_get (first ∷ old) (suc index) payload got = moved_get old index payload got

pub length-moved : (old : List (List ℕ)) → length (moved old) ≡ length old
length-moved [] = refl
length-moved (payload ∷ old) = ap suc (length-moved old)

-- an entry of a list of entries
pub entry_at : (payloads : List (List ℕ)) (index : ℕ) (payload : List ℕ) → AreEntries payloads → slice_get payloads index ≡ Some payload → IsEntry payload
entry_at payloads index payload all got = subst IsEntry (get_or_from_slice_get payloads index payload payload got) (all index payload (slice_get_within payloads index payload got))

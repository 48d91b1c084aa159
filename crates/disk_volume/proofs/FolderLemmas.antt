-- The bytes of files by name, where one file changes or is added.
use Rattle.std.proofs.Common.{◌≡◌, ◌<◌, ◌∙◌, ℕ, Bool, true, false, cond, List, [], ◌∷◌, ◌++◌, length, get_or, set, Some, None, refl, sym, ap, subst, arith, bytes_eq, position, if◌then◌else◌, ltb-true, ltb-false, ltb, one-add, ◌≤◌}
use Rattle.std.specs.List.{position_or_len}
use Rattle.std.proofs.lemmas.Option.{cond_some}
use Rattle.std.proofs.lemmas.Slice.Eq.{bytes_eq-Decides}
use Rattle.disk_volume.specs.Folder.{bytes_in}
use Rattle.disk_volume.specs.Inside.Folder.{ChangesFile}
use Rattle.disk_volume.specs.Step.{Step, writes, cuts, syncs}
use Rattle.disk_volume.specs.Inside.Step.{filled}

-- a file of this name
abbrev is_named : List ℕ → List ℕ × List ℕ → Bool
is_named name file = bytes_eq file.0 name

abbrev place_of : List ℕ → List (List ℕ × List ℕ) → ℕ
place_of name files = position_or_len (is_named name) files

-- two tests that do not both hold may be made in any order
test_order : {X : Type 0} (p q : Bool) (x y z : X) → (p ≡ true → q ≡ true → ⊥) → (if p then x else if q then y else z) ≡ (if q then y else if p then x else z)
test_order true true x y z apart = absurd (apart refl refl)
test_order true false x y z apart = refl
test_order false true x y z apart = refl
test_order false false x y z apart = refl

name_order : {X : Type 0} (a b other : List ℕ) (x y z : X) → bytes_eq a b ≡ false
    → (if bytes_eq a other then x else if bytes_eq b other then y else z) ≡ (if bytes_eq b other then y else if bytes_eq a other then x else z)
name_order a b other x y z differ = test_order (bytes_eq a other) (bytes_eq b other) x y z
    (λ left right. let same : a ≡ b = (bytes_eq-Decides a other).0 left ∙ sym ((bytes_eq-Decides b other).0 right) in
    let equal : bytes_eq a b ≡ true = (bytes_eq-Decides a b).1 same in cc)

-- a test once more
test_again : {X : Type 0} (p : Bool) (x y z : X) → (if p then x else z) ≡ (if p then x else if p then y else z)
test_again true x y z = refl
test_again false x y z = refl

-- the bytes at the place of a name
at_place : (name : List ℕ) (files : List (List ℕ × List ℕ)) (d : List ℕ × List ℕ) → place_of name files < length files → bytes_in files name ≡ (get_or files (place_of name files) d).1
at_place name [] d within = absurd (omega arith)
at_place name (file ∷ files) d within = step (at_place name files d) (bytes_eq file.0 name) refl
  where
    step : (place_of name files < length files → bytes_in files name ≡ (get_or files (place_of name files) d).1)
        → (test : Bool) → bytes_eq file.0 name ≡ test → bytes_in (file ∷ files) name ≡ (get_or (file ∷ files) (place_of name (file ∷ files)) d).1
    step rest true e = rw e refl
    step rest false e = let further = rw e at within in rw (e, one-add) (rest (omega (arith, further)))

-- without a place there are none
no_place : (name : List ℕ) (files : List (List ℕ × List ℕ)) → length files ≤ place_of name files → bytes_in files name ≡ []
no_place name [] past = refl
no_place name (file ∷ files) past = step (no_place name files) (bytes_eq file.0 name) refl
  where
    step : (length files ≤ place_of name files → bytes_in files name ≡ []) → (test : Bool) → bytes_eq file.0 name ≡ test → bytes_in (file ∷ files) name ≡ []
    step rest true e = absurd (omega (arith, rw e at past))
    step rest false e = rw e (rest (omega (arith, rw e at past)))

-- after a write at the place of a name
set_place : (name : List ℕ) (files : List (List ℕ × List ℕ)) (d x : List ℕ × List ℕ) → place_of name files < length files → x.0 ≡ (get_or files (place_of name files) d).0
    → (other : List ℕ) → bytes_in (set files (place_of name files) x) other ≡ (if bytes_eq name other then x.1 else bytes_in files other)
set_place name [] d x within same other = absurd (omega arith)
set_place name (file ∷ files) d x within same other = step (λ inside kept. set_place name files d x inside kept other) (bytes_eq file.0 name) refl
  where
    step : (place_of name files < length files → x.0 ≡ (get_or files (place_of name files) d).0 → bytes_in (set files (place_of name files) x) other ≡ (if bytes_eq name other then x.1 else bytes_in files other))
        → (test : Bool) → bytes_eq file.0 name ≡ test → bytes_in (set (file ∷ files) (place_of name (file ∷ files)) x) other ≡ (if bytes_eq name other then x.1 else bytes_in (file ∷ files) other)
    step rest true e =
        let named : file.0 ≡ name = (bytes_eq-Decides file.0 name).0 e in
        let here : x.0 ≡ name = (rw e at same) ∙ named in
        rw (e, here, named) (test_again (bytes_eq name other) x.1 file.1 (bytes_in files other))
    step rest false e =
        let inside : place_of name files < length files = omega (arith, rw e at within) in
        let kept : x.0 ≡ (get_or files (place_of name files) d).0 = rw (e, one-add) at same in
        rw (e, one-add, rest inside kept) (name_order file.0 name other file.1 x.1 (bytes_in files other) e)

-- with one file more, of a name that had no place
push_place : (name : List ℕ) (files : List (List ℕ × List ℕ)) (x : List ℕ × List ℕ) → length files ≤ place_of name files → x.0 ≡ name
    → (other : List ℕ) → bytes_in (files ++ x ∷ []) other ≡ (if bytes_eq name other then x.1 else bytes_in files other)
push_place name [] x past same other = rw same refl
push_place name (file ∷ files) x past same other = step (λ behind. push_place name files x behind same other) (bytes_eq file.0 name) refl
  where
    step : (length files ≤ place_of name files → bytes_in (files ++ x ∷ []) other ≡ (if bytes_eq name other then x.1 else bytes_in files other))
        → (test : Bool) → bytes_eq file.0 name ≡ test → bytes_in ((file ∷ files) ++ x ∷ []) other ≡ (if bytes_eq name other then x.1 else bytes_in (file ∷ files) other)
    step rest true e = absurd (omega (arith, rw e at past))
    step rest false e = rw (rest (omega (arith, rw e at past))) (name_order file.0 name other file.1 x.1 (bytes_in files other) e)

found : (name : List ℕ) (files : List (List ℕ × List ℕ)) (place : ℕ) → position (is_named name) files ≡ Some place → (place_of name files < length files) × (place_of name files ≡ place)
found name files place e = let parts = cond_some (ltb (place_of name files) (length files)) (place_of name files) place e in (ltb-true _ _ parts.0, parts.1)

missing : (name : List ℕ) (files : List (List ℕ × List ℕ)) → position (is_named name) files ≡ None → length files ≤ place_of name files
missing name files e = ltb-false _ _ (no_some (ltb (place_of name files) (length files)) (place_of name files) e)
  where
    no_some : (test : Bool) (place : ℕ) → cond test (Some place) None ≡ None → test ≡ false
    no_some true place e = cc
    no_some false place e = refl

-- the bytes of a file that was found
pub found_bytes : (name : List ℕ) (files : List (List ℕ × List ℕ)) (place : ℕ) (x : List ℕ × List ℕ) → position (is_named name) files ≡ Some place → x ≡ get_or files place x → bytes_in files name ≡ x.1
found_bytes name files place x e read = let at = found name files place e in
    let here : bytes_in files name ≡ (get_or files place x).1 = subst (λ n. bytes_in files name ≡ (get_or files n x).1) at.1 (at_place name files x at.0) in
    here ∙ ap (λ file. file.1) (sym read)

-- and of one that was not
pub missing_bytes : (name : List ℕ) (files : List (List ℕ × List ℕ)) → position (is_named name) files ≡ None → bytes_in files name ≡ []
missing_bytes name files e = no_place name files (missing name files e)

-- after a write to the one that was found
pub set_bytes : (name : List ℕ) (files : List (List ℕ × List ℕ)) (place : ℕ) (old x : List ℕ × List ℕ) → position (is_named name) files ≡ Some place → old ≡ get_or files place old → x.0 ≡ old.0
    → (other : List ℕ) → bytes_in (set files place x) other ≡ (if bytes_eq name other then x.1 else bytes_in files other)
set_bytes name files place old x e read same other = let at = found name files place e in
    subst (λ n. bytes_in (set files n x) other ≡ (if bytes_eq name other then x.1 else bytes_in files other)) at.1
    (set_place name files old x at.0 (same ∙ ap (λ file. file.0) read ∙ ap (λ n. (get_or files n old).0) (sym at.1)) other)

-- with one file more
pub push_bytes : (name : List ℕ) (files : List (List ℕ × List ℕ)) (x : List ℕ × List ℕ) → position (is_named name) files ≡ None → x.0 ≡ name
    → (other : List ℕ) → bytes_in (files ++ x ∷ []) other ≡ (if bytes_eq name other then x.1 else bytes_in files other)
push_bytes name files x e same other = push_place name files x (missing name files e) same other

-- the bytes of the file that was found are changed, and the others stay
pub changes_found : (change : List ℕ → List ℕ) (name : List ℕ) (files inner : List (List ℕ × List ℕ)) (place : ℕ) (old : List ℕ × List ℕ) (old_name old_bytes new_bytes : List ℕ)
    → inner ≡ files → position (is_named name) files ≡ Some place → old ≡ get_or inner place old → (old_name, old_bytes) ≡ old → new_bytes ≡ change old_bytes
    → ChangesFile name (change (bytes_in files name)) files (set inner place (old_name, new_bytes))
changes_found change name files inner place old old_name old_bytes new_bytes same e read whole now other =
    let read_here : old ≡ get_or files place old = subst (λ held. old ≡ get_or held place old) same read in
    let bytes : new_bytes ≡ change (bytes_in files name) = now ∙ ap change (ap (λ file. file.1) whole ∙ sym (found_bytes name files place old e read_here)) in
    let kept : old_name ≡ old.0 = ap (λ file. file.0) whole in
    rw (same, ← bytes) (set_bytes name files place old (old_name, new_bytes) e read_here kept other)

-- a missing file is empty, so it stays where it has no bytes
pub changes_none : (name : List ℕ) (files : List (List ℕ × List ℕ)) (bytes : List ℕ) → position (is_named name) files ≡ None → bytes ≡ [] → ChangesFile name bytes files files
changes_none name files bytes e empty other = choose (bytes_eq name other) (bytes_eq-Decides name other).0
  where
    choose : (test : Bool) → (test ≡ true → name ≡ other) → bytes_in files other ≡ (if test then bytes else bytes_in files other)
    choose true same = subst (λ n. bytes_in files n ≡ bytes) (same refl) (missing_bytes name files e ∙ sym empty)
    choose false same = refl

-- a missing file that is made
pub changes_push : (name : List ℕ) (files new : List (List ℕ × List ℕ)) (new_name new_bytes bytes : List ℕ) → position (is_named name) files ≡ None
    → new ≡ files ++ (new_name, new_bytes) ∷ [] → new_name ≡ name → new_bytes ≡ bytes → ChangesFile name bytes files new
changes_push name files new new_name new_bytes bytes e made same now other = rw (made, ← now) (push_bytes name files (new_name, new_bytes) e same other)

-- a range of no bytes
pub filled_nothing : (step : Step) (byte : ℕ) → filled step byte [] ≡ []
filled_nothing (writes at piece) byte = refl
filled_nothing (cuts to) byte = refl
filled_nothing syncs byte = refl

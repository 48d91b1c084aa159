-- Two paths that part at a fork have no message above it in common.
use Rattle.std.proofs.Common.{◌≡◌, ◌≢◌, ℕ, zero, suc, ◌-◌, ◌≤◌, ◌⊎◌, inl, inr, List, [], ◌∷◌, ◌++◌, length, take, drop, map, reverse, Contains, Option, Some, None, IsSome, IfSome, All, slice_get, append_assoc, refl, sym, ap, ◌∙◌, subst, arith, length-append}
use Rattle.std.specs.List.{cons_option}
use Rattle.std.proofs.lemmas.List.{same_from_push, length-reverse, length-map, reverse-append}
use Rattle.std.proofs.lemmas.List.Elements.{All-head, All-tail, filter_map-append}
use Rattle.pad_text.specs.declared.name.Name.{Name}
use Rattle.pad_patch.proofs.CallerLemmas.{map-take}
use Rattle.pad_message.specs.declared.message.Message.{Message}
use Rattle.pad_message.specs.Message.{name_of}
use Rattle.pad_model.specs.declared.base.Base.{Base}
use Rattle.pad_model.specs.Path.{IsLinkedPath, NamesDiffer}
use Rattle.pad_list.proofs.CallerLemmas.{contains_cases, contains_none}
use Rattle.pad_model.proofs.CallerLemmas.{linked_unique, linked_below}
use Rattle.pad_branch.specs.declared.held.Held.{Held}
use Rattle.pad_branch.specs.declared.undo.Undo.{Undo}
use Rattle.pad_branch.specs.Undo.{undone_name}
use Rattle.pad_branch.specs.Held.{IsHeldAs, message_at, messages_at}
use Rattle.pad_branch.specs.Inside.Candidates.{AreNamed}
use Rattle.pad_branch.proofs.Growing.{messages_next, some_none}
use Rattle.pad_branch.proofs.Trunk.{take_reverse}
use Rattle.pad_branch.proofs.Way.{same_front}

-- the list with x at some place
record Split {A : Type 0} (x : A) (xs : List A) : Type 0 where
  before : List A
  after : List A
  whole : xs ≡ before ++ x ∷ after

split : {A : Type 0} (x : A) (xs : List A) → Contains xs x → Split x xs
split x [] h = absurd (contains_none x h)
split {A = A} x (y ∷ xs) h = go (contains_cases y xs x h) (split x xs)
  where
    go : (y ≡ x) ⊎ Contains xs x → (Contains xs x → Split x xs) → Split x (y ∷ xs)
    go (inl e) rest = record { before = []; after = xs; whole = ap (λ z. z ∷ xs) e }
    go (inr k) rest = let s = rest k in record { before = y ∷ s.before; after = s.after; whole = ap (λ zs. y ∷ zs) s.whole }

-- a list that is not empty has a last element
ends : {A : Type 0} (x : A) (xs : List A) → (front : List A) × (last : A) × (x ∷ xs ≡ front ++ last ∷ [])
ends x [] = ([], x, refl)
ends x (y ∷ xs) = let (front, last, e) = ends y xs in (x ∷ front, last, ap (λ q. x ∷ q) e)

split_at : {A : Type 0} (n : ℕ) (xs : List A) (ys : List A) → xs ++ ys ≡ take n xs ++ (drop n xs ++ ys)
split_at zero xs ys = refl
split_at (suc n) [] ys = refl
split_at (suc n) (x ∷ xs) ys = ap (λ q. x ∷ q) (split_at n xs ys)

at_drop : {A : Type 0} (k : ℕ) (xs : List A) (x : A) (rest : List A) → drop k xs ≡ x ∷ rest → slice_get xs k ≡ Some x
at_drop zero [] x rest e = cc
at_drop zero (y ∷ xs) x rest e = let same : y ≡ x = cc in ap Some same
at_drop (suc k) [] x rest e = cc
at_drop (suc k) (y ∷ xs) x rest e = at_drop k xs x rest e

pub map_joined : {A B : Type 0} (f : A → B) (xs ys : List A) → map f (xs ++ ys) ≡ map f xs ++ map f ys
map_joined f [] ys = refl
map_joined f (x ∷ xs) ys = ap (λ q. f x ∷ q) (map_joined f xs ys)

map_turned : {A B : Type 0} (f : A → B) (xs : List A) → map f (reverse xs) ≡ reverse (map f xs)
map_turned f [] = refl
map_turned f (x ∷ xs) = ap (map f) (reverse-append (x ∷ []) xs) ∙ map_joined f (reverse xs) (x ∷ []) ∙ ap (λ q. q ++ f x ∷ []) (map_turned f xs) ∙ sym (reverse-append (f x ∷ []) (map f xs))

-- messages that are held have the names at which they are held
pub names_held : (table : Name → Option Held) (names : List Name) → ((name : Name) → IfSome (table name) (IsHeldAs name)) → All (λ (name : Name). IsSome (table name)) names → map name_of (messages_at table names) ≡ names
names_held table [] kept all = refl
names_held table (n ∷ names) kept all = go (table n) refl (All-head (λ (name : Name). IsSome (table name)) n names all) (names_held table names kept (All-tail (λ (name : Name). IsSome (table name)) n names all))
  where
    go : (o : Option Held) → table n ≡ o → IsSome (table n) → map name_of (messages_at table names) ≡ names → map name_of (messages_at table (n ∷ names)) ≡ n ∷ names
    go None e s rest = absurd (some_none (table n) s e)
    go (Some held) e s rest =
        let kept_as : IsHeldAs n held = subst (λ o. IfSome o (IsHeldAs n)) e (kept n) in
        ap (map name_of) (messages_next table names n held e) ∙ ap (λ x. x ∷ map name_of (messages_at table names)) kept_as.named ∙ ap (λ q. n ∷ q) rest

-- the messages at names in the other order
reverse_option : {A : Type 0} (o : Option A) (xs : List A) → reverse (cons_option o xs) ≡ reverse xs ++ cons_option o []
reverse_option None xs = sym (nothing (reverse xs))
  where
    nothing : {A : Type 0} (ys : List A) → ys ++ [] ≡ ys
    nothing [] = refl
    nothing (y ∷ ys) = ap (λ q. y ∷ q) (nothing ys)
reverse_option (Some x) xs = reverse-append (x ∷ []) xs

pub reverse_messages : (table : Name → Option Held) (names : List Name) → reverse (messages_at table names) ≡ messages_at table (reverse names)
reverse_messages table [] = refl
reverse_messages table (n ∷ names) =
    reverse_option (message_at table n) (messages_at table names)
    ∙ ap (λ q. q ++ cons_option (message_at table n) []) (reverse_messages table names)
    ∙ sym (filter_map-append (message_at table) (reverse names) (n ∷ []))
    ∙ ap (messages_at table) (sym (reverse-append (n ∷ []) names))

-- the messages of these undos, the oldest first
pub joined_named : (table : Name → Option Held) (new : List Undo) (names : List Name) → map undone_name (reverse new) ≡ names → reverse (messages_at table names) ≡ messages_at table (map undone_name new)
joined_named table new names e =
    reverse_messages table names ∙ ap (λ q. messages_at table (reverse q)) (sym e ∙ map_turned undone_name new) ∙ ap (messages_at table) (twice (map undone_name new))
  where
    twice : (xs : List Name) → reverse (reverse xs) ≡ xs
    twice [] = refl
    twice (x ∷ xs) = ap reverse (reverse-append (x ∷ []) xs) ∙ reverse-append (reverse xs) (x ∷ []) ∙ ap (λ q. x ∷ q) (twice xs)

module _ (b : Base) (R below chosen : List Message) (d : NamesDiffer R) (chosen_linked : IsLinkedPath b R (chosen ++ below)) (undos : List Undo) (named : AreNamed chosen (reverse undos))
    (keep : ℕ) (fits : keep ≤ length undos) (joined : List Message) (names : List Name) (joined_names : map name_of joined ≡ names) (linked : IsLinkedPath b R (joined ++ (drop (length chosen - keep) chosen ++ below)))
    (fork : (front : List Name) (last : Name) (undo : Undo) → names ≡ front ++ last ∷ [] → slice_get undos keep ≡ Some undo → undone_name undo ≢ last)
  where
    many : length undos - keep ≡ length chosen - keep
    many =
        let len : length chosen ≡ length undos = sym (length-map chosen name_of) ∙ ap length named ∙ length-map (reverse undos) undone_name ∙ length-reverse undos in
        ap (λ n. n - keep) (sym len)

    left_names : map name_of (take (length chosen - keep) chosen) ≡ map undone_name (reverse (drop keep undos))
    left_names =
        map-take name_of (length chosen - keep) chosen
        ∙ ap (take (length chosen - keep)) named
        ∙ sym (map-take undone_name (length chosen - keep) (reverse undos))
        ∙ ap (λ k. map undone_name (take k (reverse undos))) (sym many)
        ∙ ap (map undone_name) (take_reverse undos keep)

    tail_same : (m : Message) (xs ys : List Message) → m ∷ xs ≡ m ∷ ys → xs ≡ ys
    tail_same m xs ys e = cc

    pub apart : (m : Message) → Contains (take (length chosen - keep) chosen) m → ¬ (Contains joined m)
    apart m in_left in_joined = which (drop keep undos) refl
      where
        l : Split m (take (length chosen - keep) chosen)
        l = split m (take (length chosen - keep) chosen) in_left

        j : Split m joined
        j = split m joined in_joined

        common : List Message
        common = drop (length chosen - keep) chosen ++ below

        under_left : IsLinkedPath b R (m ∷ (l.after ++ (drop (length chosen - keep) chosen ++ below)))
        under_left = linked_below b R l.before (m ∷ (l.after ++ (drop (length chosen - keep) chosen ++ below)))
            (subst (IsLinkedPath b R) (split_at (length chosen - keep) chosen below ∙ ap (λ q. q ++ (drop (length chosen - keep) chosen ++ below)) l.whole ∙ append_assoc l.before (m ∷ l.after) (drop (length chosen - keep) chosen ++ below)) chosen_linked)

        under_joined : IsLinkedPath b R (m ∷ (j.after ++ (drop (length chosen - keep) chosen ++ below)))
        under_joined = linked_below b R j.before (m ∷ (j.after ++ (drop (length chosen - keep) chosen ++ below)))
            (subst (IsLinkedPath b R) (ap (λ q. q ++ (drop (length chosen - keep) chosen ++ below)) j.whole ∙ append_assoc j.before (m ∷ j.after) (drop (length chosen - keep) chosen ++ below)) linked)

        same_rest : l.after ++ (drop (length chosen - keep) chosen ++ below) ≡ j.after ++ (drop (length chosen - keep) chosen ++ below)
        same_rest = tail_same m _ _ (linked_unique b R (m ∷ (l.after ++ (drop (length chosen - keep) chosen ++ below))) (m ∷ (j.after ++ (drop (length chosen - keep) chosen ++ below))) d under_left under_joined refl)

        same : l.after ≡ j.after
        same = same_front l.after j.after (drop (length chosen - keep) chosen ++ below)
            (omega (arith, ap length same_rest, length-append l.after (drop (length chosen - keep) chosen ++ below), length-append j.after (drop (length chosen - keep) chosen ++ below))) same_rest

        -- the last of the names from m on
        e : (front : List Name) × (last : Name) × (map name_of (m ∷ l.after) ≡ front ++ last ∷ [])
        e = ends (name_of m) (map name_of l.after)

        left_ends : map name_of (take (length chosen - keep) chosen) ≡ (map name_of l.before ++ e.0) ++ e.1 ∷ []
        left_ends = ap (map name_of) l.whole ∙ map_joined name_of l.before (m ∷ l.after) ∙ ap (λ q. map name_of l.before ++ q) e.2 ∙ sym (append_assoc (map name_of l.before) e.0 (e.1 ∷ []))

        joined_ends : names ≡ (map name_of j.before ++ e.0) ++ e.1 ∷ []
        joined_ends =
            sym joined_names ∙ ap (map name_of) j.whole ∙ map_joined name_of j.before (m ∷ j.after) ∙ ap (λ q. map name_of j.before ++ map name_of (m ∷ q)) (sym same)
            ∙ ap (λ q. map name_of j.before ++ q) e.2 ∙ sym (append_assoc (map name_of j.before) e.0 (e.1 ∷ []))

        which : (ds : List Undo) → drop keep undos ≡ ds → ⊥
        which [] none =
            let empty : (map name_of l.before ++ e.0) ++ e.1 ∷ [] ≡ [] = sym left_ends ∙ left_names ∙ ap (λ q. map undone_name (reverse q)) none in
            omega (arith, ap length empty, length-append (map name_of l.before ++ e.0) (e.1 ∷ []))
        which (u ∷ ds) is =
            let pushed : (map name_of l.before ++ e.0) ++ e.1 ∷ [] ≡ map undone_name (reverse ds) ++ undone_name u ∷ [] =
            sym left_ends ∙ left_names ∙ ap (λ q. map undone_name (reverse q)) is ∙ ap (map undone_name) (reverse-append (u ∷ []) ds) ∙ map_joined undone_name (reverse ds) (u ∷ []) in
            let last_same : e.1 ≡ undone_name u = (same_from_push (map name_of l.before ++ e.0) (map undone_name (reverse ds)) e.1 (undone_name u) pushed).1 in
            fork (map name_of j.before ++ e.0) e.1 u joined_ends (at_drop keep undos u ds is) (sym last_same)

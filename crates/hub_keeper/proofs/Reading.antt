-- The files of a loaded channel read as the list held.
use Rattle.std.proofs.Common.{◌≡◌, ◌∙◌, ℕ, suc, zero, Bool, true, false, IsTrue, List, [], ◌∷◌, Some, None, MatchBool, refl, sym, subst}
use Rattle.std.specs.Prelude.{slice_get}
use Rattle.disk_volume.specs.Disk.{Disk, reads}
use Rattle.log_format.specs.declared.form.Form.{Form}
use Rattle.log_format.specs.declared.form.Form.TheVariants.{One, Two}
use Rattle.keeper_channel.specs.Chan.{has_marker, unmarked, moved, IsChan, IsList}
use Rattle.keeper_channel.specs.Logs.{IsUnmoved, IsMoved, IsLive, IsLogsOf}
use Rattle.keeper_channel.specs.declared.logs.Logs.{Logs}
use Rattle.keeper_channel.specs.declared.logs.Logs.TheVariants.{Unmoved, Moved}

-- a payload without bytes is a marker
marked : (payloads : List (List ℕ)) (index : ℕ) → slice_get payloads index ≡ Some [] → has_marker payloads ≡ true
marked [] index got = let e : None ≡ Some [] = got in absurd (cc)
marked ([] ∷ payloads) index got = refl
marked ((byte ∷ bytes) ∷ payloads) zero got = let e : Some (byte ∷ bytes) ≡ Some [] = got in absurd (cc)
marked ((byte ∷ bytes) ∷ payloads) (suc index) got = marked payloads index got

-- without a marker the list is that of form One, moved
list_unmoved : (one : List (List ℕ) → Type 0) (two old list : List (List ℕ)) → has_marker two ≡ false → one old → list ≡ moved old → IsChan one two list
list_unmoved one two old list none is same =
    subst (λ (b : Bool). MatchBool b (list ≡ unmarked two) ((other : List (List ℕ)) × one other × (list ≡ moved other))) (sym none) (old, is, same)

-- and with one that of form Two, without it
list_moved : (one : List (List ℕ) → Type 0) (two list : List (List ℕ)) → has_marker two ≡ true → list ≡ unmarked two → IsChan one two list
list_moved one two list some same =
    subst (λ (b : Bool). MatchBool b (list ≡ unmarked two) ((other : List (List ℕ)) × one other × (list ≡ moved other))) (sym some) same

-- a log of this name and form
pub named : {L : Type 0} (opens_as : Form → List ℕ → (List ℕ → List ℕ) → List (List ℕ) → Type 0) (name_of : L → List ℕ) (form_of : L → Form)
    (form : Form) (name : List ℕ) (files : List ℕ → List ℕ) (log : L) (payloads : List (List ℕ)) → name_of log ≡ name → form_of log ≡ form
    → opens_as (form_of log) (name_of log) files payloads → opens_as form name files payloads
named opens_as name_of form_of form name files log payloads same_name same_form is =
    subst (λ (n : List ℕ). opens_as form n files payloads) same_name (subst (λ (f : Form). opens_as f (name_of log) files payloads) same_form is)

pub reads_held : {O G : Type 0} (opens_one opens_two : (List ℕ → List ℕ) → List (List ℕ) → Type 0) (doubt : (List ℕ → List ℕ) → List (List ℕ))
    (holds_one : O → List (List ℕ) → Disk → Type 0) (holds_two : G → List (List ℕ) → Disk → Type 0) (is_one : O → Type 0) (is_two : G → Type 0)
    (logs : Logs O G) (held suspense : List (List ℕ)) (disk : Disk)
    → ((log : O) (payloads : List (List ℕ)) → is_one log → holds_one log payloads disk → opens_one (reads disk) payloads)
    → ((log : G) (payloads : List (List ℕ)) → is_two log → holds_two log payloads disk → opens_two (reads disk) payloads)
    → IsLogsOf is_one is_two logs → IsLive holds_one holds_two doubt logs held suspense disk → IsList opens_one opens_two (reads disk) held
reads_held opens_one opens_two doubt holds_one holds_two is_one is_two (Unmoved one two) held suspense disk by_one by_two made live =
    (live.new, by_two two live.new made.1 live.holds_new, list_unmoved (opens_one (reads disk)) live.new live.old held live.unmoved (by_one one live.old made.0 live.holds_old) live.held_is)
reads_held opens_one opens_two doubt holds_one holds_two is_one is_two (Moved log marker) held suspense disk by_one by_two made live =
    (live.new, by_two log live.new made live.holds_new, list_moved (opens_one (reads disk)) live.new held (marked live.new marker live.marked.0) live.held_is)

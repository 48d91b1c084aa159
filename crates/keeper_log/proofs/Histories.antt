-- What reading entries gives, and leaves.
use Rattle.std.proofs.Common.{◌≡◌, ◌∙◌, inr, ℕ, zero, suc, ◌+◌, List, [], ◌∷◌, ◌++◌, take, drop, Some, None, Option, Result, Ok, Err, IsErrOf, IfOk, MatchResult, length, refl, sym, ap, subst, arith}
use Rattle.std.specs.Prelude.{slice_get}
use Rattle.log_format.specs.declared.damage.Damage.{Damage}
use Rattle.keeper_channel.specs.declared.refused.KeeperRefused.{KeeperRefused}
use Rattle.keeper_channel.specs.declared.refused.KeeperRefused.TheVariants.{Full, Store, Damaged, NoMemory}
use Rattle.keeper_table.specs.Entry.{entry_in}
use Rattle.keeper_table.specs.declared.entry.Entry.{Entry}
use Rattle.keeper_state.specs.Entries.{entries_from}
use Rattle.netflux_codec.specs.declared.since.Since.{Since}
use Rattle.netflux_codec.specs.declared.since.Since.TheVariants as since
use Rattle.keeper_entry.specs.History.{first_from}
use Rattle.keeper_log.specs.Answer.{answer_of, answer_in}
use Rattle.keeper_table.specs.Span.{span_in, found_at, Counts}
use Rattle.keeper_state.specs.State.{State, live, again, Found, HasPlace, Reaches, Answers, AnswersByReading, ReadRefused}
use Rattle.keeper_log.specs.declared.answer.Answer.{Answer}
use Rattle.keeper_table.specs.declared.span.Span.{Span}

entries_next : (index n : ℕ) (payloads : List (List ℕ)) (payload : List ℕ) → slice_get payloads n ≡ Some payload
    → entries_from index (take n payloads) ++ entry_in (index + n) payload ∷ [] ≡ entries_from index (take (suc n) payloads)
entries_next index n [] payload got = absurd (cc)
entries_next index zero (first ∷ payloads) payload got =
    let same : first ≡ payload = cc in
    let here : index + 0 ≡ index = omega arith in
    ap (λ (i : ℕ). entry_in i payload ∷ []) here ∙ ap (λ (p : List ℕ). entry_in index p ∷ []) (sym same)
entries_next index (suc n) (first ∷ payloads) payload got =
    let place : index + suc n ≡ suc index + n = omega arith in
    ap (λ (i : ℕ). entry_in index first ∷ (entries_from (suc index) (take n payloads) ++ entry_in i payload ∷ [])) place
    ∙ ap (λ (rest : List Entry). entry_in index first ∷ rest) (entries_next (suc index) n payloads payload got)

-- one entry more of a list, of which the first has this index
pub entries_more : (index n : ℕ) (payloads : List (List ℕ)) (payload : List ℕ) → slice_get payloads n ≡ Some payload
    → entries_from index (take n payloads) ++ entry_in (index + n) payload ∷ [] ≡ entries_from index (take (n + 1) payloads)
entries_more index n payloads payload got =
    let e : suc n ≡ n + 1 = omega arith in
    entries_next index n payloads payload got ∙ ap (λ (k : ℕ). entries_from index (take k payloads)) e

-- what stands at a place of a list stands so much earlier in the list behind
pub got_behind : (first n : ℕ) (payloads : List (List ℕ)) → slice_get (drop first payloads) n ≡ slice_get payloads (first + n)
got_behind zero n payloads =
    let e : n ≡ 0 + n = omega arith in
    ap (slice_get payloads) e
got_behind (suc first) n [] = refl
got_behind (suc first) n (payload ∷ payloads) =
    let e : suc first + n ≡ suc (first + n) = omega arith in
    got_behind first n payloads ∙ ap (λ (k : ℕ). slice_get (payload ∷ payloads) k) (sym e)

-- what a refused read leaves
pub read_left : {T : Type 0} (Stands : State → Type 0) (held suspense : List (List ℕ)) (refused : KeeperRefused)
    → (IsErrOf {T = T} (Err refused) Full → ⊥) → ((damage : Damage) → IsErrOf {T = T} (Err refused) (Damaged damage) → ⊥)
    → (IsErrOf {T = T} (Err refused) Store → Stands (again held suspense)) → ((IsErrOf {T = T} (Err refused) Store → ⊥) → Stands (live held suspense))
    → (next : State) × ReadRefused held suspense refused next × Stands next
read_left Stands held suspense Full full damaged store other = absurd (full refl)
read_left Stands held suspense Store full damaged store other = (again held suspense, refl, store refl)
read_left Stands held suspense (Damaged damage) full damaged store other = absurd (damaged damage refl)
read_left {T} Stands held suspense (NoMemory error) full damaged store other =
    (live held suspense, refl, other (λ is. absurd (cc)))

-- each span of a list tells how many entries it has
pub counts_in : (held : List (List ℕ)) (from : Since) → Counts (span_in held from) (length held)
counts_in held since.Default = refl
counts_in held since.All = refl
counts_in held (since.Known key) = go (first_from key 0 held)
  where
    go : (found : Option ℕ) → Counts (found_at found (length held)) (length held)
    go None = tt
    go (Some first) = refl

-- a history that was read, or not
pub reads_from : (Stands : State → Type 0) (finds : Found → Type 0) (size : ℕ) (state : State) (held suspense : List (List ℕ)) (from : Since) (span : Span) (result : Result Answer KeeperRefused)
    → MatchResult result (λ answer. Stands (live held suspense)) (λ refused. (next : State) × ReadRefused held suspense refused next × Stands next)
    → IfOk result (λ answer. answer ≡ answer_of held span) → span ≡ span_in held from → HasPlace size state → Reaches finds state held suspense
    → (next : State) × AnswersByReading finds size state (λ list answer. answer ≡ answer_in list from) result next × Stands next
reads_from Stands finds size state held suspense from span (Ok answer) left right is place reaches =
    (live held suspense, (place, held, suspense, reaches, (right ∙ ap (answer_of held) is, refl)), left)
reads_from Stands finds size state held suspense from span (Err refused) left right is place reaches =
    (left.0, inr (place, held, suspense, reaches, left.1), left.2)

-- a channel that was woken answers by its list
pub answered : {T : Type 0} (Stands : State → Type 0) (finds : Found → Type 0) (size : ℕ) (state : State) (Is : List (List ℕ) → T → Type 0) (told : T)
    → ((next : State) × Answers finds size state (λ held woken. Unit {0}) (Ok (tt {0})) next × Stands next)
    → ((held suspense : List (List ℕ)) → Stands (live held suspense) → Is held told)
    → (next : State) × Answers finds size state Is (Ok told) next × Stands next
answered Stands finds size state Is told was by =
    let here = subst Stands was.1.4.1 was.2 in
    (live was.1.1 was.1.2, (was.1.0, was.1.1, was.1.2, was.1.3, (by was.1.1 was.1.2 here, refl)), here)

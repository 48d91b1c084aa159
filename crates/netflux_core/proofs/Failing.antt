-- Failures are counted, and the volume's faults are no fewer.
use Rattle.std.proofs.Common.{◌≡◌, ◌∙◌, ◌≤◌, ◌⊎◌, inl, inr, ℕ, ◌+◌, ◌-◌, ◌^◌, min, List, [], ◌∷◌, ◌++◌, Result, Ok, Err, IfOk, OnErr, IsErrOf, refl, sym, subst, arith}
use Rattle.pad_edge.specs.Count.{Rose}
use Rattle.keeper_channel.specs.declared.refused.KeeperRefused.{KeeperRefused}
use Rattle.keeper_channel.specs.declared.refused.KeeperRefused.TheVariants.{Full, Store, Damaged, NoMemory}
use Rattle.serve_loop.specs.declared.out.Out.{Out}
use Rattle.netflux_core.specs.Words.{Refuses, IsStoreError, HasStoreError, failures_after}

one_more : (first failures before now : ℕ) → min (first + failures) (2 ^ 64 - 1) ≤ before → min (before + 1) (2 ^ 64 - 1) ≤ now → min (first + (failures + 1)) (2 ^ 64 - 1) ≤ now
one_more first failures before now so_far rose = omega (arith, so_far, rose)

pub failures_rise : {T : Type 0} (first failures before now : ℕ) (result : Result T KeeperRefused) → min (first + failures) (2 ^ 64 - 1) ≤ before
    → (IsErrOf result Store → Rose before now) → before ≤ now → min (first + failures_after failures result) (2 ^ 64 - 1) ≤ now
failures_rise first failures before now (Ok value) so_far rose later = omega (arith, so_far, later)
failures_rise first failures before now (Err Full) so_far rose later = omega (arith, so_far, later)
failures_rise first failures before now (Err Store) so_far rose later = one_more first failures before now so_far (rose refl)
failures_rise first failures before now (Err (Damaged damage)) so_far rose later = omega (arith, so_far, later)
failures_rise first failures before now (Err (NoMemory memory)) so_far rose later = omega (arith, so_far, later)

-- if there is no failure more
pub failures_stay : (first failures before now : ℕ) → min (first + failures) (2 ^ 64 - 1) ≤ before → before ≤ now → min (first + failures) (2 ^ 64 - 1) ≤ now
failures_stay first failures before now so_far later = omega (arith, so_far, later)

-- a refusal of the volume is one of an answer that is that refusal
pub as_err : {T : Type 0} (why : KeeperRefused) → why ≡ Store → IsErrOf {T = T} (Err why) Store
as_err {T} why e = subst (λ (w : KeeperRefused). IsErrOf {T = T} (Err w) Store) (sym e) refl

-- if there is none so far there is no fault more
pub none_failed : {T : Type 0} (first failures before now : ℕ) (result : Result T KeeperRefused) → (failures ≡ 0 → before ≡ first) → IsErrOf result Store ⊎ (now ≡ before)
    → failures_after failures result ≡ 0 → now ≡ first
none_failed first failures before now (Ok value) so_far (inl store) none = absurd (cc)
none_failed first failures before now (Ok value) so_far (inr same) none = same ∙ so_far none
none_failed first failures before now (Err Full) so_far (inl store) none = absurd (cc)
none_failed first failures before now (Err Full) so_far (inr same) none = same ∙ so_far none
none_failed first failures before now (Err Store) so_far kept none = absurd (omega (arith, none))
none_failed first failures before now (Err (Damaged damage)) so_far (inl store) none = absurd (cc)
none_failed first failures before now (Err (Damaged damage)) so_far (inr same) none = same ∙ so_far none
none_failed first failures before now (Err (NoMemory memory)) so_far (inl store) none = absurd (cc)
none_failed first failures before now (Err (NoMemory memory)) so_far (inr same) none = same ∙ so_far none

-- an answer says that the volume failed, or it did not
pub told_or_kept : {T : Type 0} (same : Type 0) (number seq : ℕ) (about : List ℕ) (why : KeeperRefused) (outs : List Out) → IsErrOf {T = T} (Err why) Store ⊎ same
    → Refuses number seq about why outs → IsStoreError outs ⊎ same
told_or_kept same number seq about why outs (inl store) gives =
    let is : why ≡ Store = cc in inl (number, seq, about, subst (λ (w : KeeperRefused). Refuses number seq about w outs) is gives)
told_or_kept same number seq about why outs (inr is) gives = inr is

-- at `Ok` there is no refusal
pub ok_kept : {T : Type 0} (same : Type 0) (value : T) → IsErrOf {T = T} (Ok value) Store ⊎ same → same
ok_kept same value (inl store) = absurd (cc)
ok_kept same value (inr is) = is

-- what came before left the count as it was
pub kept_on : {A : Type 0} {first before now : ℕ} → A ⊎ (now ≡ before) → before ≡ first → A ⊎ (now ≡ first)
kept_on (inl store) same = inl store
kept_on (inr still) same = inr (still ∙ same)

-- a refusal is the same of another answer
pub err_kept : {T U : Type 0} (same : Type 0) (why : KeeperRefused) → IsErrOf {T = T} (Err why) Store ⊎ same → IsErrOf {T = U} (Err why) Store ⊎ same
err_kept {T} {U} same why (inl store) = let is : why ≡ Store = cc in inl (as_err {T = U} why is)
err_kept {T} {U} same why (inr kept) = inr kept

has_behind : (outputs : List (List Out)) (outs : List Out) → HasStoreError outputs → HasStoreError (outputs ++ outs ∷ [])
has_behind [] outs has = absurd has
has_behind (first ∷ outputs) outs (inl is) = inl is
has_behind (first ∷ outputs) outs (inr has) = inr (has_behind outputs outs has)

has_last : (outputs : List (List Out)) (outs : List Out) → IsStoreError outs → HasStoreError (outputs ++ outs ∷ [])
has_last [] outs is = inl is
has_last (first ∷ outputs) outs is = inr (has_last outputs outs is)

-- the same of outputs and one more
pub kept_more : (outputs : List (List Out)) (outs : List Out) (first before now : ℕ) → HasStoreError outputs ⊎ (before ≡ first) → IsStoreError outs ⊎ (now ≡ before)
    → HasStoreError (outputs ++ outs ∷ []) ⊎ (now ≡ first)
kept_more outputs outs first before now (inl has) one = inl (has_behind outputs outs has)
kept_more outputs outs first before now (inr same) (inl is) = inl (has_last outputs outs is)
kept_more outputs outs first before now (inr same) (inr still) = inr (still ∙ same)

-- what holds of each value holds at `Ok`
pub at_ok : {T E : Type 0} (result : Result T E) (P : T → Type 0) → ((value : T) → P value) → IfOk result P
at_ok (Ok value) P each = each value
at_ok (Err why) P each = tt

-- what holds holds after an error
pub on_err : {T E : Type 0} {A : Type 0} (result : Result T E) → A → OnErr result A
on_err (Ok value) holds = tt
on_err (Err why) holds = holds

-- What is said of a result, said of it in a hub's words.
use Rattle.std.proofs.Common.{◌≡◌, ◌⊎◌, inl, inr, List, ℕ, ◌<◌, ◌≤◌, arith, Bool, true, false, Option, Some, None, IsSome, IfSome, Result, Ok, Err, OnOk, IfOk, IsOk, refl, ap, subst}
use Rattle.keeper_channel.specs.declared.slot.Slot.{Slot}
use Rattle.keeper_table.specs.Span.{EachBefore, HasAtMost}
use Rattle.keeper_table.specs.Table.{slot_in}
use Rattle.keeper_table.specs.declared.span.Span.{Span}
use Rattle.keeper_table.specs.declared.span.Span.TheVariants.{Found, Unknown}
use Rattle.keeper_table.specs.declared.table.Table.{Table}
use Rattle.hub_keeper.specs.Keeping.{IsLoaded}

some_is : {S : Type 0} (found : Option S) → IsSome found → (slot : S) × (found ≡ Some slot)
some_is None is = let e : false ≡ true = is in absurd (cc)
some_is (Some slot) is = (slot, refl)

-- a channel with a slot is loaded
pub loaded_then : {O G T E : Type 0} (table : Table (Slot O G)) (channel : List ℕ) (result : Result T E) → OnOk result (IsSome (slot_in table channel)) → OnOk result (IsLoaded table channel)
loaded_then table channel (Ok value) is = some_is (slot_in table channel) is
loaded_then table channel (Err why) is = tt

-- what holds of the slot of a loaded channel, if there is one
pub of_loaded : {S P : Type 0} (found : Option S) (Q : Type 0) → (slot : S) × (found ≡ Some slot) → IfSome found (λ slot. P × Q) → P
of_loaded {S} None Q slot is = let e : None ≡ Some slot.0 = slot.1 in absurd (cc)
of_loaded (Some slot) Q found is = is.0

each_few : (span : Span) (Is : ℕ → Type 0) (most : ℕ) → EachBefore span Is → HasAtMost span most → EachBefore span (λ index. Is index × (index < most))
each_few (Found first total) Is most each few = λ index before. (each index before, omega (arith, before, few))
each_few Unknown Is most each few = tt

-- each index before the end of a span is small too
pub small : {E : Type 0} (result : Result Span E) (Is : ℕ → Type 0) (most : ℕ) → IfOk result (λ span. EachBefore span Is) → IfOk result (λ span. HasAtMost span most)
    → IfOk result (λ span. EachBefore span (λ index. Is index × (index < most)))
small (Ok span) Is most each few = each_few span Is most each few
small (Err why) Is most each few = tt

abbrev end_of : Span → ℕ
end_of (Found first total) = total
end_of Unknown = 0

at_most : (span : Span) (most start total : ℕ) → HasAtMost span most → span ≡ Found start total → total ≤ most
at_most (Found first end) most start total few is = subst (λ (n : ℕ). n ≤ most) (ap end_of is) few
at_most Unknown most start total few is = let e : Unknown ≡ Found start total = is in absurd (cc)

-- a span tells of as many entries at most
pub few_entries : {E : Type 0} (result : Result Span E) (most start total : ℕ) → IfOk result (λ span. HasAtMost span most) → IfOk result (λ span. span ≡ Found start total → total ≤ most)
few_entries (Ok span) most start total few = λ is. at_most span most start total few is
few_entries (Err why) most start total few = tt

-- One channel of a keeper's table is written.
use Rattle.std.proofs.Common.{◌≡◌, ◌∙◌, ◌↔◌, inl, inr, ℕ, ◌+◌, ◌<◌, ◌≤◌, Bool, true, false, IsTrue, List, Option, None, Some, Result, Ok, Err, is_some, IsSome, IfSome, bytes_eq, if◌then◌else◌, refl, sym, ap, subst, arith}
use Rattle.std.proofs.lemmas.Bool.Decides.{leb_tells}
use Rattle.std.proofs.lemmas.Slice.Eq.{bytes_eq-Decides}
use Rattle.keeper_table.specs.Span.{Counts, EachBefore, HasAtMost}
use Rattle.keeper_table.specs.declared.span.Span.{Span}
use Rattle.keeper_table.specs.declared.span.Span.TheVariants.{Found, Unknown}
use Rattle.keeper_table.specs.Table.{channel_in, slot_in, joined, size_of, newly, IsOneTooMany}
use Rattle.keeper_table.specs.declared.table.Table.{Table}
use Rattle.keeper_table.specs.declared.table.TheConstants.{MOST_CHANNELS}
use Rattle.keeper_log.specs.Inside.Taking.{ReadsOf}

-- what holds of each slot holds of each after it, if it holds of the channel's
pub keeper_on : {S : Type 0} (Is : (channel : List ℕ) → S → Type 0) (old new : Table S) (channel : List ℕ)
    → ((slot : S) → slot_in new channel ≡ Some slot → Is channel slot)
    → ((other : List ℕ) → bytes_eq channel other ≡ false → channel_in new other ≡ channel_in old other)
    → ((other : List ℕ) (slot : S) → slot_in old other ≡ Some slot → Is other slot)
    → (other : List ℕ) (slot : S) → slot_in new other ≡ Some slot → Is other slot
keeper_on {S} Is old new channel mine others was other slot found = choose (bytes_eq channel other) refl
  where
    choose : (same : Bool) → bytes_eq channel other ≡ same → Is other slot
    choose true e =
        let same : channel ≡ other = (bytes_eq-Decides channel other).0 e in
        subst (λ (c : List ℕ). Is c slot) same (mine slot (subst (λ (c : List ℕ). slot_in new c ≡ Some slot) (sym same) found))
    choose false e = was other slot (sym (ap joined (others other e)) ∙ found)

-- a channel that has no slot now, and is there as it was
pub same_unloaded : {S : Type 0} (old new : Option (Option S)) → joined old ≡ None → joined new ≡ None → is_some new ≡ is_some old → new ≡ old
same_unloaded None None a b e = refl
same_unloaded None (Some None) a b e = absurd (cc)
same_unloaded (Some None) None a b e = absurd (cc)
same_unloaded (Some None) (Some None) a b e = refl
same_unloaded {S} (Some (Some slot)) new a b e = let no : Some slot ≡ None = a in absurd (cc)
same_unloaded {S} None (Some (Some slot)) a b e = let no : Some slot ≡ None = b in absurd (cc)
same_unloaded {S} (Some None) (Some (Some slot)) a b e = let no : Some slot ≡ None = b in absurd (cc)

-- whatever slot a channel has, it is one more or not
pub newly_some : {S : Type 0} (old : Option (Option S)) (one other : Option S) → newly old (Some one) ≡ newly old (Some other)
newly_some None one other = refl
newly_some (Some slot) one other = refl

-- a channel that stays what it was is none more
pub newly_same : {S : Type 0} (found : Option (Option S)) → newly found found ≡ 0
newly_same None = refl
newly_same (Some slot) = refl

-- a channel's slot is put
pub grew_put : {S : Type 0} (old found new : Option (Option S)) (slot put : Option S) (size_old size_mid size_new : ℕ) → found ≡ Some slot → new ≡ Some put
    → size_mid ≡ size_old + newly old found → size_new ≡ size_mid → size_new ≡ size_old + newly old new
grew_put {S} old found new slot put size_old size_mid size_new is is_new grew same =
    same ∙ grew ∙ ap (λ (f : Option (Option S)). size_old + newly old f) is ∙ ap (λ (n : ℕ). size_old + n) (newly_some old slot put) ∙ ap (λ (f : Option (Option S)). size_old + newly old f) (sym is_new)

-- each index before the end of a span
pub counted_before : (span : Span) (count : ℕ) (Is : ℕ → Type 0) → Counts span count → ((index : ℕ) → index < count → Is index) → EachBefore span Is
counted_before (Found first total) count Is counts by = λ index less. by index (subst (λ (n : ℕ). index < n) counts less)
counted_before Unknown count Is counts by = tt

-- a span tells of as many entries at most as there are
pub at_most : (span : Span) (count most : ℕ) → Counts span count → count ≤ most → HasAtMost span most
at_most (Found first total) count most counts few = subst (λ (n : ℕ). n ≤ most) (sym counts) few
at_most Unknown count most counts few = tt

-- what holds of the slot of a channel, if there is one
pub slot_here : {S : Type 0} (table : Table S) (channel : List ℕ) (Is : S → Type 0) → ((slot : S) → slot_in table channel ≡ Some slot → Is slot) → IfSome (slot_in table channel) Is
slot_here {S} table channel Is by = go (slot_in table channel) by
  where
    go : (found : Option S) → ((slot : S) → found ≡ Some slot → Is slot) → IfSome found Is
    go None by = tt
    go (Some slot) by = by slot refl

-- a channel with a slot is there
pub known : {S : Type 0} (found : Option (Option S)) (slot : S) → joined found ≡ Some slot → IsSome found
known {S} None slot is = let e : None ≡ Some slot = is in absurd (cc)
known (Some found) slot is = refl

-- a channel whose slot was taken is there, without one
pub taken_is : {S : Type 0} (old new : Option (Option S)) (slot : S) → Some slot ≡ joined old → joined new ≡ None → is_some new ≡ is_some old → new ≡ Some None
taken_is {S} None new slot was left e = let no : Some slot ≡ None = was in absurd (cc)
taken_is (Some found) None slot was left e = absurd (cc)
taken_is (Some found) (Some None) slot was left e = refl
taken_is {S} (Some found) (Some (Some other)) slot was left e = let no : Some other ≡ None = left in absurd (cc)

-- and it is none more
pub taken_none : {S : Type 0} (old new : Option (Option S)) (slot : S) → Some slot ≡ joined old → newly old new ≡ 0
taken_none {S} None new slot was = let no : Some slot ≡ None = was in absurd (cc)
taken_none (Some found) new slot was = refl

-- it counts only whether a channel is there
pub newly_known : {S : Type 0} (old mid new : Option (Option S)) → is_some new ≡ is_some mid → newly old new ≡ newly old mid
newly_known (Some found) mid new e = refl
newly_known None None None e = refl
newly_known None (Some a) (Some b) e = refl
newly_known None None (Some b) e = absurd (cc)
newly_known None (Some a) None e = absurd (cc)

-- two slots of one place
pub one_slot : {S : Type 0} (one other : S) → Some one ≡ Some other → one ≡ other
one_slot one other same = cc

same_slot : {S E : Type 0} (result : Result S E) (one other : S) → result ≡ Ok one → result ≡ Ok other → one ≡ other
same_slot result one other is same = cc

no_slot_taken : {S E A : Type 0} (result : Result S E) (refused : E) (slot : S) → result ≡ Err refused → result ≡ Ok slot → A
no_slot_taken result refused slot is same = absurd (cc)

-- a slot that was taken is the one that was there
pub taken_same : {S E : Type 0} (found : Option S) (P : Type 0) (result : Result S E) (one : S) (Other : S → Type 0) → result ≡ Ok one → ((slot : S) → P → one ≡ slot → Other slot)
    → IfSome found (λ slot. P × (result ≡ Ok slot)) → IfSome found Other
taken_same None P result one Other is by taken = tt
taken_same (Some slot) P result one Other is by taken = by slot taken.0 (same_slot result one slot is taken.1)

-- and one that is there is taken
pub taken_never : {S E : Type 0} (found : Option S) (P : Type 0) (result : Result S E) (refused : E) (Other : S → Type 0) → result ≡ Err refused
    → IfSome found (λ slot. P × (result ≡ Ok slot)) → IfSome found Other
taken_never None P result refused Other is taken = tt
taken_never (Some slot) P result refused Other is taken = no_slot_taken result refused slot is taken.1

-- a channel with a slot is none too many
pub loaded_fits : {S A : Type 0} (found : Option (Option S)) (slot : S) → Some slot ≡ joined found → found ≡ None → A
loaded_fits {S} found slot is none = let e : Some slot ≡ None = is ∙ ap joined none in absurd (cc)

-- whether a channel is one too many follows from what the table has of it, and from its size
pub too_many_on : {S : Type 0} (one other : Table S) (channel : List ℕ) → channel_in one channel ≡ channel_in other channel → size_of one ≡ size_of other
    → IsOneTooMany one channel → IsOneTooMany other channel
too_many_on one other channel found size many = (subst (λ (n : ℕ). MOST_CHANNELS ≤ n) size many.0, sym found ∙ many.1)

-- a channel that is added is one more, if it was not there
pub newly_added : {S : Type 0} (found new : Option (Option S)) → new ≡ Some None → newly found new ≡ (if is_some found then 0 else 1)
newly_added None new is = ap (newly None) is
newly_added (Some found) new is = refl

-- a table that was not full has a place
pub few_added : {S : Type 0} (found : Option (Option S)) (full : Bool) (size more : ℕ) → full ≡ false → (IsTrue full ↔ ((MOST_CHANNELS ≤ size) × (found ≡ None)))
    → size ≤ MOST_CHANNELS → more ≡ size + (if is_some found then 0 else 1) → more ≤ MOST_CHANNELS
few_added None full size more free exactly few is = elim (leb_tells MOST_CHANNELS size) [
  | inl many ↦ let e : true ≡ false = sym (exactly.1 (many.1, refl)) ∙ free in absurd (cc)
  | inr less ↦ omega (arith, less.1, is)
]
few_added (Some found) full size more free exactly few is = omega (arith, few, is)

-- a table that stays is read
pub read_none : {S : Type 0} (channel : List ℕ) (before after : Table S) → after ≡ before → ReadsOf channel before after
read_none channel before after same = record { others = λ other differ. ap (λ t. channel_in t other) same; known = ap (λ t. is_some (channel_in t channel)) same; size = ap (λ t. size_of t) same }

-- a property of every slot
pub slot_any : {S : Type 0} (found : Option S) (Is : S → Type 0) → ((slot : S) → Is slot) → IfSome found Is
slot_any None Is by = tt
slot_any (Some slot) Is by = by slot

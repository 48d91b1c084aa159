-- One channel of all is put, and how many are loaded then.
use Rattle.std.proofs.Common.{◌≡◌, ◌∙◌, ℕ, ◌+◌, Bool, false, List, refl, ap, Option, Some, None, bytes_eq, if◌then◌else◌, arith}
use Rattle.std.proofs.lemmas.Slice.Eq.{bytes_eq-Decides}
use Rattle.keeper_state.specs.State.{State, unseen, live, again}
use Rattle.keeper_table.specs.Table.{newly}
use Rattle.netflux_core.specs.Channels.{loaded_after}

-- all channels with this in place of one
abbrev pub put_state : (channel : List ℕ) → State → (at : List ℕ → State) → List ℕ → State
put_state channel next at other = if bytes_eq channel other then next else at other

pub put_here : (channel : List ℕ) (next : State) (at : List ℕ → State) → put_state channel next at channel ≡ next
put_here channel next at = ap (λ (b : Bool). if b then next else at channel) ((bytes_eq-Decides channel channel).1 refl)

pub put_other : (channel : List ℕ) (next : State) (at : List ℕ → State) (other : List ℕ) → bytes_eq channel other ≡ false → put_state channel next at other ≡ at other
put_other channel next at other apart = ap (λ (b : Bool). if b then next else at other) apart

-- what a table has of a channel in a state
abbrev pub FoundAs : {S : Type 0} → Option (Option S) → State → Type 0
FoundAs found unseen = found ≡ None
FoundAs {S} found (live held suspense) = (slot : S) × (found ≡ Some (Some slot))
FoundAs found (again held suspense) = found ≡ Some None

-- the table grows as the count of channels does
pub counted : {S : Type 0} (loaded : ℕ) (before now : Option (Option S)) (state next : State) → FoundAs before state → FoundAs now next
    → loaded + newly before now ≡ loaded_after loaded state next
counted {S} loaded before now unseen unseen b n =
    let none : newly before now ≡ 0 = ap (λ (f : Option (Option S)). newly f now) b ∙ ap (λ (f : Option (Option S)). newly None f) n in omega (arith, none)
counted {S} loaded before now unseen (live held suspense) b n =
    let one : newly before now ≡ 1 = ap (λ (f : Option (Option S)). newly f now) b ∙ ap (λ (f : Option (Option S)). newly None f) n.1 in ap (λ (m : ℕ). loaded + m) one
counted {S} loaded before now unseen (again held suspense) b n =
    let one : newly before now ≡ 1 = ap (λ (f : Option (Option S)). newly f now) b ∙ ap (λ (f : Option (Option S)). newly None f) n in ap (λ (m : ℕ). loaded + m) one
counted {S} loaded before now (live held suspense) next b n =
    let none : newly before now ≡ 0 = ap (λ (f : Option (Option S)). newly f now) b.1 in omega (arith, none)
counted {S} loaded before now (again held suspense) next b n =
    let none : newly before now ≡ 0 = ap (λ (f : Option (Option S)). newly f now) b in omega (arith, none)

-- A delivery and a closing can always be completed: all that is left to send goes out.
use Rattle.std.proofs.Common.{◌≡◌, ◌⊎◌, inl, ℕ, Bool, true, false, List, [], ◌∷◌, ◌++◌, MatchBool, refl, sym, subst}
use Rattle.std.proofs.lemmas.List.{append-nil}
use Rattle.serve_loop.specs.declared.event.Event.{Event}
use Rattle.serve_loop.specs.declared.event.Event.TheVariants as event
use Rattle.serve_loop.specs.declared.out.Out.{Out}
use Rattle.serve_loop.specs.declared.out.Out.TheVariants.{Send, HangUp}
use Rattle.pad_edge.specs.declared.sent.Sent.{Sent}
use Rattle.pad_edge.specs.declared.sent.Sent.TheVariants.{Text, HungUp}
use Rattle.serve_loop.specs.Connected.{is_among}
use Rattle.serve_loop.specs.Delivery.{Delivers}
use Rattle.serve_loop.specs.Run.{Closes, none_waits, one_closes}

pub delivers_all : (waiting : List ℕ) (outs : List Out) → (sent : List Sent) × Delivers waiting outs sent []
delivers_all waiting [] = ([], (refl, refl))
delivers_all waiting (Send connection text ∷ outs) =
    let rest = delivers_all waiting outs in
    elim (is_among waiting connection) as (λ (b : Bool). (sent : List Sent) × MatchBool b (Delivers waiting outs sent [])
    (((later : List Sent) × (sent ≡ Text connection text ∷ later) × Delivers waiting outs later [])
    ⊎ ((later : List Sent) × (more : List ℕ) × (sent ≡ HungUp connection ∷ later) × ([] ≡ connection ∷ more) × Delivers (waiting ++ connection ∷ []) outs later more))) [
      | true ↦ rest
      | false ↦ (Text connection text ∷ rest.0, inl (rest.0, refl, rest.1))
    ]
delivers_all waiting (HangUp connection ∷ outs) =
    let rest = delivers_all waiting outs in
    elim (is_among waiting connection) as (λ (b : Bool). (sent : List Sent) × MatchBool b (Delivers waiting outs sent [])
    ((later : List Sent) × (sent ≡ HungUp connection ∷ later) × Delivers waiting outs later [])) [
      | true ↦ rest
      | false ↦ (HungUp connection ∷ rest.0, (rest.0, refl, rest.1))
    ]

-- where each closing has its step
pub closes_all : {S : Type 0} (Step : S → ℕ → Event → List Out → S → Type 0) (moment : ℕ)
    → ((state : S) (connection : ℕ) → (outs : List Out) × (next : S) × Step state moment (event.Closed connection) outs next)
    → (waiting : List ℕ) (state : S) → (sent : List Sent) × (next : S) × Closes Step moment state waiting sent [] next
closes_all Step moment total [] state = ([], state, none_waits)
closes_all Step moment total (connection ∷ waiting) state =
    let step = total state connection in
    let delivered = delivers_all waiting step.0 in
    let rest = closes_all Step moment total waiting step.1 in
    let P : List ℕ → Type 0 = λ w. Closes Step moment step.1 w rest.0 [] rest.1 in
    (delivered.0 ++ rest.0, rest.1, one_closes delivered.0 rest.0 [] [] step.2 delivered.1 (subst P (sym (append-nil waiting)) rest.2))

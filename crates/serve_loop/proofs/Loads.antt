-- How many closings there may still be.
use Rattle.std.proofs.Common.{◌≡◌, ◌∙◌, inl, inr, ℕ, suc, ◌+◌, ◌≤◌, ◌==◌, Bool, true, false, not, ◌||◌, if◌then◌else◌, cond, List, [], ◌∷◌, ◌++◌, length, refl, sym, ap, subst, arith}
use Rattle.std.proofs.Math.Bool.{or-false}
use Rattle.std.proofs.lemmas.List.{length-append}
use Rattle.std.proofs.lemmas.Bool.Decides.{eqb_tells}
use Rattle.serve_loop.specs.Connected.{is_among, without, GoesTo}
use Rattle.serve_loop.specs.Inside.Load.{free, load, KeepsLoad}
use Rattle.serve_loop.specs.declared.out.Out.{Out}
use Rattle.serve_loop.specs.declared.out.Out.TheVariants.{Send, HangUp}

-- one that waits, or waits now
among_pushed : (waiting : List ℕ) (connection one : ℕ) → is_among (waiting ++ connection ∷ []) one ≡ (is_among waiting one || (connection == one))
among_pushed [] connection one = elim (connection == one) as (λ (b : Bool). (b || false) ≡ b) [ true ↦ refl | false ↦ refl ]
among_pushed (first ∷ waiting) connection one =
    elim (first == one) as (λ (b : Bool). (b || is_among (waiting ++ connection ∷ []) one) ≡ ((b || is_among waiting one) || (connection == one))) [
      | true ↦ refl
      | false ↦ among_pushed waiting connection one
    ]

-- where one more waits, no more are free
pub free_less : (connections waiting : List ℕ) (connection : ℕ) → free connections (waiting ++ connection ∷ []) ≤ free connections waiting
free_less [] waiting connection = omega arith
free_less (one ∷ connections) waiting connection =
    let rest = free_less connections waiting connection in
    let P : Bool → Type 0 = λ b. (if b then free connections (waiting ++ connection ∷ []) else suc (free connections (waiting ++ connection ∷ []))) ≤ free (one ∷ connections) waiting in
    subst P (sym (among_pushed waiting connection one))
    (elim (is_among waiting one) as (λ (b : Bool). (if b || (connection == one) then free connections (waiting ++ connection ∷ []) else suc (free connections (waiting ++ connection ∷ []))) ≤ (if b then free connections waiting else suc (free connections waiting))) [
      | true ↦ rest
      | false ↦ elim (connection == one) as (λ (c : Bool). (if c then free connections (waiting ++ connection ∷ []) else suc (free connections (waiting ++ connection ∷ []))) ≤ suc (free connections waiting)) [
        | true ↦ omega (arith, rest)
        | false ↦ omega (arith, rest)
      ]
    ])

-- where one of them waits that did not, one less is free
pub free_fails : (connections waiting : List ℕ) (connection : ℕ) → is_among connections connection ≡ true → is_among waiting connection ≡ false
    → free connections (waiting ++ connection ∷ []) + 1 ≤ free connections waiting
free_fails [] waiting connection opened none = cc
free_fails (one ∷ connections) waiting connection opened none = elim (eqb_tells one connection) [
  | inl same ↦
      let here : is_among waiting one ≡ false = ap (is_among waiting) same.1 ∙ none in
      let itself : (connection == one) ≡ true = ap (λ (n : ℕ). n == one) (sym same.1) ∙ ap (λ (n : ℕ). one == n) same.1 ∙ same.0 in
      let now : is_among (waiting ++ connection ∷ []) one ≡ true = among_pushed waiting connection one ∙ ap (λ (b : Bool). b || (connection == one)) here ∙ itself in
      let rest = free_less connections waiting connection in
      let P : Bool → Bool → Type 0 = λ b c. (if b then free connections (waiting ++ connection ∷ []) else suc (free connections (waiting ++ connection ∷ []))) + 1 ≤ (if c then free connections waiting else suc (free connections waiting)) in
      subst (λ (b : Bool). P b (is_among waiting one)) (sym now) (subst (λ (c : Bool). P true c) (sym here) (omega (arith, rest)))
  | inr other ↦
      let rest = free_fails connections waiting connection (subst (λ (b : Bool). (b || is_among connections connection) ≡ true) other.0 opened) none in
      let apart : (connection == one) ≡ false = elim (eqb_tells connection one) [ inl same ↦ absurd (other.1 (sym same.1)) | inr not_same ↦ not_same.0 ] in
      let now : is_among (waiting ++ connection ∷ []) one ≡ is_among waiting one = among_pushed waiting connection one ∙ ap (λ (b : Bool). is_among waiting one || b) apart ∙ or-false (is_among waiting one) in
      let P : Bool → Bool → Type 0 = λ b c. (if b then free connections (waiting ++ connection ∷ []) else suc (free connections (waiting ++ connection ∷ []))) + 1 ≤ (if c then free connections waiting else suc (free connections waiting)) in
      subst (λ (b : Bool). P b (is_among waiting one)) (sym now)
      (elim (is_among waiting one) as (λ (b : Bool). P b b) [ true ↦ rest | false ↦ omega (arith, rest) ])
]

-- one that is closed and waits no more was counted once
free_closed : (connections waiting : List ℕ) (connection : ℕ) → free (without connection connections) waiting ≤ free connections (connection ∷ waiting)
free_closed [] waiting connection = omega arith
free_closed (one ∷ connections) waiting connection =
    let rest = free_closed connections waiting connection in
    elim (connection == one) as (λ (b : Bool). free (cond (not b) (one ∷ without connection connections) (without connection connections)) waiting
    ≤ (if b || is_among waiting one then free connections (connection ∷ waiting) else suc (free connections (connection ∷ waiting)))) [
      | true ↦ rest
      | false ↦ elim (is_among waiting one) as (λ (c : Bool). (if c then free (without connection connections) waiting else suc (free (without connection connections) waiting))
          ≤ (if c then free connections (connection ∷ waiting) else suc (free connections (connection ∷ waiting)))) [
            | true ↦ rest
            | false ↦ omega (arith, rest)
          ]
    ]

-- a closing leaves less to be closed
pub closed_less : (before now waiting after : List ℕ) (connection : ℕ) (outs : List Out) → now ≡ without connection before → GoesTo now outs → KeepsLoad outs waiting after
    → load now after + 1 ≤ load before (connection ∷ waiting)
closed_less before now waiting after connection outs is goes keeps =
    let kept : length after + free now after ≤ length waiting + free now waiting = keeps now goes in
    let P : List ℕ → Type 0 = λ l. free l waiting ≤ free before (connection ∷ waiting) in
    let closed : free now waiting ≤ free before (connection ∷ waiting) = subst P (sym is) (free_closed before waiting connection) in
    omega (arith, kept, closed)

pub keeps_same : (waiting : List ℕ) (outs : List Out) → KeepsLoad outs waiting waiting
keeps_same waiting outs connections goes = omega arith

-- a send that failed to an open connection that did not wait
pub keeps_failed : (waiting : List ℕ) (connection : ℕ) (text : List ℕ) → is_among waiting connection ≡ false → KeepsLoad (Send connection text ∷ []) waiting (waiting ++ connection ∷ [])
keeps_failed waiting connection text none connections goes =
    let rest = free_fails connections waiting connection goes.0 none in
    omega (arith, rest, length-append waiting (connection ∷ []))

goes_front : (connections : List ℕ) (front more : List Out) → GoesTo connections (front ++ more) → GoesTo connections front
goes_front connections [] more goes = tt
goes_front connections (Send connection text ∷ front) more goes = (goes.0, goes_front connections front more goes.1)
goes_front connections (HangUp connection ∷ front) more goes = goes_front connections front more goes

goes_rest : (connections : List ℕ) (front more : List Out) → GoesTo connections (front ++ more) → GoesTo connections more
goes_rest connections [] more goes = goes
goes_rest connections (Send connection text ∷ front) more goes = goes_rest connections front more goes.1
goes_rest connections (HangUp connection ∷ front) more goes = goes_rest connections front more goes

-- some outputs and then others
pub keeps_then : (before mid now : List ℕ) (front more : List Out) → KeepsLoad front before mid → KeepsLoad more mid now → KeepsLoad (front ++ more) before now
keeps_then before mid now front more first second connections goes =
    let one = first connections (goes_front connections front more goes) in
    let two = second connections (goes_rest connections front more goes) in
    omega (arith, one, two)

-- How many turns were made is written after them.
use Rattle.std.proofs.Common.{◌≡◌, ◌∙◌, ◌⊎◌, ◌++◌, inl, inr, ap, false, ℕ, List, Result, Ok, Err, refl}
use Rattle.std.specs.Result.{OnOk, OnErr, IsErrOf}
use Rattle.pad_edge.specs.declared.port_event.PortEvent.{PortEvent}
use Rattle.pad_serve.specs.Turns.{IsMade}
use Rattle.pad_serve.specs.Refused.{is_link}
use Rattle.pad_serve.specs.declared.refused.ServeRefused.{ServeRefused}
use Rattle.pad_serve.specs.declared.refused.ServeRefused.TheVariants as refused

-- what holds anyway
pub on_ok : {T E : Type 0} {A : Type 0} (result : Result T E) → A → OnOk result A
on_ok (Ok value) holds = holds
on_ok (Err why) holds = tt

pub on_err : {T E : Type 0} {A : Type 0} (result : Result T E) → A → OnErr result A
on_err (Ok value) holds = tt
on_err (Err why) holds = holds

-- and what holds after it
pub ok_then : {T E : Type 0} {A B : Type 0} (result : Result T E) → (A → B) → OnOk result A → OnOk result B
ok_then (Ok value) on holds = on holds
ok_then (Err why) on holds = tt

pub err_then : {T E : Type 0} {A B : Type 0} (result : Result T E) → (A → B) → OnErr result A → OnErr result B
err_then (Ok value) on holds = tt
err_then (Err why) on holds = on holds

-- a write that was refused is no matter of the port
pub not_link : {T : Type 0} (A : Type 0) (result : Result T ServeRefused) → OnErr result (IsErrOf result refused.Write ⊎ (IsErrOf result refused.NoMemory × A)) → is_link result ≡ false
not_link A (Ok value) holds = refl
not_link A (Err refused.Store) (inl is) = absurd (cc)
not_link A (Err refused.Store) (inr is) = refl
not_link A (Err refused.Link) (inl is) = absurd (cc)
not_link A (Err refused.Link) (inr is) = let same = is.0 in absurd (cc)
not_link A (Err refused.Write) holds = refl
not_link A (Err refused.NoMemory) holds = refl

-- nor of the folder
pub not_store : {T : Type 0} (A : Type 0) (result : Result T ServeRefused) → OnErr result (IsErrOf result refused.Write ⊎ (IsErrOf result refused.NoMemory × A)) → IsErrOf result refused.Store → ⊥
not_store A (Ok value) holds is = absurd (cc)
not_store A (Err refused.Store) (inl other) is = absurd (cc)
not_store A (Err refused.Store) (inr other) is = let same = other.0 in absurd (cc)
not_store A (Err refused.Link) holds is = absurd (cc)
not_store A (Err refused.Write) holds is = absurd (cc)
not_store A (Err refused.NoMemory) holds is = absurd (cc)

-- so many calls were made since an earlier moment, if none was made between these
pub made_from : (turns : ℕ) (ended : Type 0) (later : Type 0) (port_tells : Type 0) (events_before events_mid events_now : List PortEvent) (made : ℕ) → (later → ended) → (port_tells → events_mid ≡ events_before)
    → IsMade turns later port_tells events_mid events_now made → IsMade turns ended port_tells events_before events_now made
made_from turns ended later port_tells events_before events_mid events_now made on same is = record {
  few = is.few;
  all = elim is.all [ inl whole ↦ inl whole | inr rose ↦ inr (on rose) ];
  counted = λ told. let counted = is.counted told in (counted.0, counted.1 ∙ ap (λ (l : List PortEvent). l ++ counted.0) (same told), counted.2);
}

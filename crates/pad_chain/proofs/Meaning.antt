-- Moves that are told, or that are not.
use Rattle.std.proofs.Common.{Bool, true, Result, Ok, Err, IfOk, refl, subst}
use Rattle.pad_chain.specs.declared.moved.Moved.{Moved}
use Rattle.pad_chain.specs.Inside.Receiving.{Meant}

pub itself : (P : Moved → Type 0) (tell : Bool) (told : Moved) → P told → Meant tell told P
itself P tell told h = (told, λ _. refl, h)

pub as_well : (P Q : Moved → Type 0) (tell : Bool) (told : Moved) → ((moved : Moved) → P moved → Q moved) → Meant tell told P → Meant tell told Q
as_well P Q tell told f (moved, same, h) = (moved, same, f moved h)

pub when_told : {E : Type 0} (P : Moved → Type 0) (r : Result Moved E) → IfOk r (λ told. Meant true told P) → IfOk r P
when_told P (Ok told) (moved, same, h) = subst P (same refl) h
when_told P (Err e) h = tt

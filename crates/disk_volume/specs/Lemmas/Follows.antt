-- Lemmas: what many calls of a volume in memory leave, from what one call leaves.
use Rattle.std.proofs.Common.{◌≡◌, ◌∙◌, ◌⊎◌, ◌≤◌, ◌<◌, ℕ, ◌+◌, ◌-◌, ◌^◌, ◌==◌, ◌||◌, ◌&&◌, nat_le, nat_lt, Bool, true, false, Result, Ok, Err, IsTrue, inl, inr, ⊎_elim, refl, sym, ap, subst, arith, if◌then◌else◌, min}
use Rattle.std.proofs.lemmas.Bool.Decides.{nat_tests}
use Rattle.std.proofs.lemmas.Bool.{cond-true, cond-false}
use Rattle.pad_edge.specs.Count.{Rose, counted}
use Rattle.disk_volume.specs.Clock.{Ticked}
use Rattle.disk_volume.specs.Memory.{Memory, FailsExactly, GoesOn, lists, is_listed, must_fail, MayFail, listed, stopped, starved, Follows}
use Rattle.disk_volume.specs.Stop.{stops_in, has_stopped, stop_after, stop_later}
use Rattle.disk_volume.specs.declared.pick.Pick.{Pick}
use Rattle.disk_volume.specs.declared.stop.Stop.{Stop}
use Rattle.disk_volume.specs.declared.stop.Stop.TheVariants.{Unset, Set, Past}

-- nothing happened
stop_still : (calls : ℕ) (stop : Stop) → stop ≡ stop_later calls stop calls
stop_still calls Unset = refl
stop_still calls (Set number pick) = let not_yet : (nat_le calls number && nat_lt number calls) ≡ false = grind (arith, nat_tests) in sym (cond-false _ _ _ not_yet)
stop_still calls (Past pick) = refl

pub follows_itself : (memory : Memory) → Follows memory memory
follows_itself memory = record {
  first = refl;
  failing = refl;
  calls = omega arith;
  refused = omega arith;
  later = omega arith;
  stop = stop_still memory.calls memory.stop;
  faults = inl refl;
}

-- a stop that has come stays
past_later : (before now : ℕ) (old new : Stop) → new ≡ stop_later before old now → IsTrue (has_stopped old) → IsTrue (has_stopped new)
past_later before now Unset new goes has = absurd (grind arith)
past_later before now (Set number pick) new goes has = absurd (grind arith)
past_later before now (Past pick) new goes has = subst (λ stop. IsTrue (has_stopped stop)) (sym goes) has

-- first some calls, and then some more
came_then : (before mid now number : ℕ) (pick : Pick) → before ≤ mid → mid ≤ now → (came : Bool) → (nat_le before number && nat_lt number mid) ≡ came
    → stop_later mid (if came then Past pick else Set number pick) now ≡ stop_later before (Set number pick) now
came_then before mid now number pick first second true came =
    let stays : (nat_le before number && nat_lt number now) ≡ true = grind (arith, nat_tests) in sym (cond-true _ _ _ stays)
came_then before mid now number pick first second false not_yet =
    let same : (nat_le mid number && nat_lt number now) ≡ (nat_le before number && nat_lt number now) = grind (arith, nat_tests) in
    ap (λ (test : Bool). if test then Past pick else Set number pick) same

stop_then : (before mid now : ℕ) (old : Stop) → before ≤ mid → mid ≤ now → stop_later mid (stop_later before old mid) now ≡ stop_later before old now
stop_then before mid now Unset first second = refl
stop_then before mid now (Set number pick) first second = came_then before mid now number pick first second (nat_le before number && nat_lt number mid) refl
stop_then before mid now (Past pick) first second = refl

fail_before : (old mid new : Memory) → Follows mid new → MayFail old mid → MayFail old new
fail_before old mid new second (listed number is low reached) = listed number is low (omega (arith, reached, second.calls))
fail_before old mid new second (stopped has) = stopped (past_later mid.calls new.calls mid.stop new.stop second.stop has)
fail_before old mid new second (starved rose) = starved (omega (arith, rose, second.refused))

fail_after : (old mid new : Memory) → Follows old mid → MayFail mid new → MayFail old new
fail_after old mid new first (listed number is low reached) =
    listed number (subst (λ numbers. IsTrue (lists numbers number)) first.failing is) (omega (arith, low, first.calls)) reached
fail_after old mid new first (stopped has) = stopped has
fail_after old mid new first (starved rose) = starved (omega (arith, rose, first.refused))

pub follows_on : (old mid new : Memory) → Follows old mid → Follows mid new → Follows old new
follows_on old mid new one two = record {
  first = two.first ∙ one.first;
  failing = two.failing ∙ one.failing;
  calls = omega (arith, one.calls, two.calls);
  refused = omega (arith, one.refused, two.refused);
  later = omega (arith, one.later, two.later);
  stop = two.stop ∙ ap (λ stop. stop_later mid.calls stop new.calls) one.stop ∙ stop_then old.calls mid.calls new.calls old.stop one.calls two.calls;
  faults = ⊎_elim (λ same. ⊎_elim (λ more. inl (more ∙ same)) (λ why. inr (fail_after old mid new one why)) two.faults)
      (λ why. inr (fail_before old mid new two why)) one.faults;
}

-- one call
stop_one : (before now : ℕ) (old : Stop) → now ≡ counted before → stop_after old before ≡ stop_later before old now
stop_one before now Unset ticked = refl
stop_one before now (Set number pick) ticked =
    let same : (number == before && nat_lt before (2 ^ 64 - 1)) ≡ (nat_le before number && nat_lt number now) = grind (arith, nat_tests) in
    ap (λ (test : Bool). if test then Past pick else Set number pick) same
stop_one before now (Past pick) ticked = refl

-- why a call failed
failed_one : (old new : Memory) → new.calls ≡ counted old.calls → new.stop ≡ stop_after old.stop old.calls → IsTrue (must_fail old) → MayFail old new
failed_one old new ticked stop must = choose (is_listed old) refl
  where
    choose : (test : Bool) → is_listed old ≡ test → MayFail old new
    choose true is = listed old.calls (grind arith) (omega arith) (omega (arith, ticked))
    choose false is = stopped (grind (arith, nat_tests))

pub follows_call : {T E : Type 0} (result : Result T E) (old new : Memory) → Ticked old.calls new.calls → FailsExactly result old new → GoesOn result old new → Follows old new
follows_call (Ok done) old new ticked exact goes = record {
  first = goes.first;
  failing = goes.failing;
  calls = goes.calls;
  refused = goes.refused;
  later = goes.later;
  stop = goes.stop ∙ stop_one old.calls new.calls old.stop ticked;
  faults = inl goes.faults;
}
follows_call (Err failure) old new ticked exact goes = record {
  first = goes.first;
  failing = goes.failing;
  calls = goes.calls;
  refused = goes.refused;
  later = goes.later;
  stop = goes.stop ∙ stop_one old.calls new.calls old.stop ticked;
  faults = inr (⊎_elim (λ must. failed_one old new ticked goes.stop must) (λ (rose : Ticked old.starved new.starved). starved (omega (arith, rose))) (exact.failed refl));
}

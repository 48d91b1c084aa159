use Rattle.std.proofs.Common.{◌∙◌, ◌<◌, ◌++◌, [], ◌∷◌, arith, List, ℕ, length, take, sym, ap, subst}
use Rattle.std.proofs.lemmas.List.{take_all, append-nil}
use Rattle.keeper_entry.specs.Index.{IsIndex}
use Rattle.keeper_channel.specs.Entries.{AreEntries}
use Rattle.keeper_entry.specs.Entry.{IsEntry}
use Rattle.keeper_channel.proofs.Sizes.{behind_more, entry_in}
use Rattle.keeper_channel.proofs.grouping.add_entries.Goals as goal

pub loop-place-init : goal.loop-place-init
loop-place-init c = record {
  count = omega arith;
  small = omega arith;
  added = λ before is. subst (IsIndex c.args.index.now) (sym (append-nil before)) is;
}

pub add_entry-requires-clause-entry : goal.add_entry-requires-clause-entry
add_entry-requires-clause-entry c =
    let all = c.as_slice-payloads.result.now in
    let within : c.loop-place.place < length all = omega arith in
    subst IsEntry (sym c.as_slice.ensures) (entry_in all c.loop-place.place _ (subst AreEntries (sym c.as_slice-payloads.ensures) c.requires.entries) within c.index-payloads-place.is)

pub add_entry-requires-clause-few : goal.add_entry-requires-clause-few
add_entry-requires-clause-few c =
    let many = ap (λ (l : List (List ℕ)). length l) c.as_slice-payloads.ensures in
    omega (arith, many, c.loop-place.invariant.count)

pub add_entry-requires-clause-small : goal.add_entry-requires-clause-small
add_entry-requires-clause-small c =
    let many = ap (λ (l : List (List ℕ)). length l) c.as_slice-payloads.ensures in
    omega (arith, many, c.loop-place.invariant.small)

pub loop-place-preserved : goal.loop-place-preserved
loop-place-preserved c =
    let all = c.as_slice-payloads.result.now in
    let within : c.loop-place.place < length all = omega arith in
    let entry = entry_in all c.loop-place.place _ (subst AreEntries (sym c.as_slice-payloads.ensures) c.requires.entries) within c.index-payloads-place.is in
    let same = c.as_slice.ensures in
    record {
      count = omega (arith, c.in_ok-add_entry.ensures.count, c.loop-place.invariant.count);
      small = omega (arith, c.in_ok-add_entry.ensures.bytes, ap (λ (p : List ℕ). length p) same, entry.short, c.loop-place.invariant.small);
      added = λ before is. subst (IsIndex c.add_entry.new.index) (ap (λ (p : List ℕ). (before ++ take c.loop-place.place all) ++ p ∷ []) same ∙ behind_more before all c.loop-place.place _ within c.index-payloads-place.is)
          (c.in_ok-add_entry.ensures.added (before ++ take c.loop-place.place all) (c.loop-place.invariant.added before is));
    }

pub returns-clause-count : goal.returns-clause-count
returns-clause-count c = omega (arith, c.loop-place.invariant.count, ap (λ (l : List (List ℕ)). length l) c.as_slice-payloads.ensures)

pub returns-clause-added : goal.returns-clause-added
returns-clause-added c = λ before is.
    let all = c.as_slice-payloads.result.now in
    subst (IsIndex c.loop-place.index) (ap (λ (l : List (List ℕ)). before ++ l) (take_all c.loop-place.place all (omega arith) ∙ c.as_slice-payloads.ensures)) (c.loop-place.invariant.added before is)

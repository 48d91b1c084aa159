use Rattle.std.proofs.Common.{◌≡◌, ◌∙◌, ◌<◌, ◌≤◌, arith, List, ℕ, length, sym, ap, subst}
use Rattle.std.proofs.lemmas.List.{take_all}
use Rattle.log_format.specs.declared.frame.TheConstants.{LONGEST_PAYLOAD}
use Rattle.log_format.specs.Frames.{size_of}
use Rattle.keeper_channel.specs.Entries.{AreEntries}
use Rattle.keeper_channel.proofs.Sizes.{size_more, entry_in}
use Rattle.keeper_channel.proofs.grouping.bytes_of.Goals as goal

pub overflow_add-bytes : goal.overflow_add-bytes
overflow_add-bytes c =
    let all = c.as_slice-payloads.result.now in
    let many : length all ≡ length c.args.entries.now = ap (λ (l : List (List ℕ)). length l) c.as_slice-payloads.ensures in
    let within : c.loop-place.place < length all = omega arith in
    let entry = entry_in all c.loop-place.place _ (subst AreEntries (sym c.as_slice-payloads.ensures) c.requires.entries) within c.index-payloads-place.is in
    let short : length c.as_slice.result.now ≤ LONGEST_PAYLOAD = omega (arith, entry.short, ap (λ (p : List ℕ). length p) c.as_slice.ensures) in
    omega (arith, short, many, c.loop-place.invariant.small)

pub loop-place-preserved : goal.loop-place-preserved
loop-place-preserved c =
    let all = c.as_slice-payloads.result.now in
    let within : c.loop-place.place < length all = omega arith in
    let more = size_more all c.loop-place.place _ within c.index-payloads-place.is in
    let entry = entry_in all c.loop-place.place _ (subst AreEntries (sym c.as_slice-payloads.ensures) c.requires.entries) within c.index-payloads-place.is in
    let same = ap (λ (p : List ℕ). length p) c.as_slice.ensures in
    record {
      bytes = omega (arith, more, same, c.loop-place.invariant.bytes);
      small = omega (arith, same, entry.short, c.loop-place.invariant.small);
    }

pub returns : goal.returns
returns c =
    let all = c.as_slice-payloads.result.now in
    c.loop-place.invariant.bytes ∙ ap size_of (take_all c.loop-place.place all (omega arith) ∙ c.as_slice-payloads.ensures)

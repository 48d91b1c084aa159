use Rattle.std.proofs.Common.{◌≡◌, ◌-◌, ◌≤◌, ◌∷◌, ◌++◌, [], List, ℕ, length, take, get_or, ◌∙◌, ap, arith}
use Rattle.std.proofs.lemmas.List.{take_all}
use Rattle.log_format.specs.File.{record_of, entries}
use Rattle.log_format.specs.Frames.{sizes_of}
use Rattle.log_format.proofs.Groups.{element, bytes_on, sizes_on, bytes_closed, payloads_are}
use Rattle.log_format.proofs.frames.Frames.build.Goals as goal

pub loop-at-preserved : goal.loop-at-preserved
loop-at-preserved c =
    let all = c.as_slice-all.result.now in
    let payload : c.as_slice-payload.result.now ≡ get_or all c.loop-at.at [] = c.as_slice-payload.ensures ∙ element all c.loop-at.at _ c.loop-at-test.true c.index-all-at.is in
    record {
      bytes = bytes_on all c.loop-at.at c.loop-at.bytes.items c.push_record.new.bytes.items c.loop-at-test.true c.loop-at.invariant.bytes
          (c.in_ok-push_record.ensures ∙ ap (λ (l : List ℕ). c.loop-at.bytes.items ++ (record_of l ++ 1 ∷ [])) payload);
      sizes = sizes_on all c.loop-at.at c.loop-at.sizes.items c.push.new.self.items c.loop-at-test.true c.loop-at.invariant.sizes
          (c.in_ok-push.ensures.items ∙ ap (λ (l : List ℕ). c.loop-at.sizes.items ++ length l ∷ []) payload);
      within = omega (arith, c.loop-at-test.true);
    }

-- the group that was made
made : (all payloads : List (List ℕ)) (at : ℕ) (bytes next : List ℕ) → all ≡ payloads → 1 ≤ length payloads → at ≤ length all → length all ≤ at
    → 1 ∷ bytes ≡ entries (take at all) ++ 1 ∷ [] → next ≡ take (length bytes - 1) bytes ++ 0 ∷ [] → 1 ∷ next ≡ entries payloads ++ 0 ∷ []
made all payloads at bytes next same some within done so_far is =
    bytes_closed payloads bytes next some (so_far ∙ ap (λ (l : List (List ℕ)). entries l ++ 1 ∷ []) (take_all at all done ∙ same)) is

pub returns : goal.returns
returns c =
    let all = c.as_slice-all.result.now in
    let bytes = c.loop-at.bytes in
    let is = made all c.args.payloads.now c.loop-at.at bytes.items c.push-2.new.self.items c.as_slice-all.ensures c.requires.some c.loop-at.invariant.within (omega (arith, c.loop-at-test.false))
    c.loop-at.invariant.bytes (c.in_ok-push-2.ensures.items ∙ ap (λ (l : List ℕ). l ++ 0 ∷ []) (c.pop.ensures.rest ∙ ap (λ n. take (n - 1) bytes.items) bytes.ok.0)) in
    payloads_are c.push-2.new.self.items c.args.payloads.now is (λ k d within. omega (arith, c.requires.small k d within))

pub invariant_of-result : goal.invariant_of-result
invariant_of-result c =
    let all = c.as_slice-all.result.now in
    let bytes = c.loop-at.bytes in
    let is = made all c.args.payloads.now c.loop-at.at bytes.items c.push-2.new.self.items c.as_slice-all.ensures c.requires.some c.loop-at.invariant.within (omega (arith, c.loop-at-test.false))
    c.loop-at.invariant.bytes (c.in_ok-push-2.ensures.items ∙ ap (λ (l : List ℕ). l ++ 0 ∷ []) (c.pop.ensures.rest ∙ ap (λ n. take (n - 1) bytes.items) bytes.ok.0)) in
    let same = payloads_are c.push-2.new.self.items c.args.payloads.now is (λ k d within. omega (arith, c.requires.small k d within)) in
    rw same (
      record { bytes_are = is; few = c.requires },
      c.loop-at.invariant.sizes ∙ ap sizes_of (take_all c.loop-at.at all (omega (arith, c.loop-at-test.false)) ∙ c.as_slice-all.ensures),
    )

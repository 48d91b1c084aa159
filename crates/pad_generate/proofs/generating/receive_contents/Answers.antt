-- Each content is one that is read, and not one too many.
use Rattle.std.proofs.Common.{◌≡◌, ◌+◌, ◌<◌, ◌≤◌, ℕ, List, [], ◌∷◌, ◌++◌, length, take, get_or, add-one, Contains, Option, sym, ap, subst, ◌∙◌, arith}
use Rattle.std.specs.Str.{IsUtf8}
use Rattle.std.proofs.lemmas.List.{length-take-le, take_all}
use Rattle.std.proofs.Math.Seq.{take-suc}
use Rattle.pad_message.specs.declared.message.Message.{Message}
use Rattle.pad_generator.specs.Contents.{contents}
use Rattle.pad_received.specs.Contents.{ReadsAs, most_names}
use Rattle.pad_received.specs.Progress.{Progress, IsAt, progress_after}
use Rattle.pad_received.specs.Refusal.{IsLineRefusal}
use Rattle.pad_generate.specs.Inside.Receiving.{IsReceivedOf}
use Rattle.pad_generate.proofs.Receiving.{received_first, received_more, not_full}
use Rattle.pad_generate.proofs.generating.receive_contents.Goals as goal

pub loop-content-init : goal.loop-content-init
loop-content-init g c = received_first c.in_ok-received.received c.in_ok-received.ensures

pub loop-content-preserved : goal.loop-content-preserved
loop-content-preserved g c =
    let items : List (List ℕ) = c.args.wires.now in
    let at = c.loop-content.content-index in
    let content : List ℕ = c.content-item.result in
    let below : at < length items = omega (arith, c.loop-content-test.true, ap length c.as_slice-content-items.ensures) in
    let item : get_or items at content ≡ content = ap (λ (xs : List (List ℕ)). get_or xs at content) (sym c.as_slice-content-items.ensures) ∙ sym c.content-item.is in
    let front : take (at + 1) items ≡ take at items ++ content ∷ [] = ap (λ k. take k items) (add-one at) ∙ take-suc items at content below ∙ ap (λ (x : List ℕ). take at items ++ x ∷ []) item in
    let bytes : c.as_bytes.result.now ≡ content = c.as_bytes.ensures.value ∙ c.as_str.ensures in
    let has : Contains (contents c.args.number c.args.count) content = subst (λ (xs : List (List ℕ)). Contains xs content) c.requires.given (at, below, item) in
    let read = c.each_is_read.ensures c.args.number c.args.count content c.requires.few has in
    subst (λ (xs : List (List ℕ)). IsReceivedOf xs c.receive_line.new.self) (sym front)
    (received_more (take at items) content read.0 c.loop-content.received c.receive_line.new.self (subst IsUtf8 bytes c.as_bytes.ensures.utf8) read.2 c.loop-content.invariant
    (subst (λ (xs : List ℕ). (outcome : Option Message) × ReadsAs xs outcome × ((progress : Progress) → IsAt c.loop-content.received progress → IsAt c.receive_line.new.self (progress_after outcome progress))) bytes c.in-Ok.ensures.received))

pub unreachable-requires : goal.unreachable-requires
unreachable-requires g c =
    let items : List (List ℕ) = c.args.wires.now in
    let at = c.loop-content.content-index in
    let here = c.loop-content.invariant in
    let why = subst (λ error. IsLineRefusal c.as_bytes.result.now here.progress.messages error) c.in-Err-Full.field-0-is (c.in-Err-Full.ensures.refused here.progress here.at) in
    let below : at < length items = omega (arith, c.loop-content-test.true, ap length c.as_slice-content-items.ensures) in
    let many : length items ≡ c.args.count = ap length c.requires.given ∙ c.as_many_as_asked.ensures c.args.number c.args.count in
    let most : c.args.count ≤ 100000 = c.requires.few in
    let few : length (take at items) < most_names = omega (arith, length-take-le at items (omega (arith, below)), below, many, most) in
    not_full (take at items) c.loop-content.received why.0 here few why.2.1

pub returns : goal.returns
returns g c =
    let items : List (List ℕ) = c.args.wires.now in
    let all : take c.loop-content.content-index items ≡ items = take_all c.loop-content.content-index items (omega (arith, c.loop-content-test.false, ap length c.as_slice-content-items.ensures)) in
    subst (λ (xs : List (List ℕ)). IsReceivedOf xs c.loop-content.received) all c.loop-content.invariant

use Rattle.std.proofs.Common.{◌≡◌, suc, arith, ◌+◌, ◌∷◌, [], ◌++◌, take, map, sym, ap, ◌∙◌, subst}
use Rattle.std.proofs.Math.Seq.{take-suc}
use Rattle.std.specs.List.{All}
use Rattle.std.proofs.lemmas.List.{map-append}
use Rattle.std.proofs.lemmas.List.Elements.{All-push}
use Rattle.serde_json.specs.View.{view}
use Rattle.pad_message.specs.Data.{operation_data}
use Rattle.pad_message.specs.Message.{IsOperation}
use Rattle.pad_message.proofs.writing.operation_values.Goals as goal

pub loop-operation-preserved : goal.loop-operation-preserved
loop-operation-preserved c =
    let at = c.loop-operation.operation-index in
    let operations = c.args.operations.now in
    let before = take at operations in
    let operation = c.operation-item.result in
    let next : at + 1 ≡ suc at = omega arith in
    let more : take (at + 1) operations ≡ before ++ operation ∷ [] =
    ap (λ n. take n operations) next ∙ (take-suc operations at operation c.loop-operation-test.true ∙ ap (λ one. before ++ one ∷ []) (sym c.operation-item.is)) in
    let values = c.loop-operation.values.items in
    record {
      written = rw (more, map-append operation_data before (operation ∷ [])) (
          ap (map view) c.in_ok-push.ensures.items ∙ (map-append view values (c.in_ok-operation_value.field-0 ∷ [])
          ∙ (ap (λ some. some ++ view c.in_ok-operation_value.field-0 ∷ []) c.loop-operation.invariant.written
          ∙ ap (λ one. map operation_data before ++ one ∷ []) c.in_ok-operation_value.ensures.value)));
      typed = subst (All IsOperation) (sym more) (All-push IsOperation before operation c.loop-operation.invariant.typed c.in_ok-operation_value.ensures.typed);
    }

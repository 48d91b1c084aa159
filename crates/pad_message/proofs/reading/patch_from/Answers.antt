use Rattle.std.proofs.Common.{map, sym, ◌∙◌, arith}
use Rattle.std.proofs.lemmas.Result.{err_from_is_err_and}
use Rattle.serde_json.specs.View.{view}
use Rattle.pad_message.specs.Data.{operation_data}
use Rattle.pad_json.specs.Name.{name_data}
use Rattle.pad_message.proofs.Arrays.{same-length, same-parts}
use Rattle.pad_message.proofs.reading.patch_from.Goals as goal

pub returns-in_default-name_from-clause-unreadable : goal.returns-in_default-name_from-clause-unreadable
returns-in_default-name_from-clause-unreadable c refused patch typed few same =
    let parts = same-parts (map view c.in-Some.operations.now) (map operation_data patch.ops) (view c.in-Some.before.now) (name_data patch.before) (sym c.in-Some.ensures.some ∙ same) in
    c.in_default-name_from.ensures.none patch.before typed.before parts.1

pub returns-then-operations-gt-MOST_OPERATIONS-clause-unreadable : goal.returns-then-operations-gt-MOST_OPERATIONS-clause-unreadable
returns-then-operations-gt-MOST_OPERATIONS-clause-unreadable c refused patch typed few same =
    let parts = same-parts (map view c.in-Some.operations.now) (map operation_data patch.ops) (view c.in-Some.before.now) (name_data patch.before) (sym c.in-Some.ensures.some ∙ same) in
    let size = same-length view operation_data c.in-Some.operations.now patch.ops parts.0 in
    omega arith

pub returns-in_err-ops-clause-unreadable : goal.returns-in_err-ops-clause-unreadable
returns-in_err-ops-clause-unreadable c =
    let exit = err_from_is_err_and c.from_residual.result c.from_residual.ensures.1 in
    rw exit.1
    (λ refused patch typed few same.
    let parts = same-parts (map view c.in-Some.operations.now) (map operation_data patch.ops) (view c.in-Some.before.now) (name_data patch.before) (sym c.in-Some.ensures.some ∙ same) in
    c.in_err-ops.ensures.unreadable (sym exit.2 ∙ refused) patch.ops typed.operations parts.0)

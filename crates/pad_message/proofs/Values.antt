-- The JSON value of a message is made of whole numbers, strings and arrays, and nests three deep.
use Rattle.std.proofs.Common.{◌≡◌, ◌^◌, ◌<◌, ◌≤◌, ◌==◌, Bool, true, false, if◌then◌else◌, List, [], ◌∷◌, ◌++◌, map, refl, arith}
use Rattle.std.specs.List.{All}
use Rattle.std.proofs.lemmas.List.Elements.{All-head, All-tail}
use Rattle.serde_json.specs.Data.{Data, depth, items_depth}
use Rattle.serde_json.specs.View.{items_of}
use Rattle.serde_json.specs.Written.{has_float, items_have_float}
use Rattle.pad_json.specs.Data.{AreSimple, IsSimple, whole}
use Rattle.pad_json.specs.Name.{name_data}
use Rattle.pad_patch.specs.declared.operation.Operation.{Operation}
use Rattle.pad_patch.specs.declared.patch.Patch.{Patch}
use Rattle.pad_message.specs.declared.kind.Kind.{Kind}
use Rattle.pad_message.specs.declared.kind.Kind.TheVariants as kind
use Rattle.pad_message.specs.declared.message.Message.{Message}
use Rattle.pad_message.specs.Data.{interval_data, kind_number, message_data, operation_data, patch_data}
use Rattle.pad_message.specs.declared.kind.TheConstants.{USUAL_INTERVAL}
use Rattle.pad_message.specs.Kind.{HasInterval}
use Rattle.pad_message.specs.Message.{IsMessage, IsOperation}

IsSimple-operation : (operation : Operation) → IsOperation operation → IsSimple (operation_data operation)
IsSimple-operation operation is =
    let offset = is.offset in
    let remove = is.remove in
    (omega arith, (omega arith, (tt, tt)))

AreSimple-operations : (operations : List Operation) (rest : List Data) → All IsOperation operations → AreSimple (items_of rest)
    → AreSimple (items_of (map operation_data operations ++ rest))
AreSimple-operations [] rest are behind = behind
AreSimple-operations (o ∷ os) rest are behind =
    (IsSimple-operation o (All-head IsOperation o os are), AreSimple-operations os rest (All-tail IsOperation o os are) behind)

small_kind : (k : Kind) → kind_number k < 2 ^ 64
small_kind kind.Patch = omega arith
small_kind (kind.Checkpoint interval) = omega arith

AreSimple-interval : (k : Kind) → HasInterval k → AreSimple (items_of (interval_data k))
AreSimple-interval kind.Patch has = tt
AreSimple-interval (kind.Checkpoint interval) has = go (interval == USUAL_INTERVAL)
  where
    go : (usual : Bool) → AreSimple (items_of (if usual then [] else whole interval ∷ []))
    go true = tt
    go false = let within = has.1 in (omega (arith, within), tt)

pub IsSimple-message : (message : Message) → IsMessage message → HasInterval message.kind → IsSimple (message_data message)
IsSimple-message message is has =
    let patch = AreSimple-operations message.patch.ops (name_data message.patch.before ∷ []) is.patch.operations (tt, tt) in
    (small_kind message.kind, (patch, (tt, AreSimple-interval message.kind has)))

depth-operations : (operations : List Operation) (rest : List Data) → items_depth (items_of rest) ≤ 1 → items_depth (items_of (map operation_data operations ++ rest)) ≤ 1
depth-operations [] rest shallow = shallow
depth-operations (o ∷ os) rest shallow = let others = depth-operations os rest shallow in omega arith

depth-interval : (k : Kind) → items_depth (items_of (interval_data k)) ≤ 1
depth-interval kind.Patch = omega arith
depth-interval (kind.Checkpoint interval) = go (interval == USUAL_INTERVAL)
  where
    go : (usual : Bool) → items_depth (items_of (if usual then [] else whole interval ∷ [])) ≤ 1
    go true = omega arith
    go false = omega arith

pub depth-message : (message : Message) → depth (message_data message) ≤ 3
depth-message message =
    let patch = depth-operations message.patch.ops (name_data message.patch.before ∷ []) (omega arith) in
    let interval = depth-interval message.kind in
    omega arith

has_float-operations : (operations : List Operation) (rest : List Data) → items_have_float (items_of rest) ≡ false
    → items_have_float (items_of (map operation_data operations ++ rest)) ≡ false
has_float-operations [] rest none = none
has_float-operations (o ∷ os) rest none = has_float-operations os rest none

has_float-patch : (patch : Patch) → has_float (patch_data patch) ≡ false
has_float-patch patch = has_float-operations patch.ops (name_data patch.before ∷ []) refl

has_float-interval : (k : Kind) → items_have_float (items_of (interval_data k)) ≡ false
has_float-interval kind.Patch = refl
has_float-interval (kind.Checkpoint interval) = go (interval == USUAL_INTERVAL)
  where
    go : (usual : Bool) → items_have_float (items_of (if usual then [] else whole interval ∷ [])) ≡ false
    go true = refl
    go false = refl

pub has_float-message : (message : Message) → has_float (message_data message) ≡ false
has_float-message message = rw (has_float-patch message.patch, has_float-interval message.kind)

-- for the function that writes a message
pub ruleset floats = (has_float-message)

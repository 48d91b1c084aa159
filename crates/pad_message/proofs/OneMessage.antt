-- A JSON value is that of at most one message.
use Rattle.std.proofs.Common.{◌≡◌, ℕ, List, [], ◌∷◌, map, inl, inr, refl, sym, ap, ap₂, subst, ◌∙◌}
use Rattle.serde_json.specs.Data.{Data}
use Rattle.std.specs.List.{All}
use Rattle.std.proofs.lemmas.List.Elements.{All-head, All-tail}
use Rattle.hex.specs.Hex.{encode_lower}
use Rattle.hex.proofs.HexLemmas.{decode_of-encode_lower, decode_of-same}
use Rattle.pad_text.specs.declared.name.Name.{Name}
use Rattle.pad_text.specs.Text.{IsText, units_of, utf8}
use Rattle.pad_text.proofs.CallerLemmas.{units_of-utf8}
use Rattle.pad_patch.specs.declared.operation.Operation.{Operation}
use Rattle.pad_patch.specs.declared.patch.Patch.{Patch}
use Rattle.pad_message.specs.declared.kind.Kind.{Kind}
use Rattle.pad_message.specs.declared.kind.Kind.TheVariants as kind
use Rattle.pad_message.specs.declared.message.Message.{Message}
use Rattle.pad_message.specs.Data.{MayFollow, SpellsMessage, data_with, kind_number, operation_data, patch_data}
use Rattle.pad_json.specs.Data.{whole}
use Rattle.pad_json.specs.Name.{IsName, name_data}
use Rattle.pad_json.proofs.CallerLemmas.{one_list, one_value}
use Rattle.pad_message.specs.Message.{IsMessage, IsOperation, IsPatch}
use Rattle.pad_message.specs.Content.{SpellsOne, without_mark}
use Rattle.pad_message.proofs.Arrays.{same-parts}

abbrev name_with : List ℕ → Name
name_with bytes = record { 0 = bytes }

abbrev operation_with : ℕ → ℕ → List ℕ → Operation
operation_with offset remove insert = record { offset = offset; remove = remove; insert = insert }

abbrev patch_with : List Operation → Name → Patch
patch_with ops before = record { ops = ops; before = before }

abbrev message_with : Kind → Patch → Name → Message
message_with kind patch parent = record { kind = kind; patch = patch; parent = parent }

-- what comes after the parent tells the interval
same_interval : (one other : ℕ) (after : List Data) → MayFollow (kind.Checkpoint one) after → MayFollow (kind.Checkpoint other) after → one ≡ other
same_interval one other after (inl first) (inl second) = let same : whole one ∷ [] ≡ whole other ∷ [] = sym first ∙ second in cc
same_interval one other after (inl first) (inr second) = absurd (let same : whole one ∷ [] ≡ [] = sym first ∙ second.1 in cc)
same_interval one other after (inr first) (inl second) = absurd (let same : whole other ∷ [] ≡ [] = sym second ∙ first.1 in cc)
same_interval one other after (inr first) (inr second) = first.0 ∙ sym second.0

same_kind : (first second : Kind) (after : List Data) → whole (kind_number first) ≡ whole (kind_number second) → MayFollow first after → MayFollow second after → first ≡ second
same_kind kind.Patch kind.Patch after same one other = refl
same_kind kind.Patch (kind.Checkpoint interval) after same one other = absurd (cc)
same_kind (kind.Checkpoint interval) kind.Patch after same one other = absurd (cc)
same_kind (kind.Checkpoint interval) (kind.Checkpoint later) after same one other = ap (λ i. kind.Checkpoint i) (same_interval interval later after one other)

same_name : (first second : Name) → IsName first → IsName second → name_data first ≡ name_data second → first ≡ second
same_name first second one other same =
    let digits : encode_lower first.0 ≡ encode_lower second.0 = cc in
    let bytes : first.0 ≡ second.0 =
    decode_of-same (encode_lower second.0) first.0 second.0 (rw digits at (decode_of-encode_lower first.0 one.bytes)) (decode_of-encode_lower second.0 other.bytes) in
    ap name_with bytes

same_text : (first second : List ℕ) → IsText first → IsText second → utf8 first ≡ utf8 second → first ≡ second
same_text first second one other same = sym (units_of-utf8 first one) ∙ (ap units_of same ∙ units_of-utf8 second other)

same_operation : (first second : Operation) → IsOperation first → IsOperation second → operation_data first ≡ operation_data second → first ≡ second
same_operation first second one other same =
    let offset : first.offset ≡ second.offset = cc in
    let remove : first.remove ≡ second.remove = cc in
    let bytes : utf8 first.insert ≡ utf8 second.insert = cc in
    let insert = same_text first.insert second.insert one.insert other.insert bytes in
    let both : operation_with first.offset first.remove first.insert ≡ operation_with second.offset second.remove second.insert = cc in
    both

same_operations : (firsts seconds : List Operation) → All IsOperation firsts → All IsOperation seconds → map operation_data firsts ≡ map operation_data seconds → firsts ≡ seconds
same_operations [] [] ones others same = refl
same_operations [] (s ∷ ss) ones others same = absurd (cc)
same_operations (f ∷ fs) [] ones others same = absurd (cc)
same_operations (f ∷ fs) (s ∷ ss) ones others same =
    let first : operation_data f ≡ operation_data s = cc in
    let rest : map operation_data fs ≡ map operation_data ss = cc in
    ap₂ (λ (o : Operation) (os : List Operation). o ∷ os) (same_operation f s (All-head IsOperation f fs ones) (All-head IsOperation s ss others) first)
    (same_operations fs ss (All-tail IsOperation f fs ones) (All-tail IsOperation s ss others) rest)

same_patch : (first second : Patch) → IsPatch first → IsPatch second → patch_data first ≡ patch_data second → first ≡ second
same_patch first second one other same =
    let parts = same-parts (map operation_data first.ops) (map operation_data second.ops) (name_data first.before) (name_data second.before) same in
    let ops = same_operations first.ops second.ops one.operations other.operations parts.0 in
    let before = same_name first.before second.before one.before other.before parts.1 in
    ap₂ patch_with ops before

same_message : (first second : Message) (after : List Data) → IsMessage first → IsMessage second → MayFollow first.kind after → MayFollow second.kind after
    → data_with first after ≡ data_with second after → first ≡ second
same_message first second after one other follows behind same =
    let kinds : whole (kind_number first.kind) ≡ whole (kind_number second.kind) = cc in
    let patches : patch_data first.patch ≡ patch_data second.patch = cc in
    let parents : name_data first.parent ≡ name_data second.parent = cc in
    let kind = same_kind first.kind second.kind after kinds follows behind in
    let patch = same_patch first.patch second.patch one.patch other.patch patches in
    let parent = same_name first.parent second.parent one.parent other.parent parents in
    let both : message_with first.kind first.patch first.parent ≡ message_with second.kind second.patch second.parent = cc in
    both

-- what comes after the parent is one
same_after : (first second : Message) (after behind : List Data) → data_with first after ≡ data_with second behind → after ≡ behind
same_after first second after behind same =
    let lists = one_list (whole (kind_number first.kind) ∷ patch_data first.patch ∷ name_data first.parent ∷ after)
    (whole (kind_number second.kind) ∷ patch_data second.patch ∷ name_data second.parent ∷ behind) same in
    cc

-- a value spells at most one message
same_spelled : (value : Data) (first second : Message) → IsMessage first → IsMessage second → SpellsMessage value first → SpellsMessage value second → first ≡ second
same_spelled value first second one other (after, follows, is) (behind, trails, was) =
    let same : data_with first after ≡ data_with second behind = sym is ∙ was in
    let tail : behind ≡ after = sym (same_after first second after behind same) in
    same_message first second after one other follows (subst (MayFollow second.kind) tail trails) (same ∙ ap (data_with second) tail)

pub spells_one : SpellsOne
spells_one content first second one other =
    let values : one.value ≡ other.value = one_value (without_mark content) one.value other.value one.text other.text in
    same_spelled other.value first second one.typed other.typed (subst (λ v. SpellsMessage v first) values one.spelled) other.spelled

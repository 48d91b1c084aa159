-- Kinds by their numbers and what comes after the parent.
use Rattle.std.proofs.Common.{◌≡◌, ℕ, List, ◌∷◌}
use Rattle.serde_json.specs.Data.{Data}
use Rattle.pad_json.specs.Data.{array_of, whole}
use Rattle.pad_json.specs.Name.{name_data}
use Rattle.pad_json.proofs.CallerLemmas.{one_list}
use Rattle.pad_message.specs.declared.message.Message.{Message}
use Rattle.pad_message.specs.declared.kind.Kind.{Kind}
use Rattle.pad_message.specs.declared.kind.Kind.TheVariants as kind
use Rattle.pad_message.specs.Data.{MayFollow, data_with, kind_number, patch_data}
use Rattle.pad_message.specs.Kind.{HasInterval, IsInterval}

-- without an interval there is no checkpoint
pub no_checkpoint : (number : ℕ) (after : List Data) → number ≡ 4 → ((interval : ℕ) → IsInterval interval → ¬ (MayFollow (kind.Checkpoint interval) after))
    → (k : Kind) → HasInterval k → MayFollow k after → whole number ≡ whole (kind_number k) → ⊥
no_checkpoint number after four none kind.Patch has follows same = cc
no_checkpoint number after four none (kind.Checkpoint interval) has follows same = none interval has follows

-- the elements of a value that spells a message
pub elements : (kind_value patch parent : Data) (after behind : List Data) (message : Message) → array_of (kind_value ∷ patch ∷ parent ∷ after) ≡ data_with message behind
    → (kind_value ≡ whole (kind_number message.kind)) × (patch ≡ patch_data message.patch) × (parent ≡ name_data message.parent) × (after ≡ behind)
elements kind_value patch parent after behind message same =
    let lists = one_list (kind_value ∷ patch ∷ parent ∷ after) (whole (kind_number message.kind) ∷ patch_data message.patch ∷ name_data message.parent ∷ behind) same in
    (cc, cc, cc, cc)

-- When a sync is refused.
use Rattle.std.proofs.Common.{◌≡◌, ◌<◌, ◌⊎◌, ◌↔◌, ℕ, ◌==◌, Bool, true, false, IsTrue, refl, subst}
use Rattle.std.proofs.lemmas.Bool.Decides.{Decides-eqb}
use Rattle.pad_patch.specs.Misfit.{longest_text}
use Rattle.pad_message.specs.Content.{most_operations}
use Rattle.client_requests.specs.State as requested
use Rattle.client_requests.specs.State.{repairs}
use Rattle.pad_client.specs.declared.sync_refused.SyncRefused.{SyncRefused}
use Rattle.pad_client.specs.declared.sync_refused.SyncRefused.TheVariants as sync
use Rattle.pad_client.specs.State.{ClientState}
use Rattle.pad_client.specs.Refusal.{IsSyncCause}
use Rattle.pad_client.specs.Inside.Refused.{IsOpenSyncCause}

pub longer_as : (long : Bool) (units operations all many : ℕ) → units ≡ all → operations ≡ many → (IsTrue long ↔ ((longest_text < units) ⊎ (most_operations < operations)))
    → IsTrue long ↔ ((longest_text < all) ⊎ (most_operations < many))
longer_as long units operations all many same_units same_operations is =
    subst (λ (u : ℕ). IsTrue long ↔ ((longest_text < u) ⊎ (most_operations < many))) same_units
    (subst (λ (n : ℕ). IsTrue long ↔ ((longest_text < units) ⊎ (most_operations < n))) same_operations is)

is_false : (test : Bool) → ¬ (test ≡ true) → test ≡ false
is_false true not = absurd (not refl)
is_false false not = refl

pub not_zero : (count : ℕ) → ¬ (count ≡ 0) → (count == 0) ≡ false
not_zero count some = is_false (count == 0) (λ is. some ((Decides-eqb count 0).0 is))

pub open_cause : (requests : requested.State) (client : ClientState) (refused : SyncRefused) → requests ≡ client.requests → IsOpenSyncCause requests refused → IsSyncCause client refused
open_cause requests client sync.Repairing same cause = subst (λ (r : requested.State). repairs r.asked ≡ true) same cause
open_cause requests client sync.NotJoined same cause = subst (λ (r : requested.State). (repairs r.asked ≡ false) × (r.joined ≡ false)) same cause
open_cause requests client sync.TooLong same cause = absurd cause
open_cause requests client sync.OutboxFull same cause = absurd cause
open_cause requests client sync.Full same cause = absurd cause
open_cause requests client (sync.NoMemory error) same cause = tt

-- The compact text of a message reads as the message.
use Rattle.std.proofs.Common.{◌≡◌, ◌≤◌, ◌==◌, nat_eq, ◌++◌, [], ◌∷◌, List, ℕ, length, Bool, true, false, if◌then◌else◌, inl, inr, refl, sym, subst, arith}
use Rattle.std.proofs.lemmas.Bool.Decides.{nat_tests}
use Rattle.pad_json.specs.Spells.{Spells}
use Rattle.pad_json.proofs.CallerLemmas.{compact_spells}
use Rattle.pad_message.specs.declared.message.Message.{Message}
use Rattle.pad_json.specs.Data.{whole}
use Rattle.pad_message.specs.declared.kind.Kind.{Kind}
use Rattle.pad_message.specs.declared.kind.Kind.TheVariants as kind
use Rattle.pad_message.specs.declared.kind.TheConstants.{USUAL_INTERVAL}
use Rattle.pad_message.specs.Kind.{HasInterval}
use Rattle.pad_message.specs.Data.{MayFollow, interval_data, message_data}
use Rattle.pad_message.specs.Message.{IsMessage, compact}
use Rattle.pad_message.specs.Content.{CompactReads, MarkedReads, Reads, longest_content, mark, most_operations, without_mark}
use Rattle.pad_message.proofs.Values.{IsSimple-message, depth-message}

spelled : (message : Message) → IsMessage message → HasInterval message.kind → Spells (compact message) (message_data message)
unfolding compact
spelled message is has =
    let shallow = depth-message message in
    compact_spells (message_data message) (IsSimple-message message is has) (omega arith)

-- what a compact text has after the parent may follow
follows : (k : Kind) → MayFollow k (interval_data k)
follows kind.Patch = refl
follows (kind.Checkpoint interval) = go (interval == USUAL_INTERVAL) refl
  where
    go : (usual : Bool) → (interval == USUAL_INTERVAL) ≡ usual → MayFollow (kind.Checkpoint interval) (if usual then [] else whole interval ∷ [])
    go true test = inr (grind (arith, nat_tests), refl)
    go false test = inl refl

-- no mark stands in front of a compact text
unmarked : (message : Message) → without_mark (compact message) ≡ compact message
unfolding compact
unmarked message = refl

marked : (message : Message) → without_mark (mark ++ compact message) ≡ compact message
unfolding compact
marked message = refl

-- a content that is a compact text without its mark reads as the message
reads : (content : List ℕ) (message : Message) → without_mark content ≡ compact message → IsMessage message → length message.patch.ops ≤ most_operations
    → HasInterval message.kind → length content ≤ longest_content → Reads content message
reads content message text is few has short = record {
  short = short;
  value = message_data message;
  text = subst (λ t. Spells t (message_data message)) (sym text) (spelled message is has);
  spelled = (interval_data message.kind, follows message.kind, refl);
  few = few;
  interval = has;
  typed = is;
}

pub compact_reads : CompactReads
compact_reads message is few has short = reads (compact message) message (unmarked message) is few has short

pub marked_reads : MarkedReads
marked_reads message is few has short = reads (mark ++ compact message) message (marked message) is few has short

-- for the function that writes a message
pub ruleset round_trips = (compact_reads, marked_reads)

-- Own messages: what is made of a working copy, and what becomes of it then.
use Rattle.std.specs.Prelude.{◌≡◌, ℕ, if◌then◌else◌, Option, Some, None, ◌∷◌, true}
use Rattle.pad_text.specs.Hash.{document_hash}
use Rattle.pad_message.specs.declared.kind.Kind.TheVariants as kind
use Rattle.pad_message.specs.declared.message.Message.{Message}
use Rattle.pad_message.specs.Adopt.{IsWhole}
use Rattle.pad_message.specs.Kind.{is_checkpoint}
use Rattle.pad_message.specs.Message.{name_of}
use Rattle.pad_stroke.specs.Work.{Marked}
use Rattle.pad_chain.specs.declared.moved.Moved.{Moved}
use Rattle.client_work.specs.Switch.{SentWorks, switched}
use Rattle.client_copy.specs.Pad.{Pad, Receives, committed, best_name, interval_now}
use Rattle.client_copy.specs.State.{Copy}
use Rattle.client_copy.specs.Receive.{Follows}

-- the interval of the next checkpoint: the one that is wanted, or else the one in force
abbrev pub next_interval : Option ℕ → ℕ → ℕ
next_interval None in_force = in_force
next_interval (Some wanted) in_force = wanted

-- the checkpoint of the committed text, with this interval if one is wanted
pub record IsCheckpointOf (copy : Copy) (wanted : Option ℕ) (message : Message) : Type 0 where
  pub interval : message.kind ≡ kind.Checkpoint (next_interval wanted (interval_now copy.pad))
  pub whole : IsWhole message (committed copy.pad)
  pub before : message.patch.before ≡ document_hash (committed copy.pad)
  pub parent : message.parent ≡ best_name copy.pad

-- the patch message of the work
pub record IsPatchOf (copy : Copy) (message : Message) : Type 0 where
  pub plain : message.kind ≡ kind.Patch
  pub patch : message.patch ≡ copy.work.patch
  pub parent : message.parent ≡ best_name copy.pad

-- the works that were sent, after this message was made of the work: that of a patch message is added, and counts in place of an
-- older one of the same name
abbrev pub sent_with : Message → Marked → SentWorks → SentWorks
sent_with message work sent = if is_checkpoint message.kind then sent else (name_of message, work) ∷ sent

-- an own message is received, and the work follows what moved; what it inserts was sent as the message
pub record Makes (before : Copy) (message : Message) (moved : Moved) (after : Copy) : Type 0 where
  pub pad : Pad
  pub received : Receives before.pad message moved pad
  pub state : after ≡ record before {
    pad = pad;
    sent = sent_with message before.work before.sent;
    work = (switched (sent_with message before.work before.sent) moved (record { text = committed before.pad; work = before.work })).work;
  }

-- a checkpoint that is received is made: no work was sent as it
abbrev pub CheckpointsAreMade : Type 0
CheckpointsAreMade = (before : Copy) (message : Message) (moved : Moved) (after : Copy) → is_checkpoint message.kind ≡ true → Follows before message moved after → Makes before message moved after

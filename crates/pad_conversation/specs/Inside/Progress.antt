-- What one command does, and one text.
use Rattle.std.specs.Prelude.{◌≡◌, ◌≢◌, ℕ, List, [], ◌∷◌, ◌++◌}
use Rattle.std.specs.Io.KnownBytes.{Appends}
use Rattle.pad_output.specs.Output.{AppendsPart}
use Rattle.pad_conversation.specs.Machine.{Machine}
use Rattle.pad_conversation.specs.Told.{Told}
use Rattle.pad_conversation.specs.declared.refused.ConversationRefused.{ConversationRefused}
use Rattle.pad_conversation.specs.declared.refused.ConversationRefused.TheVariants as refused

-- one text was heard, and what is to be read of it written
pub record HasHeard {S C : Type 0} (machine : Machine S C) (Old New : S → Type 0) (link_tells : Type 0) (before now : Told) : Type 0 where
  pub text : List ℕ
  pub lines : List ℕ
  pub heard_is : link_tells → now.heard ≡ before.heard ++ text ∷ []
  pub sent_is : link_tells → now.sent ≡ before.sent
  pub written_is : Appends before.written now.written lines
  pub hears : (state : S) → Old state → machine.may_hear state text → (next : S) × machine.hears state text lines next × New next

-- none was heard to its end
pub data HasHeardInPart {S C : Type 0} (machine : Machine S C) (Old : S → Type 0) (link_tells : Type 0) (before now : Told) : ConversationRefused → Type 0 where
  -- none was given
  none_came : (why : ConversationRefused) → why ≢ refused.Full → (link_tells → now.heard ≡ before.heard) → (link_tells → now.sent ≡ before.sent) → now.written ≡ before.written
      → HasHeardInPart machine Old link_tells before now why
  -- the speaker refused it
  refused_one : (why : ConversationRefused) (text : List ℕ) → why ≢ refused.Ended → (why ≡ refused.Full → (state : S) → Old state → machine.overflows state text)
      → (link_tells → now.heard ≡ before.heard ++ text ∷ []) → (link_tells → now.sent ≡ before.sent) → now.written ≡ before.written
      → HasHeardInPart machine Old link_tells before now why
  -- a write failed
  unwritten : (text lines : List ℕ) → (link_tells → now.heard ≡ before.heard ++ text ∷ []) → (link_tells → now.sent ≡ before.sent) → AppendsPart before.written now.written lines
      → ((state : S) → Old state → machine.may_hear state text → (next : S) × machine.hears state text lines next)
      → HasHeardInPart machine Old link_tells before now refused.Write

-- a command was done
pub record HasDone {S C : Type 0} (machine : Machine S C) (Old New : S → Type 0) (command : C) (link_tells : Type 0) (before now : Told) : Type 0 where
  pub texts : List (List ℕ)
  pub lines : List ℕ
  pub heard_is : link_tells → now.heard ≡ before.heard
  pub sent_is : link_tells → now.sent ≡ before.sent ++ texts
  pub written_is : Appends before.written now.written lines
  pub does : (state : S) → Old state → machine.may_do state command → (next : S) × machine.does state command texts lines next × New next

-- it was not done to its end
pub data HasDoneInPart {S C : Type 0} (machine : Machine S C) (Old : S → Type 0) (command : C) (link_tells : Type 0) (before now : Told) : ConversationRefused → Type 0 where
  -- the speaker refused it
  refuses_one : (why : ConversationRefused) → why ≢ refused.Ended → (why ≡ refused.Full → (state : S) → Old state → machine.overfills state command)
      → (link_tells → now.heard ≡ before.heard) → (link_tells → now.sent ≡ before.sent) → now.written ≡ before.written
      → HasDoneInPart machine Old command link_tells before now why
  -- a send or a write did not go well
  cut_short : (why : ConversationRefused) (texts gone later : List (List ℕ)) (lines : List ℕ) → why ≢ refused.Ended → why ≢ refused.Full → texts ≡ gone ++ later
      → (link_tells → now.heard ≡ before.heard) → (link_tells → now.sent ≡ before.sent ++ gone) → AppendsPart before.written now.written lines
      → ((state : S) → Old state → machine.may_do state command → (next : S) × machine.does state command texts lines next)
      → HasDoneInPart machine Old command link_tells before now why

-- How conversations end.
use Rattle.std.specs.Prelude.{◌≡◌, ◌⊎◌, ℕ, true, false, List, [], ◌∷◌, ◌++◌}
use Rattle.std.specs.Io.KnownBytes.{Appends}
use Rattle.pad_output.specs.Output.{AppendsPart}
use Rattle.pad_conversation.specs.Machine.{Machine}
use Rattle.pad_conversation.specs.Run.{Runs, MayRun}
use Rattle.pad_conversation.specs.Told.{Told}
use Rattle.pad_conversation.specs.declared.refused.ConversationRefused.{ConversationRefused}
use Rattle.pad_conversation.specs.declared.refused.ConversationRefused.TheVariants as refused

-- A run of the commands: these texts were heard and those sent, where the link tells, and that was written, where the sink does. If the
-- premise holds the machine comes to a state of which `Stands` holds.
pub record IsRun {S C : Type 0} (machine : Machine S C) (Stands : S → Type 0) (first : S) (commands done : List C) (link_tells : Type 0) (before now : Told) : Type 0 where
  pub heard : List (List ℕ)
  pub sent : List (List ℕ)
  pub written : List ℕ
  pub heard_is : link_tells → now.heard ≡ before.heard ++ heard
  pub sent_is : link_tells → now.sent ≡ before.sent ++ sent
  pub written_is : Appends before.written now.written written
  pub comes : MayRun machine first commands heard → (state : S) × Runs machine first done heard sent written state × Stands state

-- all commands were done, and no text is waited for any more
abbrev pub IsConversed : {S C : Type 0} → Machine S C → (Stands : S → Type 0) → (first : S) → (commands : List C) → (link_tells : Type 0) → (before now : Told) → Type 0
IsConversed machine Stands first commands link_tells before now = IsRun machine (λ state. Stands state × (machine.waits state ≡ false)) first commands commands link_tells before now

-- why it stopped in a state, with these commands still to be done and these texts given but not heard
abbrev pub Because : {S C : Type 0} → Machine S C → ConversationRefused → (rest : List C) → (unheard : List (List ℕ)) → S → Type 0
Because machine refused.Link rest unheard state = Unit {0}
Because machine refused.Ended rest unheard state = machine.waits state ≡ true
Because machine refused.Write rest unheard state = Unit {0}
Because machine refused.Full [] [] state = ⊥
Because machine refused.Full (command ∷ rest) [] state = (machine.waits state ≡ false) × machine.overfills state command
Because machine refused.Full rest (text ∷ unheard) state = (machine.waits state ≡ true) × machine.overflows state text
Because machine refused.NoMemory rest unheard state = Unit {0}

-- It stopped after a front of the commands. What was sent and written is a front of what a run over them sends and writes. At most one
-- text was given that was not heard.
pub record IsStopped {S C : Type 0} (machine : Machine S C) (first : S) (commands : List C) (link_tells : Type 0) (before now : Told) (why : ConversationRefused) : Type 0 where
  pub done : List C
  pub rest : List C
  pub commands_are : commands ≡ done ++ rest
  pub heard : List (List ℕ)
  pub unheard : List (List ℕ)
  pub one_unheard : (unheard ≡ []) ⊎ ((text : List ℕ) × (unheard ≡ text ∷ []))
  pub sent : List (List ℕ)
  pub gone : List (List ℕ)
  pub later : List (List ℕ)
  pub gone_is : sent ≡ gone ++ later
  pub written : List ℕ
  pub heard_is : link_tells → now.heard ≡ before.heard ++ (heard ++ unheard)
  pub sent_is : link_tells → now.sent ≡ before.sent ++ gone
  pub written_is : AppendsPart before.written now.written written
  pub comes : MayRun machine first commands heard → (state : S) × Runs machine first done heard sent written state × Because machine why rest unheard state

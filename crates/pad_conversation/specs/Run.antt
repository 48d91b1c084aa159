-- Runs of a machine: commands are done one after another, and a state that waits hears a text before the next command.
use Rattle.std.specs.Prelude.{◌≡◌, ℕ, true, false, List, [], ◌∷◌, ◌++◌}
use Rattle.pad_conversation.specs.Machine.{Machine}

-- so far these commands were done and these texts heard; those texts were sent, and that was written
pub data Runs {S C : Type 0} (machine : Machine S C) (first : S) : (done : List C) → (heard sent : List (List ℕ)) → (written : List ℕ) → S → Type 0 where
  begins : Runs machine first [] [] [] [] first
  does_one : {done : List C} {heard sent : List (List ℕ)} {written : List ℕ} {state : S} (command : C) (texts : List (List ℕ)) (lines : List ℕ) (next : S)
      → Runs machine first done heard sent written state → machine.waits state ≡ false → machine.does state command texts lines next
      → Runs machine first (done ++ command ∷ []) heard (sent ++ texts) (written ++ lines) next
  hears_one : {done : List C} {heard sent : List (List ℕ)} {written : List ℕ} {state : S} (text lines : List ℕ) (next : S)
      → Runs machine first done heard sent written state → machine.waits state ≡ true → machine.hears state text lines next
      → Runs machine first done (heard ++ text ∷ []) sent (written ++ lines) next

-- The premise holds wherever a run over a front of the commands and of the texts heard comes: for the next command, and for the next text.
pub record MayRun {S C : Type 0} (machine : Machine S C) (first : S) (commands : List C) (heard : List (List ℕ)) : Type 0 where
  pub for_command : (done rest : List C) (command : C) (before after sent : List (List ℕ)) (written : List ℕ) (state : S)
      → commands ≡ done ++ command ∷ rest → heard ≡ before ++ after → Runs machine first done before sent written state → machine.may_do state command
  pub for_text : (done rest : List C) (text : List ℕ) (before after sent : List (List ℕ)) (written : List ℕ) (state : S)
      → commands ≡ done ++ rest → heard ≡ before ++ text ∷ after → Runs machine first done before sent written state → machine.may_hear state text

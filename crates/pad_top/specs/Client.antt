-- What a run of `client` ends with, sends and writes.
use Rattle.std.specs.Prelude.{◌≡◌, ◌<◌, ◌≤◌, ◌⊎◌, ℕ, List, [], ◌∷◌, ◌++◌, length, Option, IfSome, false}
use Rattle.std.specs.Io.{StartsWith}
use Rattle.pad_conversation.specs.Machine.{Machine}
use Rattle.pad_conversation.specs.Run.{Runs, MayRun}
use Rattle.pad_conversation.specs.Ends.{Because}
use Rattle.pad_conversation.specs.declared.refused.ConversationRefused.{ConversationRefused}
use Rattle.pad_conversation.specs.declared.refused.ConversationRefused.TheVariants as refused
use Rattle.pad_output.specs.Output.{AppendsSome, AppendsPartOfSome}
use Rattle.pad_script.specs.declared.act.Act.{Act}
use Rattle.pad_script.specs.declared.command.Command.{Command}
use Rattle.pad_script.specs.Act.{Says}
use Rattle.pad_script.specs.Script.{IsScript, IsFirstOutside}
use Rattle.client_script.specs.State.{Scripted, new_scripted, is_hearing}
use Rattle.client_script.specs.Script.{Does, HearsText, Overfills, Overflows, MayDo, MayHear}
use Rattle.pad_top.specs.declared.status.Status.{Status}
use Rattle.pad_top.specs.declared.status.Status.TheVariants as status
use Rattle.pad_top.specs.Input.{most_bytes}
use Rattle.pad_top.specs.Status.{status_line}

-- the machine of client scripts
abbrev pub script_machine : Machine Scripted (Command Act)
script_machine = record { does = Does; hears = HearsText; waits = is_hearing; overfills = Overfills; overflows = Overflows; may_do = MayDo; may_hear = MayHear }

-- the input is a script of these commands, and not too long
abbrev pub IsScriptOf : (input : Option (List ℕ)) → List (Command Act) → Type 0
IsScriptOf input commands = IfSome input (λ bytes. (length bytes ≤ most_bytes) × IsScript Says bytes commands)

-- Commands were carried out over a link: they did a run of the script machine from a new client on, which left nothing to be heard and wrote this output. Where the
-- link tells, that is a run over the texts heard, and the texts sent are those that it sends. The premise is on names.
pub record IsCarriedOut (commands : List (Command Act)) (link_tells : Type 0) (heard_before heard_now sent_before sent_now : List (List ℕ)) (output : List ℕ) : Type 0 where
  pub heard : List (List ℕ)
  pub sent : List (List ℕ)
  pub heard_is : link_tells → heard_now ≡ heard_before ++ heard
  pub sent_is : link_tells → sent_now ≡ sent_before ++ sent
  pub runs : MayRun script_machine new_scripted commands heard → (last : Scripted) × Runs script_machine new_scripted commands heard sent output last × (is_hearing last ≡ false)

-- They stopped for a cause, after a front of them: what was sent, and this output, are fronts of what a run over that front sends and writes. At most one text was
-- given that was not heard.
pub record IsCarriedOutInPart (commands : List (Command Act)) (link_tells : Type 0) (heard_before heard_now sent_before sent_now : List (List ℕ)) (why : ConversationRefused) (output : List ℕ) : Type 0 where
  pub done : List (Command Act)
  pub rest : List (Command Act)
  pub commands_are : commands ≡ done ++ rest
  pub heard : List (List ℕ)
  pub unheard : List (List ℕ)
  pub one_unheard : (unheard ≡ []) ⊎ ((text : List ℕ) × (unheard ≡ text ∷ []))
  pub sent : List (List ℕ)
  pub gone : List (List ℕ)
  pub later : List (List ℕ)
  pub gone_is : sent ≡ gone ++ later
  pub written : List ℕ
  pub front : StartsWith written output
  pub heard_is : link_tells → heard_now ≡ heard_before ++ (heard ++ unheard)
  pub sent_is : link_tells → sent_now ≡ sent_before ++ gone
  pub runs : MayRun script_machine new_scripted commands heard → (last : Scripted) × Runs script_machine new_scripted done heard sent written last × Because script_machine why rest unheard last

-- the commands of the input were carried out
abbrev pub IsScriptDone : (input : Option (List ℕ)) → (link_tells : Type 0) → (heard_before heard_now sent_before sent_now : List (List ℕ)) → (output : List ℕ) → Type 0
IsScriptDone input link_tells heard_before heard_now sent_before sent_now output =
    (commands : List (Command Act)) × IsScriptOf input commands × IsCarriedOut commands link_tells heard_before heard_now sent_before sent_now output

-- they stopped
abbrev pub IsScriptStopped : (input : Option (List ℕ)) → (link_tells : Type 0) → (heard_before heard_now sent_before sent_now : List (List ℕ)) → ConversationRefused → (output : List ℕ) → Type 0
IsScriptStopped input link_tells heard_before heard_now sent_before sent_now why output =
    (commands : List (Command Act)) × IsScriptOf input commands × IsCarriedOutInPart commands link_tells heard_before heard_now sent_before sent_now why output

-- it stopped so, and the line of a status stands behind its output
abbrev pub StopsWithLine : (stopped : ConversationRefused → List ℕ → Type 0) → ConversationRefused → Status → List ℕ → Type 0
StopsWithLine stopped why ended output = (front : List ℕ) × stopped why front × (output ≡ front ++ status_line ended)

-- When a run of `client` that no write stops ends with a status, and all that it writes then. `done` and `stopped` say what became of the script, with an output, and
-- `quiet` that the link is as it was; `read_failed` says that a read failed, `link_failed` that a call of the link did, and `link_ended` that the link ended.
abbrev pub ClientEnds : (input : Option (List ℕ)) → (done : List ℕ → Type 0) → (stopped : ConversationRefused → List ℕ → Type 0) → (quiet read_failed link_failed link_ended : Type 0) → Status → List ℕ → Type 0
ClientEnds input done stopped quiet read_failed link_failed link_ended status.Ok output = done output
ClientEnds input done stopped quiet read_failed link_failed link_ended status.Usage output = ⊥
ClientEnds input done stopped quiet read_failed link_failed link_ended status.ReadFault output = read_failed × quiet × (output ≡ status_line status.ReadFault)
ClientEnds input done stopped quiet read_failed link_failed link_ended status.WriteFault output = ⊥
ClientEnds input done stopped quiet read_failed link_failed link_ended status.StoreFault output = ⊥
ClientEnds input done stopped quiet read_failed link_failed link_ended status.LinkFault output = link_failed × StopsWithLine stopped refused.Link status.LinkFault output
ClientEnds input done stopped quiet read_failed link_failed link_ended status.Limit output =
    (IfSome input (λ bytes. most_bytes < length bytes) × quiet × (output ≡ status_line status.Limit)) ⊎ StopsWithLine stopped refused.Full status.Limit output
ClientEnds input done stopped quiet read_failed link_failed link_ended (status.BadScript number) output =
    IfSome input (λ bytes. (length bytes ≤ most_bytes) × IsFirstOutside Says bytes number) × quiet × (output ≡ status_line (status.BadScript number))
ClientEnds input done stopped quiet read_failed link_failed link_ended status.NoMemory output = (quiet × (output ≡ [])) ⊎ stopped refused.NoMemory output
ClientEnds input done stopped quiet read_failed link_failed link_ended status.Damaged output = ⊥
ClientEnds input done stopped quiet read_failed link_failed link_ended status.EndedEarly output = link_ended × StopsWithLine stopped refused.Ended status.EndedEarly output

-- a run of `client` that a failed write stopped wrote a front of what the script would have written, or a part from the front of what it would have written at its end
abbrev pub ClientIsCutShort : (input : Option (List ℕ)) → (done : List ℕ → Type 0) → (stopped : ConversationRefused → List ℕ → Type 0) → (quiet read_failed link_failed link_ended : Type 0)
    → (old new : Option (List ℕ)) → Type 0
ClientIsCutShort input done stopped quiet read_failed link_failed link_ended old new =
    AppendsSome (stopped refused.Write) old new ⊎ ((status : Status) × AppendsPartOfSome (ClientEnds input done stopped quiet read_failed link_failed link_ended status) old new)

-- the bytes are a script that is not too long
abbrev pub IsShortScript : List ℕ → Type 0
IsShortScript bytes = (length bytes ≤ most_bytes) × ((commands : List (Command Act)) × IsScript Says bytes commands)

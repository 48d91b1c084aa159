-- How a replay ends, and a run with it.
use Rattle.std.proofs.Common.{◌≡◌, ◌≢◌, ℕ, ◌≤◌, inl, inr, List, length, reverse, Option, None, Some, IfSome, refl, sym, subst, ◌∙◌}
use Rattle.pad_message.specs.declared.message.Message.{Message}
use Rattle.pad_model.specs.Base.{first_base}
use Rattle.pad_model.specs.Best.{IsBest}
use Rattle.pad_model.specs.Laws.{SameMembers}
use Rattle.pad_model.proofs.CallerLemmas.{differ_same, nothing_overtook, order_is_no_part, same_reversed}
use Rattle.pad_model.specs.Path.{NamesDiffer}
use Rattle.pad_model.specs.Report.{IsReport}
use Rattle.pad_output.specs.Output.{AppendsSome}
use Rattle.pad_top.specs.declared.refused.ReplayRefused.{ReplayRefused}
use Rattle.pad_top.specs.declared.refused.ReplayRefused.TheVariants as refused
use Rattle.pad_top.specs.declared.status.Status.{Status}
use Rattle.pad_top.specs.declared.status.Status.TheVariants as status
use Rattle.pad_top.specs.Input.{most_bytes}
use Rattle.pad_top.specs.Inside.Told.{IsToldAs}
use Rattle.pad_lines.specs.Line.{lines_of}
use Rattle.pad_received.specs.Contents.{AreReadAs, HasFewNames}
use Rattle.pad_top.specs.Inside.Refusal.{IsReplayRefusal, status_of}
use Rattle.pad_top.specs.Replay.{IsReplayed}
use Rattle.pad_top.specs.Run.{Ends, IsCutShort}
use Rattle.pad_top.specs.Inside.Ending.{IsEnd, fixed_line}
use Rattle.pad_top.specs.Words.{IsReplay}

-- what holds of the bytes that were read holds of those that the source told
pub told : (left : Option (List ℕ)) (bytes : List ℕ) (P : List ℕ → Type 0) → IsToldAs left bytes → P bytes → IfSome left P
told None bytes P is holds = tt
told (Some all) bytes P is holds = subst P (sym is) holds

-- a report that says that nothing overtook tells the best chain
pub tells_best : (messages : List Message) (unreadable : ℕ) (output : List ℕ) → NamesDiffer messages → (report : IsReport first_base messages unreadable output)
    → report.choice.overtaken ≡ 0 → IsBest first_base messages report.choice.chosen
tells_best messages unreadable output differ report none =
    let turned = same_reversed messages in
    let back : SameMembers (reverse messages) messages = λ message. ((turned message).1, (turned message).0) in
    order_is_no_part first_base (reverse messages) messages report.choice.chosen back
    (nothing_overtook first_base (reverse messages) report.choice (differ_same messages (reverse messages) turned differ) report.is_choice none)

-- the report of what was received is that of the input
pub replayed : (input output : List ℕ) (messages : List Message) (unreadable : ℕ) → length input ≤ most_bytes → AreReadAs (lines_of input) messages unreadable
    → HasFewNames messages → (NamesDiffer messages → IsReport first_base messages unreadable output) → IsReplayed input output
replayed input output messages unreadable short received few report = record {
  short = short;
  messages = messages;
  unreadable = unreadable;
  taken = record { received = received; names = few };
  report = report;
  best = λ differ. tells_best messages unreadable output differ (report differ);
}

-- the end of a replay without a report
pub refusal_ends : (words : List (List ℕ)) (input : Option (List ℕ)) (read_failed : Type 0) (error : ReplayRefused) → IsReplay words → IsReplayRefusal input read_failed error
    → Ends words input read_failed (status_of error) (fixed_line (status_of error))
refusal_ends words input read_failed refused.ReadFault is why = (is, why, refl)
refusal_ends words input read_failed refused.Limit is why = (is, why, refl)
refusal_ends words input read_failed (refused.NoMemory error) is why = (is, refl)

-- a run that no write stopped ends with the status that was wanted
pub not_cut : (words : List (List ℕ)) (input : Option (List ℕ)) (read_failed : Type 0) (old new : Option (List ℕ)) (write_failed : Type 0) (text : List ℕ) (wanted result : Status)
    → IsEnd old new write_failed text wanted result → Ends words input read_failed wanted text → result ≢ status.WriteFault → AppendsSome (Ends words input read_failed result) old new
not_cut words input read_failed old new write_failed text wanted result (inl whole) ends other =
    subst (λ s. AppendsSome (Ends words input read_failed s) old new) (sym whole.0) (text, ends, whole.1)
not_cut words input read_failed old new write_failed text wanted result (inr part) ends other = absurd (other part.0)

-- a run is cut short where the last write failed
pub cut_short : (words : List (List ℕ)) (input : Option (List ℕ)) (read_failed : Type 0) (old new : Option (List ℕ)) (write_failed : Type 0) (text : List ℕ) (wanted result : Status)
    → IsEnd old new write_failed text wanted result → Ends words input read_failed wanted text → result ≡ status.WriteFault → IsCutShort words input read_failed old new
cut_short words input read_failed old new write_failed text wanted result (inl whole) ends failed =
    absurd (subst (λ s. Ends words input read_failed s text) (sym whole.0 ∙ failed) ends)
cut_short words input read_failed old new write_failed text wanted result (inr part) ends failed = (wanted, (text, ends, part.2))

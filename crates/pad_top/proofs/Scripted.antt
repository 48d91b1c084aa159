-- How a run of `client` ends.
use Rattle.std.proofs.Common.{◌≡◌, ◌≢◌, ◌∙◌, inl, inr, ◌⊎◌, ℕ, ◌≤◌, Bool, false, List, [], ◌∷◌, ◌++◌, length, Option, None, Some, IfSome, IsSomeAnd, refl, sym, ap, subst, append-nil}
use Rattle.std.proofs.KnownBytes.{Appends-nil, Appends-trans}
use Rattle.std.specs.Io.{StartsWith}
use Rattle.std.specs.Io.KnownBytes.{Appends}
use Rattle.pad_conversation.specs.Run.{MayRun, Runs, begins}
use Rattle.pad_conversation.specs.Ends.{Because, IsConversed, IsStopped}
use Rattle.pad_conversation.specs.Told.{told}
use Rattle.pad_conversation.specs.declared.refused.ConversationRefused.{ConversationRefused}
use Rattle.pad_conversation.specs.declared.refused.ConversationRefused.TheVariants as refused
use Rattle.pad_log.proofs.CallerLemmas.{part_behind}
use Rattle.pad_output.specs.Output.{AppendsPart, AppendsSome, AppendsPartOfSome}
use Rattle.pad_script.specs.declared.act.Act.{Act}
use Rattle.pad_script.specs.declared.command.Command.{Command}
use Rattle.pad_script.specs.Act.{Says}
use Rattle.pad_script.specs.Script.{AreSaid, IsScript, IsFirstOutside}
use Rattle.client_script.specs.State.{Scripted, new_scripted, is_hearing}
use Rattle.pad_top.specs.declared.refused.ReplayRefused.{ReplayRefused}
use Rattle.pad_top.specs.declared.refused.ReplayRefused.TheVariants as replay
use Rattle.pad_top.specs.declared.status.Status.{Status}
use Rattle.pad_top.specs.declared.status.Status.TheVariants as status
use Rattle.pad_top.specs.Client.{script_machine, IsScriptOf, IsCarriedOut, IsCarriedOutInPart, IsScriptDone, IsScriptStopped, IsShortScript, ClientEnds, ClientIsCutShort}
use Rattle.pad_top.specs.Input.{most_bytes}
use Rattle.pad_top.specs.Inside.Ending.{IsEnd, fixed_line}
use Rattle.pad_top.specs.Inside.Refusal.{IsReadRefusal, status_of}
use Rattle.pad_top.specs.Inside.Told.{IsToldAs}
use Rattle.pad_top.proofs.Ending.{told as told_input}

-- ---- a script has no line outside the grammar

no_outside : {A : Type 0} (says : List ℕ → Option A → Type 0) (before : List (List ℕ)) (line : List ℕ) (after : List (List ℕ)) (acts : List (Option A)) → AreSaid says (before ++ line ∷ after) acts
    → ((act : Option A) → ¬ (says line act)) → ⊥
no_outside says [] line after [] said outside = absurd said
no_outside says [] line after (act ∷ acts) said outside = outside act said.0
no_outside says (first ∷ before) line after [] said outside = absurd said
no_outside says (first ∷ before) line after (act ∷ acts) said outside = no_outside says before line after acts said.1 outside

pub is_inside : (bytes : List ℕ) (commands : List (Command Act)) (number : ℕ) → IsScript Says bytes commands → IsFirstOutside Says bytes number → ⊥
is_inside bytes commands number script first =
    no_outside Says first.before first.line first.after script.acts (subst (λ lines. AreSaid Says lines script.acts) first.lines script.said) first.outside

-- ---- the commands

same_heard : {X : Type 0} (before mid now more : List X) → mid ≡ before → now ≡ mid ++ more → now ≡ before ++ more
same_heard before mid now more same is = is ∙ ap (λ l. l ++ more) same

pub carried : (Stands : Scripted → Type 0) (commands : List (Command Act)) (tells : Type 0) (heard_before heard_now sent_before sent_now : List (List ℕ)) (old new : Option (List ℕ))
    → IsConversed script_machine Stands new_scripted commands tells (told heard_before sent_before old) (told heard_now sent_now new)
    → AppendsSome (IsCarriedOut commands tells heard_before heard_now sent_before sent_now) old new
carried Stands commands tells heard_before heard_now sent_before sent_now old new run = (
  run.written,
  record { heard = run.heard; sent = run.sent; heard_is = run.heard_is; sent_is = run.sent_is; runs = λ may. last_of (run.comes may) },
  run.written_is,
)
  where
    last_of : (state : Scripted) × Runs script_machine new_scripted commands run.heard run.sent run.written state × (Stands state × (is_hearing state ≡ false))
        → (last : Scripted) × Runs script_machine new_scripted commands run.heard run.sent run.written last × (is_hearing last ≡ false)
    last_of (state, runs, ended) = (state, runs, ended.1)

pub stopped : (commands : List (Command Act)) (tells : Type 0) (heard_before heard_now sent_before sent_now : List (List ℕ)) (old new : Option (List ℕ)) (why : ConversationRefused)
    → IsStopped script_machine new_scripted commands tells (told heard_before sent_before old) (told heard_now sent_now new) why
    → AppendsSome (IsCarriedOutInPart commands tells heard_before heard_now sent_before sent_now why) old new
stopped commands tells heard_before heard_now sent_before sent_now old new why run =
    let part = run.written_is in (
      part.0,
      record {
        done = run.done;
        rest = run.rest;
        commands_are = run.commands_are;
        heard = run.heard;
        unheard = run.unheard;
        one_unheard = run.one_unheard;
        sent = run.sent;
        gone = run.gone;
        later = run.later;
        gone_is = run.gone_is;
        written = run.written;
        front = part.1;
        heard_is = run.heard_is;
        sent_is = run.sent_is;
        runs = run.comes;
      },
      part.2,
    )

-- a link that was dialled told the same before
pub dialled : (commands : List (Command Act)) (tells : Type 0) (heard_before heard_mid heard_now sent_before sent_mid sent_now : List (List ℕ)) (old new : Option (List ℕ))
    → (tells → (heard_mid ≡ heard_before) × (sent_mid ≡ sent_before)) → AppendsSome (IsCarriedOut commands tells heard_mid heard_now sent_mid sent_now) old new
    → AppendsSome (IsCarriedOut commands tells heard_before heard_now sent_before sent_now) old new
dialled commands tells heard_before heard_mid heard_now sent_before sent_mid sent_now old new same some =
    let run = some.1 in (
      some.0,
      record {
        heard = run.heard;
        sent = run.sent;
        heard_is = λ t. same_heard heard_before heard_mid heard_now run.heard (same t).0 (run.heard_is t);
        sent_is = λ t. same_heard sent_before sent_mid sent_now run.sent (same t).1 (run.sent_is t);
        runs = run.runs;
      },
      some.2,
    )

pub dialled_part : (commands : List (Command Act)) (tells : Type 0) (heard_before heard_mid heard_now sent_before sent_mid sent_now : List (List ℕ)) (old new : Option (List ℕ)) (why : ConversationRefused)
    → (tells → (heard_mid ≡ heard_before) × (sent_mid ≡ sent_before)) → AppendsSome (IsCarriedOutInPart commands tells heard_mid heard_now sent_mid sent_now why) old new
    → AppendsSome (IsCarriedOutInPart commands tells heard_before heard_now sent_before sent_now why) old new
dialled_part commands tells heard_before heard_mid heard_now sent_before sent_mid sent_now old new why same some =
    let run = some.1 in (
      some.0,
      record {
        done = run.done;
        rest = run.rest;
        commands_are = run.commands_are;
        heard = run.heard;
        unheard = run.unheard;
        one_unheard = run.one_unheard;
        sent = run.sent;
        gone = run.gone;
        later = run.later;
        gone_is = run.gone_is;
        written = run.written;
        front = run.front;
        heard_is = λ t. same_heard heard_before heard_mid heard_now (run.heard ++ run.unheard) (same t).0 (run.heard_is t);
        sent_is = λ t. same_heard sent_before sent_mid sent_now run.gone (same t).1 (run.sent_is t);
        runs = run.runs;
      },
      some.2,
    )

-- none of them was begun
pub not_begun : (commands : List (Command Act)) (tells : Type 0) (heard_before heard_now sent_before sent_now : List (List ℕ)) (old : Option (List ℕ)) (why : ConversationRefused)
    → Because script_machine why commands [] new_scripted → (tells → (heard_now ≡ heard_before) × (sent_now ≡ sent_before))
    → AppendsSome (IsCarriedOutInPart commands tells heard_before heard_now sent_before sent_now why) old old
not_begun commands tells heard_before heard_now sent_before sent_now old why cause same = (
  [],
  record {
    done = [];
    rest = commands;
    commands_are = refl;
    heard = [];
    unheard = [];
    one_unheard = inl refl;
    sent = [];
    gone = [];
    later = [];
    gone_is = refl;
    written = [];
    front = refl;
    heard_is = λ t. (same t).0 ∙ sym (append-nil heard_before);
    sent_is = λ t. (same t).1 ∙ sym (append-nil sent_before);
    runs = λ may. (new_scripted, begins, cause);
  },
  Appends-nil old,
)

-- ---- the last line

-- the line of a status was written behind a front, and the run ended so
pub line_behind : (Front : List ℕ → Type 0) (Ends : Status → List ℕ → Type 0) (old mid new : Option (List ℕ)) (write_failed : Type 0) (text line : List ℕ) (wanted result : Status)
    → AppendsSome Front old mid → text ≡ line → ((front : List ℕ) → Front front → Ends wanted (front ++ line)) → IsEnd mid new write_failed text wanted result
    → result ≢ status.WriteFault → AppendsSome (Ends result) old new
line_behind Front Ends old mid new write_failed text line wanted result front is ends (inl whole) other =
    subst (λ s. AppendsSome (Ends s) old new) (sym whole.0)
    (front.0 ++ line, ends front.0 front.1, Appends-trans old mid new front.0 line front.2 (subst (Appends mid new) is whole.1))
line_behind Front Ends old mid new write_failed text line wanted result front is ends (inr part) other = absurd (other part.0)

-- the line was written in part
pub line_broken : (Front : List ℕ → Type 0) (Ends : Status → List ℕ → Type 0) (old mid new : Option (List ℕ)) (write_failed : Type 0) (text line : List ℕ) (wanted result : Status)
    → AppendsSome Front old mid → text ≡ line → wanted ≢ status.WriteFault → ((front : List ℕ) → Front front → Ends wanted (front ++ line)) → IsEnd mid new write_failed text wanted result
    → result ≡ status.WriteFault → (status : Status) × AppendsPartOfSome (Ends status) old new
line_broken Front Ends old mid new write_failed text line wanted result front is other ends (inl whole) cut = absurd (other (sym whole.0 ∙ cut))
line_broken Front Ends old mid new write_failed text line wanted result front is other ends (inr part) cut =
    (wanted, (front.0 ++ line, ends front.0 front.1, part_behind old mid new front.0 line front.2 (subst (λ t. AppendsPart mid new t) is part.2)))

-- nothing was written
abbrev pub Nothing : List ℕ → Type 0
Nothing front = front ≡ []

pub nothing_yet : (old : Option (List ℕ)) → AppendsSome Nothing old old
nothing_yet old = ([], refl, Appends-nil old)

-- why the input was not read to its end
pub refused_ends : (input : Option (List ℕ)) (done : List ℕ → Type 0) (stopped : ConversationRefused → List ℕ → Type 0) (quiet read_failed link_failed link_ended : Type 0) (error : ReplayRefused)
    → quiet → IsReadRefusal input read_failed error → (front : List ℕ) → Nothing front
    → ClientEnds input done stopped quiet read_failed link_failed link_ended (status_of error) (front ++ fixed_line (status_of error))
refused_ends input done stopped quiet read_failed link_failed link_ended replay.ReadFault same why front none = (why, same, ap (λ l. l ++ fixed_line status.ReadFault) none)
refused_ends input done stopped quiet read_failed link_failed link_ended replay.Limit same why front none = inl (why, same, ap (λ l. l ++ fixed_line status.Limit) none)
refused_ends input done stopped quiet read_failed link_failed link_ended (replay.NoMemory error) same why front none = inl (same, ap (λ l. l ++ fixed_line status.NoMemory) none)

pub refused_is : (error : ReplayRefused) → (status_of error ≢ status.Ok) × (status_of error ≢ status.WriteFault) × (status_of error ≢ status.StoreFault) × (status_of error ≢ status.LinkFault)
    × (status_of error ≢ status.EndedEarly)
refused_is replay.ReadFault = (λ e. cc, λ e. cc, λ e. cc, λ e. cc, λ e. cc)
refused_is replay.Limit = (λ e. cc, λ e. cc, λ e. cc, λ e. cc, λ e. cc)
refused_is (replay.NoMemory error) = (λ e. cc, λ e. cc, λ e. cc, λ e. cc, λ e. cc)

-- a run that no failed read ended ends so whether a read failed or not
pub whether_read : (input : Option (List ℕ)) (done : List ℕ → Type 0) (stopped : ConversationRefused → List ℕ → Type 0) (quiet read_failed link_failed link_ended : Type 0) (ended : Status) (output : List ℕ)
    → ClientEnds input done stopped quiet ⊥ link_failed link_ended ended output → ClientEnds input done stopped quiet read_failed link_failed link_ended ended output
whether_read input done stopped quiet read_failed link_failed link_ended status.Ok output ends = ends
whether_read input done stopped quiet read_failed link_failed link_ended status.Usage output ends = ends
whether_read input done stopped quiet read_failed link_failed link_ended status.ReadFault output ends = absurd ends.0
whether_read input done stopped quiet read_failed link_failed link_ended status.WriteFault output ends = ends
whether_read input done stopped quiet read_failed link_failed link_ended status.StoreFault output ends = ends
whether_read input done stopped quiet read_failed link_failed link_ended status.LinkFault output ends = ends
whether_read input done stopped quiet read_failed link_failed link_ended status.Limit output ends = ends
whether_read input done stopped quiet read_failed link_failed link_ended (status.BadScript number) output ends = ends
whether_read input done stopped quiet read_failed link_failed link_ended status.NoMemory output ends = ends
whether_read input done stopped quiet read_failed link_failed link_ended status.Damaged output ends = ends
whether_read input done stopped quiet read_failed link_failed link_ended status.EndedEarly output ends = ends

pub whether_read_cut : (input : Option (List ℕ)) (done : List ℕ → Type 0) (stopped : ConversationRefused → List ℕ → Type 0) (quiet read_failed link_failed link_ended : Type 0) (old new : Option (List ℕ))
    → ClientIsCutShort input done stopped quiet ⊥ link_failed link_ended old new → ClientIsCutShort input done stopped quiet read_failed link_failed link_ended old new
whether_read_cut input done stopped quiet read_failed link_failed link_ended old new (inl front) = inl front
whether_read_cut input done stopped quiet read_failed link_failed link_ended old new (inr (ended, some)) =
    inr (ended, (some.0, whether_read input done stopped quiet read_failed link_failed link_ended ended some.0 some.1, some.2))

-- ---- a script

pub is_script_of : (input : Option (List ℕ)) (bytes : List ℕ) (commands : List (Command Act)) → IsToldAs input bytes → length bytes ≤ most_bytes → IsScript Says bytes commands → IsScriptOf input commands
is_script_of input bytes commands told short script = told_input input bytes (λ b. (length b ≤ most_bytes) × IsScript Says b commands) told (short, script)

pub script_done : (input : Option (List ℕ)) (commands : List (Command Act)) (tells : Type 0) (heard_before heard_now sent_before sent_now : List (List ℕ)) (old new : Option (List ℕ)) → IsScriptOf input commands
    → AppendsSome (IsCarriedOut commands tells heard_before heard_now sent_before sent_now) old new → AppendsSome (IsScriptDone input tells heard_before heard_now sent_before sent_now) old new
script_done input commands tells heard_before heard_now sent_before sent_now old new script some = (some.0, (commands, script, some.1), some.2)

pub script_stopped : (input : Option (List ℕ)) (commands : List (Command Act)) (tells : Type 0) (heard_before heard_now sent_before sent_now : List (List ℕ)) (old new : Option (List ℕ)) (cause why : ConversationRefused)
    → cause ≡ why → IsScriptOf input commands → AppendsSome (IsCarriedOutInPart commands tells heard_before heard_now sent_before sent_now cause) old new
    → AppendsSome (IsScriptStopped input tells heard_before heard_now sent_before sent_now why) old new
script_stopped input commands tells heard_before heard_now sent_before sent_now old new cause why is script some = (
  some.0,
  (commands, script, subst (λ w. IsCarriedOutInPart commands tells heard_before heard_now sent_before sent_now w some.0) is some.1),
  some.2,
)

-- the input that was told is such a script
pub known_script : (input : Option (List ℕ)) (bytes : List ℕ) → IsToldAs input bytes → IsSomeAnd input IsShortScript → IsShortScript bytes
known_script None bytes told has = absurd has
known_script (Some all) bytes told has = subst IsShortScript told has

-- ---- a line outside the grammar

pub bad_line : {S : Type 0} (written : S → Option (List ℕ)) (Ends : Status → List ℕ → Type 0) (old new : S) (write_failed : Type 0) (line : List ℕ) (wanted result : Status)
    → ((result ≡ status.NoMemory) × (new ≡ old)) ⊎ IsEnd (written old) (written new) write_failed line wanted result → Ends wanted line → Ends status.NoMemory []
    → result ≢ status.WriteFault → AppendsSome (Ends result) (written old) (written new)
bad_line written Ends old new write_failed line wanted result (inl (is, same)) ends none other =
    subst (λ s. AppendsSome (Ends s) (written old) (written new)) (sym is) ([], none, subst (λ it. Appends (written old) (written it) []) (sym same) (Appends-nil (written old)))
bad_line written Ends old new write_failed line wanted result (inr (inl whole)) ends none other = subst (λ s. AppendsSome (Ends s) (written old) (written new)) (sym whole.0) (line, ends, whole.1)
bad_line written Ends old new write_failed line wanted result (inr (inr part)) ends none other = absurd (other part.0)

pub bad_line_cut : {S : Type 0} (written : S → Option (List ℕ)) (Ends : Status → List ℕ → Type 0) (old new : S) (write_failed : Type 0) (line : List ℕ) (wanted result : Status)
    → ((result ≡ status.NoMemory) × (new ≡ old)) ⊎ IsEnd (written old) (written new) write_failed line wanted result → Ends wanted line → wanted ≢ status.WriteFault
    → result ≡ status.WriteFault → (status : Status) × AppendsPartOfSome (Ends status) (written old) (written new)
bad_line_cut written Ends old new write_failed line wanted result (inl (is, same)) ends other cut = let no : status.NoMemory ≡ status.WriteFault = sym is ∙ cut in absurd (cc)
bad_line_cut written Ends old new write_failed line wanted result (inr (inl whole)) ends other cut = absurd (other (sym whole.0 ∙ cut))
bad_line_cut written Ends old new write_failed line wanted result (inr (inr part)) ends other cut = (wanted, (line, ends, part.2))

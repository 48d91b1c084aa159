-- Few lines of a script make requests.
use Rattle.std.proofs.Common.{◌≡◌, ◌≢◌, ℕ, ◌+◌, ◌*◌, ◌<◌, ◌≤◌, Bool, true, false, ◌==◌, if◌then◌else◌, cond, List, [], ◌∷◌, length, Option, None, Some, refl, sym, subst, ap, ◌∙◌, arith}
use Rattle.netflux_codec.specs.declared.since.Since.TheVariants as since
use Rattle.pad_script.specs.declared.act.Act.{Act}
use Rattle.pad_script.specs.declared.act.Act.TheVariants as act
use Rattle.pad_script.specs.declared.session_act.SessionAct.{SessionAct}
use Rattle.pad_script.specs.declared.session_act.SessionAct.TheVariants as session
use Rattle.pad_script.specs.declared.command.Command.{Command}
use Rattle.std.proofs.lemmas.List.Sums.{sum_by-cons}
use Rattle.pad_lines.specs.Line.{before_lines, lines_of, newline}
use Rattle.pad_script.specs.Act.{Says, SpellsAct}
use Rattle.pad_script.specs.SessionAct.{SaysInSession, SpellsSessionAct}
use Rattle.pad_script.specs.Script.{AreSaid, IsScript, commands_from}
use Rattle.pad_script.specs.Requests.{AreFew, makes_requests, request_lines, session_makes_requests}
use Rattle.std.specs.Prelude.{decimal}

-- the bytes of lines, each with its end
abbrev size : List (List ℕ) → ℕ
size [] = 0
size (line ∷ lines) = (length line + 1) + size lines

size-before : (byte : ℕ) (lines : List (List ℕ)) (count : ℕ) → size lines ≤ count + 1 → 0 < count + 1 → size (before_lines byte lines) ≤ (count + 1) + 1
size-before byte [] count small some = omega arith
size-before byte (line ∷ lines) count small some = omega (arith, small)

-- a script has no fewer bytes, but that its last line may lack its end
size-lines_of : (bytes : List ℕ) → size (lines_of bytes) ≤ length bytes + 1
size-lines_of [] = omega arith
size-lines_of (byte ∷ rest) = go (byte == newline) (size-lines_of rest)
  where
    go : (ends : Bool) → size (lines_of rest) ≤ length rest + 1 → size (if ends then [] ∷ lines_of rest else before_lines byte (lines_of rest)) ≤ length (byte ∷ rest) + 1
    go true small = omega (arith, small)
    go false small = let more = size-before byte (lines_of rest) (length rest) small (omega arith) in omega (arith, more)

-- a line that makes requests has at least four bytes
abbrev IsLong : {A : Type 0} → (List ℕ → Option A → Type 0) → (A → Bool) → Type 0
IsLong {A} says makes = (line : List ℕ) (act : A) → says line (Some act) → makes act ≡ true → 4 ≤ length line

one_line : (here : Bool) (front count rest : ℕ) → (here ≡ true → 4 ≤ front) → 5 * count ≤ rest → 5 * (cond here 1 0 + count) ≤ (front + 1) + rest
one_line true front count rest long few = omega (arith, long refl, few)
one_line false front count rest long few = omega (arith, few)

few_lines : {A : Type 0} (says : List ℕ → Option A → Type 0) (makes : A → Bool) → IsLong says makes → (number : ℕ) (lines : List (List ℕ)) (acts : List (Option A))
    → AreSaid says lines acts → 5 * request_lines makes (commands_from number acts) ≤ size lines
few_lines says makes long number [] [] said = omega arith
few_lines says makes long number [] (act ∷ acts) said = absurd said
few_lines says makes long number (line ∷ lines) [] said = absurd said
few_lines says makes long number (line ∷ lines) (None ∷ acts) said = let rest = few_lines says makes long (number + 1) lines acts said.1 in omega (arith, rest)
few_lines {A} says makes long number (line ∷ lines) (Some act ∷ acts) said =
    let rest = commands_from (number + 1) acts in
    let one = one_line (makes act) (length line) (request_lines makes rest) (size lines) (long line act said.0) (few_lines says makes long (number + 1) lines acts said.1) in
    let count = sum_by-cons (λ (command : Command A). cond (makes command.act) 1 0) (record { line = number; act = act }) rest in
    subst (λ (n : ℕ). 5 * n ≤ size (line ∷ lines)) (sym count) one

few : {A : Type 0} (says : List ℕ → Option A → Type 0) (makes : A → Bool) → IsLong says makes → (bytes : List ℕ) (commands : List (Command A)) → IsScript says bytes commands → AreFew makes bytes commands
few says makes long bytes commands is =
    let lines = few_lines says makes long 1 (lines_of bytes) is.acts is.said in
    let all = size-lines_of bytes in
    rw is.numbered (omega (arith, lines, all))

long_act : IsLong Says makes_requests
long_act line (act.Join channel) spells makes = omega (arith, ap length spells.1.0)
long_act line act.Leave spells makes = omega (arith, ap length spells.1)
long_act line (act.History since.Default) spells makes = omega (arith, ap length spells.1.0)
long_act line (act.History (since.Known key)) spells makes = omega (arith, ap length spells.1.0)
long_act line (act.History since.All) spells makes = omega (arith, ap length spells.1.0)
long_act line (act.Edit operation) spells makes = absurd (cc)
long_act line act.Sync spells makes = omega (arith, ap length spells.1)
long_act line act.Resend spells makes = omega (arith, ap length spells.1)
long_act line act.Settle spells makes = absurd (cc)
long_act line (act.Hear count) spells makes = absurd (cc)
long_act line act.Repair spells makes = omega (arith, ap length spells.1)
long_act line (act.Interval messages) spells makes = absurd (cc)
long_act line act.Show spells makes = absurd (cc)

long_session_act : IsLong SaysInSession session_makes_requests
long_session_act line (session.Join client channel) spells makes = omega (arith, ap length spells.1.0)
long_session_act line (session.Leave client) spells makes = omega (arith, ap length spells.1.0)
long_session_act line (session.Sync client) spells makes = omega (arith, ap length spells.1.0)
long_session_act line (session.Resend client) spells makes = omega (arith, ap length spells.1.0)
long_session_act line (session.Repair client) spells makes = omega (arith, ap length spells.1.0)
long_session_act line (session.History client from) spells makes = omega (arith, ap length spells.1.0)
long_session_act line _ spells makes = absurd (cc)

pub few_act : (bytes : List ℕ) (commands : List (Command Act)) → IsScript Says bytes commands → AreFew makes_requests bytes commands
few_act = few Says makes_requests long_act

pub few_session_act : (bytes : List ℕ) (commands : List (Command SessionAct)) → IsScript SaysInSession bytes commands → AreFew session_makes_requests bytes commands
few_session_act = few SaysInSession session_makes_requests long_session_act

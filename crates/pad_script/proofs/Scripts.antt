-- How scripts are read, line by line.
use Rattle.std.proofs.Common.{◌≡◌, ℕ, ◌+◌, ◌<◌, ◌≤◌, List, [], ◌∷◌, ◌++◌, length, Option, None, Some, refl, sym, ap, ◌∙◌, arith, append_assoc}
use Rattle.std.proofs.lemmas.List.{append-nil, length-append}
use Rattle.pad_script.specs.declared.command.Command.{Command}
use Rattle.pad_lines.specs.Line.{lines_of}
use Rattle.pad_script.specs.Script.{AreSaid, IsFirstOutside, IsScript, commands_from}

-- The lines before the rest of a script are read: so many, with these commands.
pub record IsReadTo {A : Type 0} (says : List ℕ → Option A → Type 0) (bytes rest : List ℕ) (number : ℕ) (commands : List (Command A)) : Type 0 where
  pub before : List (List ℕ)
  pub lines : lines_of bytes ≡ before ++ lines_of rest
  pub place : number ≡ length before
  pub acts : List (Option A)
  pub said : AreSaid says before acts
  pub numbered : commands ≡ commands_from 1 acts
  pub short : number + length rest ≤ length bytes

-- as many things are said as there are lines
as_many : {A : Type 0} (says : List ℕ → Option A → Type 0) (lines : List (List ℕ)) (acts : List (Option A)) → AreSaid says lines acts → length lines ≡ length acts
as_many says [] [] said = refl
as_many says [] (act ∷ acts) said = absurd said
as_many says (line ∷ lines) [] said = absurd said
as_many says (line ∷ lines) (act ∷ acts) said = let rest = as_many says lines acts said.1 in omega (arith, rest)

-- one line more says something
AreSaid-append : {A : Type 0} (says : List ℕ → Option A → Type 0) (lines : List (List ℕ)) (acts : List (Option A)) (line : List ℕ) (act : Option A)
    → AreSaid says lines acts → says line act → AreSaid says (lines ++ line ∷ []) (acts ++ act ∷ [])
AreSaid-append says [] [] line act said one = (one, tt)
AreSaid-append says [] (other ∷ acts) line act said one = absurd said
AreSaid-append says (other ∷ lines) [] line act said one = absurd said
AreSaid-append says (first ∷ lines) (other ∷ acts) line act said one = (said.0, AreSaid-append says lines acts line act said.1 one)

-- the commands of one line more
commands_from-append : {A : Type 0} (number : ℕ) (acts : List (Option A)) (act : Option A)
    → commands_from number (acts ++ act ∷ []) ≡ commands_from number acts ++ commands_from (number + length acts) (act ∷ [])
commands_from-append number [] act = ap (λ n. commands_from n (act ∷ [])) (omega arith)
commands_from-append number (None ∷ acts) act =
    commands_from-append (number + 1) acts act
    ∙ ap (λ n. commands_from (number + 1) acts ++ commands_from n (act ∷ [])) (omega arith)
commands_from-append number (Some first ∷ acts) act =
    ap (λ (commands : List (Command _)). record { line = number; act = first } ∷ commands)
    (commands_from-append (number + 1) acts act
    ∙ ap (λ n. commands_from (number + 1) acts ++ commands_from n (act ∷ [])) (omega arith))

-- at the beginning
pub IsReadTo-nothing : {A : Type 0} (says : List ℕ → Option A → Type 0) (bytes : List ℕ) → IsReadTo says bytes bytes 0 []
IsReadTo-nothing says bytes = record { before = []; lines = refl; place = refl; acts = []; said = tt; numbered = refl; short = omega arith }

-- after one line more
pub IsReadTo-more : {A : Type 0} (says : List ℕ → Option A → Type 0) (bytes rest line after : List ℕ) (number : ℕ) (old new : List (Command A)) (act : Option A)
    → IsReadTo says bytes rest number old → lines_of rest ≡ line ∷ lines_of after → length after < length rest → says line act
    → new ≡ old ++ commands_from (number + 1) (act ∷ []) → IsReadTo says bytes after (number + 1) new
IsReadTo-more says bytes rest line after number old new act is split shorter one pushed = record {
  before = is.before ++ line ∷ [];
  lines = is.lines ∙ (ap (λ lines. is.before ++ lines) split ∙ sym (append_assoc is.before (line ∷ []) (lines_of after)));
  place = ap (λ n. n + 1) is.place ∙ sym (length-append is.before (line ∷ []));
  acts = is.acts ++ act ∷ [];
  said = AreSaid-append says is.before is.acts line act is.said one;
  numbered =
      let count : number + 1 ≡ 1 + length is.acts = omega (arith, is.place, as_many says is.before is.acts is.said) in
      pushed ∙ (ap (λ commands. commands ++ commands_from (number + 1) (act ∷ [])) is.numbered
      ∙ (ap (λ n. commands_from 1 is.acts ++ commands_from n (act ∷ [])) count ∙ sym (commands_from-append 1 is.acts act)));
  short = omega (arith, is.short, shorter);
}

-- at the end
pub IsScript-end : {A : Type 0} (says : List ℕ → Option A → Type 0) (bytes rest : List ℕ) (number : ℕ) (commands : List (Command A))
    → IsReadTo says bytes rest number commands → lines_of rest ≡ [] → IsScript says bytes commands
IsScript-end says bytes rest number commands is none =
    let all : lines_of bytes ≡ is.before = is.lines ∙ (ap (λ lines. is.before ++ lines) none ∙ append-nil is.before) in
    record { acts = is.acts; said = rw all is.said; numbered = is.numbered }

-- at a line outside the grammar
pub IsFirstOutside-here : {A : Type 0} (says : List ℕ → Option A → Type 0) (bytes rest line after : List ℕ) (number : ℕ) (commands : List (Command A))
    → IsReadTo says bytes rest number commands → lines_of rest ≡ line ∷ lines_of after → ((act : Option A) → ¬ (says line act)) → IsFirstOutside says bytes (number + 1)
IsFirstOutside-here says bytes rest line after number commands is split none = record {
  before = is.before;
  line = line;
  after = lines_of after;
  lines = is.lines ∙ ap (λ lines. is.before ++ lines) split;
  place = ap (λ n. n + 1) is.place;
  acts = is.acts;
  inside = is.said;
  outside = none;
}

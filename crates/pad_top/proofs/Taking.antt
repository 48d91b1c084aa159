-- What is received of the lines of a text, line by line.
use Rattle.std.proofs.Common.{◌≡◌, ℕ, ◌+◌, ◌≤◌, ◌<◌, List, [], ◌∷◌, ◌++◌, length, Option, None, Some, is_none, count_by, cond, refl, sym, ap, subst, ◌∙◌, arith, append_assoc, append-nil}
use Rattle.std.proofs.lemmas.List.Sums.{sum_by-append}
use Rattle.std.specs.List.{AllZip, filter_map}
use Rattle.pad_message.specs.declared.message.Message.{Message}
use Rattle.pad_chain.specs.declared.receive_refused.ReceiveRefused.{ReceiveRefused}
use Rattle.pad_chain.specs.declared.receive_refused.ReceiveRefused.TheVariants.{Full, NoMemory}
use Rattle.pad_lines.specs.Line.{lines_of}
use Rattle.pad_received.specs.Contents.{LineSpells, ReadsAs, AreReadAs, HasFewNames}
use Rattle.pad_received.specs.Progress.{Progress, IsAt, progress_after}
use Rattle.pad_received.specs.Refusal.{IsLineRefusal}
use Rattle.pad_received.specs.declared.received.Received.{Received}
use Rattle.pad_top.specs.Received.{Reaches}
use Rattle.pad_top.specs.Inside.Progress.{IsWholeAt}
use Rattle.pad_top.specs.Inside.Refusal.{IsLinesRefusal, refusal_of}

-- the lines of a text before the rest of it are received
pub record IsSoFar (text rest : List ℕ) (progress : Progress) : Type 0 where
  pub before : List (List ℕ)
  pub parts : lines_of text ≡ before ++ lines_of rest
  pub received : AreReadAs before progress.messages progress.unreadable
  pub room : progress.unreadable + length rest ≤ length text

-- nothing is received of no lines
pub IsSoFar-start : (text : List ℕ) → IsSoFar text text (record { messages = []; unreadable = 0 })
IsSoFar-start text = record {
  before = [];
  parts = refl;
  received = record { outcomes = []; each = tt; read = refl; others = refl };
  room = omega arith;
}

AllZip-push : {A B : Type 0} (R : A → B → Type 0) (xs : List A) (ys : List B) (x : A) (y : B) → AllZip R xs ys → R x y → AllZip R (xs ++ x ∷ []) (ys ++ y ∷ [])
AllZip-push R [] [] x y each here = (here, tt)
AllZip-push R [] (b ∷ ys) x y each here = absurd each
AllZip-push R (a ∷ xs) [] x y each here = absurd each
AllZip-push R (a ∷ xs) (b ∷ ys) x y each here = (each.0, AllZip-push R xs ys x y each.1 here)

-- the messages among outcomes, and how many are none
abbrev read_of : List (Option Message) → List Message
read_of outcomes = filter_map (λ outcome. outcome) outcomes

read-push : (outcomes : List (Option Message)) (outcome : Option Message) → read_of (outcomes ++ outcome ∷ []) ≡ read_of outcomes ++ read_of (outcome ∷ [])
read-push [] outcome = refl
read-push (None ∷ outcomes) outcome = read-push outcomes outcome
read-push (Some message ∷ outcomes) outcome = ap (λ messages. message ∷ messages) (read-push outcomes outcome)

none-push : (outcomes : List (Option Message)) (outcome : Option Message) → count_by is_none (outcomes ++ outcome ∷ []) ≡ count_by is_none outcomes + count_by is_none (outcome ∷ [])
none-push outcomes outcome = sum_by-append (λ o. cond (is_none o) 1 0) outcomes (outcome ∷ [])

-- one line more is received
AreReadAs-push : (lines : List (List ℕ)) (line : List ℕ) (old : Progress) (outcome : Option Message) → AreReadAs lines old.messages old.unreadable → ReadsAs line outcome
    → AreReadAs (lines ++ line ∷ []) (progress_after outcome old).messages (progress_after outcome old).unreadable
AreReadAs-push lines line old None received reads = record {
  outcomes = received.outcomes ++ None ∷ [];
  each = AllZip-push ReadsAs lines received.outcomes line None received.each reads;
  read = received.read ∙ sym (read-push received.outcomes None ∙ append-nil _);
  others = ap (λ n. n + 1) received.others ∙ sym (none-push received.outcomes None);
}
AreReadAs-push lines line old (Some message) received reads = record {
  outcomes = received.outcomes ++ Some message ∷ [];
  each = AllZip-push ReadsAs lines received.outcomes line (Some message) received.each reads;
  read = ap (λ messages. messages ++ message ∷ []) received.read ∙ sym (read-push received.outcomes (Some message));
  others = received.others ∙ omega (arith, none-push received.outcomes (Some message));
}

pub IsSoFar-more : (text rest line after : List ℕ) (old : Progress) (outcome : Option Message) → IsSoFar text rest old → lines_of rest ≡ line ∷ lines_of after → length after < length rest
    → ReadsAs line outcome → IsSoFar text after (progress_after outcome old)
IsSoFar-more text rest line after old outcome so_far split shorter reads = record {
  before = so_far.before ++ line ∷ [];
  parts = so_far.parts ∙ ap (λ lines. so_far.before ++ lines) split ∙ sym (append_assoc so_far.before (line ∷ []) (lines_of after));
  received = AreReadAs-push so_far.before line old outcome so_far.received reads;
  room = omega (arith, one_more outcome, so_far.room, shorter);
}
  where
    one_more : (outcome : Option Message) → (progress_after outcome old).unreadable ≤ old.unreadable + 1
    one_more None = omega arith
    one_more (Some message) = omega arith

-- all lines are received
pub AreReadAs-end : (text rest : List ℕ) (progress : Progress) → IsSoFar text rest progress → lines_of rest ≡ [] → AreReadAs (lines_of text) progress.messages progress.unreadable
AreReadAs-end text rest progress so_far none =
    subst (λ lines. AreReadAs lines progress.messages progress.unreadable) (sym (so_far.parts ∙ ap (λ lines. so_far.before ++ lines) none ∙ append-nil so_far.before)) so_far.received

-- ---- what is received of them

-- this was received of what the lines before the rest of a text read as
pub record IsHere (text rest : List ℕ) (received : Received) : Type 0 where
  pub progress : Progress
  pub so_far : IsSoFar text rest progress
  pub at : IsAt received progress

pub here_first : (text : List ℕ) (received : Received) → IsAt received (record { messages = []; unreadable = 0 }) → IsHere text text received
here_first text received at = record { progress = record { messages = []; unreadable = 0 }; so_far = IsSoFar-start text; at = at }

pub here_more : (text rest line after : List ℕ) (old new : Received) → IsHere text rest old → lines_of rest ≡ line ∷ lines_of after → length after < length rest
    → ((outcome : Option Message) × ReadsAs line outcome × ((progress : Progress) → IsAt old progress → IsAt new (progress_after outcome progress))) → IsHere text after new
here_more text rest line after old new here split shorter (outcome, reads, goes_on) = record {
  progress = progress_after outcome here.progress;
  so_far = IsSoFar-more text rest line after here.progress outcome here.so_far split shorter reads;
  at = goes_on here.progress here.at;
}

-- fewer lines were unreadable than the text has bytes, where a rest is left
pub here_few : (text rest : List ℕ) (received : Received) → IsHere text rest received → received.unreadable + length rest ≤ length text
here_few text rest received here = omega (arith, here.so_far.room, here.at.others)

pub here_end : (text rest : List ℕ) (received : Received) → IsHere text rest received → lines_of rest ≡ [] → IsWholeAt text received
here_end text rest received here none = (here.progress, AreReadAs-end text rest here.progress here.so_far none, here.at)

-- the lines before one are taken
reaches : (text rest line after : List ℕ) (progress : Progress) (message : Message) → IsSoFar text rest progress → lines_of rest ≡ line ∷ lines_of after
    → HasFewNames progress.messages → LineSpells line message → Reaches (lines_of text) progress.messages message
reaches text rest line after progress message so_far split few spelled = record {
  before = so_far.before;
  line = line;
  after = lines_of after;
  parts = so_far.parts ∙ ap (λ lines. so_far.before ++ lines) split;
  unreadable = progress.unreadable;
  taken = record { received = so_far.received; names = few };
  spelled = spelled;
}

-- the line at which a replay stops
pub IsLinesRefusal-at : (text rest line after : List ℕ) (progress : Progress) (error : ReceiveRefused) → IsSoFar text rest progress → lines_of rest ≡ line ∷ lines_of after
    → IsLineRefusal line progress.messages error → IsLinesRefusal (lines_of text) (refusal_of error)
IsLinesRefusal-at text rest line after progress Full so_far split (message, spelled, why) =
    (progress.messages, message, reaches text rest line after progress message so_far split why.0 spelled, why.1)
IsLinesRefusal-at text rest line after progress (NoMemory error) so_far split told = tt

-- An input ends in one way.
use Rattle.std.proofs.Common.{◌≡◌, ℕ, ◌⊎◌, inl, inr, List, [], ◌∷◌, ◌++◌, Option, None, Some, is_none, count_by, Contains, refl, sym, ap, subst, ◌∙◌, arith}
use Rattle.std.proofs.lemmas.List.Elements.{Contains-append_left, Contains-append_right}
use Rattle.std.specs.List.{AllZip, filter_map}
use Rattle.pad_text.specs.declared.name.Name.{Name}
use Rattle.pad_message.specs.declared.message.Message.{Message}
use Rattle.pad_message.specs.Message.{name_of}
use Rattle.pad_message.proofs.CallerLemmas.{spells_one}
use Rattle.pad_model.specs.Base.{first_base}
use Rattle.pad_model.specs.Count.{IsKnown}
use Rattle.pad_list.proofs.CallerLemmas.{contains_head, contains_cases}
use Rattle.pad_received.specs.Contents.{LineSpells, ReadsAs, AreReadAs, HasFewNames, IsOneTooMany}
use Rattle.pad_top.specs.Received.{IsTaken}
use Rattle.pad_top.specs.Laws.{ReceivedOnce, EndsOnce}

-- a line reads as one outcome
pub one_outcome : (line : List ℕ) (one other : Option Message) → ReadsAs line one → ReadsAs line other → one ≡ other
one_outcome line None None none not_any = refl
one_outcome line None (Some other) none reads = absurd (none other reads)
one_outcome line (Some one) None reads none = absurd (none one reads)
one_outcome line (Some one) (Some other) first second = ap (λ (message : Message). Some message) (spells_one line one other first.1 second.1)

pub one_list : (lines : List (List ℕ)) (ones others : List (Option Message)) → AllZip ReadsAs lines ones → AllZip ReadsAs lines others → ones ≡ others
one_list [] [] [] first second = refl
one_list [] (one ∷ ones) others first second = absurd first
one_list [] [] (other ∷ others) first second = absurd second
one_list (line ∷ lines) [] others first second = absurd first
one_list (line ∷ lines) (one ∷ ones) [] first second = absurd second
one_list (line ∷ lines) (one ∷ ones) (other ∷ others) first second =
    ap (λ o. o ∷ ones) (one_outcome line one other first.0 second.0) ∙ ap (λ os. other ∷ os) (one_list lines ones others first.1 second.1)

pub received_once : ReceivedOnce
received_once lines messages other unreadable number first second =
    let same : first.outcomes ≡ second.outcomes = one_list lines first.outcomes second.outcomes first.each second.each in
    (first.read ∙ ap (filter_map (λ outcome. outcome)) same ∙ sym second.read, first.others ∙ ap (count_by is_none) same ∙ sym second.others)

-- the outcomes of lines begin with those of the first lines
outcomes_begin : (before : List (List ℕ)) (line : List ℕ) (after : List (List ℕ)) (firsts : List (Option Message)) (message : Message) (all : List (Option Message))
    → AllZip ReadsAs before firsts → LineSpells line message → AllZip ReadsAs (before ++ line ∷ after) all
    → (rest : List (Option Message)) × (all ≡ firsts ++ Some message ∷ rest)
outcomes_begin [] line after [] message [] first spelled each = absurd each
outcomes_begin [] line after [] message (o ∷ all) first spelled each = (all, ap (λ outcome. outcome ∷ all) (one_outcome line o (Some message) each.0 spelled))
outcomes_begin [] line after (f ∷ firsts) message all first spelled each = absurd first
outcomes_begin (b ∷ before) line after [] message all first spelled each = absurd first
outcomes_begin (b ∷ before) line after (f ∷ firsts) message [] first spelled each = absurd each
outcomes_begin (b ∷ before) line after (f ∷ firsts) message (o ∷ all) first spelled each =
    let rest = outcomes_begin before line after firsts message all first.1 spelled each.1 in
    (rest.0, ap (λ outcome. outcome ∷ all) (one_outcome b o f each.0 first.0) ∙ ap (λ outcomes. f ∷ outcomes) rest.1)

-- the messages among outcomes
abbrev pub read_of : List (Option Message) → List Message
read_of outcomes = filter_map (λ outcome. outcome) outcomes

pub read-append : (outcomes others : List (Option Message)) → read_of (outcomes ++ others) ≡ read_of outcomes ++ read_of others
read-append [] others = refl
read-append (None ∷ outcomes) others = read-append outcomes others
read-append (Some message ∷ outcomes) others = ap (λ messages. message ∷ messages) (read-append outcomes others)

-- what lines are received as begins with what the first lines are received as
messages_begin : (before : List (List ℕ)) (line : List ℕ) (after : List (List ℕ)) (messages all : List Message) (unreadable number : ℕ) (message : Message)
    → AreReadAs before messages unreadable → LineSpells line message → AreReadAs (before ++ line ∷ after) all number → (rest : List Message) × (all ≡ messages ++ message ∷ rest)
messages_begin before line after messages all unreadable number message first spelled whole =
    let rest = outcomes_begin before line after first.outcomes message whole.outcomes first.each spelled whole.each in
    (read_of rest.0, whole.read ∙ ap read_of rest.1 ∙ read-append first.outcomes (Some message ∷ rest.0) ∙ ap (λ front. front ++ message ∷ read_of rest.0) (sym first.read))

-- a message whose name is one too many is none of messages that are accepted with those before it
not_too_many : (messages rest : List Message) (message : Message) → HasFewNames (messages ++ message ∷ rest) → IsOneTooMany messages message → ⊥
not_too_many messages rest message few many =
    let longer = few (name_of message ∷ many.full.all) (λ has. is_new has, many.full.once) among in
    omega (arith, longer, many.full.many)
  where
    is_new : Contains many.full.all (name_of message) → ⊥
    is_new has = let known = (many.full.these (name_of message)).0 has in many.new known.0 known.1 known.2

    among : (name : Name) → Contains (name_of message ∷ many.full.all) name → IsKnown first_base (messages ++ message ∷ rest) name
    among name has = go (contains_cases (name_of message) many.full.all name has)
      where
        go : (name_of message ≡ name) ⊎ Contains many.full.all name → IsKnown first_base (messages ++ message ∷ rest) name
        go (inl here) = (message, Contains-append_right messages (message ∷ rest) message (contains_head message rest), here, λ base. many.not_base (here ∙ base))
        go (inr old) = let known = (many.full.these name).0 old in (known.0, Contains-append_left messages (message ∷ rest) known.0 known.1, known.2, known.3)

-- no line brings a name too many among lines that are taken
no_stop : (before : List (List ℕ)) (line : List ℕ) (after : List (List ℕ)) (messages all : List Message) (unreadable number : ℕ) (message : Message)
    → IsTaken before messages unreadable → LineSpells line message → IsOneTooMany messages message → IsTaken (before ++ line ∷ after) all number → ⊥
no_stop before line after messages all unreadable number message first spelled many whole =
    let rest = messages_begin before line after messages all unreadable number message first.received spelled whole.received in
    not_too_many messages rest.0 message (subst HasFewNames rest.1 whole.names) many

pub ends_once : EndsOnce
ends_once input output replayed (inl long) = omega (arith, replayed.short, long)
ends_once input output replayed (inr (short, (messages, message, reach, many))) =
    no_stop reach.before reach.line reach.after messages replayed.messages reach.unreadable replayed.unreadable message reach.taken reach.spelled many
    (subst (λ lines. IsTaken lines replayed.messages replayed.unreadable) reach.parts replayed.taken)

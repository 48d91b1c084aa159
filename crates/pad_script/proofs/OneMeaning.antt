-- A line has one meaning.
use Rattle.std.proofs.Common.{◌≡◌, ◌≢◌, ℕ, ◌+◌, ◌*◌, ◌^◌, ◌<◌, ◌≤◌, Bool, true, false, not, ◌==◌, if◌then◌else◌, cond, List, [], ◌∷◌, ◌++◌, length, Option, None, Some, refl, sym, ap, ◌∙◌, subst, arith}
use Rattle.std.specs.Prelude.{codes, decimal, slice_index}
use Rattle.std.proofs.lemmas.List.{append_cancel_left, length-append}
use Rattle.std.proofs.lemmas.Bool.{and_parts}
use Rattle.std.proofs.lemmas.Fmt.{decimal_injective}
use Rattle.serde_json.specs.Data.{string}
use Rattle.hex.specs.Hex.{encode_lower}
use Rattle.pad_text.specs.Text.{units_of, utf8}
use Rattle.pad_text.specs.declared.name.Name.{Name}
use Rattle.pad_text.proofs.CallerLemmas.{IsDigits-bytes, digits-same, units_of-utf8}
use Rattle.pad_json.specs.Name.{IsName}
use Rattle.pad_json.specs.Spells.{Spells}
use Rattle.pad_json.proofs.CallerLemmas.{one_value}
use Rattle.pad_patch.specs.declared.operation.Operation.{Operation}
use Rattle.disk_volume.specs.declared.pick.Pick.{Pick}
use Rattle.disk_volume.specs.declared.pick.Pick.TheVariants as pick
use Rattle.netflux_codec.specs.Ask.{IsSince}
use Rattle.netflux_codec.specs.declared.since.Since.{Since}
use Rattle.netflux_codec.specs.declared.since.Since.TheVariants as since
use Rattle.pad_script.specs.declared.act.Act.{Act}
use Rattle.pad_script.specs.declared.act.Act.TheVariants as act
use Rattle.pad_script.specs.declared.session_act.SessionAct.{SessionAct}
use Rattle.pad_script.specs.declared.session_act.SessionAct.TheVariants as session
use Rattle.pad_script.specs.declared.session_act.TheConstants.{MOST_CLIENTS}
use Rattle.pad_script.specs.Parts.{DoesNothing, SpellsOperation, number_sign, since_words, space, spaced}
use Rattle.pad_script.specs.Act.{LinesSayOneAct, SpellsAct}
use Rattle.pad_script.specs.SessionAct.{IsOfClient, IsPick, LinesSayOneSessionAct, SpellsSessionAct, pick_words}
use Rattle.pad_script.specs.Inside.Words.{has_no_space}
use Rattle.pad_script.proofs.Digits.{no_space_in_number}
use Rattle.pad_script.proofs.Fronts.{stop_words}
use Rattle.pad_script.proofs.Spaces.{cut_rest, cut_word}

-- a number by which words are told apart
abbrev tell : List ℕ → ℕ
tell [] = 0
tell (byte ∷ bytes) = byte + 3 * tell bytes

differ : (first second : List ℕ) → first ≡ second → tell first ≡ tell second
differ first second same = ap tell same

both_ways : false ≡ true → ⊥
both_ways same = let one : ◌≡◌ {A = ℕ} 0 1 = ap (λ (b : Bool). if b then 1 else 0) same in absurd (omega (arith, one))

-- what stands before the first space, or the whole
abbrev first_word : List ℕ → List ℕ
first_word [] = []
first_word (byte ∷ bytes) = if byte == space then [] else byte ∷ first_word bytes

-- one more byte that is no space
one_more : (byte : ℕ) (is : Bool) (found word : List ℕ) → not is ≡ true → found ≡ word → (if is then [] else byte ∷ found) ≡ byte ∷ word
one_more byte true found word other same = absurd (both_ways other)
one_more byte false found word other same = ap (λ (bytes : List ℕ). byte ∷ bytes) same

first_word-alone : (word : List ℕ) → has_no_space word ≡ true → first_word word ≡ word
first_word-alone [] none = refl
first_word-alone (byte ∷ word) none =
    let parts = and_parts (not (byte == space)) (has_no_space word) none in
    one_more byte (byte == space) (first_word word) word parts.0 (first_word-alone word parts.1)

first_word-before : (word rest : List ℕ) → has_no_space word ≡ true → first_word (word ++ space ∷ rest) ≡ word
first_word-before [] after none = refl
first_word-before (byte ∷ word) after none =
    let parts = and_parts (not (byte == space)) (has_no_space word) none in
    one_more byte (byte == space) (first_word (word ++ space ∷ after)) word parts.0 (first_word-before word after parts.1)

first_word-spaced : (word : List ℕ) (words : List (List ℕ)) → has_no_space word ≡ true → first_word (spaced (word ∷ words)) ≡ word
first_word-spaced word [] none = first_word-alone word none
first_word-spaced word (next ∷ words) none = first_word-before word (spaced (next ∷ words)) none

-- ---- the parts of lines

-- digits are those of one name
one_name : (first second : Name) → IsName first → encode_lower first.0 ≡ encode_lower second.0 → first ≡ second
one_name first second is same = ap (λ (bytes : List ℕ). record { 0 = bytes }) (digits-same first.0 second.0 (IsDigits-bytes first.0 is.bytes).each same)

name_length : (name : Name) → IsName name → length (encode_lower name.0) ≡ 64
name_length name is = omega (arith, (IsDigits-bytes name.0 is.bytes).as_many, is.whole)

longer : (word rest : List ℕ) → word ≢ word ++ space ∷ rest
longer word rest same = absurd (omega (arith, ap length same, length-append word (space ∷ rest)))

after_word : (word rest other : List ℕ) → word ++ space ∷ rest ≡ word ++ space ∷ other → rest ≡ other
after_word word rest other same = let tail : space ∷ rest ≡ space ∷ other = append_cancel_left word (space ∷ rest) (space ∷ other) same in cc

one_since : (word : List ℕ) (first second : Since) → IsSince first → IsSince second → spaced (word ∷ since_words first) ≡ spaced (word ∷ since_words second) → first ≡ second
one_since word since.Default since.Default is are same = refl
one_since word since.Default (since.Known key) is are same = absurd (longer word (encode_lower key.0) same)
one_since word since.Default since.All is are same = absurd (longer word (codes "all") same)
one_since word (since.Known key) since.Default is are same = absurd (longer word (encode_lower key.0) (sym same))
one_since word (since.Known key) (since.Known other) is are same = ap since.Known (one_name key other is (after_word word (encode_lower key.0) (encode_lower other.0) same))
one_since word (since.Known key) since.All is are same =
    let digits : encode_lower key.0 ≡ codes "all" = after_word word (encode_lower key.0) (codes "all") same in
    absurd (omega (arith, name_length key is, ap length digits))
one_since word since.All since.Default is are same = absurd (longer word (codes "all") (sym same))
one_since word since.All (since.Known key) is are same =
    let digits : codes "all" ≡ encode_lower key.0 = after_word word (codes "all") (encode_lower key.0) same in
    absurd (omega (arith, name_length key are, ap length digits))
one_since word since.All since.All is are same = refl

same_operation : (offset other remove removed : ℕ) (insert inserted : List ℕ) → offset ≡ other → remove ≡ removed → insert ≡ inserted
    → ◌≡◌ {A = Operation} (record { offset = offset; remove = remove; insert = insert }) (record { offset = other; remove = removed; insert = inserted })
same_operation offset other remove removed insert inserted one two three = cc

one_operation : (text : List ℕ) (first second : Operation) → SpellsOperation text first → SpellsOperation text second → first ≡ second
one_operation text first second one two =
    let small : first.offset < 2 ^ 64 = omega (arith, one.typed.offset) in
    let little : second.offset < 2 ^ 64 = omega (arith, two.typed.offset) in
    let few : first.remove < 2 ^ 64 = omega (arith, one.typed.remove) in
    let less : second.remove < 2 ^ 64 = omega (arith, two.typed.remove) in
    let whole = sym one.written ∙ two.written in
    let offsets = cut_word _ _ _ _ (no_space_in_number first.offset small) (no_space_in_number second.offset little) whole in
    let behind = cut_rest _ _ _ _ (no_space_in_number first.offset small) (no_space_in_number second.offset little) whole in
    let removes = cut_word _ _ _ _ (no_space_in_number first.remove few) (no_space_in_number second.remove less) behind in
    let quoted : one.quoted ≡ two.quoted = cut_rest _ _ _ _ (no_space_in_number first.remove few) (no_space_in_number second.remove less) behind in
    let spells : Spells one.quoted (string (utf8 second.insert)) = subst (λ (text : List ℕ). Spells text (string (utf8 second.insert))) (sym quoted) two.spells in
    let strings : string (utf8 first.insert) ≡ string (utf8 second.insert) = one_value one.quoted _ _ one.spells spells in
    let bytes : utf8 first.insert ≡ utf8 second.insert = cc in
    let inserts : first.insert ≡ second.insert = sym (units_of-utf8 first.insert one.typed.insert) ∙ (ap units_of bytes ∙ units_of-utf8 second.insert two.typed.insert) in
    same_operation first.offset second.offset first.remove second.remove first.insert second.insert
    (decimal_injective first.offset second.offset small little offsets) (decimal_injective first.remove second.remove few less removes) inserts

one_number : (line word : List ℕ) (first second : ℕ) → first < 2 ^ 64 → second < 2 ^ 64 → line ≡ word ++ space ∷ decimal first → line ≡ word ++ space ∷ decimal second → first ≡ second
one_number line word first second small little one two = decimal_injective first second small little (after_word word (decimal first) (decimal second) (sym one ∙ two))

-- ---- lines that do nothing spell no command

first_byte : (byte : ℕ) (rest : List ℕ) → slice_index (first_word (byte ∷ rest)) 0 ≤ byte
first_byte byte rest = go (byte == space)
  where
    go : (is : Bool) → slice_index (if is then [] else byte ∷ first_word rest) 0 ≤ byte
    go true = omega arith
    go false = omega arith

does_something : (line word : List ℕ) → 97 ≤ slice_index word 0 → first_word line ≡ word → ¬ (DoesNothing line)
does_something [] word letter opens nothing = let none : slice_index word 0 ≡ 0 = ap (λ (bytes : List ℕ). slice_index bytes 0) (sym opens) in absurd (omega (arith, letter, none))
does_something (byte ∷ rest) word letter opens nothing =
    let first : slice_index (first_word (byte ∷ rest)) 0 ≡ slice_index word 0 = ap (λ (bytes : List ℕ). slice_index bytes 0) opens in
    absurd (omega (arith, letter, first, first_byte byte rest, nothing))

-- ---- client scripts

-- the first word of a command
abbrev act_word : Act → List ℕ
act_word (act.Join channel) = codes "join"
act_word act.Leave = codes "leave"
act_word (act.History from) = codes "history"
act_word (act.Edit operation) = codes "edit"
act_word act.Sync = codes "sync"
act_word act.Resend = codes "resend"
act_word act.Settle = codes "settle"
act_word (act.Hear count) = codes "hear"
act_word act.Repair = codes "repair"
act_word (act.Interval messages) = codes "interval"
act_word act.Show = codes "show"

opening : (line : List ℕ) (a : Act) → SpellsAct line a → first_word line ≡ act_word a
opening line (act.Join channel) spells = ap first_word spells.0
opening line act.Leave spells = ap first_word spells
opening line (act.History since.Default) spells = ap first_word spells.0
opening line (act.History (since.Known key)) spells = ap first_word spells.0
opening line (act.History since.All) spells = ap first_word spells.0
opening line (act.Edit operation) spells = ap first_word spells.1
opening line act.Sync spells = ap first_word spells
opening line act.Resend spells = ap first_word spells
opening line act.Settle spells = ap first_word spells
opening line (act.Hear count) spells = ap first_word spells.0
opening line act.Repair spells = ap first_word spells
opening line (act.Interval messages) spells = ap first_word spells.0
opening line act.Show spells = ap first_word spells

act_letter : (a : Act) → 97 ≤ slice_index (act_word a) 0
act_letter (act.Join channel) = omega arith
act_letter act.Leave = omega arith
act_letter (act.History from) = omega arith
act_letter (act.Edit operation) = omega arith
act_letter act.Sync = omega arith
act_letter act.Resend = omega arith
act_letter act.Settle = omega arith
act_letter (act.Hear count) = omega arith
act_letter act.Repair = omega arith
act_letter (act.Interval messages) = omega arith
act_letter act.Show = omega arith

-- commands of one line have one first word
act_words : (line : List ℕ) (first second : Act) → SpellsAct line first → SpellsAct line second → act_word first ≡ act_word second
act_words line first second one two = sym (opening line first one) ∙ opening line second two

alike_act : (line : List ℕ) (first second : Act) → SpellsAct line first → SpellsAct line second → first ≡ second
alike_act line (act.Join channel) (act.Join other) one two = ap act.Join (after_word (codes "join") channel other (sym one.0 ∙ two.0))
alike_act line (act.Join channel) second one two = absurd (omega (arith, differ _ _ (act_words line (act.Join channel) second one two)))
alike_act line act.Leave act.Leave one two = refl
alike_act line act.Leave second one two = absurd (omega (arith, differ _ _ (act_words line act.Leave second one two)))
alike_act line (act.History from) (act.History other) one two = ap act.History (one_since (codes "history") from other one.1 two.1 (sym one.0 ∙ two.0))
alike_act line (act.History from) second one two = absurd (omega (arith, differ _ _ (act_words line (act.History from) second one two)))
alike_act line (act.Edit operation) (act.Edit other) one two =
    let text : one.0 ≡ two.0 = after_word (codes "edit") one.0 two.0 (sym one.1 ∙ two.1) in
    let spells : SpellsOperation one.0 other = subst (λ (text : List ℕ). SpellsOperation text other) (sym text) two.2 in
    ap act.Edit (one_operation one.0 operation other one.2 spells)
alike_act line (act.Edit operation) second one two = absurd (omega (arith, differ _ _ (act_words line (act.Edit operation) second one two)))
alike_act line act.Sync act.Sync one two = refl
alike_act line act.Sync second one two = absurd (omega (arith, differ _ _ (act_words line act.Sync second one two)))
alike_act line act.Resend act.Resend one two = refl
alike_act line act.Resend second one two = absurd (omega (arith, differ _ _ (act_words line act.Resend second one two)))
alike_act line act.Settle act.Settle one two = refl
alike_act line act.Settle second one two = absurd (omega (arith, differ _ _ (act_words line act.Settle second one two)))
alike_act line (act.Hear count) (act.Hear other) one two = ap act.Hear (one_number line (codes "hear") count other (omega (arith, one.1)) (omega (arith, two.1)) one.0 two.0)
alike_act line (act.Hear count) second one two = absurd (omega (arith, differ _ _ (act_words line (act.Hear count) second one two)))
alike_act line act.Repair act.Repair one two = refl
alike_act line act.Repair second one two = absurd (omega (arith, differ _ _ (act_words line act.Repair second one two)))
alike_act line (act.Interval messages) (act.Interval other) one two = ap act.Interval (one_number line (codes "interval") messages other (omega (arith, one.1)) (omega (arith, two.1)) one.0 two.0)
alike_act line (act.Interval messages) second one two = absurd (omega (arith, differ _ _ (act_words line (act.Interval messages) second one two)))
alike_act line act.Show act.Show one two = refl
alike_act line act.Show second one two = absurd (omega (arith, differ _ _ (act_words line act.Show second one two)))

pub one_act : LinesSayOneAct
one_act line None None one two = refl
one_act line None (Some second) one two = absurd (does_something line (act_word second) (act_letter second) (opening line second two.1) one.1)
one_act line (Some first) None one two = absurd (does_something line (act_word first) (act_letter first) (opening line first one.1) two.1)
one_act line (Some first) (Some second) one two = ap Some (alike_act line first second one.1 two.1)

-- ---- session scripts

-- the number of a client before other words, and these words
one_client : (line word : List ℕ) (first second : ℕ) → IsOfClient line word first → IsOfClient line word second → first ≡ second
one_client line word first second one two = one_number line word first second (omega (arith, one.1)) (omega (arith, two.1)) one.0 two.0

one_front : (line word : List ℕ) (first second : ℕ) (rest other : List ℕ) → first < 2 ^ 64 → second < 2 ^ 64
    → line ≡ word ++ space ∷ (decimal first ++ space ∷ rest) → line ≡ word ++ space ∷ (decimal second ++ space ∷ other) → (first ≡ second) × (rest ≡ other)
one_front line word first second rest other small little one two =
    let behind : decimal first ++ space ∷ rest ≡ decimal second ++ space ∷ other = after_word word _ _ (sym one ∙ two) in (
      decimal_injective first second small little (cut_word _ _ _ _ (no_space_in_number first small) (no_space_in_number second little) behind),
      cut_rest _ _ _ _ (no_space_in_number first small) (no_space_in_number second little) behind,
    )

one_history : (line : List ℕ) (first second : ℕ) (from other : Since) → first < 2 ^ 64 → second < 2 ^ 64 → IsSince from → IsSince other
    → line ≡ spaced (codes "history" ∷ decimal first ∷ since_words from) → line ≡ spaced (codes "history" ∷ decimal second ∷ since_words other) → (first ≡ second) × (from ≡ other)
one_history line first second from other small little is are one two =
    let behind : spaced (decimal first ∷ since_words from) ≡ spaced (decimal second ∷ since_words other) = after_word (codes "history") _ _ (sym one ∙ two) in
    let numbers : decimal first ≡ decimal second =
    sym (first_word-spaced (decimal first) (since_words from) (no_space_in_number first small))
    ∙ (ap first_word behind ∙ first_word-spaced (decimal second) (since_words other) (no_space_in_number second little)) in
    let same : spaced (decimal first ∷ since_words from) ≡ spaced (decimal first ∷ since_words other) = behind ∙ ap (λ (word : List ℕ). spaced (word ∷ since_words other)) (sym numbers) in
    (decimal_injective first second small little numbers, one_since (decimal first) from other is are same)

abbrev first_letter : List ℕ → ℕ
first_letter bytes = slice_index bytes 0

one_pick : (first second : Pick) → IsPick first → IsPick second → spaced (pick_words first) ≡ spaced (pick_words second) → first ≡ second
one_pick pick.Old pick.Old is are same = refl
one_pick pick.Old pick.New is are same = absurd (omega (arith, ap first_letter same))
one_pick pick.Old (pick.Torn byte) is are same = absurd (omega (arith, ap first_letter same))
one_pick pick.New pick.Old is are same = absurd (omega (arith, ap first_letter same))
one_pick pick.New pick.New is are same = refl
one_pick pick.New (pick.Torn byte) is are same = absurd (omega (arith, ap first_letter same))
one_pick (pick.Torn byte) pick.Old is are same = absurd (omega (arith, ap first_letter same))
one_pick (pick.Torn byte) pick.New is are same = absurd (omega (arith, ap first_letter same))
one_pick (pick.Torn byte) (pick.Torn other) is are same =
    ap pick.Torn (decimal_injective byte other (omega (arith, is)) (omega (arith, are)) (after_word (codes "torn") (decimal byte) (decimal other) same))

-- the first word of a command
abbrev session_word : SessionAct → List ℕ
session_word (session.Dial client) = codes "dial"
session_word (session.Hang client) = codes "hang"
session_word (session.Join client channel) = codes "join"
session_word (session.Leave client) = codes "leave"
session_word (session.Sync client) = codes "sync"
session_word (session.Resend client) = codes "resend"
session_word (session.Repair client) = codes "repair"
session_word (session.History client from) = codes "history"
session_word (session.Edit client operation) = codes "edit"
session_word (session.Interval client messages) = codes "interval"
session_word (session.Up client) = codes "up"
session_word (session.Down client) = codes "down"
session_word (session.RepeatUp client) = codes "repeatup"
session_word (session.RepeatDown client) = codes "repeatdown"
session_word (session.LoseUp client) = codes "loseup"
session_word (session.LoseDown client) = codes "losedown"
session_word session.Run = codes "run"
session_word (session.Stop call pick) = codes "stop"
session_word session.Reopen = codes "reopen"
session_word (session.Show client) = codes "show"
session_word (session.Log channel) = codes "log"

session_opening : (line : List ℕ) (a : SessionAct) → SpellsSessionAct line a → first_word line ≡ session_word a
session_opening line (session.Dial client) spells = ap first_word spells.0
session_opening line (session.Hang client) spells = ap first_word spells.0
session_opening line (session.Join client channel) spells = ap first_word spells.0
session_opening line (session.Leave client) spells = ap first_word spells.0
session_opening line (session.Sync client) spells = ap first_word spells.0
session_opening line (session.Resend client) spells = ap first_word spells.0
session_opening line (session.Repair client) spells = ap first_word spells.0
session_opening line (session.History client from) spells = ap first_word spells.0
session_opening line (session.Edit client operation) spells = ap first_word spells.1
session_opening line (session.Interval client messages) spells = ap first_word spells.0
session_opening line (session.Up client) spells = ap first_word spells.0
session_opening line (session.Down client) spells = ap first_word spells.0
session_opening line (session.RepeatUp client) spells = ap first_word spells.0
session_opening line (session.RepeatDown client) spells = ap first_word spells.0
session_opening line (session.LoseUp client) spells = ap first_word spells.0
session_opening line (session.LoseDown client) spells = ap first_word spells.0
session_opening line session.Run spells = ap first_word spells
session_opening line (session.Stop call pick) spells = ap first_word spells.0
session_opening line session.Reopen spells = ap first_word spells
session_opening line (session.Show client) spells = ap first_word spells.0
session_opening line (session.Log channel) spells = ap first_word spells.0

session_letter : (a : SessionAct) → 97 ≤ slice_index (session_word a) 0
session_letter (session.Dial client) = omega arith
session_letter (session.Hang client) = omega arith
session_letter (session.Join client channel) = omega arith
session_letter (session.Leave client) = omega arith
session_letter (session.Sync client) = omega arith
session_letter (session.Resend client) = omega arith
session_letter (session.Repair client) = omega arith
session_letter (session.History client from) = omega arith
session_letter (session.Edit client operation) = omega arith
session_letter (session.Interval client messages) = omega arith
session_letter (session.Up client) = omega arith
session_letter (session.Down client) = omega arith
session_letter (session.RepeatUp client) = omega arith
session_letter (session.RepeatDown client) = omega arith
session_letter (session.LoseUp client) = omega arith
session_letter (session.LoseDown client) = omega arith
session_letter session.Run = omega arith
session_letter (session.Stop call pick) = omega arith
session_letter session.Reopen = omega arith
session_letter (session.Show client) = omega arith
session_letter (session.Log channel) = omega arith

session_words : (line : List ℕ) (first second : SessionAct) → SpellsSessionAct line first → SpellsSessionAct line second → session_word first ≡ session_word second
session_words line first second one two = sym (session_opening line first one) ∙ session_opening line second two

alike_session_act : (line : List ℕ) (first second : SessionAct) → SpellsSessionAct line first → SpellsSessionAct line second → first ≡ second
alike_session_act line (session.Dial client) (session.Dial other) one two = ap session.Dial (one_client line (codes "dial") client other one two)
alike_session_act line (session.Dial client) second one two = absurd (omega (arith, differ _ _ (session_words line (session.Dial client) second one two)))
alike_session_act line (session.Hang client) (session.Hang other) one two = ap session.Hang (one_client line (codes "hang") client other one two)
alike_session_act line (session.Hang client) second one two = absurd (omega (arith, differ _ _ (session_words line (session.Hang client) second one two)))
alike_session_act line (session.Join client channel) (session.Join other there) one two =
    let same = one_front line (codes "join") client other channel there (omega (arith, one.1)) (omega (arith, two.1)) one.0 two.0 in
    let clients = same.0 in
    let channels = same.1 in
    cc
alike_session_act line (session.Join client channel) second one two = absurd (omega (arith, differ _ _ (session_words line (session.Join client channel) second one two)))
alike_session_act line (session.Leave client) (session.Leave other) one two = ap session.Leave (one_client line (codes "leave") client other one two)
alike_session_act line (session.Leave client) second one two = absurd (omega (arith, differ _ _ (session_words line (session.Leave client) second one two)))
alike_session_act line (session.Sync client) (session.Sync other) one two = ap session.Sync (one_client line (codes "sync") client other one two)
alike_session_act line (session.Sync client) second one two = absurd (omega (arith, differ _ _ (session_words line (session.Sync client) second one two)))
alike_session_act line (session.Resend client) (session.Resend other) one two = ap session.Resend (one_client line (codes "resend") client other one two)
alike_session_act line (session.Resend client) second one two = absurd (omega (arith, differ _ _ (session_words line (session.Resend client) second one two)))
alike_session_act line (session.Repair client) (session.Repair other) one two = ap session.Repair (one_client line (codes "repair") client other one two)
alike_session_act line (session.Repair client) second one two = absurd (omega (arith, differ _ _ (session_words line (session.Repair client) second one two)))
alike_session_act line (session.History client from) (session.History other since) one two =
    let same = one_history line client other from since (omega (arith, one.1)) (omega (arith, two.1)) one.2 two.2 one.0 two.0 in
    let clients = same.0 in
    let sinces = same.1 in
    cc
alike_session_act line (session.History client from) second one two = absurd (omega (arith, differ _ _ (session_words line (session.History client from) second one two)))
alike_session_act line (session.Edit client operation) (session.Edit other edit) one two =
    let same = one_front line (codes "edit") client other one.0 two.0 (omega (arith, one.2)) (omega (arith, two.2)) one.1 two.1 in
    let clients = same.0 in
    let spells : SpellsOperation one.0 edit = subst (λ (text : List ℕ). SpellsOperation text edit) (sym same.1) two.3 in
    let operations = one_operation one.0 operation edit one.3 spells in
    cc
alike_session_act line (session.Edit client operation) second one two = absurd (omega (arith, differ _ _ (session_words line (session.Edit client operation) second one two)))
alike_session_act line (session.Interval client messages) (session.Interval other number) one two =
    let same = one_front line (codes "interval") client other (decimal messages) (decimal number) (omega (arith, one.1)) (omega (arith, two.1)) one.0 two.0 in
    let clients = same.0 in
    let numbers = decimal_injective messages number (omega (arith, one.2)) (omega (arith, two.2)) same.1 in
    cc
alike_session_act line (session.Interval client messages) second one two = absurd (omega (arith, differ _ _ (session_words line (session.Interval client messages) second one two)))
alike_session_act line (session.Up client) (session.Up other) one two = ap session.Up (one_client line (codes "up") client other one two)
alike_session_act line (session.Up client) second one two = absurd (omega (arith, differ _ _ (session_words line (session.Up client) second one two)))
alike_session_act line (session.Down client) (session.Down other) one two = ap session.Down (one_client line (codes "down") client other one two)
alike_session_act line (session.Down client) second one two = absurd (omega (arith, differ _ _ (session_words line (session.Down client) second one two)))
alike_session_act line (session.RepeatUp client) (session.RepeatUp other) one two = ap session.RepeatUp (one_client line (codes "repeatup") client other one two)
alike_session_act line (session.RepeatUp client) second one two = absurd (omega (arith, differ _ _ (session_words line (session.RepeatUp client) second one two)))
alike_session_act line (session.RepeatDown client) (session.RepeatDown other) one two = ap session.RepeatDown (one_client line (codes "repeatdown") client other one two)
alike_session_act line (session.RepeatDown client) second one two = absurd (omega (arith, differ _ _ (session_words line (session.RepeatDown client) second one two)))
alike_session_act line (session.LoseUp client) (session.LoseUp other) one two = ap session.LoseUp (one_client line (codes "loseup") client other one two)
alike_session_act line (session.LoseUp client) second one two = absurd (omega (arith, differ _ _ (session_words line (session.LoseUp client) second one two)))
alike_session_act line (session.LoseDown client) (session.LoseDown other) one two = ap session.LoseDown (one_client line (codes "losedown") client other one two)
alike_session_act line (session.LoseDown client) second one two = absurd (omega (arith, differ _ _ (session_words line (session.LoseDown client) second one two)))
alike_session_act line session.Run session.Run one two = refl
alike_session_act line session.Run second one two = absurd (omega (arith, differ _ _ (session_words line session.Run second one two)))
alike_session_act line (session.Stop call pick) (session.Stop number left) one two =
    let first = one.0 ∙ ap (λ (rest : List ℕ). codes "stop" ++ space ∷ rest) (stop_words call pick) in
    let second = two.0 ∙ ap (λ (rest : List ℕ). codes "stop" ++ space ∷ rest) (stop_words number left) in
    let same = one_front line (codes "stop") call number (spaced (pick_words pick)) (spaced (pick_words left)) (omega (arith, one.2)) (omega (arith, two.2)) first second in
    let numbers = same.0 in
    let picks = one_pick pick left one.3 two.3 same.1 in
    cc
alike_session_act line (session.Stop call pick) second one two = absurd (omega (arith, differ _ _ (session_words line (session.Stop call pick) second one two)))
alike_session_act line session.Reopen session.Reopen one two = refl
alike_session_act line session.Reopen second one two = absurd (omega (arith, differ _ _ (session_words line session.Reopen second one two)))
alike_session_act line (session.Show client) (session.Show other) one two = ap session.Show (one_client line (codes "show") client other one two)
alike_session_act line (session.Show client) second one two = absurd (omega (arith, differ _ _ (session_words line (session.Show client) second one two)))
alike_session_act line (session.Log channel) (session.Log other) one two = ap session.Log (after_word (codes "log") channel other (sym one.0 ∙ two.0))
alike_session_act line (session.Log channel) second one two = absurd (omega (arith, differ _ _ (session_words line (session.Log channel) second one two)))

pub one_session_act : LinesSayOneSessionAct
one_session_act line None None one two = refl
one_session_act line None (Some second) one two = absurd (does_something line (session_word second) (session_letter second) (session_opening line second two.1) one.1)
one_session_act line (Some first) None one two = absurd (does_something line (session_word first) (session_letter first) (session_opening line first one.1) two.1)
one_session_act line (Some first) (Some second) one two = ap Some (alike_session_act line first second one.1 two.1)

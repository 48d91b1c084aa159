-- What is kept goes along a path.
use Rattle.std.proofs.Common.{◌≡◌, ℕ, zero, suc, ◌+◌, ◌-◌, ◌≤◌, Bool, true, false, cond, List, [], ◌∷◌, ◌++◌, length, map, take, drop, reverse, refl, sym, ◌∙◌, ap, subst, Option, Some, None, Contains, arith, append-nil}
use Rattle.std.specs.Prelude.{nat_lt}
use Rattle.std.specs.List.{flat_map, All}
use Rattle.std.proofs.lemmas.List.{map-append, length-map, length-replicate, reverse-append, append_assoc}
use Rattle.std.proofs.lemmas.Bool.{le-ltb}
use Rattle.std.proofs.lemmas.List.Elements.{All-head, All-tail}
use Rattle.pad_patch.specs.Piece.{pieces_from, text_after, inserted, patched}
use Rattle.pad_patch.specs.Inverse.{inverse}
use Rattle.pad_patch.specs.Misfit.{CanApply}
use Rattle.pad_patch.specs.Laws.{FittingApplies, InverseGivesListsBack}
use Rattle.pad_patch.specs.Removed.{removed_by}
use Rattle.pad_patch.proofs.CallerLemmas.{units_of_piece, text_after-copy, map-take, map-drop, map-patched, replicate-map}
use Rattle.pad_message.specs.declared.kind.Kind.TheVariants as kind
use Rattle.pad_message.specs.declared.message.Message.{Message}
use Rattle.pad_message.specs.Kind.{is_checkpoint}
use Rattle.pad_message.specs.Message.{name_of}
use Rattle.pad_model.specs.declared.base.Base.{Base}
use Rattle.pad_model.specs.Path.{text, NamesDiffer, IsPath, IsSoundOn}
use Rattle.pad_stroke.specs.declared.mark.Mark.{Mark}
use Rattle.pad_stroke.specs.Work.{Marked}
use Rattle.pad_stroke.specs.Row.{Row, no_marks, row_after}
use Rattle.pad_row.specs.Laws.{RowIsAsLong}
use Rattle.pad_branch.specs.declared.moved.Move.{Move}
use Rattle.pad_branch.specs.Move.{move_on}
use Rattle.pad_chain.specs.declared.moved.Moved.{Moved}
use Rattle.pad_chain.specs.Moved.{moves_back, moves_on, IsMoved}
use Rattle.client_work.specs.Switch.{SentWorks, sent_as}
use Rattle.client_copy.specs.View.{AreSentAs}
use Rattle.client_own.specs.Rows.{entries_of, row_on}
use Rattle.client_row.specs.Kept.{Kept, new_entries, last_entries, reverted, applied, all_reverted, all_applied}
use Rattle.client_row.specs.Along.{removed_on, newer, newer_marks, IsKeptOn, AreCounted}
use Rattle.client_row.specs.Laws.{BeginsAtBase, FollowsMoves, AreOlder, BeginsAnywhere, ShownAlike}
use Rattle.client_row.proofs.Parts.{map-removed, inserted-inverse, Ends, ends}

-- what is cited of the crates below
pub record RowLaws : Type 0 where
  pub applies : FittingApplies
  pub long : RowIsAsLong

-- ---- a checkpoint leaves the text

copied : (t : List ℕ) → flat_map (units_of_piece t) (pieces_from 0 (length t) (record { offset = 0; remove = length t; insert = t } ∷ [])) ≡ t
copied t =
    let none : length t - (0 + length t) ≡ 0 = omega arith in
    ap (λ k. t ++ (take k (drop (0 + length t) t) ++ [])) none ∙ append-nil t

still : (base : Base) (message : Message) (path : List Message) → IsSoundOn base path message → is_checkpoint message.kind ≡ true → text_after message.patch (text base path) ≡ text base path
still base message path sound is =
    let t = text base path in
    text_after-copy message.patch t ∙ ap (λ ops. flat_map (units_of_piece t) (pieces_from 0 (length t) ops)) (sound.checkpoint is).1 ∙ copied t

-- ---- one message more

checkpoint_row : (base : Base) (sent : SentWorks) (message : Message) (path : List Message) → is_checkpoint message.kind ≡ true → row_on base sent (message ∷ path) ≡ row_on base sent path
checkpoint_row base sent message path is =
    ap (λ b. cond b (row_on base sent path) (row_after message.patch (entries_of (sent_as sent (name_of message)) message) (row_on base sent path))) is

patch_row : (base : Base) (sent : SentWorks) (message : Message) (path : List Message) → is_checkpoint message.kind ≡ false
    → row_on base sent (message ∷ path) ≡ row_after message.patch (entries_of (sent_as sent (name_of message)) message) (row_on base sent path)
patch_row base sent message path plain =
    ap (λ b. cond b (row_on base sent path) (row_after message.patch (entries_of (sent_as sent (name_of message)) message) (row_on base sent path))) plain

checkpoint_removed : (base : Base) (sent : SentWorks) (message : Message) (path : List Message) → is_checkpoint message.kind ≡ true → removed_on base sent (message ∷ path) ≡ removed_on base sent path
checkpoint_removed base sent message path is =
    ap (λ b. cond b (removed_on base sent path) (removed_on base sent path ++ removed_by message.patch.ops (row_on base sent path))) is

patch_removed : (base : Base) (sent : SentWorks) (message : Message) (path : List Message) → is_checkpoint message.kind ≡ false
    → removed_on base sent (message ∷ path) ≡ removed_on base sent path ++ removed_by message.patch.ops (row_on base sent path)
patch_removed base sent message path plain =
    ap (λ b. cond b (removed_on base sent path) (removed_on base sent path ++ removed_by message.patch.ops (row_on base sent path))) plain

-- ---- the entries of what a message inserts

-- a message of the name of an own one is that one
own_patch : (all : List Message) (sent : SentWorks) → NamesDiffer all → AreSentAs all sent → (message : Message) → Contains all message → (own : Marked) → sent_as sent (name_of message) ≡ Some own
    → own.patch ≡ message.patch
own_patch all sent differ sent_are message has own is =
    let found = sent_are (name_of message) own is in
    let same : found.0 ≡ message = differ found.0 message found.1 has found.2 in
    sym (subst (λ m. m.patch ≡ own.patch) same found.4)

entries_long : (all : List Message) (sent : SentWorks) → NamesDiffer all → AreSentAs all sent → AreCounted sent → (message : Message) → Contains all message → (o : Option Marked) → sent_as sent (name_of message) ≡ o
    → length (entries_of o message) ≡ length (inserted message.patch)
entries_long all sent differ sent_are counted message has None is = length-replicate (length (inserted message.patch)) None
entries_long all sent differ sent_are counted message has (Some own) is =
    length-map own.marks Some ∙ counted (name_of message) own is ∙ ap (λ p. length (inserted p)) (own_patch all sent differ sent_are message has own is)

same_entries : (o : Option Marked) (message : Message) → new_entries o message.patch ≡ entries_of o message
same_entries None message = refl
same_entries (Some own) message = refl

-- ---- how long a row is

long_by : RowLaws → (base : Base) (all : List Message) (sent : SentWorks) → NamesDiffer all → AreSentAs all sent → AreCounted sent → (message : Message) (path : List Message) → Contains all message → IsSoundOn base path message
    → length (row_on base sent path) ≡ length (text base path) → (b : Bool) → is_checkpoint message.kind ≡ b → length (row_on base sent (message ∷ path)) ≡ length (text base (message ∷ path))
long_by laws base all sent differ sent_are counted message path has sound below true is =
    ap length (checkpoint_row base sent message path is) ∙ below ∙ ap length (sym (still base message path sound is))
long_by laws base all sent differ sent_are counted message path has sound below false is =
    ap length (patch_row base sent message path is)
    ∙ laws.long message.patch (text base path) (row_on base sent path) (entries_of (sent_as sent (name_of message)) message) below
    (entries_long all sent differ sent_are counted message has (sent_as sent (name_of message)) refl)

row_long : RowLaws → (base : Base) (all : List Message) (sent : SentWorks) → NamesDiffer all → AreSentAs all sent → AreCounted sent → (path : List Message) → IsPath base all path
    → length (row_on base sent path) ≡ length (text base path)
row_long laws base all sent differ sent_are counted [] is = length-replicate (length base.text) None
row_long laws base all sent differ sent_are counted (message ∷ path) is =
    long_by laws base all sent differ sent_are counted message path is.0.0.member is.1.0 (row_long laws base all sent differ sent_are counted path (is.0.1, is.1.1)) (is_checkpoint message.kind) refl

-- ---- newer marks

newer_none : (since count : ℕ) → newer_marks since (no_marks count) ≡ no_marks count
newer_none since zero = refl
newer_none since (suc count) = ap (λ (row : Row). None ∷ row) (newer_none since count)

none_long : (count : ℕ) → length (no_marks count) ≡ count
none_long count = length-replicate count None

newer_last : (since count : ℕ) (row : Row) → newer_marks since (last_entries count row) ≡ last_entries count (newer_marks since row)
newer_last since count row =
    map-append (newer since) (no_marks (count - length row)) (drop (length row - count) row)
    ∙ ap (λ (xs : Row). xs ++ newer_marks since (drop (length row - count) row)) (newer_none since (count - length row))
    ∙ ap (λ (xs : Row). no_marks (count - length row) ++ xs) (map-drop (newer since) (length row - count) row)
    ∙ ap (λ n. no_marks (count - n) ++ drop (n - count) (newer_marks since row)) (sym (length-map row (newer since)))

-- ---- a message leaves

-- a message as a move that takes it back
abbrev pub move_back : Base → Message → List Message → Move
move_back base message path = record { name = name_of message; kind = message.kind; patch = inverse message.patch (text base path) }

module _ (laws : RowLaws) (back : InverseGivesListsBack (Option Mark)) (since : ℕ) (all : List Message) (base : Base) (sent : SentWorks) (differ : NamesDiffer all) (sent_are : AreSentAs all sent) (counted : AreCounted sent) where
  abbrev N : Row → Row
  N = newer_marks since

  abbrev R : List Message → Row
  R = row_on base sent

  back_by : (message : Message) (path : List Message) (kept : Kept) → IsPath base all (message ∷ path) → IsKeptOn since base sent (message ∷ path) kept → (b : Bool) → is_checkpoint message.kind ≡ b
      → IsKeptOn since base sent path (reverted (move_back base message path) kept)
  back_by message path kept is holds true checkpoint =
      let at : reverted (move_back base message path) kept ≡ kept = ap (λ b. cond b kept (record {
        row = row_after (inverse message.patch (text base path)) (last_entries (length (inserted (inverse message.patch (text base path)))) kept.removed) kept.row;
        removed = take (length kept.removed - length (inserted (inverse message.patch (text base path)))) kept.removed;
      })) checkpoint in
      subst (IsKeptOn since base sent path) (sym at) (record {
        row = holds.row ∙ ap N (checkpoint_row base sent message path checkpoint);
        missing = holds.missing;
        removed = holds.removed ∙ ap N (checkpoint_removed base sent message path checkpoint);
      })
  back_by message path kept is holds false plain =
      let p = message.patch in
      let undo = inverse p (text base path) in
      let count = length (inserted undo) in
      let next : Kept = record { row = row_after undo (last_entries count kept.removed) kept.row; removed = take (length kept.removed - count) kept.removed } in
      let at : reverted (move_back base message path) kept ≡ next = ap (λ b. cond b kept next) plain in
      let entries = entries_of (sent_as sent (name_of message)) message in
      let applies : CanApply p (text base path) = laws.applies p (text base path) is.1.0.fits in
      let long = row_long laws base all sent differ sent_are counted path (is.0.1, is.1.1) in
      let new_long = entries_long all sent differ sent_are counted message is.0.0.member (sent_as sent (name_of message)) refl in
      let gone = removed_by p.ops (R path) in
      let split : no_marks holds.missing ++ N kept.removed ≡ N (removed_on base sent path) ++ N gone =
      holds.removed ∙ ap N (patch_removed base sent message path plain) ∙ map-append (newer since) (removed_on base sent path) gone in
      let counts : length (N gone) ≡ count = length-map gone (newer since) ∙ sym (inserted-inverse p (text base path) (R path) long) in
      let found : Ends (length (N gone)) (N kept.removed) (N (removed_on base sent path)) (N gone) = ends holds.missing (N kept.removed) (N (removed_on base sent path)) (N gone) split in
      let above : N kept.row ≡ patched p (N entries) (N (R path)) = holds.row ∙ ap N (patch_row base sent message path plain) ∙ map-patched (newer since) p entries (R path) in
      let there : N (last_entries count kept.removed) ≡ removed_by p.ops (N (R path)) =
      newer_last since count kept.removed ∙ ap (λ n. last_entries n (N kept.removed)) (sym counts) ∙ found.back ∙ map-removed (newer since) p.ops (R path) in
      subst (IsKeptOn since base sent path) (sym at) (record {
        row =
            map-patched (newer since) undo (last_entries count kept.removed) kept.row
            ∙ ap (λ (xs : Row). patched undo xs (N kept.row)) there
            ∙ ap (λ (xs : Row). patched undo (removed_by p.ops (N (R path))) xs) above
            ∙ back p (text base path) (N entries) (N (R path)) applies.ordered applies.inside (sym long ∙ sym (length-map (R path) (newer since))) (length-map entries (newer since) ∙ new_long);
        missing = found.missing;
        removed =
            ap (λ (xs : Row). no_marks found.missing ++ xs) (map-take (newer since) (length kept.removed - count) kept.removed)
            ∙ ap (λ n. no_marks found.missing ++ take (length kept.removed - n) (N kept.removed)) (sym counts)
            ∙ ap (λ n. no_marks found.missing ++ take (n - length (N gone)) (N kept.removed)) (sym (length-map kept.removed (newer since)))
            ∙ found.left;
      })

  back_all : (common left : List Message) (kept : Kept) → IsPath base all (left ++ common) → IsKeptOn since base sent (left ++ common) kept
      → IsKeptOn since base sent common (all_reverted (moves_back base common left) kept)
  back_all common [] kept is holds = holds
  back_all common (message ∷ left) kept is holds =
      back_all common left (reverted (move_back base message (left ++ common)) kept) (is.0.1, is.1.1) (back_by message (left ++ common) kept is holds (is_checkpoint message.kind) refl)

  -- ---- a message comes

  on_by : (message : Message) (path : List Message) (kept : Kept) → IsKeptOn since base sent path kept → (b : Bool) → is_checkpoint message.kind ≡ b
      → IsKeptOn since base sent (message ∷ path) (applied (sent_as sent (name_of message)) (move_on message) kept)
  on_by message path kept holds true checkpoint =
      let own = sent_as sent (name_of message) in
      let next : Kept = record { row = row_after message.patch (new_entries own message.patch) kept.row; removed = kept.removed ++ removed_by message.patch.ops kept.row } in
      let at : applied own (move_on message) kept ≡ kept = ap (λ b. cond b kept next) checkpoint in
      subst (IsKeptOn since base sent (message ∷ path)) (sym at) (record {
        row = holds.row ∙ sym (ap N (checkpoint_row base sent message path checkpoint));
        missing = holds.missing;
        removed = holds.removed ∙ sym (ap N (checkpoint_removed base sent message path checkpoint));
      })
  on_by message path kept holds false plain =
      let p = message.patch in
      let own = sent_as sent (name_of message) in
      let entries = entries_of own message in
      let next : Kept = record { row = row_after p (new_entries own p) kept.row; removed = kept.removed ++ removed_by p.ops kept.row } in
      let at : applied own (move_on message) kept ≡ next = ap (λ b. cond b kept next) plain in
      subst (IsKeptOn since base sent (message ∷ path)) (sym at) (record {
        row =
            map-patched (newer since) p (new_entries own p) kept.row
            ∙ ap (λ (xs : Row). patched p (N xs) (N kept.row)) (same_entries own message)
            ∙ ap (λ (xs : Row). patched p (N entries) xs) holds.row
            ∙ sym (map-patched (newer since) p entries (R path))
            ∙ sym (ap N (patch_row base sent message path plain));
        missing = holds.missing;
        removed =
            ap (λ (xs : Row). no_marks holds.missing ++ xs) (map-append (newer since) kept.removed (removed_by p.ops kept.row))
            ∙ sym (append_assoc (no_marks holds.missing) (N kept.removed) (N (removed_by p.ops kept.row)))
            ∙ ap (λ (xs : Row). xs ++ N (removed_by p.ops kept.row)) holds.removed
            ∙ ap (λ (xs : Row). N (removed_on base sent path) ++ xs) (map-removed (newer since) p.ops kept.row ∙ ap (removed_by p.ops) holds.row ∙ sym (map-removed (newer since) p.ops (R path)))
            ∙ sym (map-append (newer since) (removed_on base sent path) (removed_by p.ops (R path)))
            ∙ sym (ap N (patch_removed base sent message path plain));
      })

  in_parts : (moves others : List Move) (kept : Kept) → all_applied sent (moves ++ others) kept ≡ all_applied sent others (all_applied sent moves kept)
  in_parts [] others kept = refl
  in_parts (move ∷ moves) others kept = in_parts moves others (applied (sent_as sent move.name) move kept)

  last_on : (message : Message) (joined : List Message) → moves_on (message ∷ joined) ≡ moves_on joined ++ move_on message ∷ []
  last_on message joined = ap (map move_on) (reverse-append (message ∷ []) joined) ∙ map-append move_on (reverse joined) (message ∷ [])

  on_all : (common joined : List Message) (kept : Kept) → IsKeptOn since base sent common kept → IsKeptOn since base sent (joined ++ common) (all_applied sent (moves_on joined) kept)
  on_all common [] kept holds = holds
  on_all common (message ∷ joined) kept holds =
      subst (IsKeptOn since base sent (message ∷ (joined ++ common)))
      (sym (ap (λ moves. all_applied sent moves kept) (last_on message joined) ∙ in_parts (moves_on joined) (move_on message ∷ []) kept))
      (on_by message (joined ++ common) (all_applied sent (moves_on joined) kept) (on_all common joined kept holds) (is_checkpoint message.kind) refl)

  moved_on : (old new : List Message) (moved : Moved) (kept : Kept) → IsPath base all old → IsMoved base old new moved → IsKeptOn since base sent old kept
      → IsKeptOn since base sent new (all_applied sent moved.applied (all_reverted moved.reverted kept))
  moved_on old new moved kept is moves holds =
      let there : IsKeptOn since base sent (moves.left ++ moves.common) kept = subst (λ path. IsKeptOn since base sent path kept) moves.was holds in
      let middle = back_all moves.common moves.left kept (subst (IsPath base all) moves.was is) there in
      let last = on_all moves.common moves.joined (all_reverted (moves_back base moves.common moves.left) kept) middle in
      subst (λ path. IsKeptOn since base sent path (all_applied sent moved.applied (all_reverted moved.reverted kept))) (sym moves.is)
      (subst (λ list. IsKeptOn since base sent (moves.joined ++ moves.common) (all_applied sent list (all_reverted moved.reverted kept))) (sym moves.on)
      (subst (λ list. IsKeptOn since base sent (moves.joined ++ moves.common) (all_applied sent (moves_on moves.joined) (all_reverted list kept))) (sym moves.back) last))

pub follows : RowLaws → InverseGivesListsBack (Option Mark) → FollowsMoves
follows laws back since all base sent old new moved kept differ sent_are counted old_is new_is moves holds = moved_on laws back since all base sent differ sent_are counted old new moved kept old_is moves holds

pub at_base : BeginsAtBase
at_base since base sent = record { row = refl; missing = 0; removed = refl }

-- ---- only older marks

-- no entry that counts
abbrev Nothing : ℕ → Row → Type 0
Nothing since row = newer_marks since row ≡ map (λ _. None) row

nothing_sent : (since : ℕ) (marks : List Mark) → All (λ (mark : Mark). mark.stroke ≤ since) marks → Nothing since (map Some marks)
nothing_sent since [] older = refl
nothing_sent since (mark ∷ marks) older =
    let this : nat_lt since mark.stroke ≡ false = le-ltb since mark.stroke (All-head (λ (m : Mark). m.stroke ≤ since) mark marks older) in
    ap (λ b. cond b (Some mark) None ∷ newer_marks since (map Some marks)) this
    ∙ ap (λ (row : Row). None ∷ row) (nothing_sent since marks (All-tail (λ (m : Mark). m.stroke ≤ since) mark marks older))

nothing_new : (since : ℕ) (message : Message) (o : Option Marked) → ((own : Marked) → o ≡ Some own → All (λ (mark : Mark). mark.stroke ≤ since) own.marks) → Nothing since (entries_of o message)
nothing_new since message None older =
    let count = length (inserted message.patch) in
    newer_none since count ∙ ap (λ n. no_marks n) (sym (none_long count)) ∙ sym (replicate-map None (no_marks count))
nothing_new since message (Some own) older = nothing_sent since own.marks (older own refl)

nothing_by : (since : ℕ) (base : Base) (sent : SentWorks) → AreOlder since sent → (message : Message) (path : List Message) → Nothing since (row_on base sent path) → (b : Bool) → is_checkpoint message.kind ≡ b
    → Nothing since (row_on base sent (message ∷ path))
nothing_by since base sent older message path below true is = subst (Nothing since) (sym (checkpoint_row base sent message path is)) below
nothing_by since base sent older message path below false plain =
    let p = message.patch in
    let entries = entries_of (sent_as sent (name_of message)) message in
    let row = row_on base sent path in
    subst (Nothing since) (sym (patch_row base sent message path plain))
    (map-patched (newer since) p entries row
    ∙ ap (λ (xs : Row). patched p xs (newer_marks since row)) (nothing_new since message (sent_as sent (name_of message)) (λ own is. older (name_of message) own is))
    ∙ ap (λ (xs : Row). patched p (map (λ _. None) entries) xs) below
    ∙ sym (map-patched (λ _. None) p entries row))

nothing_on : (since : ℕ) (base : Base) (sent : SentWorks) → AreOlder since sent → (path : List Message) → Nothing since (row_on base sent path)
nothing_on since base sent older [] =
    let count = length base.text in
    newer_none since count ∙ ap (λ n. no_marks n) (sym (none_long count)) ∙ sym (replicate-map None (no_marks count))
nothing_on since base sent older (message ∷ path) = nothing_by since base sent older message path (nothing_on since base sent older path) (is_checkpoint message.kind) refl

gone_by : (since : ℕ) (base : Base) (sent : SentWorks) → AreOlder since sent → (message : Message) (path : List Message) → Nothing since (removed_on base sent path) → (b : Bool) → is_checkpoint message.kind ≡ b
    → Nothing since (removed_on base sent (message ∷ path))
gone_by since base sent older message path below true is = subst (Nothing since) (sym (checkpoint_removed base sent message path is)) below
gone_by since base sent older message path below false plain =
    let ops = message.patch.ops in
    let row = row_on base sent path in
    let gone = removed_on base sent path in
    subst (Nothing since) (sym (patch_removed base sent message path plain))
    (map-append (newer since) gone (removed_by ops row)
    ∙ ap (λ (xs : Row). xs ++ newer_marks since (removed_by ops row)) below
    ∙ ap (λ (xs : Row). map (λ _. None) gone ++ xs) (map-removed (newer since) ops row ∙ ap (removed_by ops) (nothing_on since base sent older path) ∙ sym (map-removed (λ _. None) ops row))
    ∙ sym (map-append (λ _. None) gone (removed_by ops row)))

gone_on : (since : ℕ) (base : Base) (sent : SentWorks) → AreOlder since sent → (path : List Message) → Nothing since (removed_on base sent path)
gone_on since base sent older [] = refl
gone_on since base sent older (message ∷ path) = gone_by since base sent older message path (gone_on since base sent older path) (is_checkpoint message.kind) refl

pub anywhere : RowLaws → BeginsAnywhere
anywhere laws since all base sent path differ sent_are counted older is =
    let row = row_on base sent path in
    let gone = removed_on base sent path in
    record {
      row =
          newer_none since (length (text base path))
          ∙ ap (λ n. no_marks n) (sym (row_long laws base all sent differ sent_are counted path is))
          ∙ sym (replicate-map None row)
          ∙ sym (nothing_on since base sent older path);
      missing = length gone;
      removed = append-nil (no_marks (length gone)) ∙ sym (replicate-map None gone) ∙ sym (gone_on since base sent older path);
    }

pub alike : ShownAlike
alike since base sent path kept work holds =
    map-patched (newer since) work.patch (map Some work.marks) kept.row
    ∙ ap (λ (xs : Row). patched work.patch (newer_marks since (map Some work.marks)) xs) holds.row
    ∙ sym (map-patched (newer since) work.patch (map Some work.marks) (row_on base sent path))

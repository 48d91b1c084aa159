-- One move more.
use Rattle.std.proofs.Common.{◌≡◌, ℕ, ◌+◌, ◌<◌, ◌≤◌, ◌^◌, List, [], ◌∷◌, ◌++◌, length, drop, get_or, Bool, true, false, cond, refl, sym, ◌∙◌, ap, subst, arith, Option, Some, None, slice_index_or}
use Rattle.std.specs.Prelude.{slice_get}
use Rattle.std.proofs.lemmas.List.{drop_more}
use Rattle.pad_text.specs.declared.name.Name.{Name}
use Rattle.pad_text.specs.Hash.{document_hash}
use Rattle.pad_patch.specs.Piece.{text_after, length_after}
use Rattle.pad_patch.specs.Misfit.{EndsAfter, longest_text}
use Rattle.pad_patch.specs.Laws.{LengthIsCounted}
use Rattle.pad_message.specs.Kind.{is_checkpoint}
use Rattle.pad_stroke.specs.Work.{Marked}
use Rattle.pad_stroke.specs.Through.{carried}
use Rattle.pad_branch.specs.declared.moved.Move.{Move}
use Rattle.pad_chain.specs.Leads.{MoveFits, Leads}
use Rattle.client_work.specs.Switch.{SentWorks, sent_as, Draft, taken_back, without_own, reverted, applied, in_order}
use Rattle.client_work.specs.Carrying.{Ground, behind, behind_all, IsOnGround, IsCarried, AreCarried, IsInverse, AreInverses, AreReady}
use Rattle.client_work.specs.Inside.Steps.{IsReady, IsReadyFor, first_hash}
use Rattle.client_work.proofs.Grounds.{carried_behind}

pub next_of : {X : Type 0} (xs : List X) (i : ℕ) (x : X) → i < length xs → x ≡ get_or xs i x → drop i xs ≡ x ∷ drop (i + 1) xs
next_of xs i x within is = drop_more xs i x within ∙ ap (λ y. y ∷ drop (i + 1) xs) (sym is)

abbrev pub draft : Ground → Marked → Draft
draft grounds work = record { text = grounds.text; work = work }

-- so many moves are left, on the ground behind the others; `first` was the work at the beginning
pub record StillBack (grounds : Ground) (sent : SentWorks) (moves rest : List Move) (size : ℕ) (end : Name) (work first : Marked) : Type 0 where
  pub now : Ground
  pub ready : AreReady now sent rest size end work
  pub end_is : behind_all rest now ≡ behind_all moves grounds
  pub back : AreInverses sent moves grounds.text → AreInverses sent rest now.text × (in_order (reverted sent) rest (draft now work) ≡ in_order (reverted sent) moves (draft grounds first))

pub record StillOn (grounds : Ground) (sent : SentWorks) (moves rest : List Move) (end : Name) (work first : Marked) : Type 0 where
  pub now : Ground
  pub ready : AreReady now sent rest (length now.text) end work
  pub end_is : behind_all rest now ≡ behind_all moves grounds
  pub on : in_order (applied sent) rest (draft now work) ≡ in_order (applied sent) moves (draft grounds first)

-- the first of those that are left
pub back_turn : (grounds : Ground) (sent : SentWorks) (moves : List Move) (place : ℕ) (step : Move) (size : ℕ) (end : Name) (work first : Marked) → place < length moves
    → step ≡ get_or moves place step → StillBack grounds sent moves (drop place moves) size end work first → StillBack grounds sent moves (step ∷ drop (place + 1) moves) size end work first
back_turn grounds sent moves place step size end work first within is still =
    subst (λ (rest : List Move). StillBack grounds sent moves rest size end work first) (next_of moves place step within is) still

pub on_turn : (grounds : Ground) (sent : SentWorks) (moves : List Move) (place : ℕ) (step : Move) (end : Name) (work first : Marked) → place < length moves
    → step ≡ get_or moves place step → StillOn grounds sent moves (drop place moves) end work first → StillOn grounds sent moves (step ∷ drop (place + 1) moves) end work first
on_turn grounds sent moves place step end work first within is still =
    subst (λ (rest : List Move). StillOn grounds sent moves rest end work first) (next_of moves place step within is) still

-- none is left
pub back_done : (grounds : Ground) (sent : SentWorks) (moves : List Move) (size : ℕ) (end : Name) (work first : Marked) → StillBack grounds sent moves [] size end work first
    → IsOnGround (behind_all moves grounds) work
    × (AreInverses sent moves grounds.text → draft (behind_all moves grounds) work ≡ in_order (reverted sent) moves (draft grounds first))
back_done grounds sent moves size end work first still = (
  subst (λ (g : Ground). IsOnGround g work) still.end_is still.ready.on_ground,
  λ inverses. ap (λ (g : Ground). draft g work) (sym still.end_is) ∙ (still.back inverses).1,
)

pub on_done : (grounds : Ground) (sent : SentWorks) (moves : List Move) (end : Name) (work first : Marked) → StillOn grounds sent moves [] end work first
    → IsOnGround (behind_all moves grounds) work × (draft (behind_all moves grounds) work ≡ in_order (applied sent) moves (draft grounds first))
on_done grounds sent moves end work first still = (
  subst (λ (g : Ground). IsOnGround g work) still.end_is still.ready.on_ground,
  ap (λ (g : Ground). draft g work) (sym still.end_is) ∙ still.on,
)

-- the first of moves, or none
pub first_hash_some : (moves : List Move) (move : Move) (end : Name) → Some move ≡ slice_get moves 0 → move.patch.before ≡ first_hash moves end
first_hash_some [] move end is = cc
first_hash_some (first ∷ moves) move end is = let same : move ≡ first = cc in ap (λ (m : Move). m.patch.before) same

pub first_hash_none : (moves : List Move) (end : Name) → None ≡ slice_get moves 0 → end ≡ first_hash moves end
first_hash_none [] end is = refl
first_hash_none (first ∷ moves) end is = cc

-- the hash of the text after the first move
hash_of : (rest : List Move) (end : Name) (grounds : Ground) → Leads rest grounds.text (behind_all rest grounds).text → end ≡ document_hash (behind_all rest grounds).text
    → first_hash rest end ≡ document_hash grounds.text
hash_of [] end grounds leads last = last
hash_of (move ∷ rest) end grounds leads last = leads.0.made

-- what the first move asks
pub ready_for : (grounds : Ground) (sent : SentWorks) (move : Move) (rest : List Move) (size : ℕ) (end hash : Name) (work : Marked) → hash ≡ first_hash rest end
    → AreReady grounds sent (move ∷ rest) size end work → IsReadyFor grounds (sent_as sent move.name) move hash work
ready_for grounds sent move rest size end hash work is ready = record {
  ready = record {
    fits = ready.leads.0;
    after = is ∙ hash_of rest end (behind move grounds) ready.leads.1 ready.last;
    on_ground = ready.on_ground;
  };
  carried = ready.carried move.name;
}

-- and what the others ask then
ready_next : (grounds : Ground) (sent : SentWorks) (move : Move) (rest : List Move) (size more : ℕ) (end : Name) (work next : Marked) → AreReady grounds sent (move ∷ rest) size end work
    → more ≡ length (text_after move.patch grounds.text) → IsOnGround (behind move grounds) next → AreReady (behind move grounds) sent rest more end next
ready_next grounds sent move rest size more end work next ready long on = record {
  leads = ready.leads.1;
  long = long;
  last = ready.last;
  on_ground = on;
  carried = λ name. carried_behind move grounds (sent_as sent name) (ready.carried name);
}

-- no operation ends after a text that is as long
pub inside_of : (move : Move) (text : List ℕ) (size : ℕ) → MoveFits move text → size ≡ length text → (index : ℕ) → EndsAfter move.patch size index → ⊥
inside_of move text size fits long index ends = fits.applies.inside index (subst (λ n. EndsAfter move.patch n index) long ends)

-- the length after a move is that of the text after it
pub long_after : LengthIsCounted → (move : Move) (text : List ℕ) (size : ℕ) → MoveFits move text → size ≡ length text → length_after move.patch size ≡ length (text_after move.patch text)
long_after counted move text size fits long = ap (length_after move.patch) long ∙ sym (counted move.patch text fits.applies.inside)

-- which is short
pub short_after : LengthIsCounted → (move : Move) (text : List ℕ) (size : ℕ) → MoveFits move text → size ≡ length text → length_after move.patch size ≤ longest_text
short_after counted move text size fits long = subst (λ n. n ≤ longest_text) (sym (long_after counted move text size fits long)) fits.short

pub small_after : LengthIsCounted → (move : Move) (text : List ℕ) (size : ℕ) → MoveFits move text → size ≡ length text → length_after move.patch size < 2 ^ 32
small_after counted move text size fits long = let short = short_after counted move text size fits long in omega arith

-- one message is taken back
pub back_next : LengthIsCounted → (grounds : Ground) (sent : SentWorks) (moves : List Move) (move : Move) (rest : List Move) (size more : ℕ) (end hash : Name) (work first next : Marked)
    → hash ≡ first_hash rest end → more ≡ length_after move.patch size
    → ((now : Ground) → IsReadyFor now (sent_as sent move.name) move hash work → more ≡ length (text_after move.patch now.text) → IsInverse (sent_as sent move.name) move now.text
    → next ≡ cond (is_checkpoint move.kind) work (taken_back (sent_as sent move.name) move (text_after move.patch now.text) work))
    → ((now : Ground) → IsReadyFor now (sent_as sent move.name) move hash work → more ≡ length (text_after move.patch now.text) → IsOnGround (behind move now) next)
    → StillBack grounds sent moves (move ∷ rest) size end work first → StillBack grounds sent moves rest more end next first
back_next counted grounds sent moves move rest size more end hash work first next hash_is more_is back stays still =
    let now : Ground = still.now in
    let for : IsReadyFor now (sent_as sent move.name) move hash work = ready_for now sent move rest size end hash work hash_is still.ready in
    let long : more ≡ length (text_after move.patch now.text) = more_is ∙ long_after counted move now.text size still.ready.leads.0 still.ready.long in
    record {
      now = behind move now;
      ready = ready_next now sent move rest size more end work next still.ready long (stays now for long);
      end_is = still.end_is;
      back = λ inverses. (
        (still.back inverses).0.1,
        ap (λ (w : Marked). in_order (reverted sent) rest (draft (behind move now) w)) (back now for long (still.back inverses).0.0) ∙ (still.back inverses).1,
      );
    }

-- one message comes
pub on_next : (grounds : Ground) (sent : SentWorks) (moves : List Move) (move : Move) (rest : List Move) (end hash : Name) (work first next : Marked) → hash ≡ first_hash rest end
    → ((now : Ground) → IsReadyFor now (sent_as sent move.name) move hash work
    → next ≡ cond (is_checkpoint move.kind) work (carried (without_own (sent_as sent move.name) work) move.patch hash))
    → ((now : Ground) → IsReadyFor now (sent_as sent move.name) move hash work → IsOnGround (behind move now) next)
    → StillOn grounds sent moves (move ∷ rest) end work first → StillOn grounds sent moves rest end next first
on_next grounds sent moves move rest end hash work first next hash_is on stays still =
    let now : Ground = still.now in
    let for : IsReadyFor now (sent_as sent move.name) move hash work = ready_for now sent move rest (length now.text) end hash work hash_is still.ready in
    record {
      now = behind move now;
      ready = ready_next now sent move rest (length now.text) (length (text_after move.patch now.text)) end work next still.ready refl (stays now for);
      end_is = still.end_is;
      on = ap (λ (w : Marked). in_order (applied sent) rest (draft (behind move now) w))
          (on now for ∙ ap (λ (h : Name). cond (is_checkpoint move.kind) work (carried (without_own (sent_as sent move.name) work) move.patch h)) for.ready.after)
          ∙ still.on;
    }

-- What the table gives, line by line, and what becomes of the insertions.
use Rattle.std.proofs.Common.{◌≡◌, ℕ, ◌+◌, ◌-◌, ◌<◌, ◌≤◌, Bool, true, false, cond, ◌&&◌, ◌==◌, inl, inr, List, [], ◌∷◌, ◌++◌, length, All, slice_index_or, IfSome, refl, sym, ◌∙◌, ap, subst, arith, eqb-true, lt-ltb, le-ltb}
use Rattle.std.specs.Prelude.{Option, Some, None}
use Rattle.std.specs.Option.{option_and_then}
use Rattle.std.specs.List.{flat_map, filter_map, cons_option}
use Rattle.std.proofs.lemmas.Bool.{cases_lt}
use Rattle.std.proofs.lemmas.List.{nil_from_length, length-append}
use Rattle.pad_patch.specs.declared.operation.Operation.{Operation}
use Rattle.pad_patch.specs.Piece.{end_of}
use Rattle.pad_patch.specs.declared.patch.Patch.{Patch}
use Rattle.pad_transform.specs.Table.{adjusted, transformed, through, SumsFit, SumsFitThrough}

-- `c` is `a` by `b`, with the line of the table
pub data Moved (a b c : Operation) : Type 0 where
  behind : end_of b < a.offset → c.offset + b.remove ≡ a.offset + length b.insert → c.remove ≡ a.remove → Moved a b c
  within : b.offset < a.offset → a.offset ≤ end_of b → c.offset ≡ b.offset + length b.insert → c.remove ≡ end_of a - end_of b → Moved a b c
  before : a.offset ≤ b.offset → end_of a < b.offset → c.offset ≡ a.offset → c.remove ≡ a.remove → Moved a b c
  across : a.offset ≤ b.offset → b.offset ≤ end_of a → c.offset ≡ a.offset → c.remove ≡ b.offset - a.offset → Moved a b c

-- the table has the four lines
pub table_line : (a b : Operation) → Moved a b (adjusted a b) × ((adjusted a b).insert ≡ a.insert)
table_line a b = elim (cases_lt (end_of b) a.offset) [
  | inl late ↦ rw (lt-ltb (end_of b) a.offset late) (behind late (omega arith) refl, refl)
  | inr early ↦ rw (le-ltb (end_of b) a.offset early) (elim (cases_lt b.offset a.offset) [
    | inl inside ↦ rw (lt-ltb b.offset a.offset inside) (within inside early refl refl, refl)
    | inr first ↦ rw (le-ltb b.offset a.offset first) (elim (cases_lt (end_of a) b.offset) [
      | inl apart ↦ rw (lt-ltb (end_of a) b.offset apart) (before first apart refl refl, refl)
      | inr meets ↦ rw (le-ltb (end_of a) b.offset meets) (across first meets refl refl, refl)
    ])
  ])
]

second : (s t : Bool) → (s && t) ≡ true → t ≡ true
second true t is = is
second false t is = cc

kept : (x c : Operation) (t : Bool) → cond t None (Some x) ≡ Some c → x ≡ c
kept x c true is = cc
kept x c false is = cc

-- what is dropped inserts nothing
dropped : (x : Operation) (t : Bool) → ((x.remove == 0) && (length x.insert == 0)) ≡ t → cond t None (Some x) ≡ None → x.insert ≡ []
dropped x true empty is = nil_from_length x.insert (eqb-true (length x.insert) 0 (second (x.remove == 0) (length x.insert == 0) empty))
dropped x false empty is = cc

-- the last step of an operation that goes through others and is not dropped
pub record LastStep (a b : Operation) (later : List Operation) (c : Operation) : Type 0 where
  pub earlier : Operation
  pub image : through later a ≡ Some earlier
  pub line : Moved earlier b c
  pub insertion : c.insert ≡ earlier.insert

step_by : (a b : Operation) (later : List Operation) (c : Operation) (o : Option Operation) → through later a ≡ o
    → option_and_then (λ moved. transformed moved b) o ≡ Some c → LastStep a b later c
step_by a b later c None image is = cc
step_by a b later c (Some earlier) image is =
    let same : adjusted earlier b ≡ c = kept (adjusted earlier b) c _ is in
    let lines = table_line earlier b in
    record {
      earlier = earlier;
      image = image;
      line = subst (Moved earlier b) same lines.0;
      insertion = ap (λ (x : Operation). x.insert) (sym same) ∙ lines.1;
    }

pub last_step : (a b : Operation) (later : List Operation) (c : Operation) → through (b ∷ later) a ≡ Some c → LastStep a b later c
last_step a b later c is = step_by a b later c (through later a) refl is

-- the insertion never changes
pub insert-through : (by : List Operation) (a c : Operation) → through by a ≡ Some c → c.insert ≡ a.insert
insert-through [] a c is = let same : a ≡ c = cc in ap (λ (x : Operation). x.insert) (sym same)
insert-through (b ∷ later) a c is =
    let step = last_step a b later c is in
    step.insertion ∙ insert-through later a step.earlier step.image

insert_dropped_by : (a b : Operation) (later : List Operation) (o : Option Operation) → through later a ≡ o
    → option_and_then (λ moved. transformed moved b) o ≡ None → (through later a ≡ None → a.insert ≡ []) → a.insert ≡ []
insert_dropped_by a b later None image is induction = induction image
insert_dropped_by a b later (Some earlier) image is induction =
    sym (insert-through later a earlier image) ∙ (sym (table_line earlier b).1 ∙ dropped (adjusted earlier b) _ refl is)

-- what is dropped inserts nothing
pub insert-dropped : (by : List Operation) (a : Operation) → through by a ≡ None → a.insert ≡ []
insert-dropped [] a is = cc
insert-dropped (b ∷ later) a is = insert_dropped_by a b later (through later a) refl is (insert-dropped later a)

-- the insertions of operations, joined
abbrev pub joined : List Operation → List ℕ
joined operations = flat_map (λ (operation : Operation). operation.insert) operations

joined_by : (by : List Operation) (a : Operation) (xs ys : List Operation) (o : Option Operation) → through by a ≡ o → joined xs ≡ joined ys
    → joined (cons_option o xs) ≡ a.insert ++ joined ys
joined_by by a xs ys None image same = rw (insert-dropped by a image) same
joined_by by a xs ys (Some c) image same = rw (insert-through by a c image, same) refl

-- the insertions, joined, stay as they are
pub joined-through : (by operations : List Operation) → joined (filter_map (through by) operations) ≡ joined operations
joined-through by [] = refl
joined-through by (a ∷ operations) = joined_by by a (filter_map (through by) operations) operations (through by a) refl (joined-through by operations)

-- an offset moves by no more than what is inserted
offset_step : (m b c : Operation) (start room : ℕ) → Moved m b c → m.offset ≤ start + room → c.offset ≤ start + (length b.insert + room)
offset_step m b c start room (behind x y z) most = omega arith
offset_step m b c start room (within x w y z) most = omega arith
offset_step m b c start room (before x w y z) most = omega arith
offset_step m b c start room (across x w y z) most = omega arith

offset-through : (by : List Operation) (a c : Operation) → through by a ≡ Some c → c.offset ≤ a.offset + length (joined by)
offset-through [] a c is =
    let same : a ≡ c = cc in
    subst (λ (x : Operation). x.offset ≤ a.offset + 0) same (omega arith)
offset-through (b ∷ later) a c is =
    let step = last_step a b later c is in
    rw length-append (offset_step step.earlier b c a.offset (length (joined later)) step.line (offset-through later a step.earlier step.image))

-- the sum fits where there is room for what is inserted
pub SumsFit-room : (a b : Operation) → a.offset + length b.insert ≤ 4294967295 → SumsFit a b
SumsFit-room a b room = let most = offset_step a b (adjusted a b) a.offset 0 (table_line a b).0 (omega arith) in omega arith

sums_by : (b : Operation) (later : List Operation) (a : Operation) (o : Option Operation) → through later a ≡ o → a.offset + length (joined (b ∷ later)) ≤ 4294967295
    → IfSome o (λ moved. SumsFit moved b)
sums_by b later a None image room = tt
sums_by b later a (Some m) image room =
    let most = offset_step m b (adjusted m b) a.offset (length (joined later)) (table_line m b).0 (offset-through later a m image) in
    omega (arith, most, length-append b.insert (joined later))

sums_fit_of : (by : List Operation) (a : Operation) → a.offset + length (joined by) ≤ 4294967295 → SumsFitThrough by a
sums_fit_of [] a room = tt
sums_fit_of (b ∷ later) a room =
    (sums_fit_of later a (omega (arith, length-append b.insert (joined later))), sums_by b later a (through later a) refl room)

-- each sum fits where there is room for all that is inserted
pub sums_fit : (patch by : Patch) → All (λ (operation : Operation). operation.offset + length (joined by.ops) ≤ 4294967295) patch.ops → All (SumsFitThrough by.ops) patch.ops
sums_fit patch by room k d below = sums_fit_of by.ops (slice_index_or patch.ops k d) (room k d below)

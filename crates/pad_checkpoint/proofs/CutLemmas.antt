-- The cut of a path by its marks, and with a root below it.
use Rattle.std.proofs.Common.{◌≡◌, ◌<◌, ◌≤◌, ◌⊎◌, inl, inr, List, [], ◌∷◌, ◌++◌, length, drop, Bool, true, false, Some, None, slice_get, reverse, refl, sym, ap, ◌∙◌, arith, length-append}
use Rattle.std.specs.Prelude.{if◌then◌else◌}
use Rattle.std.specs.Option.{option_map_or}
use Rattle.std.proofs.lemmas.List.{reverse-append}
use Rattle.std.proofs.lemmas.Bool.{lt-ltb, le-ltb}
use Rattle.pad_message.specs.declared.message.Message.{Message}
use Rattle.pad_message.specs.Kind.{is_checkpoint}
use Rattle.pad_model.specs.declared.base.Base.{Base}
use Rattle.pad_model.specs.Choice.{to_checkpoint, cut, higher}
use Rattle.pad_checkpoint.specs.declared.path_mark.PathMark.{PathMark}
use Rattle.pad_checkpoint.specs.Place.{place_of, mark_of, marks_on}
use Rattle.pad_checkpoint.specs.Cut.{checkpoints, last_but_one, cut_place}
use Rattle.pad_checkpoint.specs.Laws.{RootsRiseToCutsAbove}
use Rattle.pad_checkpoint.proofs.MarkLemmas.{pushed_yes, pushed_no}

-- the last checkpoint of a part from the base on is no higher
to_lower : (p : List Message) → length (to_checkpoint p) ≤ length p
to_lower [] = omega arith
to_lower (m ∷ p) = go (is_checkpoint m.kind) (to_lower p)
  where
    go : (t : Bool) → length (to_checkpoint p) ≤ length p → length (if t then m ∷ p else to_checkpoint p) ≤ length (m ∷ p)
    go true h = omega arith
    go false h = omega (arith, h)

cut_lower : (p : List Message) → length (cut p) ≤ length p
cut_lower p = omega (arith, under (to_checkpoint p), to_lower p)
  where
    under : (r : List Message) → length (to_checkpoint (drop 1 r)) ≤ length r
    under [] = omega arith
    under (x ∷ r) = omega (arith, to_lower r)

module _ (b : Base) (path : List Message) where
  -- the marks of the checkpoints above the path, the newest first
  abbrev back : List Message → List PathMark
  back above = reverse (checkpoints (marks_on b path above))

  back_yes : (m : Message) (above : List Message) → is_checkpoint m.kind ≡ true → back (m ∷ above) ≡ mark_of b (above ++ path) m ∷ back above
  back_yes m above e = ap reverse (pushed_yes (marks_on b path above) (mark_of b (above ++ path) m) e) ∙ reverse-append (checkpoints (marks_on b path above)) (mark_of b (above ++ path) m ∷ [])

  back_no : (m : Message) (above : List Message) → is_checkpoint m.kind ≡ false → back (m ∷ above) ≡ back above
  back_no m above e = ap reverse (pushed_no (marks_on b path above) (mark_of b (above ++ path) m) e)

  -- there is no checkpoint above the path
  record HasNone (above : List Message) : Type 0 where
    marks : back above ≡ []
    part : to_checkpoint above ≡ []
    whole : to_checkpoint (above ++ path) ≡ to_checkpoint path

  -- the last one stands on `rest`
  record HasLast (above : List Message) : Type 0 where
    message : Message
    rest : List Message
    marks : back above ≡ mark_of b (rest ++ path) message ∷ back rest
    part : to_checkpoint above ≡ message ∷ rest
    whole : to_checkpoint (above ++ path) ≡ message ∷ (rest ++ path)

  last_of : (above : List Message) → HasNone above ⊎ HasLast above
  last_of [] = inl (record { marks = refl; part = refl; whole = refl })
  last_of (m ∷ above) = go (is_checkpoint m.kind) refl (last_of above)
    where
      to : (t : Bool) → is_checkpoint m.kind ≡ t → to_checkpoint (m ∷ above) ≡ (if t then m ∷ above else to_checkpoint above)
      to t e = ap (λ t. if t then m ∷ above else to_checkpoint above) e

      to_whole : (t : Bool) → is_checkpoint m.kind ≡ t → to_checkpoint (m ∷ above ++ path) ≡ (if t then m ∷ (above ++ path) else to_checkpoint (above ++ path))
      to_whole t e = ap (λ t. if t then m ∷ (above ++ path) else to_checkpoint (above ++ path)) e

      go : (t : Bool) → is_checkpoint m.kind ≡ t → HasNone above ⊎ HasLast above → HasNone (m ∷ above) ⊎ HasLast (m ∷ above)
      go true e rest = inr (record { message = m; rest = above; marks = back_yes m above e; part = to true e; whole = to_whole true e })
      go false e (inl h) = inl (record { marks = back_no m above e ∙ h.marks; part = to false e ∙ h.part; whole = to_whole false e ∙ h.whole })
      go false e (inr h) = inr (record { message = h.message; rest = h.rest; marks = back_no m above e ∙ h.marks; part = to false e ∙ h.part; whole = to_whole false e ∙ h.whole })

  -- fewer than two checkpoints are above the path
  pub record CutsBelow (above : List Message) : Type 0 where
    pub marks : last_but_one (marks_on b path above) ≡ None
    pub part : cut above ≡ []
    pub low : length (cut (above ++ path)) ≤ length path

  -- the last but one stands on `rest`
  pub record CutsAt (above : List Message) : Type 0 where
    pub message : Message
    pub rest : List Message
    pub marks : last_but_one (marks_on b path above) ≡ Some (mark_of b (rest ++ path) message)
    pub part : cut above ≡ message ∷ rest
    pub whole : cut (above ++ path) ≡ message ∷ (rest ++ path)

  pub cut_of : (above : List Message) → CutsBelow above ⊎ CutsAt above
  cut_of above = go (last_of above)
    where
      second : (l : HasLast above) → HasNone l.rest ⊎ HasLast l.rest → CutsBelow above ⊎ CutsAt above
      second l (inl h) = inl (record {
        marks = ap (λ (xs : List PathMark). slice_get xs 1) (l.marks ∙ ap (λ xs. mark_of b (l.rest ++ path) l.message ∷ xs) h.marks);
        part = ap (λ q. to_checkpoint (drop 1 q)) l.part ∙ h.part;
        low = omega (arith, ap length (ap (λ q. to_checkpoint (drop 1 q)) l.whole ∙ h.whole), to_lower path);
      })
      second l (inr h) = inr (record {
        message = h.message;
        rest = h.rest;
        marks = ap (λ (xs : List PathMark). slice_get xs 1) (l.marks ∙ ap (λ xs. mark_of b (l.rest ++ path) l.message ∷ xs) h.marks);
        part = ap (λ q. to_checkpoint (drop 1 q)) l.part ∙ h.part;
        whole = ap (λ q. to_checkpoint (drop 1 q)) l.whole ∙ h.whole;
      })

      go : HasNone above ⊎ HasLast above → CutsBelow above ⊎ CutsAt above
      go (inl h) = inl (record {
        marks = ap (λ (xs : List PathMark). slice_get xs 1) h.marks;
        part = ap (λ q. to_checkpoint (drop 1 q)) h.part;
        low = omega (arith, ap length (ap (λ q. to_checkpoint (drop 1 q)) h.whole), cut_lower path);
      })
      go (inr l) = second l (last_of l.rest)

  stays : (q : List Message) → length q ≤ length path → higher path q ≡ path
  stays q h = ap (λ t. if t then q else path) (le-ltb (length path) (length q) h)

  rises : (q : List Message) → length path < length q → higher path q ≡ q
  rises q h = ap (λ t. if t then q else path) (lt-ltb (length path) (length q) h)

  higher_at : (above : List Message) (k : CutsAt above) → higher path (cut (above ++ path)) ≡ k.message ∷ (k.rest ++ path)
  higher_at above k = ap (higher path) k.whole ∙ rises (k.message ∷ (k.rest ++ path)) (omega (arith, length-append k.rest path))

  pub higher_is : (above : List Message) → higher path (cut (above ++ path)) ≡ cut above ++ path
  higher_is above = go (cut_of above)
    where
      go : CutsBelow above ⊎ CutsAt above → higher path (cut (above ++ path)) ≡ cut above ++ path
      go (inl k) = stays (cut (above ++ path)) k.low ∙ ap (λ q. q ++ path) (sym k.part)
      go (inr k) = higher_at above k ∙ ap (λ q. q ++ path) (sym k.part)

  -- the place of the cut
  pub place_is : (above : List Message) → cut_place (place_of b path) (marks_on b path above) ≡ place_of b (higher path (cut (above ++ path)))
  place_is above = go (cut_of above)
    where
      go : CutsBelow above ⊎ CutsAt above → cut_place (place_of b path) (marks_on b path above) ≡ place_of b (higher path (cut (above ++ path)))
      go (inl k) = ap (λ o. option_map_or (λ (mark : PathMark). mark.place) o (place_of b path)) k.marks ∙ ap (place_of b) (sym (stays (cut (above ++ path)) k.low))
      go (inr k) = ap (λ o. option_map_or (λ (mark : PathMark). mark.place) o (place_of b path)) k.marks ∙ ap (place_of b) (sym (higher_at above k))

  some_none : (mark : PathMark) → Some mark ≡ None → ⊥
  some_none mark e = cc

  some_same : (x y : PathMark) → Some x ≡ Some y → x ≡ y
  some_same x y e = cc

  -- where the root stays, and where it moves
  pub higher_none : (above : List Message) → None ≡ last_but_one (marks_on b path above) → higher path (cut (above ++ path)) ≡ path
  higher_none above e = go (cut_of above)
    where
      go : CutsBelow above ⊎ CutsAt above → higher path (cut (above ++ path)) ≡ path
      go (inl k) = stays (cut (above ++ path)) k.low
      go (inr k) = absurd (some_none (mark_of b (k.rest ++ path) k.message) (sym k.marks ∙ sym e))

  pub higher_some : (above : List Message) (mark : PathMark) → Some mark ≡ last_but_one (marks_on b path above) → mark.place ≡ place_of b (higher path (cut (above ++ path)))
  higher_some above mark e = go (cut_of above)
    where
      go : CutsBelow above ⊎ CutsAt above → mark.place ≡ place_of b (higher path (cut (above ++ path)))
      go (inl k) = absurd (some_none mark (e ∙ k.marks))
      go (inr k) = ap (λ (m : PathMark). m.place) (some_same mark (mark_of b (k.rest ++ path) k.message) (e ∙ k.marks)) ∙ ap (place_of b) (sym (higher_at above k))

pub roots_rise : (b : Base) → RootsRiseToCutsAbove
roots_rise b root above = higher_is b root above

-- Own work stands once after each step.
use Rattle.std.proofs.Common.{◌≡◌, ℕ, zero, suc, ◌+◌, ◌≤◌, ◌⊎◌, inl, inr, List, [], ◌∷◌, ◌++◌, length, map, refl, sym, ◌∙◌, ap, subst, arith}
use Rattle.std.specs.Prelude.{Some, None, Contains, All, slice_get}
use Rattle.std.proofs.lemmas.List.{length-map}
use Rattle.std.proofs.lemmas.List.Elements.{Contains-append_left, Contains-append_right, Contains-append_cases}
use Rattle.pad_text.specs.Text.{IsText}
use Rattle.pad_text.specs.declared.name.Name.{Name}
use Rattle.pad_patch.specs.declared.patch.Patch.{Patch}
use Rattle.pad_patch.specs.Piece.{inserted, text_after}
use Rattle.pad_patch.specs.Inverse.{inverse}
use Rattle.pad_patch.specs.Misfit.{CanApply}
use Rattle.pad_patch.proofs.CallerLemmas.{text_after-inverse, CanApply-inverse_all, texts-inverse}
use Rattle.pad_transform.specs.Carried.{BothApply}
use Rattle.pad_stroke.specs.declared.mark.Mark.{Mark}
use Rattle.pad_stroke.specs.Work.{Marked, moved_to}
use Rattle.pad_stroke.specs.Row.{Row, no_marks, row_after, shown_row, IsRemovedFrom}
use Rattle.pad_stroke.specs.InTurn.{in_turn}
use Rattle.pad_stroke.specs.Through.{carried}
use Rattle.pad_stroke.specs.Strip.{stripped}
use Rattle.pad_stroke.proofs.CallerLemmas.{CanApply-moved_to, carried_applies, carried_marks, stripped_applies, stripped_counted, stripped_marks, marks_come_from_either, second_marks_stay}
use Rattle.pad_row.specs.Laws.{IsCounted, InTurnOn, how_often}
use Rattle.pad_row.specs.Own.{StandsOnce, IsOn, IsSent, IsTyped, OwnReverted, OwnApplied, OtherReverted, OtherApplied, Edited, TypedOnce, MadeIsSent, SentStays, Adopted, NothingTyped}
use Rattle.pad_row.proofs.Counts.{among, none_counted, counted_there, how_often-append}
use Rattle.pad_row.proofs.Works.{first_marks_stay, turn_removes, turn_applies, turn_counted, turn_counts, carried_removes_row, carried_back_removes, carried_counted, stripped_removes_row, stripped_counts}

at_most_one : (a b c : ℕ) → c ≤ a + b → a ≤ 1 → b ≤ 1 → (a ≡ 0) ⊎ (b ≡ 0) → c ≤ 1
at_most_one a b c sum first second (inl none) = omega (arith, sum, second, none)
at_most_one a b c sum first second (inr none) = omega (arith, sum, first, none)

no_more : (a b c : ℕ) → c ≡ a + b → c ≤ 1 → b ≤ 1
no_more a b c sum one = omega (arith, sum, one)

pub own_reverted : OwnReverted
own_reverted gone typed sent text row own work is_sent stands =
    let size = length text in
    let both = in_turn own work size in
    let turns : InTurnOn own work text row = record {
      long = is_sent.on.long;
      first_applies = is_sent.on.applies;
      second_applies = stands.applies;
      first_counted = is_sent.counted;
      second_counted = stands.counted;
    } in
    record {
      applies = turn_applies own work text row turns;
      counted = turn_counted own work size;
      single = λ mark typed_mark. at_most_one (how_often mark own.marks) (how_often mark work.marks) (how_often mark both.marks)
          (turn_counts own work text row mark turns) (is_sent.single mark typed_mark) (stands.single mark typed_mark)
          (elim (among own.marks mark) [
            | inl of_own ↦ inr (none_counted work.marks mark (λ of_work. stands.apart mark typed_mark of_work (Contains-append_left own.marks sent mark of_own)))
            | inr none ↦ inl (none_counted own.marks mark none)
          ]);
      single_sent = λ mark typed_mark. no_more (how_often mark own.marks) (how_often mark sent) (how_often mark (own.marks ++ sent)) (how_often-append mark own.marks sent) (stands.single_sent mark typed_mark);
      apart = λ mark typed_mark contains below. elim (marks_come_from_either own work size mark is_sent.counted stands.counted contains) [
        | inl of_own ↦ is_sent.once mark typed_mark of_own below
        | inr of_work ↦ stands.apart mark typed_mark of_work (Contains-append_right own.marks sent mark below)
      ];
      there = λ mark typed_mark. elim (stands.there mark typed_mark) [
        | inl of_work ↦ inl (second_marks_stay own work size mark stands.counted of_work)
        | inr later ↦ elim later [
          | inl above ↦ elim (Contains-append_cases own.marks sent mark above) [
            | inl of_own ↦ elim (first_marks_stay own work text row mark turns of_own) [
              | inl stays ↦ inl stays
              | inr removed ↦ inr (inr (stands.removed mark typed_mark removed))
            ]
            | inr below ↦ inr (inl below)
          ]
          | inr lost ↦ inr (inr lost)
        ]
      ];
      removed = λ mark typed_mark removed. elim (turn_removes own work text row mark turns removed) [
        | inl by_own ↦ is_sent.removed mark typed_mark by_own
        | inr by_work ↦ stands.removed mark typed_mark by_work
      ];
    }

equal_less : {a b : ℕ} → a ≡ b → a ≤ b
equal_less same = omega (arith, same)

fewer : (a b c : ℕ) → c ≡ a → a ≤ b → b ≤ 1 → c ≤ 1
fewer a b c same less one = omega (arith, same, less, one)

pub own_applied : OwnApplied
own_applied gone typed sent text row own work after is_sent stands =
    let thin = stripped work own in
    let there = carried thin own.patch after in
    let both : BothApply thin.patch own.patch text = record {
      is_text = is_sent.on.is_text;
      patch_applies = stripped_applies work own text stands.applies;
      other_applies = is_sent.on.applies;
    } in
    let same = carried_marks thin own.patch after in
    let found : (mark : Mark) → Contains there.marks mark → Contains thin.marks mark = λ mark contains. subst (λ marks. Contains marks mark) same contains in
    let stays : (mark : Mark) → Contains thin.marks mark → Contains there.marks mark = λ mark contains. subst (λ marks. Contains marks mark) (sym same) contains in
    record {
      applies = carried_applies thin own.patch after text is_sent.on.texts both;
      counted = carried_counted thin own.patch after (stripped_counted work own stands.counted);
      single = λ mark typed_mark. fewer (how_often mark thin.marks) (how_often mark work.marks) (how_often mark there.marks)
          (ap (how_often mark) same) (stripped_counts work own mark) (stands.single mark typed_mark);
      single_sent = λ mark typed_mark. at_most_one (how_often mark own.marks) (how_often mark sent) (how_often mark (own.marks ++ sent)) (equal_less (how_often-append mark own.marks sent))
          (is_sent.single mark typed_mark) (stands.single_sent mark typed_mark)
          (elim (among own.marks mark) [
            | inl of_own ↦ inr (none_counted sent mark (is_sent.once mark typed_mark of_own))
            | inr none ↦ inl (none_counted own.marks mark none)
          ]);
      apart = λ mark typed_mark contains above.
          let left = (stripped_marks work own mark).0 (found mark contains) in
          elim (Contains-append_cases own.marks sent mark above) [
            | inl of_own ↦ left.1 of_own
            | inr below ↦ stands.apart mark typed_mark left.0 below
          ];
      there = λ mark typed_mark. elim (stands.there mark typed_mark) [
        | inl of_work ↦ elim (among own.marks mark) [
          | inl of_own ↦ inr (inl (Contains-append_left own.marks sent mark of_own))
          | inr none ↦ inl (stays mark ((stripped_marks work own mark).1 (of_work, none)))
        ]
        | inr later ↦ elim later [
          | inl below ↦ inr (inl (Contains-append_right own.marks sent mark below))
          | inr lost ↦ inr (inr lost)
        ]
      ];
      removed = λ mark typed_mark removed. stands.removed mark typed_mark
          (stripped_removes_row work own row mark
          (carried_removes_row thin own.patch after text row (map Some own.marks) mark is_sent.on.long (length-map own.marks Some ∙ is_sent.counted) both removed));
    }

pub other_applied : OtherApplied
other_applied gone typed sent text row entries by work after on counted stands =
    let both : BothApply work.patch by text = record { is_text = on.is_text; patch_applies = stands.applies; other_applies = on.applies } in
    let same = carried_marks work by after in
    record {
      applies = carried_applies work by after text on.texts both;
      counted = carried_counted work by after stands.counted;
      single = λ mark typed_mark. subst (λ marks. how_often mark marks ≤ 1) (sym same) (stands.single mark typed_mark);
      single_sent = stands.single_sent;
      apart = λ mark typed_mark contains. stands.apart mark typed_mark (subst (λ marks. Contains marks mark) same contains);
      there = λ mark typed_mark. elim (stands.there mark typed_mark) [
        | inl of_work ↦ inl (subst (λ marks. Contains marks mark) (sym same) of_work)
        | inr later ↦ inr later
      ];
      removed = λ mark typed_mark removed. stands.removed mark typed_mark (carried_removes_row work by after text row entries mark on.long counted both removed);
    }

pub other_reverted : OtherReverted
other_reverted gone typed sent text row entries by work after on counted stands =
    let back = inverse by text in
    let changed = text_after by text in
    let both : BothApply work.patch back changed = record {
      is_text = on.is_text_after;
      patch_applies = stands.applies;
      other_applies = CanApply-inverse_all by text on.is_text on.texts on.applies;
    } in
    let same = carried_marks work back after in
    let again : text_after back changed ≡ text = text_after-inverse by text on.applies.ordered on.applies.inside in
    record {
      applies = subst (CanApply (carried work back after).patch) again (carried_applies work back after changed (texts-inverse by text on.is_text on.applies) both);
      counted = carried_counted work back after stands.counted;
      single = λ mark typed_mark. subst (λ marks. how_often mark marks ≤ 1) (sym same) (stands.single mark typed_mark);
      single_sent = stands.single_sent;
      apart = λ mark typed_mark contains. stands.apart mark typed_mark (subst (λ marks. Contains marks mark) same contains);
      there = λ mark typed_mark. elim (stands.there mark typed_mark) [
        | inl of_work ↦ inl (subst (λ marks. Contains marks mark) (sym same) of_work)
        | inr later ↦ inr later
      ];
      removed = λ mark typed_mark removed. stands.removed mark typed_mark (carried_back_removes work by after text row entries mark on.long counted on.applies both removed);
    }

sum_first : (a b c : ℕ) → c ≤ a + b → a ≡ 0 → b ≤ 1 → c ≤ 1
sum_first a b c sum none few = omega (arith, sum, none, few)

sum_second : (a b c : ℕ) → c ≤ a + b → b ≡ 0 → a ≤ 1 → c ≤ 1
sum_second a b c sum none few = omega (arith, sum, none, few)

new_or_not : (work edit : Marked) (mark : Mark) → Contains edit.marks mark ⊎ ¬ (Contains edit.marks mark) → (Contains edit.marks mark → ¬ (Contains work.marks mark)) → (c : ℕ)
    → c ≤ how_often mark work.marks + how_often mark edit.marks → how_often mark edit.marks ≤ 1 → (¬ (Contains edit.marks mark) → how_often mark work.marks ≤ 1) → c ≤ 1
new_or_not work edit mark (inl new) apart c sum few old = sum_first (how_often mark work.marks) (how_often mark edit.marks) c sum (none_counted work.marks mark (apart new)) few
new_or_not work edit mark (inr none) apart c sum few old = sum_second (how_often mark work.marks) (how_often mark edit.marks) c sum (none_counted edit.marks mark none) (old none)

few_none : (a : ℕ) → a ≡ 0 → a ≤ 1
few_none a none = omega (arith, none)

pub edited : Edited
edited gone typed new_gone new_typed sent text row work edit is stands =
    let size = length text in
    let both = in_turn work edit size in
    let turns = is.in_turn_on in
    record {
      applies = turn_applies work edit text row turns;
      counted = turn_counted work edit size;
      single = λ mark typed_mark.
          let sum = turn_counts work edit text row mark turns in
          elim (is.old_or_new mark typed_mark) [
            | inl old ↦ new_or_not work edit mark (among edit.marks mark) (is.not_in_work mark) (how_often mark both.marks) sum (is.once mark) (λ none. stands.single mark old)
            | inr new ↦ sum_first (how_often mark work.marks) (how_often mark edit.marks) (how_often mark both.marks) sum (none_counted work.marks mark (is.not_in_work mark new)) (is.once mark)
          ];
      single_sent = λ mark typed_mark. elim (is.old_or_new mark typed_mark) [
        | inl old ↦ stands.single_sent mark old
        | inr new ↦ few_none (how_often mark sent) (none_counted sent mark (is.not_sent mark new))
      ];
      apart = λ mark typed_mark contains below. elim (marks_come_from_either work edit size mark turns.first_counted turns.second_counted contains) [
        | inl of_work ↦ elim (is.old_or_new mark typed_mark) [
          | inl old ↦ stands.apart mark old of_work below
          | inr new ↦ is.not_in_work mark new of_work
        ]
        | inr of_edit ↦ is.not_sent mark of_edit below
      ];
      there = λ mark typed_mark. elim (is.old_or_new mark typed_mark) [
        | inl old ↦ elim (stands.there mark old) [
          | inl of_work ↦ elim (first_marks_stay work edit text row mark turns of_work) [
            | inl stays ↦ inl stays
            | inr removed ↦ inr (inr (is.lost mark removed))
          ]
          | inr later ↦ elim later [
            | inl below ↦ inr (inl below)
            | inr lost ↦ inr (inr (is.grows mark lost))
          ]
        ]
        | inr new ↦ inl (second_marks_stay work edit size mark turns.second_counted new)
      ];
      removed = λ mark typed_mark removed. elim (turn_removes work edit text row mark turns removed) [
        | inl by_work ↦ elim (is.old_or_new mark typed_mark) [
          | inl old ↦ is.grows mark (stands.removed mark old by_work)
          | inr new ↦ absurd (is.not_in_row mark by_work.0 new by_work.2)
        ]
        | inr by_edit ↦ is.lost mark by_edit
      ];
    }

exactly_one : (a : ℕ) → a ≤ 1 → 1 ≤ a → a ≡ 1
exactly_one a most least = omega (arith, most, least)

pub typed_once : TypedOnce
typed_once gone typed sent text row work mark stands typed_mark =
    let both = work.marks ++ sent in
    let most : how_often mark both ≤ 1 = at_most_one (how_often mark work.marks) (how_often mark sent) (how_often mark both) (equal_less (how_often-append mark work.marks sent))
    (stands.single mark typed_mark) (stands.single_sent mark typed_mark)
    (elim (among work.marks mark) [
      | inl of_work ↦ inr (none_counted sent mark (stands.apart mark typed_mark of_work))
      | inr none ↦ inl (none_counted work.marks mark none)
    ]) in (
      most,
      λ kept. exactly_one (how_often mark both) most (counted_there both mark (elim (stands.there mark typed_mark) [
        | inl of_work ↦ Contains-append_left work.marks sent mark of_work
        | inr later ↦ elim later [ inl below ↦ Contains-append_right work.marks sent mark below | inr lost ↦ absurd (kept lost) ]
      ])),
    )

pub made_is_sent : MadeIsSent
made_is_sent gone typed sent text row work stands on = record {
  on = on;
  counted = stands.counted;
  removed = stands.removed;
  single = stands.single;
  once = stands.apart;
}

pub sent_stays : SentStays
sent_stays gone typed new_gone new_typed new sent text row own is grows old_or_new not_own not_in_row = record {
  on = is.on;
  counted = is.counted;
  removed = λ mark typed_mark removed. elim (old_or_new mark typed_mark) [
    | inl old ↦ grows mark (is.removed mark old removed)
    | inr fresh ↦ absurd (not_in_row mark removed.0 fresh removed.2)
  ];
  single = λ mark typed_mark. elim (old_or_new mark typed_mark) [
    | inl old ↦ is.single mark old
    | inr fresh ↦ few_none (how_often mark own.marks) (none_counted own.marks mark (not_own mark fresh))
  ];
  once = λ mark typed_mark of_own. elim (old_or_new mark typed_mark) [
    | inl old ↦ is.once mark old of_own
    | inr fresh ↦ absurd (not_own mark fresh of_own)
  ];
}

unmarked : (size place : ℕ) (mark : Mark) → slice_get (no_marks size) place ≡ Some (Some mark) → ⊥
unmarked zero place mark is = cc
unmarked (suc size) zero mark is = let never : None ≡ Some mark = cc in cc
unmarked (suc size) (suc place) mark is = unmarked size place mark is

pub adopted : Adopted
adopted gone typed text work before stands = record {
  applies = CanApply-moved_to work before stands.applies text;
  counted = stands.counted;
  single = stands.single;
  single_sent = stands.single_sent;
  apart = stands.apart;
  there = stands.there;
  removed = λ mark typed_mark removed. absurd (unmarked (length text) removed.0 mark removed.2);
}

none_typed : (mark : Mark) → Contains [] mark → ⊥
none_typed mark (k, below, is) = omega arith

pub nothing_typed : NothingTyped
nothing_typed gone sent text row work can counted = record {
  applies = can;
  counted = counted;
  single = λ mark typed_mark. absurd (none_typed mark typed_mark);
  single_sent = λ mark typed_mark. absurd (none_typed mark typed_mark);
  apart = λ mark typed_mark. absurd (none_typed mark typed_mark);
  there = λ mark typed_mark. absurd (none_typed mark typed_mark);
  removed = λ mark typed_mark. absurd (none_typed mark typed_mark);
}

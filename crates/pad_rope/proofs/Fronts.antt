-- The front of a text up to a place with a saved hasher.
use Rattle.std.proofs.Common.{◌≡◌, ℕ, ◌-◌, ◌<◌, ◌≤◌, List, ◌++◌, length, take, drop, refl, sym, ◌∙◌, ap, subst, arith, Global}
use Rattle.std.specs.declared.rc.Rc.{Rc}
use Rattle.std.proofs.lemmas.List.{take_all, take-append-drop, length-take-le, take-append-le}
use Rattle.std.proofs.Math.Seq.{take-take}
use Rattle.sha2.specs.declared.Sha256.{Sha256}
use Rattle.sha2.specs.Hashers.{Holds256}
use Rattle.pad_text.specs.Text.{IsText, CutsPair, utf8}
use Rattle.pad_text.proofs.CallerLemmas.{IsText-take, IsText-between}
use Rattle.pad_patch.specs.UnitStore.{IsRange, between}
use Rattle.pad_text.proofs.CallerLemmas.{end-cuts_none}
use Rattle.pad_rope.proofs.Ranges.{between-append}
use Rattle.pad_rope.specs.declared.saved.Saved.{Saved, After'}
use Rattle.pad_rope.specs.declared.saved.Saved.TheVariants.{Start}
use Rattle.pad_rope.specs.Inside.Saved.{IsSaved, AreSaved, newest_place}
use Rattle.pad_text.proofs.CallerLemmas.{utf8-append}

-- a front of a front
take-front : (n m : ℕ) (us : List ℕ) → n ≤ m → m ≤ length us → take n (take m us) ≡ take n us
take-front n m us less inside =
    let low : n ≤ length (take m us) = subst (λ k. n ≤ k) (sym (length-take-le m us inside)) less in
    sym (take-append-le n (take m us) (drop m us) low) ∙ ap (take n) (take-append-drop m us)

-- no pair is cut behind a front that is a text
front-whole : (us : List ℕ) (place : ℕ) → IsText (take place us) → place ≤ length us → ¬ (CutsPair us place)
front-whole us place text inside cut =
    end-cuts_none (take place us) (drop place us) text
    (subst (λ xs. CutsPair xs (length (take place us))) (sym (take-append-drop place us))
    (subst (CutsPair us) (sym (length-take-le place us inside)) cut))

pub rest-range : (us : List ℕ) (place : ℕ) (hasher : Sha256) → IsSaved us place hasher → IsRange us place (length us)
rest-range us place hasher saved = record {
  ordered = saved.inside;
  inside = omega arith;
  starts_whole = front-whole us place saved.text saved.inside;
  ends_whole = λ cut. let before : length us < length us = cut.before_end in absurd (omega arith);
}

pub next-range : (us : List ℕ) (place next : ℕ) (hasher : Sha256) → IsSaved us place hasher → place ≤ next → next ≤ length us → ¬ (CutsPair us next)
    → IsRange us place next
next-range us place next hasher saved order inside whole = record {
  ordered = order;
  inside = inside;
  starts_whole = front-whole us place saved.text saved.inside;
  ends_whole = whole;
}

between-zero : (n : ℕ) (us : List ℕ) → between 0 n us ≡ take n us
between-zero n us = let same : n - 0 ≡ n = omega arith in ap (λ m. take m us) same

-- the bytes of a longer front
pub front-more : (us : List ℕ) (place next : ℕ) → IsText us → IsText (take place us) → IsRange us place next
    → utf8 (take place us) ++ utf8 (between place next us) ≡ utf8 (take next us)
front-more us place next text front range =
    let back : IsText (between place next us) = IsText-between us place next text range.ordered range.starts_whole range.ends_whole in
    let zero_less : 0 ≤ place = omega arith in
    sym (utf8-append (take place us) (between place next us) front back)
    ∙ ap utf8 (ap (λ xs. xs ++ between place next us) (sym (between-zero place us)) ∙ (between-append 0 place next us zero_less range.ordered ∙ between-zero next us))

pub front-rest : (us : List ℕ) (place : ℕ) (hasher : Sha256) → IsText us → IsSaved us place hasher
    → utf8 (take place us) ++ utf8 (between place (length us) us) ≡ utf8 us
front-rest us place hasher text saved =
    front-more us place (length us) text saved.text (rest-range us place hasher saved)
    ∙ ap utf8 (take_all (length us) us (omega arith))

-- what is saved of a text is saved of a longer front of it
AreSaved-front : (saved : Saved) (us : List ℕ) (next : ℕ) → AreSaved us saved → newest_place saved ≤ next → next ≤ length us → AreSaved (take next us) saved
AreSaved-front Start us next is order inside = tt
AreSaved-front (After' place hasher p earlier) us next is order inside =
    let same : take place (take next us) ≡ take place us = take-front place next us order inside in (
      record {
        inside = subst (λ n. place ≤ n) (sym (length-take-le next us inside)) order;
        text = subst IsText (sym same) is.0.text;
        holds = subst (λ xs. Holds256 hasher (utf8 xs)) (sym same) is.0.holds;
      },
      subst (λ xs. AreSaved xs earlier) (sym same) is.1,
    )

-- one more saved hasher
pub AreSaved-more : (saved : Saved) (us : List ℕ) (before hasher : Sha256) (place next : ℕ) → IsText us → AreSaved us saved
    → place ≡ newest_place saved → IsSaved us place before → IsRange us place next
    → Holds256 hasher (utf8 (take place us) ++ utf8 (between place next us))
    → IsSaved us next hasher × AreSaved (take next us) saved
AreSaved-more saved us before hasher place next text are at is range holds = (
  record {
    inside = range.inside;
    text = IsText-take us next text range.ends_whole;
    holds = subst (Holds256 hasher) (front-more us place next text is.text range) holds;
  },
  AreSaved-front saved us next are (subst (λ n. n ≤ next) at range.ordered) range.inside,
)

-- the hashers serve texts that begin as this one does up to the place
pub record Serves (place : ℕ) (before : List ℕ) (kept : Saved) : Type 0 where
  pub front : List ℕ
  pub are : AreSaved front kept
  pub alike : take place front ≡ take place before

pub serves_first : (place : ℕ) (before : List ℕ) (kept : Saved) → AreSaved before kept → Serves place before kept
serves_first place before kept are = record { front = before; are = are; alike = refl }

-- so do the earlier ones
pub serves_earlier : (place last : ℕ) (before : List ℕ) (hasher : Sha256) (p : Rc (Unit {0}) Global) (earlier : Saved) → place ≤ last
    → Serves place before (After' last hasher p earlier) → Serves place before earlier
serves_earlier place last before hasher p earlier less serves = record {
  front = take last serves.front;
  are = serves.are.1;
  alike = take-take place last serves.front less ∙ serves.alike;
}

-- they are saved of such a text where none of them stands after the place
pub serves_after : (place : ℕ) (before after : List ℕ) (kept : Saved) → newest_place kept ≤ place → Serves place before kept
    → place ≤ length after → take place before ≡ take place after → AreSaved after kept
serves_after place before after Start low serves inside alike = tt
serves_after place before after (After' last hasher p earlier) low serves inside alike =
    let same : take last serves.front ≡ take last after =
    sym (take-take last place serves.front low) ∙ (ap (take last) (serves.alike ∙ alike) ∙ take-take last place after low) in (
      record {
        inside = omega arith;
        text = subst IsText same serves.are.0.text;
        holds = subst (λ xs. Holds256 hasher (utf8 xs)) same serves.are.0.holds;
      },
      subst (λ xs. AreSaved xs earlier) same serves.are.1,
    )

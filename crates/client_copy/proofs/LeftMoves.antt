-- Moves that fit a text one after another.
use Rattle.std.proofs.Common.{◌≡◌, inl, inr, ℕ, ◌+◌, ◌<◌, ◌≤◌, true, List, [], ◌∷◌, ◌++◌, length, drop, get_or, sym, ap, subst, ◌∙◌, arith}
use Rattle.std.specs.Prelude.{◌↔◌}
use Rattle.std.proofs.lemmas.List.{drop_more, drop_all, append-nil}
use Rattle.pad_text.specs.Hash.{document_hash}
use Rattle.pad_patch.specs.declared.patch.Patch.{Patch}
use Rattle.pad_patch.specs.Piece.{text_after}
use Rattle.pad_patch.specs.Misfit.{CanApply, Fits, longest_text}
use Rattle.pad_patch.specs.declared.misfit.Misfit.TheVariants.{Order, Range, Pair, TooLong, BeforeHash}
use Rattle.pad_branch.specs.declared.moved.Move.{Move}
use Rattle.pad_chain.specs.declared.moved.Moved.{Moved}
use Rattle.pad_chain.specs.Leads.{MoveFits, Leads}
use Rattle.client_work.specs.Carrying.{all_moves}
use Rattle.pad_message.specs.Kind.{is_checkpoint}
use Rattle.pad_chain.proofs.CallerLemmas.{name_dec}

-- so many moves are left, on the text after the others
abbrev pub LeftFrom : List Move → List Move → List ℕ → List ℕ → Type 0
LeftFrom moves rest units first = (to : List ℕ) (more : List Move) → Leads (rest ++ more) units to ↔ Leads (moves ++ more) first to

pub left_next : (moves : List Move) (place : ℕ) (step : Move) (units first after : List ℕ) → place < length moves → step ≡ get_or moves place step → LeftFrom moves (drop place moves) units first
    → MoveFits step units → after ≡ text_after step.patch units → LeftFrom moves (drop (place + 1) moves) after first
left_next moves place step units first after within is left fits after_is to more =
    let rest : List Move = drop (place + 1) moves in
    let turn : LeftFrom moves (step ∷ rest) units first = subst (λ (ms : List Move). LeftFrom moves ms units first) (drop_more moves place step within ∙ ap (λ (m : Move). m ∷ rest) (sym is)) left in (
      λ leads. (turn to more).0 (fits, subst (λ (u : List ℕ). Leads (rest ++ more) u to) after_is leads),
      λ leads. subst (λ (u : List ℕ). Leads (rest ++ more) u to) (sym after_is) ((turn to more).1 leads).1,
    )

-- a move that does not fit leads nowhere
pub left_none : (moves : List Move) (place : ℕ) (step : Move) (units first : List ℕ) → place < length moves → step ≡ get_or moves place step → LeftFrom moves (drop place moves) units first
    → ¬ (MoveFits step units) → (to : List ℕ) (more : List Move) → ¬ (Leads (moves ++ more) first to)
left_none moves place step units first within is left misfit to more leads =
    let rest : List Move = drop (place + 1) moves in
    let turn : LeftFrom moves (step ∷ rest) units first = subst (λ (ms : List Move). LeftFrom moves ms units first) (drop_more moves place step within ∙ ap (λ (m : Move). m ∷ rest) (sym is)) left in
    misfit ((turn to more).1 leads).0

-- no move is left
pub left_all : (moves : List Move) (place : ℕ) (units first : List ℕ) → length moves ≤ place → LeftFrom moves (drop place moves) units first → LeftFrom moves [] units first
left_all moves place units first all left = subst (λ (ms : List Move). LeftFrom moves ms units first) (drop_all place moves all) left

-- ---- a move that fits

made_for : (patch : Patch) (units : List ℕ) → Fits patch units → patch.before ≡ document_hash units
unfolding Fits
made_for patch units fits = elim (name_dec patch.before (document_hash units)) [ inl same ↦ same | inr other ↦ absurd (fits BeforeHash other) ]

short_after : (patch : Patch) (units : List ℕ) → Fits patch units → length (text_after patch units) ≤ longest_text
unfolding Fits
short_after patch units fits = let short : ¬ (longest_text < length (text_after patch units)) = fits TooLong in omega (arith, short)

pub move_fits : (step : Move) (units : List ℕ) → CanApply step.patch units → Fits step.patch units → (is_checkpoint step.kind ≡ true → text_after step.patch units ≡ units) → MoveFits step units
move_fits step units applies fits whole =
    record { applies = applies; made = made_for step.patch units fits; short = short_after step.patch units fits; whole = whole }

pub fits_of : (step : Move) (units : List ℕ) → MoveFits step units → Fits step.patch units
unfolding Fits
fits_of step units fits (Order index) is = fits.applies.ordered index is
fits_of step units fits (Range index) is = fits.applies.inside index is
fits_of step units fits (Pair index) is = fits.applies.whole index is
fits_of step units fits TooLong is = absurd (omega (arith, is, fits.short))
fits_of step units fits BeforeHash is = is fits.made

-- ---- moves and then others

-- they lead to the end, and to no other text
pub leads_when : (back on : List Move) (from fork end : List ℕ) → LeftFrom back [] fork from → LeftFrom on [] end fork → (to : List ℕ) → (end ≡ to) ↔ Leads (back ++ on) from to
leads_when back on from fork end first second to = (
  λ same. (first to on).0 (subst (λ (ms : List Move). Leads ms fork to) (append-nil on) ((second to []).0 same)),
  λ leads. (second to []).1 (subst (λ (ms : List Move). Leads ms fork to) (sym (append-nil on)) ((first to on).1 leads)),
)

-- the others do not fit
pub leads_not : (back on : List Move) (from fork to : List ℕ) → LeftFrom back [] fork from → ((end : List ℕ) (more : List Move) → ¬ (Leads (on ++ more) fork end)) → ¬ (Leads (back ++ on) from to)
leads_not back on from fork to first none leads = none to [] (subst (λ (ms : List Move). Leads ms fork to) (sym (append-nil on)) ((first to on).1 leads))

-- the moves were tried, on another list, text and end that are the same
pub tried : (back on : List Move) (moved : Moved) (from at end to : List ℕ) → back ≡ moved.reverted → on ≡ moved.applied → from ≡ at → end ≡ to → Leads (back ++ on) from end → Leads (all_moves moved) at to
tried back on moved from at end to is_back is_on is_at is_to leads =
    subst (λ (t : List ℕ). Leads (all_moves moved) at t) is_to (subst (λ (t : List ℕ). Leads (all_moves moved) t end) is_at
    (subst (λ (ms : List Move). Leads (moved.reverted ++ ms) from end) is_on (subst (λ (ms : List Move). Leads (ms ++ on) from end) is_back leads)))

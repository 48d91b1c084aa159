-- Moves that lead from one text to another.
use Rattle.std.proofs.Common.{◌≡◌, ◌≢◌, ◌⊎◌, inl, inr, ℕ, zero, suc, ◌+◌, ◌-◌, ◌<◌, ◌≤◌, List, [], ◌∷◌, ◌++◌, length, take, drop, map, reverse, Option, refl, sym, ap, ap₂, ◌∙◌, subst, arith, append-nil, append_assoc, take-append-drop}
use Rattle.std.specs.List.{flat_map}
use Rattle.std.proofs.lemmas.List.{reverse-append, map-append}
use Rattle.pad_text.specs.declared.name.Name.{Name}
use Rattle.pad_text.specs.Hash.{document_hash}
use Rattle.pad_patch.specs.declared.patch.Patch.{Patch}
use Rattle.pad_patch.specs.declared.misfit.Misfit.TheVariants.{Order, Range, Pair, TooLong, BeforeHash}
use Rattle.pad_patch.specs.Piece.{pieces_from, text_after}
use Rattle.pad_patch.specs.Misfit.{CanApply, Fits, longest_text}
use Rattle.pad_patch.proofs.CallerLemmas.{units_of_piece, text_after-copy}
use Rattle.pad_message.specs.declared.message.Message.{Message}
use Rattle.pad_model.specs.declared.base.Base.{Base}
use Rattle.pad_model.specs.Sound.{IsSound}
use Rattle.pad_model.specs.Path.{text, EachSound}
use Rattle.pad_branch.specs.declared.held.Held.{Held}
use Rattle.pad_branch.specs.declared.moved.Move.{Move}
use Rattle.pad_branch.specs.declared.tip.Tip.{Tip}
use Rattle.pad_branch.specs.declared.undo.Undo.{Undo}
use Rattle.pad_branch.specs.Tip.{tip_after}
use Rattle.pad_branch.specs.Undo.{Rewinds, AreUndos, undone, undone_name}
use Rattle.pad_branch.specs.Held.{HoldsKept, messages_at}
use Rattle.pad_branch.specs.Move.{move_back, move_on}
use Rattle.pad_branch.specs.Branch.{State, IsTrunk, IsWon, CanSwitch, LeadsTo, text_below}
use Rattle.pad_chain.specs.declared.moved.Moved.{Moved}
use Rattle.pad_chain.specs.Leads.{MoveFits, Leads}
use Rattle.pad_chain.proofs.Names.{name_dec}
use Rattle.pad_chain.proofs.FromPaths.{drop_first, twice_reversed, held_message, are_undos, firsts, on_is}

-- ---- a patch that fits

module _ (p : Patch) (t : List ℕ) (fits : Fits p t) where
  can_apply : CanApply p t
  unfolding Fits
  can_apply = record { ordered = λ i h. fits (Order i) h; inside = λ i h. fits (Range i) h; whole = λ i h. fits (Pair i) h }

  made_for : p.before ≡ document_hash t
  unfolding Fits
  made_for = go (name_dec p.before (document_hash t))
    where
      go : (p.before ≡ document_hash t) ⊎ (p.before ≢ document_hash t) → p.before ≡ document_hash t
      go (inl e) = e
      go (inr n) = absurd (fits BeforeHash n)

  short_after : length (text_after p t) ≤ longest_text
  unfolding Fits
  short_after = let n : ¬ (longest_text < length (text_after p t)) = fits TooLong in omega (arith, n)

-- ---- a patch that puts the whole text in its own place

copied : (t : List ℕ) → flat_map (units_of_piece t) (pieces_from 0 (length t) (record { offset = 0; remove = length t; insert = t } ∷ [])) ≡ t
copied t =
    let none : length t - (0 + length t) ≡ 0 = omega arith in
    ap (λ k. t ++ (take k (drop (0 + length t) t) ++ [])) none ∙ append-nil t

whole_stays : (p : Patch) (t : List ℕ) → p.ops ≡ record { offset = 0; remove = length t; insert = t } ∷ [] → text_after p t ≡ t
whole_stays p t e = text_after-copy p t ∙ ap (λ ops. flat_map (units_of_piece t) (pieces_from 0 (length t) ops)) e ∙ copied t

-- ---- moves in turn

-- a message that is sound on a text fits it as it comes on
on_fits : (m : Message) (distance interval : ℕ) (units : List ℕ) → IsSound m distance interval units → MoveFits (move_on m) units
on_fits m distance interval units sound = record {
  applies = can_apply m.patch units sound.fits;
  made = made_for m.patch units sound.fits;
  short = short_after m.patch units sound.fits;
  whole = λ e. whole_stays m.patch units (sound.checkpoint e).1;
}

pub leads_append : (xs ys : List Move) (from middle to : List ℕ) → Leads xs from middle → Leads ys middle to → Leads (xs ++ ys) from to
leads_append [] ys from middle to e rest = subst (λ t. Leads ys t to) (sym e) rest
leads_append (x ∷ xs) ys from middle to (fits, more) rest = (fits, leads_append xs ys (text_after x.patch from) middle to more rest)

one_more : (b : Move) (xs : List Move) (from middle to : List ℕ) → Leads xs from middle → MoveFits b middle → text_after b.patch middle ≡ to → Leads (xs ++ b ∷ []) from to
one_more b xs from middle to leads fits e = leads_append xs (b ∷ []) from middle to leads (fits, e)

short_here : (root : Tip) (low : ℕ) (us : List Undo) (units : List ℕ) → Rewinds root low us units → length units ≤ longest_text
short_here root low [] units h = h.short
short_here root low (u ∷ us) units h = h.0.short

-- undos that rewind lead back, whatever they stand for
pub leads_back : (root : Tip) (low : ℕ) (us vs : List Undo) (units : List ℕ) → Rewinds root low (us ++ vs) units → Leads (map move_back us) units (undone us units)
leads_back root low [] vs units h = refl
leads_back root low (u ∷ us) vs units (tip, fits, rest) = (
  record { applies = fits.applies; made = fits.made; short = short_here root low (us ++ vs) (text_after u.inverse units) rest; whole = fits.whole },
  leads_back root low us vs (text_after u.inverse units) rest,
)

-- messages that were applied one after another lead on, whatever they stand for
pub leads_on : (table : Name → Option Held) (units : List ℕ) (tip : Tip) (us : List Undo) (after : List ℕ) → LeadsTo table units tip us after → Leads (map move_on (messages_at table (map undone_name (reverse us)))) units after
leads_on table units tip [] after e = sym e
leads_on table units tip (u ∷ us) after (held, before, found, g, rest) = subst (λ ms. Leads ms units after) (sym moves) (one_more (move_on held.message) (map move_on (messages_at table (map undone_name (reverse us)))) units before after (leads_on table units tip us before rest) (on_fits held.message ((tip_after tip us).since + 1) (tip_after tip us).interval before g.sound) (sym g.text))
  where
    moves : map move_on (messages_at table (map undone_name (reverse (u ∷ us)))) ≡ map move_on (messages_at table (map undone_name (reverse us))) ++ move_on held.message ∷ []
    moves =
        ap (λ xs. map move_on (messages_at table (map undone_name xs))) (reverse-append (u ∷ []) us)
        ∙ ap (λ xs. map move_on (messages_at table xs)) (map-append undone_name (reverse us) (u ∷ []))
        ∙ ap (map move_on) (held_message table (map undone_name (reverse us)) (undone_name u) held found)
        ∙ map-append move_on (messages_at table (map undone_name (reverse us))) (held.message ∷ [])

module _ (b : Base) (below : List Message) where
  -- the messages of a path lead on
  pub leads_path : (above : List Message) → EachSound b (above ++ below) → Leads (map move_on (reverse above)) (text b below) (text b (above ++ below))
  leads_path [] sound = refl
  leads_path (m ∷ above) sound =
      subst (λ ms. Leads ms (text b below) (text b (m ∷ above ++ below))) (sym moves)
      (one_more (move_on m) (map move_on (reverse above)) (text b below) (text b (above ++ below)) (text b (m ∷ above ++ below)) (leads_path above sound.1) (on_fits m _ _ (text b (above ++ below)) sound.0) refl)
    where
      moves : map move_on (reverse (m ∷ above)) ≡ map move_on (reverse above) ++ move_on m ∷ []
      moves = ap (map move_on) (reverse-append (m ∷ []) above) ∙ map-append move_on (reverse above) (m ∷ [])

  -- the text where the first messages of a path were taken back
  pub text_back : (above : List Message) (us : List Undo) (units : List ℕ) (k : ℕ) → AreUndos b below above us → units ≡ text b (above ++ below) → undone (take k us) units ≡ text b (drop k above ++ below)
  text_back above us units zero h e = e
  text_back [] us units (suc k) h e = ap (λ v. undone (take (suc k) v) units) h ∙ e
  text_back (m ∷ above) us units (suc k) (undo, rest, is, takes, more) e =
      ap (λ v. undone (take (suc k) v) units) is ∙ text_back above rest (text_after undo.inverse units) k more (ap (text_after undo.inverse) e ∙ takes.undoes)

undos_sound : (b : Base) (below above : List Message) (us : List Undo) → AreUndos b below above us → EachSound b below → EachSound b (above ++ below)
undos_sound b below [] us h s = s
undos_sound b below (m ∷ above) us (undo, rest, is, takes, more) s = (takes.sound, undos_sound b below above rest more s)

-- ---- from the chosen path to a path that won

-- whatever both stand for
pub switch_leads : (branch : State) (table : Name → Option Held) (keep : ℕ) (new : List Undo) (tip : Tip) (after : List ℕ) (moved : Moved) → Rewinds branch.root branch.low (reverse branch.undos) branch.units → LeadsTo table (text_below branch keep) tip (reverse new) after
    → moved.reverted ≡ map move_back (take (length branch.undos - keep) (reverse branch.undos)) → moved.applied ≡ map move_on (messages_at table (map undone_name new)) → Leads (moved.reverted ++ moved.applied) branch.units after
switch_leads branch table keep new tip after moved rewinds leads back on =
    subst (λ ms. Leads ms branch.units after) (sym (ap₂ ◌++◌ back (on ∙ ap (λ us. map move_on (messages_at table (map undone_name us))) (sym (twice_reversed new)))))
    (leads_append (map move_back (take (length branch.undos - keep) (reverse branch.undos))) (map move_on (messages_at table (map undone_name (reverse (reverse new))))) branch.units (text_below branch keep) after
    (leads_back branch.root branch.low (take (length branch.undos - keep) (reverse branch.undos)) (drop (length branch.undos - keep) (reverse branch.undos)) branch.units (subst (λ us. Rewinds branch.root branch.low us branch.units) (sym (take-append-drop (length branch.undos - keep) (reverse branch.undos))) rewinds))
    (leads_on table (text_below branch keep) tip (reverse new) after leads))

-- ---- from a path that was tested to the chosen path

module _ (root : Tip) (height : ℕ) (undos : List Undo) (keep : ℕ) (new : List Undo) (units : List ℕ) (rewinds : Rewinds root height (reverse (take keep undos ++ new)) units) where
  pub back_to_fork : Leads (map move_back (reverse new)) units (undone (reverse new) units)
  back_to_fork = leads_back root height (reverse new) (reverse (take keep undos)) units (subst (λ us. Rewinds root height us units) (reverse-append (take keep undos) new) rewinds)

module _ (b : Base) (R root above path : List Message) (branch : State) (table : Name → Option Held) (keep : ℕ) (new : List Undo) (units : List ℕ) (trunk : IsTrunk b R root above branch) (holds : HoldsKept b R root table) (won : IsWon b R root above path branch table keep new units) (keeps : keep ≤ length branch.undos) (moved : Moved) (switch : CanSwitch branch keep new units) where
  abbrev common : List Message
  common = drop (length above - keep) above ++ root

  fork : undone (reverse new) units ≡ text b common
  fork =
      ap (λ us. undone us units) (sym (firsts b R root above path branch table keep new units trunk holds won keeps moved))
      ∙ text_back b root path (reverse new ++ reverse (take keep branch.undos)) units (length won.joined) (are_undos b R root above path branch table keep new units trunk holds won keeps moved) won.trunk.text
      ∙ ap (λ p. text b (p ++ root)) (ap (drop (length won.joined)) won.whole ∙ drop_first won.joined (drop (length above - keep) above))

  parts : take (length above - keep) above ++ common ≡ above ++ root
  parts = sym (append_assoc (take (length above - keep) above) (drop (length above - keep) above) root) ∙ ap (λ p. p ++ root) (take-append-drop (length above - keep) above)

  to_end : Leads (map move_on (reverse (take (length above - keep) above))) (text b common) branch.units
  to_end =
      subst (Leads (map move_on (reverse (take (length above - keep) above))) (text b common)) (ap (text b) parts ∙ sym trunk.text)
      (leads_path b common (take (length above - keep) above) (subst (EachSound b) (sym parts) (undos_sound b root above (reverse branch.undos) trunk.undone trunk.root_sound)))

  pub leads_from : moved.reverted ≡ map move_back (reverse new) → moved.applied ≡ map move_on (messages_at table (map undone_name (drop keep branch.undos))) → Leads (moved.reverted ++ moved.applied) units branch.units
  leads_from back on =
      subst (λ ms. Leads ms units branch.units) (sym (ap₂ ◌++◌ back (on ∙ ap (map move_on) (on_is b R root above path branch table keep new units trunk holds won keeps moved))))
      (leads_append (map move_back (reverse new)) (map move_on (reverse (take (length above - keep) above))) units (text b common) branch.units
      (subst (Leads (map move_back (reverse new)) units) fork (back_to_fork branch.root branch.low branch.undos keep new units switch.rewinds)) to_end)

-- Adoption: what is best above a checkpoint is best from the base that the checkpoint gives.
use Rattle.std.proofs.Common.{◌≡◌, ◌≢◌, ℕ, ◌+◌, ◌-◌, ◌<◌, ◌≤◌, ◌⊎◌, inl, inr, List, [], ◌∷◌, ◌++◌, length, take, drop, Contains, refl, sym, ap, ◌∙◌, subst, arith, length-append, append-nil, true}
use Rattle.std.specs.Prelude.{if◌then◌else◌}
use Rattle.std.specs.List.{flat_map}
use Rattle.std.proofs.lemmas.List.Elements.{Contains-append_right}
use Rattle.std.proofs.lemmas.Bool.{cases_lt}
use Rattle.pad_text.specs.Hash.{document_hash}
use Rattle.pad_text.specs.Name.{NameLess}
use Rattle.pad_patch.specs.declared.operation.Operation.{Operation}
use Rattle.pad_patch.specs.declared.patch.Patch.{Patch}
use Rattle.pad_patch.specs.declared.misfit.Misfit.TheVariants.{TooLong, BeforeHash}
use Rattle.pad_patch.specs.Piece.{pieces_from, text_after}
use Rattle.pad_patch.proofs.CallerLemmas.{units_of_piece, text_after-copy}
use Rattle.pad_patch.specs.Misfit.{longest_text, Fits}
use Rattle.pad_message.specs.declared.message.Message.{Message}
use Rattle.pad_message.specs.Kind.{is_checkpoint}
use Rattle.pad_message.specs.Message.{name_of}
use Rattle.pad_model.specs.declared.base.Base.{Base}
use Rattle.pad_model.specs.Sound.{interval_of, IsSound}
use Rattle.pad_model.specs.Path.{last_name, text, interval, since_checkpoint, IsLinkedPath, EachSound, NamesDiffer}
use Rattle.pad_model.specs.Best.{IsBetter}
use Rattle.pad_model.specs.Laws.{AdoptionChangesNothing, CheckpointsCanBeAdopted}
use Rattle.pad_list.proofs.CallerLemmas.{contains_head, contains_more}
use Rattle.pad_model.proofs.Chains.{linked_below, sound_below, linked_once}
use Rattle.pad_model.proofs.Decide.{name_dec}

-- ---- a patch that puts the whole text in its own place

copied : (t : List ℕ) → flat_map (units_of_piece t) (pieces_from 0 (length t) (record { offset = 0; remove = length t; insert = t } ∷ [])) ≡ t
copied t =
    let none : length t - (0 + length t) ≡ 0 = omega arith in
    ap (λ k. t ++ (take k (drop (0 + length t) t) ++ [])) none ∙ append-nil t

whole_stays : (p : Patch) (t : List ℕ) → p.ops ≡ record { offset = 0; remove = length t; insert = t } ∷ [] → text_after p t ≡ t
whole_stays p t e = text_after-copy p t ∙ ap (λ ops. flat_map (units_of_piece t) (pieces_from 0 (length t) ops)) e ∙ copied t

head_same : (x y : Operation) → x ∷ [] ≡ y ∷ [] → x ≡ y
head_same x y e = cc

inserted_same : (a b : List ℕ) (ops : List Operation) → ops ≡ record { offset = 0; remove = length a; insert = a } ∷ [] → ops ≡ record { offset = 0; remove = length b; insert = b } ∷ [] → a ≡ b
inserted_same a b ops e k =
    ap (λ (o : Operation). o.insert) (head_same (record { offset = 0; remove = length a; insert = a }) (record { offset = 0; remove = length b; insert = b }) (sym e ∙ k))

-- ---- each checkpoint of a path can be adopted

fits_short : (p : Patch) (t : List ℕ) → Fits p t → text_after p t ≡ t → length t ≤ longest_text
unfolding Fits
fits_short p t f e = go (cases_lt longest_text (length t))
  where
    go : (longest_text < length t) ⊎ (length t ≤ longest_text) → length t ≤ longest_text
    go (inl h) = absurd (f TooLong (subst (λ u. longest_text < length u) (sym e) h))
    go (inr h) = h

fits_before : (p : Patch) (t : List ℕ) → Fits p t → p.before ≡ document_hash t
unfolding Fits
fits_before p t f = go (name_dec p.before (document_hash t))
  where
    go : Dec (p.before ≡ document_hash t) → p.before ≡ document_hash t
    go (yes e) = e
    go (no k) = absurd (f BeforeHash k)

pub checkpoints_can_be_adopted : CheckpointsCanBeAdopted
checkpoints_can_be_adopted b R above below c path is_one =
    let s = (sound_below b above (c ∷ below) path.1).0 in
    let whole = (s.checkpoint is_one).1 in (
      text b below,
      record {
        checkpoint = is_one;
        whole = whole;
        short = fits_short c.patch (text b below) s.fits (whole_stays c.patch (text b below) whole);
        before = fits_before c.patch (text b below) s.fits;
      },
    )

-- ---- adoption

-- b is the old base, a the one that c gives, and c stands on the path `below`
module _ (b a : Base) (c : Message) (below : List Message) (named : a.name ≡ name_of c) (same : a.text ≡ text b (c ∷ below)) (timed : a.interval ≡ interval b (c ∷ below)) (is_one : is_checkpoint c.kind ≡ true) where
  last_shift : (x : List Message) → last_name a x ≡ last_name b (x ++ c ∷ below)
  last_shift [] = named
  last_shift (m ∷ x) = refl

  text_shift : (x : List Message) → text a x ≡ text b (x ++ c ∷ below)
  text_shift [] = same
  text_shift (m ∷ x) = ap (text_after m.patch) (text_shift x)

  since_shift : (x : List Message) → since_checkpoint x ≡ since_checkpoint (x ++ c ∷ below)
  since_shift [] = sym (ap (λ t. if t then 0 else since_checkpoint below + 1) is_one)
  since_shift (m ∷ x) = ap (λ n. if is_checkpoint m.kind then 0 else n + 1) (since_shift x)

  interval_shift : (x : List Message) → interval a x ≡ interval b (x ++ c ∷ below)
  interval_shift [] = timed
  interval_shift (m ∷ x) = ap (interval_of m.kind) (interval_shift x)

  sound_shift : (m : Message) (x : List Message) → IsSound m (since_checkpoint x + 1) (interval a x) (text a x) ≡ IsSound m (since_checkpoint (x ++ c ∷ below) + 1) (interval b (x ++ c ∷ below)) (text b (x ++ c ∷ below))
  sound_shift m x = λ i. IsSound m (since_shift x i + 1) (interval_shift x i) (text_shift x i)

  each_up : (x : List Message) → EachSound b (c ∷ below) → EachSound a x → EachSound b (x ++ c ∷ below)
  each_up [] e s = e
  each_up (m ∷ x) e s = (subst (λ A. A) (sound_shift m x) s.0, each_up x e s.1)

  each_down : (x : List Message) → EachSound b (x ++ c ∷ below) → EachSound a x
  each_down [] s = tt
  each_down (m ∷ x) s = (subst (λ A. A) (sym (sound_shift m x)) s.0, each_down x s.1)

  linked_up : (R S x : List Message) → ((m : Message) → Contains S m → Contains R m × (name_of m ≢ b.name)) → IsLinkedPath b R (c ∷ below) → IsLinkedPath a S x → IsLinkedPath b R (x ++ c ∷ below)
  linked_up R S [] sub e h = e
  linked_up R S (m ∷ x) sub e h =
      (record { member = (sub m h.0.member).0; not_base = (sub m h.0.member).1; parent = h.0.parent ∙ last_shift x }, linked_up R S x sub e h.1)

  linked_down : (R S x : List Message) → NamesDiffer R → ((m : Message) → Contains x m → Contains S m) → IsLinkedPath b R (x ++ c ∷ below) → IsLinkedPath a S x
  linked_down R S [] d sub h = tt
  linked_down R S (m ∷ x) d sub h =
      let c_in = (linked_below b R (m ∷ x) (c ∷ below) h).0.member in (
        record {
          member = sub m (contains_head m x);
          not_base = λ e. (linked_once b R (m ∷ x ++ c ∷ below) d h).0 (subst (Contains (x ++ c ∷ below)) (d c m c_in h.0.member (sym (e ∙ named))) (Contains-append_right x (c ∷ below) c (contains_head c below)));
          parent = h.0.parent ∙ sym (last_shift x);
        },
        linked_down R S x d (λ z k. sub z (contains_more m x z k)) h.1,
      )

  better_up : (x y : List Message) → IsBetter a x y → IsBetter b (x ++ c ∷ below) (y ++ c ∷ below)
  better_up x y (inl l) = inl (omega (arith, l, length-append x (c ∷ below), length-append y (c ∷ below)))
  better_up x y (inr (e, l)) = inr (omega (arith, e, length-append x (c ∷ below), length-append y (c ∷ below)), subst (λ n. NameLess n (last_name b (y ++ c ∷ below))) (last_shift x) (subst (NameLess (last_name a x)) (last_shift y) l))

pub adoption_changes_nothing : AdoptionChangesNothing
adoption_changes_nothing b a R S q below c d best gives sub all =
    let e = sound_below b q (c ∷ below) best.path.1 in
    let l = linked_below b R q (c ∷ below) best.path.0 in
    let is_one = gives.adoptable.checkpoint in
    let named = gives.named in
    let whole = (e.0.checkpoint is_one).1 in
    let same : a.text ≡ text b (c ∷ below) =
    inserted_same a.text (text b below) c.patch.ops gives.adoptable.whole whole ∙ sym (whole_stays c.patch (text b below) whole) in
    let timed : a.interval ≡ interval b (c ∷ below) = ap (λ kind. interval_of kind (interval b below)) (sym gives.timed) in (
      record {
        path = (linked_down b a c below named same timed is_one R S q d all best.path.0, each_down b a c below named same timed is_one q best.path.1);
        none_better = λ x path better. best.none_better (x ++ c ∷ below) (linked_up b a c below named same timed is_one R S x sub l path.0, each_up b a c below named same timed is_one x e path.1) (better_up b a c below named same timed is_one x q better);
      },
      text_shift b a c below named same timed is_one q,
    )

-- A path that grows by one message that is sound on it.
use Rattle.std.proofs.Common.{◌≡◌, ℕ, zero, suc, get_or, ◌+◌, ◌≤◌, ◌<◌, List, [], ◌∷◌, ◌++◌, length, map, Option, option_map, Some, None, IsSome, IsNone, All, append_assoc, refl, sym, ap, ◌∙◌, subst, arith}
use Rattle.std.specs.List.{cons_option}
use Rattle.std.proofs.lemmas.List.Elements.{filter_map-append, All-push}
use Rattle.std.specs.Option.{is_some}
use Rattle.pad_text.specs.declared.name.Name.{Name}
use Rattle.pad_text.specs.Hash.{document_hash}
use Rattle.pad_patch.specs.declared.patch.Patch.{Patch}
use Rattle.pad_patch.specs.Piece.{text_after}
use Rattle.pad_patch.specs.Inverse.{inverse}
use Rattle.pad_patch.specs.Misfit.{CanApply, Fits, longest_text}
use Rattle.pad_patch.specs.declared.misfit.Misfit.TheVariants.{TooLong}
use Rattle.pad_message.specs.declared.kind.Kind.{Kind}
use Rattle.pad_message.specs.declared.kind.Kind.TheVariants as kind
use Rattle.pad_message.specs.declared.message.Message.{Message}
use Rattle.pad_message.specs.Message.{name_of}
use Rattle.pad_model.specs.declared.base.Base.{Base}
use Rattle.pad_model.specs.Sound.{interval_of, IsSound}
use Rattle.pad_model.specs.Path.{text, IsSoundOn, EachSound}
use Rattle.pad_branch.specs.declared.held.Held.{Held}
use Rattle.pad_branch.specs.declared.tip.Tip.{Tip}
use Rattle.pad_branch.specs.declared.undo.Undo.{Undo}
use Rattle.pad_branch.specs.Tip.{IsTip, since_after, tip_after}
use Rattle.pad_branch.specs.Undo.{TakesBack, AreUndos, undone_name}
use Rattle.pad_branch.specs.Held.{message_at, messages_at}
use Rattle.pad_branch.specs.Branch.{Grows, LeadsTo}
use Rattle.pad_branch.specs.Inside.Forward.{IsAt, StopsAt}

pub short_after : (p : Patch) (t : List ℕ) → Fits p t → length (text_after p t) ≤ longest_text
unfolding Fits
short_after p t fits = let n : ¬ (longest_text < length (text_after p t)) = fits TooLong in omega (arith, n)

module _ (b : Base) (path : List Message) (units : List ℕ) (tip : Tip) (at : IsAt b path units tip) where
  pub is_sound : (m : Message) → IsSound m (tip.since + 1) tip.interval units ≡ IsSoundOn b path m
  is_sound m = λ i. IsSound m (at.tip_is.since i + 1) (at.tip_is.interval i) (at.text i)

  module _ (m : Message) (undo : Undo) (after : List ℕ) (g : Grows m units tip undo after) where
    same_text : after ≡ text b (m ∷ path)
    same_text = g.text ∙ ap (text_after m.patch) at.text

    tip_next : IsTip b (m ∷ path) undo.after
    tip_next = record {
      name = g.name;
      hash = g.hash ∙ ap document_hash same_text;
      since = g.since ∙ ap (since_after m.kind) at.tip_is.since;
      interval = g.interval ∙ ap (interval_of m.kind) at.tip_is.interval;
    }

    pub at_next : IsAt b (m ∷ path) after undo.after
    at_next = record { text = same_text; tip_is = tip_next }

    pub takes_back : TakesBack b path m undo
    takes_back = record {
      kind = g.kind;
      inverse = g.inverse ∙ ap (inverse m.patch) at.text;
      applies = subst (CanApply undo.inverse) same_text g.applies;
      undoes = ap (text_after undo.inverse) (sym same_text) ∙ g.undoes ∙ at.text;
      sound = subst (λ A. A) (is_sound m) g.sound;
      after = tip_next;
    }

pub messages_push : (table : Name → Option Held) (names : List Name) (n : Name) (held : Held) → table n ≡ Some held → messages_at table (names ++ n ∷ []) ≡ messages_at table names ++ held.message ∷ []
messages_push table names n held e = filter_map-append (message_at table) names (n ∷ []) ∙ ap (λ (o : Option Held). messages_at table names ++ cons_option (option_map (λ (h : Held). h.message) o) []) e

pub messages_next : (table : Name → Option Held) (names : List Name) (n : Name) (held : Held) → table n ≡ Some held → messages_at table (n ∷ names) ≡ held.message ∷ messages_at table names
messages_next table names n held e = ap (λ (o : Option Held). cons_option (option_map (λ (h : Held). h.message) o) (messages_at table names)) e

-- what a path of messages that were applied says of the soundness of each
pub undos_sound : (b : Base) (path above : List Message) (us : List Undo) → AreUndos b path above us → EachSound b path → EachSound b (above ++ path)
undos_sound b path [] us h s = s
undos_sound b path (m ∷ above) us h s = (h.3.sound, undos_sound b path above h.1 h.4 s)

-- ---- messages that were applied one after another

module _ (b : Base) (path : List Message) (table : Name → Option Held) (units : List ℕ) (tip : Tip) (at : IsAt b path units tip) where
  -- they stand on the path
  pub record Stand (us : List Undo) (after : List ℕ) : Type 0 where
    pub undos : AreUndos b path (messages_at table (map undone_name us)) us
    pub end : IsAt b (messages_at table (map undone_name us) ++ path) after (tip_after tip us)

  pub stand : (us : List Undo) (after : List ℕ) → LeadsTo table units tip us after → Stand us after
  stand [] after e = record { undos = refl; end = record { text = e ∙ at.text; tip_is = at.tip_is } }
  stand (u ∷ us) after (held, before, found, g, rest) =
      let s = stand us before rest in
      let q : messages_at table (map undone_name (u ∷ us)) ≡ held.message ∷ messages_at table (map undone_name us) = messages_next table (map undone_name us) u.after.name held found in
      record {
        undos = subst (λ ms. AreUndos b path ms (u ∷ us)) (sym q) (u, us, refl, takes_back b (messages_at table (map undone_name us) ++ path) before (tip_after tip us) s.end held.message u after g, s.undos);
        end = subst (λ ms. IsAt b (ms ++ path) after u.after) (sym q) (at_next b (messages_at table (map undone_name us) ++ path) before (tip_after tip us) s.end held.message u after g);
      }

-- ---- lists that end in x

pub last_of : {A : Type 0} (P : A → Type 0) (ys : List A) (x : A) → All P (ys ++ x ∷ []) → P x
last_of P [] x h = h 0 x (omega arith)
last_of P (y ∷ ys) x h = last_of P ys x (λ k d l. h (suc k) d (omega (arith, l)))

front_at : {A : Type 0} (P : A → Type 0) (ys : List A) (x : A) → All P (ys ++ x ∷ []) → (k : ℕ) (d : A) → k < length ys → P (get_or ys k d)
front_at P [] x h k d l = absurd (omega (arith, l))
front_at P (y ∷ ys) x h zero d l = h 0 d (omega arith)
front_at P (y ∷ ys) x h (suc k) d l = front_at P ys x (λ k d l. h (suc k) d (omega (arith, l))) k d (omega (arith, l))

pub front_of : {A : Type 0} (P : A → Type 0) (ys : List A) (x : A) → All P (ys ++ x ∷ []) → All P ys
front_of P ys x h = λ k d l. front_at P ys x h k d l

-- ---- one turn: the message named n stands above those of `us`, of which the newest comes first

module _ (table : Name → Option Held) (all now front : List Name) (n : Name) (held : Held) (us : List Undo) (ends : now ≡ front ++ n ∷ []) (found : table n ≡ Some held) (whole : all ≡ now ++ map undone_name us) where
  names_next : all ≡ front ++ n ∷ map undone_name us
  names_next = whole ∙ ap (λ q. q ++ map undone_name us) ends ∙ append_assoc front (n ∷ []) (map undone_name us)

  whole_next : messages_at table all ≡ messages_at table front ++ held.message ∷ messages_at table (map undone_name us)
  whole_next =
      ap (messages_at table) names_next ∙ filter_map-append (message_at table) front (n ∷ map undone_name us)
      ∙ ap (λ q. messages_at table front ++ q) (messages_next table (map undone_name us) n held found)

  pub stops_here : (units : List ℕ) (start : Tip) (after : List ℕ) (tip : Tip) → LeadsTo table units start us after → tip ≡ tip_after start us → name_of held.message ≡ n → ¬ (IsSound held.message (tip.since + 1) tip.interval after)
      → (b : Base) (path : List Message) → IsAt b path units start → StopsAt b path (messages_at table all) n
  stops_here units start after tip leads tip_is named unsound b path at =
      let s = stand b path table units start at us after leads in
      let end : IsAt b (messages_at table (map undone_name us) ++ path) after tip = subst (IsAt b (messages_at table (map undone_name us) ++ path) after) (sym tip_is) s.end in
      record {
        above = messages_at table front;
        message = held.message;
        below = messages_at table (map undone_name us);
        whole = whole_next;
        named = named;
        sound = undos_sound b path (messages_at table (map undone_name us)) us s.undos;
        unsound = λ h. unsound (subst (λ A. A) (sym (is_sound b (messages_at table (map undone_name us) ++ path) after tip end held.message)) h);
      }

  pub names_on : (u : Undo) → u.after.name ≡ n → all ≡ front ++ map undone_name (u ∷ us)
  names_on u e = names_next ∙ ap (λ x. front ++ x ∷ map undone_name us) (sym e)

pub leads_on : (table : Name → Option Held) (units : List ℕ) (start : Tip) (us : List Undo) (before : List ℕ) (tip : Tip) (held : Held) (n : Name) (u : Undo) (after : List ℕ) → LeadsTo table units start us before → tip ≡ tip_after start us → table n ≡ Some held → u.after.name ≡ n
    → Grows held.message before tip u after → LeadsTo table units start (u ∷ us) after
leads_on table units start us before tip held n u after leads tip_is found named g =
    (held, before, ap table named ∙ found, subst (λ t. Grows held.message before t u after) tip_is g, leads)

pub some_none : {A : Type 0} (o : Option A) → IsSome o → o ≡ None → ⊥
some_none None s e = cc
some_none (Some x) s e = cc

pub none_if : {A : Type 0} (o : Option A) → ((x : A) → o ≡ Some x → ⊥) → o ≡ None
none_if None h = refl
none_if (Some x) h = absurd (h x refl)

pub short_since : (kind : Kind) (n : ℕ) → since_after kind n ≤ n + 1
short_since kind.Patch n = omega arith
short_since (kind.Checkpoint i) n = omega arith

pub no_value : {A : Type 0} (o : Option A) → ((x : A) → o ≡ Some x → ⊥) → IsNone o
no_value None h = refl
no_value (Some x) h = absurd (h x refl)

-- each name has something in the table, and one more
pub all_push : (table : Name → Option Held) (names new : List Name) (at : Name) (held : Held) → new ≡ names ++ at ∷ [] → All (λ (name : Name). IsSome (table name)) names → table at ≡ Some held → All (λ (name : Name). IsSome (table name)) new
all_push table names new at held e all is = subst (All (λ (name : Name). IsSome (table name))) (sym e) (All-push (λ (name : Name). IsSome (table name)) names at all (ap is_some is))

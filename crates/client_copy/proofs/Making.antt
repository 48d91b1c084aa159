-- A work is kept as what was sent as a message.
use Rattle.std.proofs.Common.{◌≡◌, ℕ, inl, inr, Bool, true, false, cond, is_eq, List, [], ◌∷◌, refl, sym, ◌∙◌, ap, subst, true≢false, Option, Some}
use Rattle.std.specs.List.{Contains}
use Rattle.std.specs.BTreeMap.{BTreeMap, get, is_at, Updates}
use Rattle.std.specs.Cmp.Lexicographic.{texts_ties, bytes_decides}
use Rattle.std.proofs.lemmas.List.Elements.{Contains-append_left, Contains-append_cases, Contains-push}
use Rattle.pad_text.specs.declared.name.Name.{Name}
use Rattle.pad_message.specs.declared.message.Message.{Message}
use Rattle.pad_message.specs.declared.kind.Kind.{Kind}
use Rattle.pad_message.specs.declared.kind.Kind.TheVariants.{Patch}
use Rattle.pad_message.specs.Kind.{is_checkpoint}
use Rattle.pad_message.specs.Message.{name_of}
use Rattle.pad_graph.specs.State.{name_cmp}
use Rattle.pad_model.specs.declared.base.Base.{Base}
use Rattle.pad_stroke.specs.declared.mark.Mark.{Mark}
use Rattle.pad_stroke.specs.Work.{Marked}
use Rattle.pad_chain.specs.declared.moved.Moved.{Moved}
use Rattle.client_work.specs.Switch.{SentWorks, sent_as, switched}
use Rattle.client_work.specs.Carrying.{IsOwnWork, IsCarried, AreCarried}
use Rattle.client_copy.specs.Held.{IsHeldOn}
use Rattle.client_copy.specs.Pad.{Pad, committed}
use Rattle.client_copy.specs.State.{Copy}
use Rattle.client_copy.specs.Receive.{Follows}
use Rattle.client_copy.specs.Make.{sent_with, Makes}
use Rattle.client_copy.specs.View.{View, NoClash, IsBaseOf, AreSentAs, StandsAsPad, StandsAs}
use Rattle.client_copy.proofs.Behind.{ground_on}
use Rattle.client_copy.proofs.Following.{there, base_among}

equal_ties : (x y : Name) → x ≡ y → is_eq (name_cmp x y) ≡ true
equal_ties x y e = sym (texts_ties x.0 y.0) ∙ (bytes_decides x.0 y.0).1 (ap (λ (n : Name). n.0) e)

tied_same : (x y : Name) → is_eq (name_cmp x y) ≡ true → x ≡ y
tied_same x y h = ap (λ bytes. record { 0 = bytes }) ((bytes_decides x.0 y.0).0 (texts_ties x.0 y.0 ∙ h))

-- a test is the same both ways
turned : (x y : Name) → is_eq (name_cmp x y) ≡ is_eq (name_cmp y x)
turned x y = go (is_eq (name_cmp x y)) (is_eq (name_cmp y x)) refl refl
  where
    go : (a b : Bool) → is_eq (name_cmp x y) ≡ a → is_eq (name_cmp y x) ≡ b → a ≡ b
    go true true e f = refl
    go false false e f = refl
    go true false e f = absurd (true≢false (sym (equal_ties y x (sym (tied_same x y e))) ∙ f))
    go false true e f = absurd (true≢false (sym (equal_ties x y (sym (tied_same y x f))) ∙ e))

-- the table has the work in front of the others, as the list has
pub kept_as : (old new : BTreeMap Name Marked) (name : Name) (own : Marked) → Updates name_cmp old new name (Some own) → (q : Name) → sent_as new.entries q ≡ sent_as ((name, own) ∷ old.entries) q
kept_as old new name own updates q = updates.0 q ∙ ap (λ (b : Bool). cond b (Some own) (get name_cmp old q)) (turned name q)

-- in front of lists that have the same works
pub front_alike : (one other : SentWorks) (name : Name) (own : Marked) → ((q : Name) → sent_as one q ≡ sent_as other q) → (q : Name) → sent_as ((name, own) ∷ one) q ≡ sent_as ((name, own) ∷ other) q
front_alike one other name own same q = ap (λ (o : Option Marked). cond (is_at (name_cmp q) name) (Some own) o) (same q)

-- the work that is kept is of the client's own edits
front_carried : (text : List ℕ) (typed : Mark → ℕ) (strokes : ℕ) (sent : SentWorks) (name : Name) (own : Marked) → IsOwnWork (ground_on text typed strokes) own
    → AreCarried (ground_on text typed strokes) sent → AreCarried (ground_on text typed strokes) ((name, own) ∷ sent)
front_carried text typed strokes sent name own is are q = go (is_at (name_cmp q) name)
  where
    go : (b : Bool) → IsCarried (ground_on text typed strokes) (cond b (Some own) (sent_as sent q))
    go true = is
    go false = are q

pub kept_held : (text : List ℕ) (work : Marked) (old new : BTreeMap Name Marked) (strokes : ℕ) (name : Name) → IsHeldOn text work old.entries strokes → Updates name_cmp old new name (Some work)
    → IsHeldOn text work new.entries strokes
kept_held text work old new strokes name held updates = record {
  typed = held.typed;
  work_is = held.work_is;
  sent_are = λ q. subst (IsCarried (ground_on text held.typed strokes)) (sym (kept_as old new name work updates q)) (front_carried text held.typed strokes old.entries name work held.work_is.own held.sent_are q);
  made = held.made;
}

-- ---- the state in between: the message is one of all, and its work is kept, and it is not received yet

abbrev pub in_between : Copy → Message → Copy
in_between copy message = record copy { pad = record copy.pad { all = message ∷ copy.pad.all }; sent = (name_of message, copy.work) ∷ copy.sent }

sent_front : (all : List Message) (message : Message) (work : Marked) (sent : SentWorks) → message.kind ≡ Patch → message.patch ≡ work.patch → AreSentAs all sent
    → AreSentAs (message ∷ all) ((name_of message, work) ∷ sent)
sent_front all message work sent plain patch are q own is = go (is_at (name_cmp q) (name_of message)) refl is
  where
    go : (b : Bool) → is_at (name_cmp q) (name_of message) ≡ b → cond b (Some work) (sent_as sent q) ≡ Some own
        → (m : Message) × Contains (message ∷ all) m × (name_of m ≡ q) × (m.kind ≡ Patch) × (m.patch ≡ own.patch)
    go true e is =
        let same : work ≡ own = cc in
        (message, Contains-append_left (message ∷ []) all message (Contains-push [] message), sym (tied_same q (name_of message) e), plain, patch ∙ ap (λ (w : Marked). w.patch) same)
    go false e is = let found = are q own is in (found.0, there message all found.0 found.1, found.2, found.3, found.4)

pub stands_between : (old new : View) (copy : Copy) (message : Message) → StandsAs old copy → message.kind ≡ Patch → message.patch ≡ old.work.patch
    → ((q : Name) → sent_as new.sent q ≡ sent_as ((name_of message, old.work) ∷ old.sent) q) → new ≡ record old { sent = new.sent } → StandsAs new (in_between copy message)
stands_between old new copy message stands plain patch kept rest =
    let pad = ap (λ (v : View). v.pad) rest in
    record {
      pad = subst (λ p. StandsAsPad p (in_between copy message).pad) (sym pad) (record {
        stands = stands.pad.stands;
        base = stands.pad.base;
        whole = stands.pad.whole;
        repaired = stands.pad.repaired;
        of_all = base_among message copy.pad.all copy.pad.base stands.pad.of_all;
        among_all = λ other has. there message copy.pad.all other (stands.pad.among_all other has);
      });
      sent = λ q. kept q ∙ ap (λ (w : Marked). sent_as ((name_of message, w) ∷ old.sent) q) stands.work ∙ front_alike old.sent copy.sent (name_of message) copy.work stands.sent q;
      are_sent = sent_front copy.pad.all message copy.work copy.sent plain (patch ∙ ap (λ (w : Marked). w.patch) stands.work) stands.are_sent;
      work = ap (λ (v : View). v.work) rest ∙ stands.work;
      strokes = ap (λ (v : View). v.strokes) rest ∙ stands.strokes;
    }

-- ---- a message that stands twice among all counts once

once : (message : Message) (all : List Message) (other : Message) → Contains (message ∷ message ∷ all) other → Contains (message ∷ all) other
once message all other has =
    elim (Contains-append_cases (message ∷ []) (message ∷ all) other has) [ inl first ↦ Contains-append_left (message ∷ []) all other first | inr later ↦ later ]

pub clash_twice : (message : Message) (all : List Message) → NoClash (message ∷ all) → NoClash (message ∷ message ∷ all)
clash_twice message all clash = record {
  differ = λ one other a b. clash.differ one other (once message all one a) (once message all other b);
  not_base = λ other has. clash.not_base other (once message all other has);
}

with_patch : (message : Message) (work : Marked) (sent : SentWorks) → message.kind ≡ Patch → sent_with message work sent ≡ (name_of message, work) ∷ sent
with_patch message work sent plain = ap (λ (k : Kind). cond (is_checkpoint k) sent ((name_of message, work) ∷ sent)) plain

base_once : (message : Message) (all : List Message) (base : Base) → IsBaseOf (message ∷ message ∷ all) base → IsBaseOf (message ∷ all) base
base_once message all base (inl first) = inl first
base_once message all base (inr given) = inr (given.0, once message all given.0 given.1, given.2)

sent_once : (message : Message) (all : List Message) (sent : SentWorks) → AreSentAs (message ∷ message ∷ all) sent → AreSentAs (message ∷ all) sent
sent_once message all sent are name own is = let found = are name own is in (found.0, once message all found.0 found.1, found.2, found.3, found.4)

-- the message was received then: it is made
pub made : (new : View) (copy : Copy) (message : Message) (moved : Moved) (after : Copy) → message.kind ≡ Patch → Follows (in_between copy message) message moved after → StandsAs new after
    → (last : Copy) × Makes copy message moved last × StandsAs new last
made new copy message moved after plain follows stands =
    let pad : Pad = record follows.pad { all = message ∷ copy.pad.all } in
    let sent : SentWorks = sent_with message copy.work copy.sent in
    let front : SentWorks = (name_of message, copy.work) ∷ copy.sent in
    let front_is : sent ≡ front = with_patch message copy.work copy.sent plain in
    let now = subst (λ (c : Copy). StandsAs new c) follows.state stands in (
      record copy { pad = pad; sent = sent; work = (switched sent moved (record { text = committed copy.pad; work = copy.work })).work },
      record {
        pad = pad;
        received = record {
          all = refl;
          base = follows.received.base;
          received = follows.received.received;
          whole = follows.received.whole;
          chosen = follows.received.chosen;
          moves = follows.received.moves;
        };
        state = refl;
      },
      record {
        pad = record {
          stands = now.pad.stands;
          base = now.pad.base;
          whole = now.pad.whole;
          repaired = now.pad.repaired;
          of_all = base_once message copy.pad.all follows.pad.base (subst (λ (all : List Message). IsBaseOf all follows.pad.base) follows.received.all now.pad.of_all);
          among_all = λ other has. once message copy.pad.all other (subst (λ (all : List Message). Contains all other) follows.received.all (now.pad.among_all other has));
        };
        sent = λ q. now.sent q ∙ ap (λ (s : SentWorks). sent_as s q) (sym front_is);
        are_sent = subst (λ (s : SentWorks). AreSentAs (message ∷ copy.pad.all) s) (sym front_is)
            (sent_once message copy.pad.all front (subst (λ (all : List Message). AreSentAs all front) follows.received.all now.are_sent));
        work = now.work ∙ ap (λ (s : SentWorks). (switched s moved (record { text = committed copy.pad; work = copy.work })).work) (sym front_is);
        strokes = now.strokes;
      },
    )

-- a checkpoint leaves the works that were sent
with_checkpoint : (message : Message) (work : Marked) (sent : SentWorks) → is_checkpoint message.kind ≡ true → sent_with message work sent ≡ sent
with_checkpoint message work sent checkpoint = ap (λ (b : Bool). cond b sent ((name_of message, work) ∷ sent)) checkpoint

pub checkpoint_made : (before : Copy) (message : Message) (moved : Moved) (after : Copy) → is_checkpoint message.kind ≡ true → Follows before message moved after → Makes before message moved after
checkpoint_made before message moved after checkpoint follows = record {
  pad = follows.pad;
  received = follows.received;
  state = follows.state
      ∙ ap (λ (s : SentWorks). record before { pad = follows.pad; sent = s; work = (switched s moved (record { text = committed before.pad; work = before.work })).work })
      (sym (with_checkpoint message before.work before.sent checkpoint));
}

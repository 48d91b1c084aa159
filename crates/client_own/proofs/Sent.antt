-- One work more was sent.
use Rattle.std.proofs.Common.{◌≡◌, ◌≢◌, Bool, true, false, cond, is_eq, ◌∷◌, refl, sym, ◌∙◌, ap, Some}
use Rattle.std.specs.Cmp.Lexicographic.{texts_ties, bytes_decides}
use Rattle.pad_text.specs.declared.name.Name.{Name}
use Rattle.pad_graph.specs.State.{name_cmp}
use Rattle.pad_stroke.specs.Work.{Marked}
use Rattle.client_work.specs.Switch.{SentWorks, sent_as}

tied_same : (x y : Name) → is_eq (name_cmp x y) ≡ true → x ≡ y
tied_same x y h = ap (λ bytes. record { 0 = bytes }) ((bytes_decides x.0 y.0).0 (texts_ties x.0 y.0 ∙ h))

same_tied : (x y : Name) → x ≡ y → is_eq (name_cmp x y) ≡ true
same_tied x y e = sym (texts_ties x.0 y.0) ∙ (bytes_decides x.0 y.0).1 (ap (λ (n : Name). n.0) e)

-- it is the one of its name
pub here : (name : Name) (own : Marked) (sent : SentWorks) → sent_as ((name, own) ∷ sent) name ≡ Some own
here name own sent = ap (λ b. cond b (Some own) (sent_as sent name)) (same_tied name name refl)

-- and others stay
pub elsewhere : (name : Name) (own : Marked) (sent : SentWorks) (other : Name) → other ≢ name → sent_as ((name, own) ∷ sent) other ≡ sent_as sent other
elsewhere name own sent other differs = go (is_eq (name_cmp other name)) refl
  where
    go : (b : Bool) → is_eq (name_cmp other name) ≡ b → sent_as ((name, own) ∷ sent) other ≡ sent_as sent other
    go true is = absurd (differs (tied_same other name is))
    go false is = ap (λ b. cond b (Some own) (sent_as sent other)) is

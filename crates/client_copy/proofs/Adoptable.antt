-- When a checkpoint may be adopted: no message is known exactly where the chain knows none.
use Rattle.std.proofs.Common.{◌≡◌, ◌≢◌, ℕ, Bool, false, inl, inr, List, [], ◌∷◌, length, refl, sym, ◌∙◌, ap, arith}
use Rattle.std.specs.Prelude.{◌↔◌, IsTrue}
use Rattle.std.specs.List.{Contains}
use Rattle.std.proofs.lemmas.List.Elements.{Contains-append_left, Contains-push}
use Rattle.pad_text.specs.declared.name.Name.{Name}
use Rattle.pad_list.specs.Number.{IsNumberOf}
use Rattle.pad_message.specs.declared.message.Message.{Message}
use Rattle.pad_message.specs.Message.{name_of}
use Rattle.pad_model.specs.declared.base.Base.{Base}
use Rattle.pad_model.specs.Base.{first_base}
use Rattle.pad_model.specs.Path.{text, IsPath}
use Rattle.pad_model.specs.Count.{IsKnown}
use Rattle.client_copy.specs.Pad.{committed}
use Rattle.client_copy.specs.State.{Copy}
use Rattle.client_copy.specs.Adopt.{MayAdopt}
use Rattle.client_copy.specs.View.{View, NoClash, IsBaseOf, StandsAs}
use Rattle.client_copy.proofs.Following.{chosen_path}

first_of : {A : Type 0} (x : A) (xs : List A) → Contains (x ∷ xs) x
first_of x xs = Contains-append_left (x ∷ []) xs x (Contains-push [] x)

none_in : {A : Type 0} (x : A) → Contains [] x → ⊥
none_in x has = omega (arith, has.1)

none_listed : {A : Type 0} (P : A → Type 0) (all : List A) → ((x : A) → Contains all x ↔ P x) → 0 ≡ length all → (x : A) → P x → ⊥
none_listed P [] these many x holds = none_in x ((these x).1 holds)
none_listed P (y ∷ all) these many x holds = absurd (omega arith)

listed_none : {A : Type 0} (P : A → Type 0) (all : List A) → ((x : A) → Contains all x ↔ P x) → ((x : A) → ¬ (P x)) → length all ≡ 0
listed_none P [] these none = refl
listed_none P (y ∷ all) these none = absurd (none y ((these y).0 (first_of y all)))

-- a base with the first one's name is the first one
is_first : (all : List Message) (base : Base) → ((message : Message) → Contains all message → name_of message ≢ first_base.name) → IsBaseOf all base → base.name ≡ first_base.name → base.text ≡ []
is_first all base clash (inl is) same = ap (λ (b : Base). b.text) is
is_first all base clash (inr given) same = absurd (clash given.0 given.1 (sym given.2.named ∙ same))

-- a path of which no message is known is the base's
no_path : (base : Base) (received path : List Message) → IsPath base received path → ((name : Name) → ¬ (IsKnown base received name)) → text base path ≡ base.text
no_path base received [] is none = refl
no_path base received (message ∷ path) is none = absurd (none (name_of message) (message, is.0.0.member, refl, is.0.0.not_base))

pub may_of : (held : View) (copy : Copy) → StandsAs held copy → NoClash copy.pad.all → IsNumberOf (IsKnown copy.pad.base copy.pad.received) held.pad.chain.graph.known
    → held.pad.chain.branch.branch.units ≡ committed copy.pad
    → ((held.pad.repaired ≡ false) × (held.pad.base ≡ first_base.name) × (held.pad.chain.graph.known ≡ 0) × (held.pad.chain.branch.branch.units ≡ [])) ↔ MayAdopt copy.pad
may_of held copy stands clash number units =
    let known = IsKnown copy.pad.base copy.pad.received in (
      λ is. record {
        none_known = none_listed known number.all number.these (sym is.2 ∙ number.many);
        at_first_base = sym stands.pad.base ∙ is.1;
        not_repaired = sym stands.pad.repaired ∙ is.0;
      },
      λ may. (
        stands.pad.repaired ∙ may.not_repaired,
        stands.pad.base ∙ may.at_first_base,
        number.many ∙ listed_none known number.all number.these may.none_known,
        units
            ∙ no_path copy.pad.base copy.pad.received copy.pad.choice.chosen (chosen_path held.pad.chain.whole copy.pad.base copy.pad.received copy.pad.choice stands.pad.stands.chosen) may.none_known
            ∙ is_first copy.pad.all copy.pad.base clash.not_base stands.pad.of_all may.at_first_base,
      ),
    )

-- ---- what is tested

empty_is : (units : List ℕ) (size : ℕ) → size ≡ length units → (size ≡ 0) ↔ (units ≡ [])
empty_is [] size is = (λ none. refl, λ empty. is)
empty_is (unit ∷ units) size is = (λ none. absurd (omega (arith, is, none)), λ empty. cc)

pub begun_of : (result repaired : Bool) (base : Name) (known size : ℕ) (held : View)
    → (IsTrue result ↔ ((repaired ≡ false) × (base ≡ first_base.name) × (known ≡ 0) × (size ≡ 0)))
    → repaired ≡ held.pad.repaired → base ≡ held.pad.base → known ≡ held.pad.chain.graph.known → size ≡ length held.pad.chain.branch.branch.units
    → IsTrue result
    ↔ ((held.pad.repaired ≡ false) × (held.pad.base ≡ first_base.name) × (held.pad.chain.graph.known ≡ 0) × (held.pad.chain.branch.branch.units ≡ []))
begun_of result repaired base known size held test repaired_is base_is known_is size_is =
    let empty = empty_is held.pad.chain.branch.branch.units size size_is in (
      λ yes. let is = test.0 yes in (sym repaired_is ∙ is.0, sym base_is ∙ is.1, sym known_is ∙ is.2, empty.0 is.3),
      λ is. test.1 (repaired_is ∙ is.0, base_is ∙ is.1, known_is ∙ is.2, empty.1 is.3),
    )

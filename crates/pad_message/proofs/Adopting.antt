-- A test whether a message can become a base.
use Rattle.std.proofs.Common.{◌≡◌, ℕ, ◌≤◌, Bool, true, false, nat_eq, List, [], ◌∷◌, length, IsTrue, sym, ap, subst, ◌∙◌}
use Rattle.std.specs.Cmp.Lexicographic.{pointwise, bytes_decides}
use Rattle.pad_text.specs.Hash.{document_hash}
use Rattle.pad_text.specs.declared.name.Name.{Name}
use Rattle.pad_patch.specs.Misfit.{longest_text}
use Rattle.pad_patch.specs.declared.operation.Operation.{Operation}
use Rattle.pad_message.specs.declared.message.Message.{Message}
use Rattle.pad_message.specs.Kind.{is_checkpoint}
use Rattle.pad_message.specs.Adopt.{CanAdopt, IsWhole}

abbrev name_with : List ℕ → Name
name_with bytes = record { 0 = bytes }

abbrev inserted : List Operation → List ℕ
inserted [] = []
inserted (operation ∷ operations) = operation.insert

-- a patch puts one text whole in its own place
one_whole : (message : Message) (text other : List ℕ) → IsWhole message text → IsWhole message other → text ≡ other
one_whole message text other one two = ap inserted (sym one ∙ two)

pub adopt_test : (message : Message) (text : List ℕ) (hash : Name) (same : Bool) → is_checkpoint message.kind ≡ true → IsWhole message text → length text ≤ longest_text
    → hash ≡ document_hash text → same ≡ pointwise nat_eq hash.0 message.patch.before.0 → (IsTrue same → CanAdopt message) × (CanAdopt message → IsTrue same)
adopt_test message text hash same checkpoint whole short is test = (
  λ holds. (text, record { checkpoint = checkpoint; whole = whole; short = short; before = made holds }),
  λ can. let one = one_whole message text can.0 whole can.1.whole in
      test ∙ (bytes_decides hash.0 message.patch.before.0).1 (ap (λ n. n.0) (is ∙ ap document_hash one ∙ sym can.1.before)),
)
  where
    made : IsTrue same → message.patch.before ≡ document_hash text
    made holds = ap name_with (sym ((bytes_decides hash.0 message.patch.before.0).0 (sym test ∙ holds))) ∙ is

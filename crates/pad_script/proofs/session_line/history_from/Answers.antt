-- The name is one, or the line is no question for a history behind a client's number.
use Rattle.std.proofs.Common.{◌≡◌, List, ℕ, ◌++◌, ◌∷◌, refl, ap, sym, ◌∙◌, arith}
use Rattle.std.specs.Prelude.{codes, decimal}
use Rattle.hex.specs.Hex.{encode_lower}
use Rattle.pad_script.specs.Parts.{space}
use Rattle.pad_script.proofs.Fronts.{behind_is, digits_name, name_digits, not_true}
use Rattle.pad_script.proofs.session_line.history_from.Goals as goal

pub returns-in-Some-clause-some : goal.returns-in-Some-clause-some
returns-in-Some-clause-some c =
    let behind : c.args.line.now ≡ codes "history " ++ c.in_ok-behind.field-0.now = c.in_ok-behind.ensures in
    let rest : c.in_ok-behind.field-0.now ≡ decimal c.in_ok-client.client ++ space ∷ encode_lower c.in-Some.key.0 =
    c.in_ok-client.ensures.some.0 ∙ ap (λ (tail : List ℕ). decimal c.in_ok-client.client ++ space ∷ tail) (sym c.in-Some.ensures.value) in (
      behind ∙ ap (λ (rest : List ℕ). codes "history " ++ rest) rest,
      c.in_ok-client.ensures.some.1,
      digits_name c.in-Some.key (rw c.in-Some.ensures.value (c.in-Some.ensures.found.0 refl)),
    )

pub returns-in-None-clause-known : goal.returns-in-None-clause-known
returns-in-None-clause-known c client key spells =
    let same : c.in_ok-client.from.now ≡ encode_lower key.0 =
    behind_is c.args.line.now (codes "history ") c.in_ok-behind.field-0.now c.in_ok-client.client client c.in_ok-client.from.now (encode_lower key.0) c.in_ok-behind.ensures
    c.in_ok-client.ensures.some.0 spells.0 (omega (arith, c.in_ok-client.ensures.some.1)) (omega (arith, spells.1)) in
    not_true (c.in-None.ensures.found.1 (rw same (name_digits key spells.2)))

pub returns-in-None-clause-all : goal.returns-in-None-clause-all
returns-in-None-clause-all c client spells =
    let same : c.in_ok-client.from.now ≡ codes "all" =
    behind_is c.args.line.now (codes "history ") c.in_ok-behind.field-0.now c.in_ok-client.client client c.in_ok-client.from.now (codes "all") c.in_ok-behind.ensures
    c.in_ok-client.ensures.some.0 spells.0 (omega (arith, c.in_ok-client.ensures.some.1)) (omega (arith, spells.1)) in
    c.in_default.not-all same

use Rattle.std.proofs.Common.{◌≡◌, List, ℕ, ◌++◌, refl, ap, sym, ◌∙◌}
use Rattle.std.specs.Prelude.{codes}
use Rattle.hex.specs.Hex.{encode_lower}
use Rattle.pad_script.proofs.Fronts.{digits_name, name_digits, not_true, rest_is}
use Rattle.pad_script.proofs.client_line.known_from.Goals as goal

pub returns-in-Some-clause-some : goal.returns-in-Some-clause-some
returns-in-Some-clause-some c =
    let behind : c.args.line.now ≡ codes "history " ++ c.in_ok-behind.field-0.now = c.in_ok-behind.ensures in (
      behind ∙ ap (λ (rest : List ℕ). codes "history " ++ rest) (sym c.in-Some.ensures.value),
      digits_name c.in-Some.key (rw c.in-Some.ensures.value (c.in-Some.ensures.found.0 refl)),
    )

pub returns-in-None-clause-none : goal.returns-in-None-clause-none
returns-in-None-clause-none c key spells =
    let same : c.in_ok-behind.field-0.now ≡ encode_lower key.0 =
    rest_is c.args.line.now (codes "history ") c.in_ok-behind.field-0.now (encode_lower key.0) c.in_ok-behind.ensures spells.0 in
    not_true (c.in-None.ensures.found.1 (rw same (name_digits key spells.1)))

-- What is left of bytes of which some went out.
use Rattle.std.proofs.Common.{ℕ, ◌+◌, List, drop, ◌∙◌, ap}
use Rattle.std.proofs.lemmas.List.{drop-drop}
use Rattle.ws_connection.specs.Sending.{IsLeft}

-- what is left of what is left
pub left_of_left : (bytes between left : List ℕ) → IsLeft bytes between → IsLeft between left → IsLeft bytes left
left_of_left bytes between left first second =
    (first.0 + second.0, second.1 ∙ ap (λ those. drop second.0 those) first.1 ∙ drop-drop second.0 first.0 bytes)

use Rattle.std.proofs.Common.{◌≡◌, ◌^◌, ◌<◌, false, [], drop, refl, sym, ◌∙◌, ap, arith}
use Rattle.std.specs.Prelude.{All, is_some, not}
use Rattle.std.specs.List.{list_any}
use Rattle.std.specs.Char.Utf16.{has_unpaired_surrogate}
use Rattle.std.proofs.str.Utf16.{utf16_chars-nil}
use Rattle.std.proofs.lemmas.List.{drop_all}
use Rattle.std.proofs.lemmas.List.Elements.{All-from_get_or}
use Rattle.pad_text.proofs.wellformed.is_text.Goals as goal

none_unpaired : has_unpaired_surrogate [] ≡ false
none_unpaired = ap (list_any (λ o. not (is_some o))) utf16_chars-nil

pub returns : goal.returns
returns c =
    let units = c.args.units.now in
    let rest : drop c.loop-at.at units ≡ [] = drop_all c.loop-at.at units (omega arith) in
    let paired : has_unpaired_surrogate units ≡ false = sym c.loop-at.invariant.same ∙ (ap has_unpaired_surrogate rest ∙ none_unpaired) in
    let wide : All (λ unit. unit < 2 ^ 16) units = All-from_get_or (λ unit. unit < 2 ^ 16) units 0 (λ i inside. let fits = c.type_inv.units i in omega arith) in (λ _. record { paired = paired; wide = wide }, λ _. refl)

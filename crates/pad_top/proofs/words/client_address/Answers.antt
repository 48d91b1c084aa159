-- The two words of a client.
use Rattle.std.proofs.Common.{◌≡◌, ◌∙◌, ℕ, List, [], ◌∷◌, string_bytes, sym, ap, arith}
use Rattle.std.specs.Prelude.{codes}
use Rattle.pad_top.proofs.WordLemmas.{two_words, wanted_text, some_text}
use Rattle.pad_top.proofs.words.client_address.Goals as goal

pub returns-in-len2-clause-some : goal.returns-in-len2-clause-some
returns-in-len2-clause-some c =
    let address : List ℕ = string_bytes c.address-item.result in
    let two = two_words string_bytes c.args.words.now c.word-item.result c.address-item.result (omega arith) c.word-item.is c.address-item.is in
    let client : string_bytes c.word-item.result ≡ codes "client" = sym c.as_str.ensures.value ∙ wanted_text _ _ c.eq.result c.eq.ensures c.if-eq.true in
    let some = some_text address c.as_str-then-eq.result.now c.is_empty.result c.as_str-then-eq.ensures.value c.is_empty.ensures c.if-not-is_empty.true in
    (two ∙ ap (λ w. w ∷ address ∷ []) client ∙ ap (λ w. codes "client" ∷ w ∷ []) (sym c.as_str-in-len2.ensures.value), (λ e. some (sym c.as_str-in-len2.ensures.value ∙ e)))

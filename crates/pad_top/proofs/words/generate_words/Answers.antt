-- The three words of generating.
use Rattle.std.proofs.Common.{◌≡◌, ◌∙◌, ℕ, List, [], ◌∷◌, string_bytes, sym, ap, arith}
use Rattle.std.specs.Prelude.{codes, decimal}
use Rattle.pad_top.proofs.WordLemmas.{three_words, wanted_text}
use Rattle.pad_top.proofs.words.generate_words.Goals as goal

pub returns-in-Some-number_within-clause-some : goal.returns-in-Some-number_within-clause-some
returns-in-Some-number_within-clause-some c =
    let number : List ℕ = string_bytes c.number-item.result in
    let count : List ℕ = string_bytes c.count-item.result in
    let three = three_words string_bytes c.args.words.now c.word-item.result c.number-item.result c.count-item.result (omega arith) c.word-item.is c.number-item.is c.count-item.is in
    let generate : string_bytes c.word-item.result ≡ codes "generate" = sym c.as_str.ensures.value ∙ wanted_text _ _ c.eq.result c.eq.ensures c.if-eq.true in
    let first : number ≡ decimal c.in-Some.number = sym c.as_str-in-len3.ensures.value ∙ c.in-Some.ensures.some.0 in
    let second : count ≡ decimal c.in-Some-number_within.count = sym c.as_str-in-Some.ensures.value ∙ c.in-Some-number_within.ensures.some.0 in
    let named = three ∙ ap (λ w. w ∷ number ∷ count ∷ []) generate ∙ ap (λ w. codes "generate" ∷ w ∷ count ∷ []) first
    ∙ ap (λ w. codes "generate" ∷ decimal c.in-Some.number ∷ w ∷ []) second in
    (named, c.in-Some.ensures.some.1, c.in-Some-number_within.ensures.some.1, c.in-Some-number_within.ensures.some.2)

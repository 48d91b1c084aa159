-- The three words of a log.
use Rattle.std.proofs.Common.{◌≡◌, ◌∙◌, ℕ, List, [], ◌∷◌, string_bytes, refl, sym, ap, subst, arith}
use Rattle.std.specs.Prelude.{codes}
use Rattle.pad_text.specs.Digits.{IsDigits}
use Rattle.pad_top.proofs.WordLemmas.{three_words, wanted_text, some_text}
use Rattle.pad_top.proofs.words.log_words.Goals as goal

pub returns-in-Some-clause-some : goal.returns-in-Some-clause-some
returns-in-Some-clause-some c =
    let folder : List ℕ = string_bytes c.folder-item.result in
    let three = three_words string_bytes c.args.words.now c.word-item.result c.folder-item.result c.channel-item.result (omega arith) c.word-item.is c.folder-item.is c.channel-item.is in
    let log : string_bytes c.word-item.result ≡ codes "log" = sym c.as_str.ensures.value ∙ wanted_text _ _ c.eq.result c.eq.ensures c.if-eq.true in
    let digits : string_bytes c.channel-item.result ≡ c.in-Some.channel = sym c.as_str-in-len3.ensures.value ∙ sym c.in-Some.ensures.value in
    let named = three ∙ ap (λ w. w ∷ folder ∷ string_bytes c.channel-item.result ∷ []) log ∙ ap (λ w. codes "log" ∷ folder ∷ w ∷ []) digits in
    let some = some_text folder c.as_str-then-eq.result.now c.is_empty.result c.as_str-then-eq.ensures.value c.is_empty.ensures c.if-not-is_empty.true in
    (folder, named, some, subst (IsDigits 32) (sym c.in-Some.ensures.value) (c.in-Some.ensures.found.0 refl))

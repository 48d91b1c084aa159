-- The four words of a server.
use Rattle.std.proofs.Common.{rules, ◌≡◌, ◌∙◌, ◌≤◌, ℕ, List, [], ◌∷◌, string_bytes, sym, ap, subst, arith}
use Rattle.std.specs.Prelude.{codes, decimal}
use Rattle.pad_top.specs.declared.words.TheConstants.{MOST_TURNS}
use Rattle.pad_top.proofs.WordLemmas.{four_words, wanted_text, some_text}
use Rattle.pad_top.proofs.words.serve_words.Goals as goal

pub returns-in-Some-clause-some : goal.returns-in-Some-clause-some
returns-in-Some-clause-some c =
    let address : List ℕ = string_bytes c.address-item.result in
    let folder : List ℕ = string_bytes c.folder-item.result in
    let turns : List ℕ = string_bytes c.turns-item.result in
    let four = four_words string_bytes c.args.words.now c.word-item.result c.address-item.result c.folder-item.result c.turns-item.result (omega arith)
    c.word-item.is c.address-item.is c.folder-item.is c.turns-item.is in
    let serve : string_bytes c.word-item.result ≡ codes "serve" = sym c.as_str.ensures.value ∙ wanted_text _ _ c.eq.result c.eq.ensures c.if-eq.true in
    let same : c.from.result ≡ c.in-Some.turns = search rules in
    let number : turns ≡ decimal c.from.result = sym c.as_str-in-len4.ensures.value ∙ c.in-Some.ensures.some.0 ∙ ap decimal (sym same) in
    let named = four ∙ ap (λ w. w ∷ address ∷ folder ∷ turns ∷ []) serve
    ∙ ap (λ w. codes "serve" ∷ w ∷ folder ∷ turns ∷ []) (sym c.as_str-in-Some.ensures.value)
    ∙ ap (λ w. codes "serve" ∷ c.as_str-in-Some.result.now ∷ w ∷ turns ∷ []) (sym c.as_str-in-Some-2.ensures.value)
    ∙ ap (λ w. codes "serve" ∷ c.as_str-in-Some.result.now ∷ c.as_str-in-Some-2.result.now ∷ w ∷ []) number in
    let some_address = some_text address c.as_str-then-eq.result.now c.is_empty.result c.as_str-then-eq.ensures.value c.is_empty.ensures c.if-not-is_empty.true in
    let some_folder = some_text folder c.as_str-then-not-is_empty.result.now c.is_empty-then-not-is_empty.result c.as_str-then-not-is_empty.ensures.value
    c.is_empty-then-not-is_empty.ensures c.if-not-is_empty-2.true in (
      named,
      (λ e. some_address (sym c.as_str-in-Some.ensures.value ∙ e)),
      (λ e. some_folder (sym c.as_str-in-Some-2.ensures.value ∙ e)),
      subst (λ n. 1 ≤ n) (sym same) c.in-Some.ensures.some.1,
      subst (λ n. n ≤ MOST_TURNS) (sym same) c.in-Some.ensures.some.2,
    )

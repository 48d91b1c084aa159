use Rattle.std.proofs.Common.{◌∙◌, ap, ◌++◌, ◌*◌}
use Rattle.hex.specs.Hex.{encode_lower}
use Rattle.netflux_rooms.specs.Identity.{identity, two_words}
use Rattle.netflux_rooms.proofs.identity.of_connection.Goals as goal

pub returns : goal.returns
unfolding identity
returns c =
    let a = c.in_ok-extend_from_slice.ensures.items in
    let b = c.in_ok-extend_from_slice-2.ensures.items in
    let front = a ∙ ap (λ l. l ++ c.to_be_bytes.result) c.new-bytes.ensures.items ∙ c.to_be_bytes.ensures in
    let back = c.words-words.ensures ∙ ap (λ n. two_words c.args.key c.args.stream (2 * n)) c.from.ensures in
    c.in-Some.ensures.value ∙ c.as_str.ensures.value ∙ c.in_ok-text.ensures.text ∙ ap encode_lower (c.as_slice.ensures.value ∙ b ∙ (λ i. front i ++ back i))

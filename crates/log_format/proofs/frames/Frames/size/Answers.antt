use Rattle.std.proofs.Common.{◌+◌, ◌*◌, List, ℕ, length, ◌∙◌, ap}
use Rattle.log_format.specs.Frames.{size_of, payloads_behind}
use Rattle.log_format.proofs.CallerLemmas.{length-group}
use Rattle.log_format.proofs.frames.Frames.size.Goals as goal

pub returns : goal.returns
returns c =
    c.len.ensures ∙ c.self.inside.bytes.ok.0 ∙ length-group c.self.inside.bytes.items (payloads_behind c.self.inside.bytes.items) c.self.invariant.0
    ∙ ap (λ (payloads : List (List ℕ)). 5 * length payloads + size_of payloads) c.self.view_is

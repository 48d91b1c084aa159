use Rattle.std.proofs.Common.{◌∙◌, List, ℕ, not, bytes_eq, rules, ap, filter}
use Rattle.std.proofs.lemmas.Fn.{filter_same}
use Rattle.netflux_rooms.proofs.channels.Channels.remove.Goals as goal

pub returns : goal.returns
returns c = filter_same _ (λ (other : List ℕ). not (bytes_eq c.args.channel.now other)) _ (λ x b q t. search rules) c.self.inside.names.items _ c.retain.ensures.filtered
    ∙ ap (λ l. filter (λ (other : List ℕ). not (bytes_eq c.args.channel.now other)) l) c.self.view_is

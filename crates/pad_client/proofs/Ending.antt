-- The end of a history: of a repair's, or of another.
use Rattle.std.proofs.Common.{◌≡◌, ℕ, List, Option, None, Some, Result, IfOk, inl, refl, sym, ◌∙◌, ap, subst}
use Rattle.std.proofs.lemmas.Result.{IfOk-weaker}
use Rattle.pad_message.specs.declared.message.Message.{Message}
use Rattle.pad_chain.specs.State as chains
use Rattle.netflux_codec.specs.declared.reply.Reply.TheVariants as reply
use Rattle.client_copy.specs.View.{NoClash}
use Rattle.client_requests.specs.State as requested
use Rattle.pad_client.specs.declared.heard.Heard.{Heard}
use Rattle.pad_client.specs.declared.hear_refused.HearRefused.{HearRefused}
use Rattle.pad_client.specs.State.{ClientState}
use Rattle.pad_client.specs.Repair.{while_asked}
use Rattle.pad_client.specs.Hear.{HearsEnd, HearsReply, is_repaired, IsRepairsEnd}
use Rattle.pad_client.specs.View.{View, StandsAs}
use Rattle.pad_client.proofs.Noting.{HearsEndOf, none_runs, while_none}
use Rattle.pad_client.proofs.Standing.{about}

-- a history of the channel has ended
abbrev pub HearsEndIn : View → View → ℕ → Heard → Type 0
HearsEndIn now new total answer = (keeper channel : List ℕ) (client : ClientState) → StandsAs now client → NoClash client.copy.pad.all → client.requests.channel ≡ Some channel
    → (after : ClientState) × HearsReply client (reply.HistoryEnd keeper channel total) answer after × StandsAs new after

-- it was a repair's
pub by_end : (held now new : View) (total : ℕ) (r : Result Heard HearRefused) → held ≡ now → IfOk r (HearsEndOf held new) → IfOk r (HearsEndIn now new total)
by_end held now new total r same hears =
    IfOk-weaker r _ _ (λ answer told keeper channel client stands clash its.
    let given = told client (subst (λ (v : View). StandsAs v client) (sym same) stands) clash in (
      given.2,
      subst (λ (a : Heard). HearsReply client (reply.HistoryEnd keeper channel total) a given.2) (sym given.5) (is_repaired given.0 given.1 given.2 (its, given.3) given.4),
      given.6,
    )) hears

-- no repair ran
pub by_no_end : (held : View) (taken : Option chains.View) (requests : requested.State) (client : ClientState) (keeper channel : List ℕ) (total : ℕ) (answer : Heard) → StandsAs held client
    → client.requests.channel ≡ Some channel → held.repair ≡ None → taken ≡ None → HearsEnd held.requests.asked held.requests total answer requests
    → (after : ClientState) × HearsReply client (reply.HistoryEnd keeper channel total) answer after × StandsAs (record held { requests = requests; repair = taken }) after
by_no_end held taken requests client keeper channel total answer stands its none none_taken hears =
    about held (record held { requests = requests; repair = taken }) client (reply.HistoryEnd keeper channel total) answer answer requests stands no_end
    (inl (ap (λ (r : requested.State). r.channel) stands.requests ∙ its, hears))
    (ap (λ (r : Option chains.View). record held { requests = requests; repair = r }) (none_taken ∙ sym (while_none requests.asked) ∙ ap (while_asked requests.asked) (sym none))) refl
  where
    no_end : (received : List Message) → ¬ (IsRepairsEnd client (reply.HistoryEnd keeper channel total) received)
    no_end received ended =
        let quiet = none_runs client.copy.pad.all held.repair client.repair none stands.repair in
        let runs = ended.1 in
        let no : ⊥ = cc in no

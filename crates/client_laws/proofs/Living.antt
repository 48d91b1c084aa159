-- All that befell a client.
use Rattle.std.proofs.Common.{List, sym, ap, ◌∙◌, subst}
use Rattle.pad_message.specs.Content.{SpellsOne}
use Rattle.client_copy.specs.State.{Copy}
use Rattle.client_requests.specs.State as requested
use Rattle.client_requests.specs.State.{repairs}
use Rattle.pad_client.specs.State.{ClientState}
use Rattle.client_laws.specs.Past.{Past}
use Rattle.client_laws.specs.Befalls.{Befalls, Lives}
use Rattle.client_laws.proofs.Holding.{Holds, holds_new}
use Rattle.client_laws.proofs.Hearing.{HoldsOf, reply_holds}
use Rattle.client_laws.proofs.Calling.{syncs_hold, begins_hold, loses_hold, requests_hold, asks_quietly}

befalls_hold : SpellsOne → (past : List Past) (before : ClientState) (now : List Past) (after : ClientState) → Befalls past before now after → HoldsOf past before → HoldsOf now after
befalls_hold one past before now after (Befalls.hears_strange text none) holds = holds
befalls_hold one past before now after (Befalls.hears text said answer became told replies hears adds) holds = reply_holds one past told before said answer became hears adds holds
befalls_hold one past before now after (Befalls.syncs texts became is) holds = syncs_hold past before texts became is holds
befalls_hold one past before now after (Befalls.begins_repair text became is) holds = begins_hold past before text became is holds
befalls_hold one past before now after Befalls.loses holds = loses_hold past before holds
befalls_hold one past before now after (Befalls.joins channel text next is) holds = requests_hold past before next (ap (λ (s : requested.State). repairs s.asked) is.state) holds
befalls_hold one past before now after (Befalls.leaves_channel text next is) holds = requests_hold past before next (ap (λ (s : requested.State). repairs s.asked) is.state) holds
befalls_hold one past before now after (Befalls.asks from text next is) holds =
    requests_hold past before next (ap (λ (s : requested.State). repairs s.asked) is.state ∙ asks_quietly before.requests.asked is.question.may.silent) holds
befalls_hold one past before now after (Befalls.resends texts next is) holds = requests_hold past before next (ap (λ (s : requested.State). repairs s.asked) is.state) holds
befalls_hold one past before now after (Befalls.edits operation became is) holds =
    subst (λ (c : ClientState). HoldsOf past c) (sym is.state) (subst (λ (c : Copy). Holds past (repairs before.requests.asked) c.pad before.repair) (sym is.edits.state) holds)
befalls_hold one past before now after (Befalls.sets_interval interval) holds = holds

pub lives_hold : SpellsOne → (past : List Past) (client : ClientState) → Lives past client → HoldsOf past client
lives_hold one past client Lives.begins = holds_new
lives_hold one past client (Lives.goes_on before now was is lives event) = befalls_hold one before was now is event (lives_hold one before was lives)

-- A client stands for the state after what touches its requests alone.
use Rattle.std.proofs.Common.{◌≡◌, List, refl, sym, subst}
use Rattle.pad_message.specs.declared.message.Message.{Message}
use Rattle.netflux_codec.specs.declared.reply.Reply.{Reply}
use Rattle.client_requests.specs.State as requested
use Rattle.pad_client.specs.declared.heard.Heard.{Heard}
use Rattle.pad_client.specs.State.{ClientState}
use Rattle.pad_client.specs.Repair.{with_answered}
use Rattle.pad_client.specs.Hear.{HearsAbout, IsRepairsEnd, HearsReply, is_about}
use Rattle.pad_client.specs.View.{View, StandsAs}
use Rattle.pad_client.proofs.Noting.{while_stands}

-- what a call of the working copy leaves as it was, but for the requests
pub record HasRest (held new : View) : Type 0 where
  pub unreadable : new.unreadable ≡ held.unreadable
  pub wanted : new.wanted ≡ held.wanted
  pub repair : new.repair ≡ held.repair
  pub synced : new.synced ≡ held.synced

by_answer : (held : View) (client : ClientState) (requests : requested.State) → StandsAs held client → StandsAs (with_answered requests held) (with_answered requests client)
by_answer held client requests stands = record {
  copy = stands.copy;
  unreadable = stands.unreadable;
  wanted = stands.wanted;
  requests = refl;
  repair = while_stands client.copy.pad.all requests.asked held.repair client.repair stands.repair;
  synced = stands.synced;
}

-- so it does after a reply that brings no content and ends no repair
pub about : (held new : View) (client : ClientState) (said : Reply) (answer told : Heard) (requests : requested.State) → StandsAs held client
    → ((received : List Message) → ¬ (IsRepairsEnd client said received)) → HearsAbout held.requests said answer requests
    → new ≡ with_answered requests held → told ≡ answer → (after : ClientState) × HearsReply client said told after × StandsAs new after
about held new client said answer told requests stands no_end hears is same = (
  with_answered requests client,
  subst (λ (a : Heard). HearsReply client said a (with_answered requests client)) (sym same)
      (is_about answer requests no_end (subst (λ (r : requested.State). HearsAbout r said answer requests) stands.requests hears)),
  subst (λ (v : View). StandsAs v (with_answered requests client)) (sym is) (by_answer held client requests stands),
)

-- A reply that brings no content gives out no number.
use Rattle.std.proofs.Common.{◌≡◌, ℕ, Bool, List, inl, inr, ap}
use Rattle.netflux_codec.specs.declared.who.Who.{Who}
use Rattle.netflux_codec.specs.declared.who.Who.TheVariants as who
use Rattle.netflux_codec.specs.declared.reply.Reply.{Reply}
use Rattle.netflux_codec.specs.declared.reply.Reply.TheVariants as reply
use Rattle.client_requests.specs.declared.asked.Asked.{Asked}
use Rattle.client_requests.specs.declared.asked.Asked.TheVariants.{Nothing, History, Repair}
use Rattle.client_requests.specs.State.{State}
use Rattle.client_requests.specs.Hear.{HearsMember, HearsKeeper, HearsAck}
use Rattle.pad_client.specs.declared.heard.Heard.{Heard}
use Rattle.pad_client.specs.Hear.{HearsWho, HearsEnd, HearsUnknown, IfItsChannel, HearsAbout}

member_last : (before : State) (id channel : List ℕ) (joins : Bool) (after : State) → HearsMember before id channel joins after → after.last ≡ before.last
member_last before id channel joins after (inl hears) = ap (λ (s : State). s.last) hears.1.1
member_last before id channel joins after (inr hears) = ap (λ (s : State). s.last) hears.1.1

keeper_last : (before : State) (keeper channel : List ℕ) (after : State) → HearsKeeper before keeper channel after → after.last ≡ before.last
keeper_last before keeper channel after (inl hears) = ap (λ (s : State). s.last) hears.1
keeper_last before keeper channel after (inr hears) = ap (λ (s : State). s.last) hears.1

who_last : (before : State) (somebody : Who) (channel : List ℕ) (answer : Heard) (after : State) → HearsWho before somebody channel answer after → after.last ≡ before.last
who_last before (who.Member id) channel answer after hears = member_last before id channel hears.0 after hears.1
who_last before (who.Keeper id) channel answer after hears = keeper_last before id channel after hears.1

ack_last : (before : State) (number : ℕ) (acknowledges : Bool) (after : State) → HearsAck before number acknowledges after → after.last ≡ before.last
ack_last before number acknowledges after (inl hears) = ap (λ (s : State). s.last) hears.1.1
ack_last before number acknowledges after (inr (other, (inl hears))) = ap (λ (s : State). s.last) hears.1.1
ack_last before number acknowledges after (inr (other, (inr hears))) = ap (λ (s : State). s.last) hears.1.1

end_last : (asked : Asked) (before : State) (total : ℕ) (answer : Heard) (after : State) → HearsEnd asked before total answer after → after.last ≡ before.last
end_last Nothing before total answer after hears = ap (λ (s : State). s.last) hears.state
end_last (History number fresh) before total answer after hears = ap (λ (s : State). s.last) hears.1
end_last (Repair number) before total answer after hears = ap (λ (s : State). s.last) hears.state

unknown_last : (asked : Asked) (before : State) (answer : Heard) (after : State) → HearsUnknown asked before answer after → after.last ≡ before.last
unknown_last Nothing before answer after hears = ap (λ (s : State). s.last) hears.state
unknown_last (History number fresh) before answer after hears = ap (λ (s : State). s.last) hears.1
unknown_last (Repair number) before answer after hears = ap (λ (s : State). s.last) hears.state

its_last : (before : State) (channel : List ℕ) (answer : Heard) (after : State) (does : Type 0) → (does → after.last ≡ before.last) → IfItsChannel before channel answer after does → after.last ≡ before.last
its_last before channel answer after does step (inl hears) = step hears.1
its_last before channel answer after does step (inr hears) = ap (λ (s : State). s.last) hears.1.state

pub about_last : (before : State) (said : Reply) (answer : Heard) (after : State) → HearsAbout before said answer after → after.last ≡ before.last
about_last before (reply.Ident id) answer after hears = ap (λ (s : State). s.last) hears.1
about_last before (reply.Error number word about) answer after hears = ap (λ (s : State). s.last) hears.1.state
about_last before (reply.Member somebody channel) answer after hears = who_last before somebody channel answer after hears
about_last before (reply.Ack number) answer after hears = ack_last before number hears.0 after hears.1
about_last before (reply.HistoryEnd keeper channel total) answer after hears = its_last before channel answer after _ (end_last before.asked before total answer after) hears
about_last before (reply.HistoryUnknown keeper channel key) answer after hears = its_last before channel answer after _ (unknown_last before.asked before answer after) hears
about_last before (reply.Joined number channel) answer after hears = ap (λ (s : State). s.last) hears.state
about_last before (reply.Gone id channel reason) answer after hears = ap (λ (s : State). s.last) hears.state
about_last before (reply.Entry keeper channel index moment sender content) answer after hears = ap (λ (s : State). s.last) hears.state
about_last before (reply.Msg id target content) answer after hears = absurd hears
about_last before (reply.History keeper channel index sender content) answer after hears = absurd hears

-- The laws of one step of a hub. Each is the contract of a function of `src/laws.rt`.
use Rattle.std.specs.Prelude.{◌≡◌, ℕ, List, ◌++◌}
use Rattle.netflux_codec.specs.declared.body.Body.TheVariants as body
use Rattle.netflux_codec.specs.declared.reply.Reply.{Reply}
use Rattle.netflux_codec.specs.declared.reply.Reply.TheVariants as reply
use Rattle.netflux_codec.specs.declared.request.Request.{Request}
use Rattle.netflux_codec.specs.Request.{Requests}
use Rattle.netflux_core.specs.Channels.{Channels}
use Rattle.netflux_core.specs.Crashes.{ChannelLogs}
use Rattle.netflux_core.specs.Machine.{ServeState, Step}
use Rattle.netflux_core.specs.Runs.{Runs}
use Rattle.netflux_rooms.specs.Rooms.{Identities}
use Rattle.serve_loop.specs.declared.event.Event.{Event}
use Rattle.serve_loop.specs.declared.event.Event.TheVariants.{Text}
use Rattle.serve_loop.specs.declared.out.Out.{Out}
use Rattle.hub_laws.specs.Told.{AreTold, AllAreTold, IsFounded, IsHeld, IsHeldContent, IsConnection, HaveDigits}

-- Nothing is invented: each content that a step tells anybody is an entry of what the channel holds after the step, or is for a connection.
abbrev pub NothingIsInvented : ChannelLogs → Type 0
NothingIsInvented logs = (identities : Identities) (before : ServeState) (moment : ℕ) (event : Event) (outs : List Out) (after : ServeState)
    → HaveDigits identities → Step logs identities before moment event outs after → AreTold (IsFounded identities after.channels) outs

-- What a channel that was loaded holds before a step is the front of what it holds after it.
abbrev pub HeldGrows : ChannelLogs → Type 0
HeldGrows logs = (identities : Identities) (before : ServeState) (moment : ℕ) (event : Event) (outs : List Out) (after : ServeState)
    → Step logs identities before moment event outs after → (channel : List ℕ) (held : List (List ℕ)) → IsHeld (before.channels.at channel) held
    → (added : List (List ℕ)) × IsHeld (after.channels.at channel) (held ++ added)

-- Nothing is invented in a whole run: each content that any step told is an entry of what the channel holds at the end, or was for a connection.
abbrev pub RunsInventNothing : ChannelLogs → Type 0
RunsInventNothing logs = (identities : Identities) (first : ServeState) (events : List (ℕ × Event)) (outputs : List (List Out)) (last : ServeState)
    → HaveDigits identities → Runs logs identities first events outputs last → AllAreTold (IsFounded identities last.channels) outputs

-- if the reply is an acknowledgement, it has this number, and an entry that the channel holds has this content
abbrev pub IsAckOfHeld : Channels → (number : ℕ) → (channel content : List ℕ) → Reply → Type 0
IsAckOfHeld channels number channel content said = (seq : ℕ) → said ≡ reply.Ack seq → (seq ≡ number) × IsHeldContent channels channel content

-- What is acknowledged is held: an acknowledgement that a step tells, which handles a message to what is no keeper and no connection, is of that
-- message, whose content is then an entry of what the channel holds.
abbrev pub AcknowledgedAreHeld : ChannelLogs → Type 0
AcknowledgedAreHeld logs = (identities : Identities) (before : ServeState) (moment number : ℕ) (text : List ℕ) (request : Request) (channel content : List ℕ) (outs : List Out) (after : ServeState)
    → HaveDigits identities → Requests text request → request.body ≡ body.Msg channel content → ¬ (channel ≡ identities.keeper) → ¬ (IsConnection identities channel)
    → Step logs identities before moment (Text number text) outs after → AreTold (IsAckOfHeld after.channels request.seq channel content) outs

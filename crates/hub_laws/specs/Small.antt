-- What a hub tells clients that ask for histories, with small numbers.
use Rattle.std.specs.Prelude.{◌≡◌, ◌<◌, ◌^◌, ℕ, List, length}
use Rattle.netflux_codec.specs.declared.ask.Ask.{Ask}
use Rattle.netflux_codec.specs.declared.ask.Ask.TheVariants.{History, At}
use Rattle.netflux_codec.specs.declared.body.Body.{Body}
use Rattle.netflux_codec.specs.declared.body.Body.TheVariants as body
use Rattle.netflux_codec.specs.declared.reply.Reply.{Reply}
use Rattle.netflux_codec.specs.declared.request.Request.{Request}
use Rattle.netflux_codec.specs.Ask.{Asks}
use Rattle.netflux_codec.specs.Request.{Requests}
use Rattle.netflux_core.specs.Channels.{Channels}
use Rattle.netflux_core.specs.Crashes.{ChannelLogs}
use Rattle.netflux_core.specs.Machine.{ServeState, Step}
use Rattle.netflux_rooms.specs.Rooms.{Identities}
use Rattle.serve_loop.specs.declared.event.Event.{Event}
use Rattle.serve_loop.specs.declared.event.Event.TheVariants as event
use Rattle.serve_loop.specs.declared.out.Out.{Out}
use Rattle.pad_json.specs.Data.{IsSimple, array_of}
use Rattle.netflux_codec.specs.Reply.{reply_elements}
use Rattle.hub_laws.specs.Told.{AreTold, IsFounded, IsHeld, HaveDigits}

-- the numbers in the text of a reply have 64 bits
abbrev pub HasSmallNumbers : Reply → Type 0
HasSmallNumbers said = IsSimple (array_of (reply_elements said))

-- the question is for a history, and not for entries from an index on
abbrev pub IsHistory : Ask → Type 0
IsHistory (History channel from) = Unit {0}
IsHistory (At channel index) = ⊥

-- each question in the request is
abbrev pub AsksHistories : Body → Type 0
AsksHistories (body.Msg to content) = (ask : Ask) → Asks content ask → IsHistory ask
AsksHistories (body.Join channel) = Unit {0}
AsksHistories (body.Leave channel reason) = Unit {0}
AsksHistories body.Ping = Unit {0}

-- the text is a request, and asks for no entries from an index on
abbrev pub IsRequestText : List ℕ → Type 0
IsRequestText text = (request : Request) × Requests text request × ((other : Request) → Requests text other → AsksHistories other.body)

-- the event is one that clients make
abbrev pub IsOfClient : Event → Type 0
IsOfClient (event.Opened number) = Unit {0}
IsOfClient (event.Closed number) = Unit {0}
IsOfClient (event.Text number text) = IsRequestText text

-- each list held has fewer entries than a number of 64 bits counts
abbrev pub FewAreHeld : Channels → Type 0
FewAreHeld channels = (channel : List ℕ) (held : List (List ℕ)) → IsHeld (channels.at channel) held → length held < 2 ^ 64

-- The law: what a step by such an event tells is founded on what is held after it, and has small numbers.
abbrev pub ToldAreSmall : ChannelLogs → Type 0
ToldAreSmall logs = (identities : Identities) (before : ServeState) (moment : ℕ) (event : Event) (outs : List Out) (after : ServeState)
    → HaveDigits identities → IsOfClient event → FewAreHeld after.channels → Step logs identities before moment event outs after
    → AreTold (λ (said : Reply). IsFounded identities after.channels said × HasSmallNumbers said) outs

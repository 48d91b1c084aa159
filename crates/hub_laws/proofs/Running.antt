-- What was told in a run stays held.
use Rattle.std.proofs.Common.{◌⊎◌, inl, inr, ℕ, List, [], ◌∷◌, ◌++◌}
use Rattle.std.proofs.lemmas.List.Elements.{Contains-append_left}
use Rattle.netflux_codec.specs.declared.reply.Reply.{Reply}
use Rattle.netflux_core.specs.Channels.{Channels}
use Rattle.netflux_core.specs.Crashes.{ChannelLogs}
use Rattle.netflux_core.specs.Runs.{Runs}
use Rattle.netflux_rooms.specs.Rooms.{Identities}
use Rattle.serve_loop.specs.declared.out.Out.{Out}
use Rattle.serve_loop.specs.declared.out.Out.TheVariants.{Send, HangUp}
use Rattle.hub_laws.specs.Told.{AreTold, AllAreTold, IsFounded, IsHeld, IsHeldContent, IsConnection}
use Rattle.hub_laws.specs.Laws.{NothingIsInvented, HeldGrows, RunsInventNothing}

told_more : (P Q : Reply → Type 0) → ((said : Reply) → P said → Q said) → (outs : List Out) → AreTold P outs → AreTold Q outs
told_more P Q turn [] h = tt
told_more P Q turn (Send number text ∷ outs) h = ((h.0.0, h.0.1, turn h.0.0 h.0.2), told_more P Q turn outs h.1)
told_more P Q turn (HangUp number ∷ outs) h = told_more P Q turn outs h

all_more : (P Q : Reply → Type 0) → ((said : Reply) → P said → Q said) → (outputs : List (List Out)) → AllAreTold P outputs → AllAreTold Q outputs
all_more P Q turn [] h = tt
all_more P Q turn (outs ∷ outputs) h = (told_more P Q turn outs h.0, all_more P Q turn outputs h.1)

all_push : (P : Reply → Type 0) (outputs : List (List Out)) (outs : List Out) → AllAreTold P outputs → AreTold P outs → AllAreTold P (outputs ++ outs ∷ [])
all_push P [] outs h k = (k, tt)
all_push P (one ∷ outputs) outs h k = (h.0, all_push P outputs outs h.1 k)

-- what is held stays held
stays_held : (before after : Channels) → ((channel : List ℕ) (held : List (List ℕ)) → IsHeld (before.at channel) held → (added : List (List ℕ)) × IsHeld (after.at channel) (held ++ added))
    → (channel content : List ℕ) → IsHeldContent before channel content → IsHeldContent after channel content
stays_held before after grows channel content is =
    let more = grows channel is.held is.is_held in
    record { held = is.held ++ more.0; is_held = more.1; payload = is.payload; has = Contains-append_left is.held more.0 is.payload is.has; same = is.same }

stays_founded : (identities : Identities) (before after : Channels) → ((channel : List ℕ) (held : List (List ℕ)) → IsHeld (before.at channel) held → (added : List (List ℕ)) × IsHeld (after.at channel) (held ++ added))
    → (said : Reply) → IsFounded identities before said → IsFounded identities after said
stays_founded identities before after grows said founded target content brings = go (founded target content brings)
  where
    go : IsHeldContent before target content ⊎ IsConnection identities target → IsHeldContent after target content ⊎ IsConnection identities target
    go (inl is) = inl (stays_held before after grows target content is)
    go (inr is) = inr is

pub all_run : (logs : ChannelLogs) → NothingIsInvented logs → HeldGrows logs → RunsInventNothing logs
all_run logs step_told step_grows identities first events outputs last digits Runs.begins = tt
all_run logs step_told step_grows identities first events outputs last digits (Runs.goes_on earlier told {state} {next} moment event outs runs step) =
    all_push (IsFounded identities next.channels) told outs
    (all_more (IsFounded identities state.channels) (IsFounded identities next.channels)
    (stays_founded identities state.channels next.channels (step_grows identities state moment event outs next step)) told (all_run logs step_told step_grows identities first earlier told state digits runs))
    (step_told identities state moment event outs next digits step)

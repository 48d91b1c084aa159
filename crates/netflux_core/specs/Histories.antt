-- Answers to questions: entries from a start on, and how many there are.
use Rattle.std.specs.Prelude.{ℕ, List, [], ◌∷◌, ◌++◌, map, drop}
use Rattle.keeper_state.specs.Entries.{entries_from}
use Rattle.keeper_table.specs.Span.{span_in, tail_in}
use Rattle.keeper_table.specs.declared.entry.Entry.{Entry}
use Rattle.keeper_table.specs.declared.span.Span.{Span}
use Rattle.keeper_table.specs.declared.span.Span.TheVariants as span
use Rattle.netflux_codec.specs.declared.ask.Ask.{Ask}
use Rattle.netflux_codec.specs.declared.ask.Ask.TheVariants.{History, At}
use Rattle.netflux_codec.specs.declared.reply.Reply.{Reply}
use Rattle.netflux_codec.specs.declared.reply.Reply.TheVariants as reply
use Rattle.netflux_codec.specs.declared.since.Since.TheVariants as since
use Rattle.netflux_rooms.specs.Rooms.{tell}
use Rattle.serve_loop.specs.declared.out.Out.{Out}

-- the channel that a question is about
abbrev pub channel_of : Ask → List ℕ
channel_of (History channel from) = channel
channel_of (At channel index) = channel

-- Where the answer starts in a list of payloads, and how many there are. From an index on there are no entries if there are no more than that.
abbrev pub span_for : Ask → List (List ℕ) → Span
span_for (History channel from) held = span_in held from
span_for (At channel index) held = tail_in held index

-- the text of an entry, by the question: with its moment where it was asked for by an index
abbrev pub entry_reply : (keeper : List ℕ) → Ask → (index : ℕ) → Entry → Reply
entry_reply keeper (History channel from) index entry = reply.History keeper channel index entry.sender entry.content
entry_reply keeper (At channel at) index entry = reply.Entry keeper channel index entry.moment entry.sender entry.content

-- each of these entries, told to a connection
abbrev pub tell_entries : (keeper : List ℕ) → (number : ℕ) → Ask → List Entry → List Out
tell_entries keeper number ask entries = map (λ (entry : Entry). tell number (entry_reply keeper ask entry.index entry)) entries

-- the entries that an answer tells
abbrev pub told_entries : Ask → List (List ℕ) → Span → List Entry
told_entries ask held (span.Found start total) = entries_from start (drop start held)
told_entries ask held span.Unknown = []

-- The end of an answer: how many entries there are in all, or that none has the key. Only a question that names a key starts nowhere.
abbrev pub end_reply : (keeper : List ℕ) → Ask → Span → Reply
end_reply keeper ask (span.Found start total) = reply.HistoryEnd keeper (channel_of ask) total
end_reply keeper (History channel (since.Known key)) span.Unknown = reply.HistoryUnknown keeper channel key
end_reply keeper (History channel since.Default) span.Unknown = reply.HistoryEnd keeper channel 0
end_reply keeper (History channel since.All) span.Unknown = reply.HistoryEnd keeper channel 0
end_reply keeper (At channel index) span.Unknown = reply.HistoryEnd keeper channel 0

-- the answer to a question, of a list: the acknowledgement, each entry from the start on, and the end
abbrev pub answered : (keeper : List ℕ) → (number seq : ℕ) → Ask → List (List ℕ) → List Out
answered keeper number seq ask held =
    tell number (reply.Ack seq) ∷ (tell_entries keeper number ask (told_entries ask held (span_for ask held)) ++ tell number (end_reply keeper ask (span_for ask held)) ∷ [])

-- The answer to a question for a history, by the payloads of a channel's list.
use Rattle.std.specs.Prelude.{ℕ, List, drop}
use Rattle.netflux_codec.specs.declared.since.Since.{Since}
use Rattle.keeper_state.specs.Entries.{entries_from}
use Rattle.keeper_table.specs.Span.{span_in}
use Rattle.keeper_log.specs.declared.answer.Answer.{Answer}
use Rattle.keeper_log.specs.declared.answer.Answer.TheVariants as answer
use Rattle.keeper_table.specs.declared.span.Span.{Span}
use Rattle.keeper_table.specs.declared.span.Span.TheVariants as span

-- the history of a span of these payloads: how many there are in all, and the entries from its start on
abbrev pub answer_of : List (List ℕ) → Span → Answer
answer_of payloads (span.Found first total) = answer.Entries total (entries_from first (drop first payloads))
answer_of payloads span.Unknown = answer.Unknown

-- the history that is asked for
abbrev pub answer_in : List (List ℕ) → Since → Answer
answer_in payloads from = answer_of payloads (span_in payloads from)

-- The report of what was received is that of the input.
use Rattle.std.proofs.Common.{arith, string_bytes}
use Rattle.pad_top.specs.Inside.Progress.{IsWholeAt}
use Rattle.pad_top.specs.Replay.{IsReplayed}
use Rattle.pad_top.proofs.Ending.{told, replayed}
use Rattle.pad_top.proofs.replay.replay.Goals as goal

pub returns-clause-report : goal.returns-clause-report
returns-clause-report g c =
    let bytes = c.in_ok-bytes.bytes.items in
    let received = c.in_ok-received.received in
    let whole : IsWholeAt bytes received = c.in_ok-received.ensures.received in
    told (g.I.Source.left c.args.input.now) bytes (λ input. IsReplayed input (string_bytes c.in_ok-text.text)) c.in_ok-bytes.ensures.whole
    (replayed bytes (string_bytes c.in_ok-text.text) whole.0.messages whole.0.unreadable
    (omega (arith, c.in_ok-bytes.ensures.within))
    whole.1 (c.in_ok-text.ensures.few whole.0 whole.2) (c.in_ok-text.ensures.report whole.0 whole.2))

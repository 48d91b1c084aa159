use Rattle.std.proofs.Common.{length, ap, arith}
use Rattle.pad_script.specs.Requests.{makes_requests, request_lines}
use Rattle.client_requests.specs.State as requested
use Rattle.client_script.proofs.Lasting.{fewer_commands, have_intervals}
use Rattle.client_script.proofs.scripted.ScriptedClient.new.Goals as goal

pub returns-clause-lasts : goal.returns-clause-lasts
returns-clause-lasts g c bytes commands script few short =
    let stands = c.in_ok-client.ensures in
    let last = ap (λ (r : requested.State). r.last) stands.requests in
    let strokes = stands.copy.strokes in
    let bound = c.requests_are_bounded.ensures (request_lines makes_requests commands) (length bytes) few short in
    let lines = fewer_commands bytes commands script in
    record {
      intervals = have_intervals bytes commands script;
      requests = omega (arith, last, bound);
      strokes = omega (arith, strokes, lines, short);
    }

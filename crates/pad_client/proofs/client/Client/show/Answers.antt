use Rattle.std.proofs.Common.{sym, ◌∙◌, string_bytes}
use Rattle.pad_client.proofs.Reporting.{own_same}
use Rattle.pad_client.proofs.client.Client.show.Goals as goal

pub returns : goal.returns
returns g c client stands = record {
  pad = string_bytes c.in_ok-lines.lines;
  of_pad = c.in_ok-lines.ensures client stands;
  lines = c.new.ensures ∙ c.in_ok-push_own.ensures ∙ own_same (string_bytes c.in_ok-lines.lines) c.args.self.now client stands (sym c.text-units.ensures.is ∙ c.text-units.ensures.stands client stands);
}

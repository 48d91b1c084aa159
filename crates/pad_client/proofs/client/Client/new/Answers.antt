use Rattle.std.proofs.Common.{◌∙◌, refl}
use Rattle.pad_client.proofs.client.Client.new.Goals as goal

pub returns : goal.returns
returns g c = record { copy = c.in_ok-copy.ensures.stands; unreadable = refl; wanted = refl; requests = c.new-requests.ensures; repair = tt; synced = c.new-3.ensures ∙ c.new-2.ensures.items }

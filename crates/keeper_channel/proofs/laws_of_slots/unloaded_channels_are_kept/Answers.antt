use Rattle.std.proofs.Common.{inl}
use Rattle.log_format.specs.declared.form.Form.TheVariants.{One, Two}
use Rattle.keeper_channel.proofs.Slots.{unloaded_now}
use Rattle.keeper_channel.proofs.laws_of_slots.unloaded_channels_are_kept.Goals as goal

pub returns : goal.returns
returns g c = λ one two disk held suspense rests_one rests_two found image left.
    inl (unloaded_now (g.O.Ledger.opens_as One one) (g.G.Ledger.opens_as Two two) (g.G.Ledger.doubt Two two) held suspense disk
    (λ payloads is. g.met.O.Ledger.rests_now One one disk payloads rests_one is) (λ payloads is. g.met.G.Ledger.rests_now Two two disk payloads rests_two is) found image left)

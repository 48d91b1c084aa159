use Rattle.disk_volume.specs.Moments.{no_sync}
use Rattle.disk_volume.specs.Lemmas.Since.{now_alone}
use Rattle.keeper_state.specs.Slot.{IsSlotFor}
use Rattle.keeper_log.proofs.Standing.{no_slot}
use Rattle.keeper_log.proofs.loading.load_channel.Goals as goal

pub returns-in-Err-clause-loads : goal.returns-in-Err-clause-loads
returns-in-Err-clause-loads g c = λ told.
    let O = g.O.Ledger in let G = g.G.Ledger in let channel = c.args.channel.now in let disk = g.V.Volume.disk c.args.volume.now in record {
      reached = λ found state none stands. tt;
      stays = λ found state none stands. stands;
      leaves = λ found state none stands h s has image left. c.channels_keep_their_lists.ensures channel found state disk h s
          (no_slot found (IsSlotFor O.name O.form_of O.live O.count G.name G.form_of G.live G.count channel) none) stands has image (now_alone disk image left);
      damaged = tt;
      syncs = no_sync;
    }

use Rattle.std.proofs.lemmas.Result.{IfOk-weaker}
use Rattle.disk_volume.specs.Disk.{reads}
use Rattle.keeper_channel.specs.Slot.{IsSlotFound, IsReloaded}
use Rattle.keeper_channel.specs.declared.slot.Slot.{Slot}
use Rattle.log_format.specs.declared.form.Form.TheVariants.{One, Two}
use Rattle.keeper_channel.proofs.Chans.{which_list, found_list}
use Rattle.keeper_channel.proofs.reloading.reload.Goals as goal

pub returns-clause-any_moment : goal.returns-clause-any_moment
returns-clause-any_moment g c = λ told held suspense tie image left. tie image (c.load_slot.ensures.any_moment told image left)

pub returns-clause-reloaded : goal.returns-clause-reloaded
returns-clause-reloaded g c = λ told held suspense tie.
    let O = g.O.Ledger in let G = g.G.Ledger in
    let before = g.V.Volume.disk c.args.volume.now in let after = g.V.Volume.disk c.load_slot.new.volume in
    let files = reads before in
    let opens_one = O.opens_as One c.args.one.now in let opens_two = G.opens_as Two c.args.two.now in let doubt = G.doubt Two c.args.two.now in
    let P : Slot _ _ → Type 0 = λ slot. IsSlotFound opens_one opens_two doubt O.holds G.holds files slot after in
    let Q : Slot _ _ → Type 0 = λ slot. IsReloaded opens_one opens_two doubt O.holds G.holds held suspense slot before after in
    IfOk-weaker c.load_slot.result P Q
    (λ slot found. record {
      loaded = found.0;
      doubtful = found.1;
      found = found.2;
      is_loaded = which_list opens_one opens_two files found.0 held suspense
          (λ a b. g.met.O.Ledger.opens_once One c.args.one.now files a b) (λ a b. g.met.G.Ledger.opens_once Two c.args.two.now files a b)
          (found_list opens_one opens_two doubt files found.0 found.1 found.2) (tie files (g.met.V.Volume.as_it_reads c.args.volume.now told));
      slot_is = found.3;
    })
    (c.load_slot.ensures.found told)

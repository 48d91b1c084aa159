use Rattle.std.proofs.Common.{[], refl}
use Rattle.disk_volume.specs.Disk.{reads}
use Rattle.disk_volume.specs.Lemmas.Since.{elsewhere}
use Rattle.keeper_channel.specs.Chan.{moved}
use Rattle.log_format.specs.declared.form.Form.TheVariants.{One, Two}
use Rattle.keeper_channel.proofs.Chans.{chan_old, doubt_unmarked}
use Rattle.keeper_channel.proofs.loading.load_old.Goals as goal

pub returns-clause-found : goal.returns-clause-found
returns-clause-found g c = λ told new holds opened none.
    let files = reads (g.V.Volume.disk c.args.volume.now) in
    let disk = g.V.Volume.disk c.load.new.volume in
    let list = c.in_ok-old.ensures.list told in (
      moved list.0,
      [],
      record {
        two = new;
        opened = opened;
        is = chan_old (g.O.Ledger.opens_as One c.args.one.now files) new list.0 none list.1;
        doubtful = doubt_unmarked new (g.G.Ledger.doubt Two (g.G.Ledger.name c.args.log) files) none;
      },
      record {
        old = list.0;
        new = new;
        holds_old = list.2;
        holds_new = g.met.G.Ledger.holds_on c.args.log new (g.V.Volume.disk c.args.volume.now) disk holds
            (λ file mine. elsewhere disk file (c.in_ok-old.ensures.files told) (λ theirs. c.requires.apart file mine theirs));
        unmoved = none;
        held_is = refl;
        suspense_is = refl;
      },
    )

pub returns-clause-counted : goal.returns-clause-counted
returns-clause-counted g c = (g.O.Ledger.count c.in_ok-old.old, refl)

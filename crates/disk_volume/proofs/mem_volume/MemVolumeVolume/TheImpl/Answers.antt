-- What each call leaves follows from the rest of its contract.
use Rattle.std.proofs.Common.{rules}
use Rattle.disk_volume.specs.Lemmas.Follows.{follows_call}
use Rattle.disk_volume.specs.Memory.{Follows}
use Rattle.disk_volume.proofs.mem_volume.MemVolumeVolume.TheImpl.Goals as goal

pub root-tells : goal.root-tells
root-tells c =
    let follows : Follows c.args.self.now c.new.self.now = follows_call c.result _ _ c.ensures.clock c.ensures.exact c.ensures.goes_on in
    search rules

pub length-tells : goal.length-tells
length-tells c =
    let follows : Follows c.args.self.now c.new.self.now = follows_call c.result _ _ c.ensures.clock c.ensures.exact c.ensures.goes_on in
    search rules

pub read_at-tells : goal.read_at-tells
read_at-tells c =
    let follows : Follows c.args.self.now c.new.self.now = follows_call c.result _ _ c.ensures.clock c.ensures.exact c.ensures.goes_on in
    search rules

pub write_at-tells : goal.write_at-tells
write_at-tells c =
    let follows : Follows c.args.self.now c.new.self.now = follows_call c.result _ _ c.ensures.clock c.ensures.exact c.ensures.goes_on in
    search rules

pub cut-tells : goal.cut-tells
cut-tells c =
    let follows : Follows c.args.self.now c.new.self.now = follows_call c.result _ _ c.ensures.clock c.ensures.exact c.ensures.goes_on in
    search rules

pub sync-tells : goal.sync-tells
sync-tells c =
    let follows : Follows c.args.self.now c.new.self.now = follows_call c.result _ _ c.ensures.clock c.ensures.exact c.ensures.goes_on in
    search rules

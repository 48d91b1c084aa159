-- The folder that was chosen has the files that it had.
use Rattle.std.proofs.Common.{sym, subst}
use Rattle.std.proofs.lemmas.Result.{on_ok_weaker, on_err_weaker}
use Rattle.disk_volume.specs.Disk.{reads}
use Rattle.disk_volume.specs.Moments.{OnlySyncs, no_sync}
use Rattle.pad_log.proofs.CallerLemmas.{text_weaker}
use Rattle.pad_top.specs.Log.{IsChannelDamage, IsChannelFile, IsChannelList}
use Rattle.pad_top.proofs.Logs.{front_written, nothing_written}
use Rattle.pad_top.proofs.log.write_folder.Goals as goal

pub returns-in-Ok-clause-whole : goal.returns-in-Ok-clause-whole
returns-in-Ok-clause-whole g c =
    let channel = c.args.words.now.channel in let chosen = reads (g.V.Volume.disk c.root.new.self) in let files = reads (g.V.Volume.disk c.args.volume.now) in
    on_ok_weaker c.write_channel.result
    (text_weaker g.V.Volume.tells (IsChannelList channel chosen) (IsChannelList channel files) (g.O.Sink.written c.args.output.now)
    (g.O.Sink.written c.write_channel.new.output) (λ told list. subst (λ disk. IsChannelList channel (reads disk) list) (c.root.ensures.disk told))) c.write_channel.ensures.whole

pub returns-in-Ok-clause-part : goal.returns-in-Ok-clause-part
returns-in-Ok-clause-part g c =
    let channel = c.args.words.now.channel in let chosen = reads (g.V.Volume.disk c.root.new.self) in let files = reads (g.V.Volume.disk c.args.volume.now) in
    on_err_weaker c.write_channel.result
    (front_written g.O.Sink.written channel g.V.Volume.tells (IsChannelList channel chosen) (IsChannelList channel files) c.args.output.now
    c.write_channel.new.output (λ told list. subst (λ disk. IsChannelList channel (reads disk) list) (c.root.ensures.disk told))) c.write_channel.ensures.part

pub returns-in-Err-clause-part : goal.returns-in-Err-clause-part
returns-in-Err-clause-part g c = nothing_written c.args.words.now.channel g.V.Volume.tells (reads (g.V.Volume.disk c.args.volume.now)) (g.O.Sink.written c.args.output.now)

pub returns-in-Ok-clause-damaged : goal.returns-in-Ok-clause-damaged
returns-in-Ok-clause-damaged g c told damage is =
    subst (λ disk. IsChannelDamage c.args.words.now.channel (reads disk) damage) (c.root.ensures.disk told) (c.write_channel.ensures.damaged told damage is)

pub returns-in-Ok-clause-syncs : goal.returns-in-Ok-clause-syncs
returns-in-Ok-clause-syncs g c told =
    subst (λ disk. OnlySyncs (IsChannelFile c.args.words.now.channel) disk (g.V.Volume.disk c.write_channel.new.volume)) (c.root.ensures.disk told) (c.write_channel.ensures.syncs told)

pub returns-in-Err-clause-syncs : goal.returns-in-Err-clause-syncs
returns-in-Err-clause-syncs g c told =
    subst (λ disk. OnlySyncs (IsChannelFile c.args.words.now.channel) (g.V.Volume.disk c.args.volume.now) disk) (sym (c.root.ensures.disk told)) no_sync

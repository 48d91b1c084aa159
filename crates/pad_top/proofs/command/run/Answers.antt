-- Which command the words ask for.
use Rattle.std.proofs.Common.{◌≡◌, ◌⊎◌, ◌++◌, List, true, false, map, string_bytes, sym, subst}
use Rattle.pad_edge.specs.Count.{Rose}
use Rattle.pad_edge.specs.declared.port_event.PortEvent.{PortEvent}
use Rattle.serve_loop.specs.Run.{AreCalls}
use Rattle.disk_volume.specs.Disk.{reads}
use Rattle.log_format.specs.declared.damage.Damage.{Damage}
use Rattle.pad_output.specs.Output.{AppendsSome}
use Rattle.pad_top.specs.declared.status.Status.TheVariants as status
use Rattle.pad_top.specs.Generate.{GenerateEnds, GenerateIsCutShort}
use Rattle.pad_top.specs.Log.{IsChannelDamage, LogEnds, LogIsCutShort}
use Rattle.pad_top.specs.Serve.{HasStopped, IsDone, ServeEnds, ServeIsCutShort}
use Rattle.pad_top.specs.Words.{IsReplay}
use Rattle.pad_top.proofs.Ending.{cut_short, not_cut}
use Rattle.pad_top.proofs.WordLemmas.{same_channel, same_turns, same_messages, no_command}
use Rattle.pad_top.proofs.command.run.Goals as goal

pub returns-in-Some-log_words-clause-log : goal.returns-in-Some-log_words-clause-log
returns-in-Some-log_words-clause-log g c channel is other =
    let same = same_channel (map string_bytes c.args.words.now) channel c.in-Some-log_words.words.channel is c.in-Some-log_words.ensures.some in
    let failed = Rose (g.V.Volume.faults c.args.volume.now) (g.V.Volume.faults c.log.new.volume) in
    subst (λ digits. AppendsSome (LogEnds digits g.V.Volume.tells (reads (g.V.Volume.disk c.args.volume.now)) failed c.log.result) (g.O.Sink.written c.args.output.now) (g.O.Sink.written c.log.new.output))
    (sym same) (c.log.ensures.whole other)

pub returns-in-Some-log_words-clause-log_part : goal.returns-in-Some-log_words-clause-log_part
returns-in-Some-log_words-clause-log_part g c channel is cut =
    let same = same_channel (map string_bytes c.args.words.now) channel c.in-Some-log_words.words.channel is c.in-Some-log_words.ensures.some in
    let failed = Rose (g.V.Volume.faults c.args.volume.now) (g.V.Volume.faults c.log.new.volume) in
    subst (λ digits. LogIsCutShort digits g.V.Volume.tells (reads (g.V.Volume.disk c.args.volume.now)) failed (g.O.Sink.written c.args.output.now) (g.O.Sink.written c.log.new.output))
    (sym same) (c.log.ensures.part cut)

pub returns-in-Some-log_words-clause-log_complete : goal.returns-in-Some-log_words-clause-log_complete
returns-in-Some-log_words-clause-log_complete g c channel is no_store no_write =
    let same = same_channel (map string_bytes c.args.words.now) channel c.in-Some-log_words.words.channel is c.in-Some-log_words.ensures.some in
    subst (λ digits. (c.log.result ≡ status.Ok) ⊎ ((c.log.result ≡ status.NoMemory) ⊎ ((c.log.result ≡ status.Damaged)
    × (g.V.Volume.tells → (damage : Damage) × IsChannelDamage digits (reads (g.V.Volume.disk c.args.volume.now)) damage)))) (sym same) (c.log.ensures.complete no_store no_write)

pub returns-in-Some-clause-serve : goal.returns-in-Some-clause-serve
returns-in-Some-clause-serve g c address folder turns is other =
    let words = c.in-Some.words in
    let same = same_turns (map string_bytes c.args.words.now) words.address.now words.folder.now address folder words.turns turns c.in-Some.ensures.some is in
    let ended = Rose (g.P.Port.ends c.args.port.now) (g.P.Port.ends c.serve.new.port) in
    let store_failed = Rose (g.V.Volume.faults c.args.volume.now) (g.V.Volume.faults c.serve.new.volume) in
    let link_failed = Rose (g.P.Port.faults c.args.port.now) (g.P.Port.faults c.serve.new.port) in
    subst (λ n. AppendsSome (ServeEnds
    (IsDone c.args.key n ended g.V.Volume.tells g.P.Port.tells g.C.Clock.tells (g.V.Volume.disk c.args.volume.now) (g.V.Volume.disk c.serve.new.volume) (g.V.Volume.faults c.args.volume.now) (g.V.Volume.faults c.serve.new.volume)
    (g.C.Clock.coming c.args.clock.now) (g.P.Port.events c.args.port.now) (g.P.Port.events c.serve.new.port) (g.P.Port.sent c.args.port.now) (g.P.Port.sent c.serve.new.port)
    (g.P.Port.failed c.args.port.now) (g.P.Port.failed c.serve.new.port))
    (HasStopped c.args.key n g.V.Volume.tells g.P.Port.tells g.C.Clock.tells (g.V.Volume.disk c.args.volume.now) (g.V.Volume.disk c.serve.new.volume) (g.V.Volume.faults c.args.volume.now) (g.V.Volume.faults c.serve.new.volume)
    (g.C.Clock.coming c.args.clock.now) (g.P.Port.events c.args.port.now) (g.P.Port.events c.serve.new.port) (g.P.Port.sent c.args.port.now) (g.P.Port.sent c.serve.new.port)
    (g.P.Port.failed c.args.port.now) (g.P.Port.failed c.serve.new.port))
    store_failed link_failed c.serve.result) (g.O.Sink.written c.args.output.now) (g.O.Sink.written c.serve.new.output)) same (c.serve.ensures.whole other)

pub returns-in-Some-clause-serve_part : goal.returns-in-Some-clause-serve_part
returns-in-Some-clause-serve_part g c address folder turns is cut =
    let words = c.in-Some.words in
    let same = same_turns (map string_bytes c.args.words.now) words.address.now words.folder.now address folder words.turns turns c.in-Some.ensures.some is in
    let ended = Rose (g.P.Port.ends c.args.port.now) (g.P.Port.ends c.serve.new.port) in
    let store_failed = Rose (g.V.Volume.faults c.args.volume.now) (g.V.Volume.faults c.serve.new.volume) in
    let link_failed = Rose (g.P.Port.faults c.args.port.now) (g.P.Port.faults c.serve.new.port) in
    subst (λ n. ServeIsCutShort
    (IsDone c.args.key n ended g.V.Volume.tells g.P.Port.tells g.C.Clock.tells (g.V.Volume.disk c.args.volume.now) (g.V.Volume.disk c.serve.new.volume) (g.V.Volume.faults c.args.volume.now) (g.V.Volume.faults c.serve.new.volume)
    (g.C.Clock.coming c.args.clock.now) (g.P.Port.events c.args.port.now) (g.P.Port.events c.serve.new.port) (g.P.Port.sent c.args.port.now) (g.P.Port.sent c.serve.new.port)
    (g.P.Port.failed c.args.port.now) (g.P.Port.failed c.serve.new.port))
    (HasStopped c.args.key n g.V.Volume.tells g.P.Port.tells g.C.Clock.tells (g.V.Volume.disk c.args.volume.now) (g.V.Volume.disk c.serve.new.volume) (g.V.Volume.faults c.args.volume.now) (g.V.Volume.faults c.serve.new.volume)
    (g.C.Clock.coming c.args.clock.now) (g.P.Port.events c.args.port.now) (g.P.Port.events c.serve.new.port) (g.P.Port.sent c.args.port.now) (g.P.Port.sent c.serve.new.port)
    (g.P.Port.failed c.args.port.now) (g.P.Port.failed c.serve.new.port))
    store_failed link_failed (g.O.Sink.written c.args.output.now) (g.O.Sink.written c.serve.new.output)) same (c.serve.ensures.part cut)

pub returns-in-Some-clause-calls : goal.returns-in-Some-clause-calls
returns-in-Some-clause-calls g c told address folder turns is =
    let words = c.in-Some.words in
    let same = same_turns (map string_bytes c.args.words.now) words.address.now words.folder.now address folder words.turns turns c.in-Some.ensures.some is in
    subst (λ n. (events : List PortEvent) × (g.P.Port.events c.serve.new.port ≡ g.P.Port.events c.args.port.now ++ events) × AreCalls n events) same (c.serve.ensures.calls told)

pub returns-in-Some-generate_words-clause-generate : goal.returns-in-Some-generate_words-clause-generate
returns-in-Some-generate_words-clause-generate g c number count is other =
    let words = c.in-Some-generate_words.words in
    let same = same_messages (map string_bytes c.args.words.now) words.number words.count number count c.in-Some-generate_words.ensures.some is in
    subst (λ n. AppendsSome (GenerateEnds number n c.generate.result) (g.O.Sink.written c.args.output.now) (g.O.Sink.written c.generate.new.output)) same.1
    (subst (λ n. AppendsSome (GenerateEnds n words.count c.generate.result) (g.O.Sink.written c.args.output.now) (g.O.Sink.written c.generate.new.output)) same.0 (c.generate.ensures.whole other))

pub returns-in-Some-generate_words-clause-generate_part : goal.returns-in-Some-generate_words-clause-generate_part
returns-in-Some-generate_words-clause-generate_part g c number count is cut =
    let words = c.in-Some-generate_words.words in
    let same = same_messages (map string_bytes c.args.words.now) words.number words.count number count c.in-Some-generate_words.ensures.some is in
    subst (λ n. GenerateIsCutShort number n (g.O.Sink.written c.args.output.now) (g.O.Sink.written c.generate.new.output)) same.1
    (subst (λ n. GenerateIsCutShort n words.count (g.O.Sink.written c.args.output.now) (g.O.Sink.written c.generate.new.output)) same.0 (c.generate.ensures.part cut))

pub returns-in-None-generate_words-clause-whole : goal.returns-in-None-generate_words-clause-whole
returns-in-None-generate_words-clause-whole g c no_other other =
    let words = map string_bytes c.args.words.now in
    let no_replay : ¬ (IsReplay words) = λ is. let both : false ≡ true = c.if-is_replay.ensures.1 is in cc in
    not_cut _ _ _ _ _ _ _ _ _ c.end.ensures.end (no_command words no_replay no_other.0 no_other.1 no_other.2 no_other.3, c.line.ensures) other

pub returns-in-None-generate_words-clause-part : goal.returns-in-None-generate_words-clause-part
returns-in-None-generate_words-clause-part g c no_other =
    let words = map string_bytes c.args.words.now in
    let no_replay : ¬ (IsReplay words) = λ is. let both : false ≡ true = c.if-is_replay.ensures.1 is in cc in
    cut_short _ _ _ _ _ _ _ _ _ c.end.ensures.end (no_command words no_replay no_other.0 no_other.1 no_other.2 no_other.3, c.line.ensures)

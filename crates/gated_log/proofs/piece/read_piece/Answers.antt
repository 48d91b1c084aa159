use Rattle.std.proofs.Common.{◌≡◌, length, take, drop, ◌∙◌, arith}
use Rattle.std.proofs.lemmas.List.{length-take-le}
use Rattle.disk_volume.specs.Disk.{reads}
use Rattle.gated_log.proofs.Pieces.{piece_read}
use Rattle.gated_log.proofs.piece.read_piece.Goals as goal

pub returns-clause-bytes : goal.returns-clause-bytes
returns-clause-bytes g c = λ told.
    let asked = c.min-asked.result in
    let piece = c.args.piece.now in
    let fits : length (take asked piece) ≡ asked = length-take-le asked piece (omega (arith, c.min-asked.ensures)) in
    piece_read c.read_at.result (take asked piece) c.read_at.new.buf (drop asked piece) (reads (g.V.Volume.disk c.args.volume.now) c.args.file.now) c.args.from c.args.end (length piece)
    c.requires.within (c.requires.told told) (fits ∙ c.min-asked.ensures) c.read_at.auto.buf c.read_at.ensures.within (c.read_at.ensures.bytes told)

use Rattle.std.proofs.Common.{◌≡◌, ◌+◌, length, take, ◌∙◌, sym, ap, arith, Some, subst, List, ℕ}
use Rattle.std.proofs.lemmas.List.{take_all}
use Rattle.std.proofs.lemmas.Result.{err_from_is_err_and}
use Rattle.disk_volume.specs.Disk.{Disk, reads}
use Rattle.gated_log.specs.declared.extent.Extent.{Extent}
use Rattle.gated_log.specs.declared.gate.Gate.{Gate}
use Rattle.gated_log.specs.Inside.Walked.{IsLast}
use Rattle.gated_log.proofs.Opening.{head_read, magic_found}
use Rattle.gated_log.proofs.loading.find_log.Goals as goal

pub returns-in-Some-clause-damaged : goal.returns-in-Some-clause-damaged
returns-in-Some-clause-damaged g c = λ told.
    let bytes = reads (g.V.Volume.disk c.args.volume.now) c.args.file.now in
    let size = (c.requires.told told).1 in
    let came = c.in_ok-count.ensures.bytes told in
    magic_found c.args.form bytes (take 8 c.read_piece.new.piece) (omega (arith, c.requires.small, size)) (omega (arith, came.0, c.if-count-le-EMPTY_LOG.false, size))
    (head_read c.read_piece.new.piece bytes c.in_ok-count.count c.args.size came.1 (omega (arith, c.if-count-le-EMPTY_LOG.false)) size) c.in-Some.ensures.1
    ∙ ap Some (sym c.in-Some.ensures.0)

-- what was read of a file is a front of it also after the read
still_read : (bytes after piece : List ℕ) (count size : ℕ) → after ≡ bytes → size ≡ length bytes → piece ≡ take count (take size bytes) → piece ≡ take count after
still_read bytes after piece count size same whole read = read ∙ ap (take count) (take_all size bytes (omega (arith, whole)) ∙ sym same)

-- the last gate of a file as it reads after the walk, within this many entries, is that of the file
last_of : (bytes after : List ℕ) (most entries : ℕ) (index : List Extent) (gate : Gate) → after ≡ bytes → most ≡ entries → IsLast after (most + 1) index gate → IsLast bytes (entries + 1) index gate
last_of bytes after most entries index gate same is last =
    subst (λ (m : ℕ). IsLast bytes (m + 1) index gate) is (subst (λ (file : List ℕ). IsLast file (most + 1) index gate) same last)

pub returns-clause-found : goal.returns-clause-found
returns-clause-found g c = λ told.
    let bytes = reads (g.V.Volume.disk c.args.volume.now) c.args.file.now in
    let size = (c.requires.told told).1 in
    let came = c.in_ok-count.ensures.bytes told in
    let same = ap (λ (disk : Disk). reads disk c.args.file.now) (c.in_ok-count.ensures.disk told) in
    let last = c.in_ok-gate.ensures.last told (omega (arith, came.0, c.requires.buffer)) (still_read bytes _ _ c.in_ok-count.count c.args.size same size came.1) in
    let ended = last_of bytes _ c.most_entries.result _ c.find_gate.new.index.items c.in_ok-gate.gate same c.most_entries.ensures last in
    let head = sym (head_read c.read_piece.new.piece bytes c.in_ok-count.count c.args.size came.1 (omega (arith, c.if-count-le-EMPTY_LOG.false)) size) ∙ c.in_default.ensures in
    c.in_ok-found_gate.ensures.found c.args.file.now bytes (g.V.Volume.disk c.args.volume.now) c.find_gate.new.index.items (c.len.ensures ∙ c.find_gate.new.index.ok.0) (c.requires.told told).0
    (omega (arith, c.requires.small, size)) head ended

pub returns-in_err-found_gate-clause-damaged : goal.returns-in_err-found_gate-clause-damaged
returns-in_err-found_gate-clause-damaged g c = let p = err_from_is_err_and c.from_residual-in_err-found_gate.result c.from_residual-in_err-found_gate.ensures.1 in rw (p.1, p.2) (λ told.
    let bytes = reads (g.V.Volume.disk c.args.volume.now) c.args.file.now in
    let size = (c.requires.told told).1 in
    let came = c.in_ok-count.ensures.bytes told in
    let same = ap (λ (disk : Disk). reads disk c.args.file.now) (c.in_ok-count.ensures.disk told) in
    let last = c.in_ok-gate.ensures.last told (omega (arith, came.0, c.requires.buffer)) (still_read bytes _ _ c.in_ok-count.count c.args.size same size came.1) in
    let ended = last_of bytes _ c.most_entries.result _ c.find_gate.new.index.items c.in_ok-gate.gate same c.most_entries.ensures last in
    let head = sym (head_read c.read_piece.new.piece bytes c.in_ok-count.count c.args.size came.1 (omega (arith, c.if-count-le-EMPTY_LOG.false)) size) ∙ c.in_default.ensures in
    c.in_err-found_gate.ensures.found c.args.file.now bytes (g.V.Volume.disk c.args.volume.now) c.find_gate.new.index.items (c.len.ensures ∙ c.find_gate.new.index.ok.0) (c.requires.told told).0
    (omega (arith, c.requires.small, size)) head ended)

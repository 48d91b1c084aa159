use Rattle.std.proofs.Common.{◌≡◌, ◌∙◌, ◌+◌, [], ◌∷◌, ◌++◌, ℕ, List, length, inl, inr, refl, sym, ap, subst, arith}
use Rattle.std.proofs.lemmas.List.{take_all}
use Rattle.std.proofs.lemmas.List.Elements.{All-nil, All-push}
use Rattle.std.proofs.lemmas.Result.{err_from_is_err_and, on_ok_weaker, on_err_weaker}
use Rattle.std.proofs.KnownBytes.{Appends-nil}
use Rattle.std.specs.Io.{StartsWith}
use Rattle.std.specs.Io.KnownBytes.{Appends}
use Rattle.pad_output.specs.Output.{AppendsPart}
use Rattle.disk_volume.specs.Disk.{Disk}
use Rattle.keeper_entry.specs.Entry.{IsEntry}
use Rattle.keeper_channel.specs.Checked.{IsChecked}
use Rattle.pad_log.specs.Lines.{lines_from, line_of_entry, line_of_count, log_text}
use Rattle.pad_log.specs.Log.{Gathers}
use Rattle.pad_log.proofs.Written.{take_more, lines_more, length_more, lines_front, first_front, gathered_front, gathered_more, gathered_part, gathered_written}
use Rattle.pad_log.proofs.writing.write_log.Goals as goal

pub loop-index-init : goal.loop-index-init
loop-index-init g c = record {
  written = ([], All-nil IsEntry, refl, (λ told doubt held suspense is. refl), ([], Appends-nil (g.S.Sink.written c.args.output.now), c.new-lines.ensures.items));
  disk = λ told. refl;
  follows = g.met.V.Volume.follows_itself c.args.volume.now;
  faults = refl;
  writes = refl;
}

pub write_entry-requires-clause-index : goal.write_entry-requires-clause-index
write_entry-requires-clause-index g c = omega (arith)

pub write_entry-requires-clause-channel : goal.write_entry-requires-clause-channel
write_entry-requires-clause-channel g c = λ told.
    let given = c.requires.channel told in
    (given.0, given.1, given.2, subst (λ (d : Disk). IsChecked g.O.Ledger.holds g.G.Ledger.holds given.0 c.args.channel.now given.1 given.2 d) (sym (c.loop-index.invariant.disk told)) given.3)

pub loop-index-preserved : goal.loop-index-preserved
loop-index-preserved g c =
    let old = g.S.Sink.written c.args.output.now in let mid = g.S.Sink.written c.loop-index.output in let new = g.S.Sink.written c.write_entry.new.output in
    let index = c.loop-index.index in
    let before = c.loop-index.invariant.written in
    let next = c.in_ok-write_entry.ensures.whole in
    record {
      written = (
        before.0 ++ next.0 ∷ [],
        All-push IsEntry before.0 next.0 before.1 next.1,
        length_more index before.0 next.0 before.2,
        (λ told doubt held suspense is.
            let here = subst (λ (d : Disk). IsChecked g.O.Ledger.holds g.G.Ledger.holds doubt c.args.channel.now held suspense d) (sym (c.loop-index.invariant.disk told)) is in
            ap (λ (l : List (List ℕ)). l ++ next.0 ∷ []) (before.3 told doubt held suspense is) ∙ take_more index held next.0 (next.2 told doubt held suspense here)),
        subst (Gathers old new [] c.write_entry.new.lines.items) (lines_more index before.0 next.0 before.2)
            (gathered_more old mid new c.loop-index.lines.items c.write_entry.new.lines.items (lines_from 0 before.0) (line_of_entry index next.0) before.4 next.3),
      );
      disk = λ told. c.write_entry.ensures.disk told ∙ c.loop-index.invariant.disk told;
      follows = g.met.V.Volume.follows_on c.args.volume.now c.loop-index.volume c.write_entry.new.volume c.loop-index.invariant.follows c.write_entry.ensures.follows;
      faults = elim c.in_ok-write_entry.ensures.kept [ inl store ↦ absurd (cc) | inr same ↦ same ∙ c.loop-index.invariant.faults ];
      writes = elim c.in_ok-write_entry.ensures.written [ inl write ↦ absurd (cc) | inr same ↦ same ∙ c.loop-index.invariant.writes ];
    }

-- an entry's line was not written whole
pub returns-in_err-write_entry-clause-part : goal.returns-in_err-write_entry-clause-part
returns-in_err-write_entry-clause-part g c = let p = err_from_is_err_and c.from_residual.result c.from_residual.ensures.1 in rw p.1 (
    let old = g.S.Sink.written c.args.output.now in let mid = g.S.Sink.written c.loop-index.output in let new = g.S.Sink.written c.write_entry.new.output in
    let index = c.loop-index.index in
    let before = c.loop-index.invariant.written in
    elim c.in_err-write_entry.ensures.part [
      | inl same ↦
          let part = gathered_front old mid c.loop-index.lines.items (lines_from 0 before.0) before.4 in (
            part.0,
            (
              (before.0, before.1, lines_front before.0 part.0 part.1),
              λ told doubt held suspense is. first_front index held part.0
                  (subst (λ (l : List (List ℕ)). StartsWith (lines_from 0 l) part.0) (before.3 told doubt held suspense is) part.1),
            ),
            subst (λ it. Appends old (g.S.Sink.written it) part.0) (sym same) part.2,
          )
      | inr next ↦
          let list = before.0 ++ next.0 ∷ [] in
          let part = subst (AppendsPart old new) (lines_more index before.0 next.0 before.2) (gathered_part old mid new c.loop-index.lines.items (lines_from 0 before.0) (line_of_entry index next.0) before.4 next.3) in (
            part.0,
            (
              (list, All-push IsEntry before.0 next.0 before.1 next.1, lines_front list part.0 part.1),
              λ told doubt held suspense is.
                  let here = subst (λ (d : Disk). IsChecked g.O.Ledger.holds g.G.Ledger.holds doubt c.args.channel.now held suspense d) (sym (c.loop-index.invariant.disk told)) is in
                  let first = ap (λ (l : List (List ℕ)). l ++ next.0 ∷ []) (before.3 told doubt held suspense is) ∙ take_more index held next.0 (next.2 told doubt held suspense here) in
                  first_front (index + 1) held part.0 (subst (λ (l : List (List ℕ)). StartsWith (lines_from 0 l) part.0) first part.1),
            ),
            part.2,
          )
    ])

-- all lines are written
pub returns-clause-whole : goal.returns-clause-whole
returns-clause-whole g c =
    let old = g.S.Sink.written c.args.output.now in let mid = g.S.Sink.written c.loop-index.output in let new = g.S.Sink.written c.write_count.new.output in
    let before = c.loop-index.invariant.written in
    let long : c.args.channel.now.count ≡ length before.0 = omega (arith, before.2) in
    on_ok_weaker c.write_count.result (λ last. (
      log_text before.0,
      (
        before.0,
        before.1,
        (λ told doubt held suspense is. before.3 told doubt held suspense is ∙ take_all c.loop-index.index held (omega (arith, is.counted))),
        refl,
      ),
      subst (Appends old new) (ap (λ (n : ℕ). lines_from 0 before.0 ++ line_of_count n) long) (gathered_written old mid new c.loop-index.lines.items (lines_from 0 before.0) (line_of_count c.args.channel.now.count) before.4 last),
    )) c.write_count.ensures.whole

-- the last line was not written whole
pub returns-clause-part : goal.returns-clause-part
returns-clause-part g c =
    let old = g.S.Sink.written c.args.output.now in let mid = g.S.Sink.written c.loop-index.output in let new = g.S.Sink.written c.write_count.new.output in
    let before = c.loop-index.invariant.written in
    let long : c.args.channel.now.count ≡ length before.0 = omega (arith, before.2) in
    on_err_weaker c.write_count.result (λ last.
    let part = subst (AppendsPart old new) (ap (λ (n : ℕ). lines_from 0 before.0 ++ line_of_count n) long)
    (gathered_part old mid new c.loop-index.lines.items (lines_from 0 before.0) (line_of_count c.args.channel.now.count) before.4 last) in (
      part.0,
      (
        (before.0, before.1, part.1),
        λ told doubt held suspense is. subst (λ (l : List (List ℕ)). StartsWith (log_text l) part.0)
            (before.3 told doubt held suspense is ∙ take_all c.loop-index.index held (omega (arith, is.counted))) part.1,
      ),
      part.2,
    )) c.write_count.ensures.part

use Rattle.std.proofs.Common.{subst}
use Rattle.std.specs.Prelude.{All}
use Rattle.pad_text.specs.Text.{IsText}
use Rattle.pad_patch.specs.declared.operation.Operation.{Operation}
use Rattle.pad_stroke.specs.Strip.{thinned}
use Rattle.pad_stroke.specs.Work.{Marked}
use Rattle.pad_stroke.proofs.PlainUnits.{texts_stay}
use Rattle.pad_stroke.proofs.work.tests.without.Goals as goal

pub strip-requires : goal.strip-requires
strip-requires c =
    let plain = c.is_plain_patch.ensures c.if-is_plain_patch.true in
    subst (λ (w : Marked). All (λ (o : Operation). IsText o.insert) (thinned c.args.of.now.marks w.patch.ops w.marks)) c.work.view_is
    (texts_stay c.args.of.now.marks c.work.inside.patch.ops c.work.inside.marks.items plain)

use Rattle.std.proofs.Common.{sym, subst, arith}
use Rattle.sha2.specs.Hashers.{Holds256}
use Rattle.pad_text.proofs.CallerLemmas.{IsText-nil, utf8-nil}
use Rattle.pad_rope.specs.Inside.Saved.{AreSaved}
use Rattle.pad_rope.proofs.saved.Saved.hasher.Goals as goal

pub returns-in-Start : goal.returns-in-Start
returns-in-Start c = λ units saved.
    rw c.in-Start.is (record { inside = omega arith; text = IsText-nil; holds = subst (Holds256 c.new.result) (sym utf8-nil) c.new.ensures })

pub returns-in_ok-copy-in-After : goal.returns-in_ok-copy-in-After
returns-in_ok-copy-in-After c = λ units saved.
    let one = (subst (AreSaved units) c.in-After.is saved).0 in
    rw (c.in-After.is, c.in_ok-copy-in-After.ensures.cases) one

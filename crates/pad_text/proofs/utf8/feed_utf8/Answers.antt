use Rattle.std.proofs.Common.{◌≡◌, ◌++◌, sym, subst}
use Rattle.sha2.specs.Hashers.{Holds256}
use Rattle.pad_text.proofs.Ascii.{utf8-ascii}
use Rattle.pad_text.proofs.utf8.feed_utf8.Goals as goal

pub returns-then-is_ascii-clause-fed : goal.returns-then-is_ascii-clause-fed
returns-then-is_ascii-clause-fed c = λ message holds.
    subst (λ bytes. Holds256 c.feed_ascii.new.hasher (message ++ bytes)) (sym (utf8-ascii c.args.units.now (c.is_ascii.ensures c.if-is_ascii.true))) (c.feed_ascii.ensures message holds)

use Rattle.pad_text.proofs.CallerLemmas.{IsUtf8-digits}
use Rattle.netflux_codec.proofs.digits.text_of.Goals as goal

pub returns-in-Err : goal.returns-in-Err
returns-in-Err c = absurd (c.in-Err.ensures.cases.0 (IsUtf8-digits c.args.digits.now c.requires))

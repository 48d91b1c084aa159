use Rattle.pad_text.proofs.CallerLemmas.{IsUtf8-digits}
use Rattle.keeper_entry.proofs.payload.sender_of.Goals as goal

pub returns-in-Err-clause-found : goal.returns-in-Err-clause-found
returns-in-Err-clause-found c = λ digits. absurd (c.in-Err.ensures.cases.0 (IsUtf8-digits _ digits.each))

-- No command is a word and the number of a client.
use Rattle.std.proofs.Common.{Option, Some, None}
use Rattle.std.specs.Prelude.{decimal}
use Rattle.std.specs.Option.{IfNone}
use Rattle.pad_script.specs.Inside.Words.{word_of}
use Rattle.pad_script.proofs.Words.{has_word}
use Rattle.pad_script.proofs.session_line.of_client_from.Goals as goal

none_of : {X : Type 0} (o : Option X) (P Q : Type 0) → IfNone o P → (P → Q) → IfNone o Q
none_of None P Q is step = step is
none_of (Some x) P Q is step = tt

pub returns-in_err-word-clause-none : goal.returns-in_err-word-clause-none
returns-in_err-word-clause-none c =
    rw c.from_residual.ensures (λ act is spells.
    let has = has_word c.args.line.now act is spells in c.in_err-word.ensures.none (word_of act) (decimal has.client) has.word has.written)

pub returns-in_err-client_from-clause-none : goal.returns-in_err-client_from-clause-none
returns-in_err-client_from-clause-none c =
    rw c.from_residual-in_err-client_from.ensures (λ act is spells.
    let has = has_word c.args.line.now act is spells in
    c.in_err-client_from.ensures.none has.client has.small (c.in_ok-word.ensures.first (word_of act) (decimal has.client) has.word has.written).1)

pub returns-clause-none : goal.returns-clause-none
returns-clause-none c =
    none_of c.of_client.result _ _ c.of_client.ensures.none (λ none act is spells.
    let has = has_word c.args.line.now act is spells in
    none act is (c.in_ok-word.ensures.first (word_of act) (decimal has.client) has.word has.written).0)

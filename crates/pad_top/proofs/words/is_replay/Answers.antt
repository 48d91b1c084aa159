-- The one word is compared with the command.
use Rattle.std.proofs.Common.{arith, string_bytes}
use Rattle.pad_top.proofs.WordLemmas.{is_only_word}
use Rattle.pad_top.proofs.words.is_replay.Goals as goal

pub returns-in-len1 : goal.returns-in-len1
returns-in-len1 c = is_only_word string_bytes c.args.words.now c.word-item.result c.as_str.result.now _ c.eq.result (omega arith) c.word-item.is c.as_str.ensures.value c.eq.ensures

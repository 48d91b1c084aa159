use Rattle.pad_generator.proofs.Readable.{each_is_read}
use Rattle.pad_generator.proofs.laws.each_is_read.Goals as goal

pub returns : goal.returns
returns c = each_is_read c.compact_texts_read_back.ensures c.marked_texts_read_back.ensures

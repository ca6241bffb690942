use Rattle.encoded_word.specs.WritingLaws.{line_written}
use Rattle.encoded_word.proofs.word.put_line.Goals as goal

pub returns : goal.returns
returns c = line_written c.put_bytes-started.ensures c.put_word.ensures

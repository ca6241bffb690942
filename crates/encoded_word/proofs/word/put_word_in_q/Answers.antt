use Rattle.encoded_word.specs.WritingLaws.{word_written}
use Rattle.encoded_word.proofs.word.put_word_in_q.Goals as goal

pub returns : goal.returns
returns c = word_written c.put_bytes-started.ensures c.put_in_q-r.ensures c.put_bytes-after.ensures

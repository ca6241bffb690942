use Rattle.encoded_word.specs.WritingLaws.{begun_here}
use Rattle.buffer.specs.BufferLaws.{appended_byte}
use Rattle.encoded_word.proofs.lines.put_first.Goals as goal

pub returns : goal.returns
returns c = begun_here c.requires.0 c.requires.1 (appended_byte 0 32 _) c.put_word.ensures

use Rattle.buffer.specs.BufferLaws.{appended_then}
use Rattle.encoded_word.proofs.spelling.put_escapes.Goals as goal

pub returns : goal.returns
returns c = appended_then c.put_escape-next.ensures c.put_escape.ensures

use Rattle.encoded_word.specs.WritingLaws.{word_written_b}
use Rattle.buffer.specs.BufferLaws.{length_appended, length_added}
use Rattle.base64_digits.proofs.Base64Laws.{length_base64}
use native.Mathlib.Omega.{arith}
use Rattle.encoded_word.proofs.word.put_word_in_b.Goals as goal

pub put_bytes-requires : goal.put_bytes-requires
put_bytes-requires c = omega (arith, c.add-after.ensures.place, length_added c.add-after.ensures, c.put_bytes-started.ensures.place, length_appended c.put_bytes-started.ensures, length_base64 c.args.bytes.now, c.requires)

pub returns : goal.returns
returns c = word_written_b c.args.bytes.now c.put_bytes-started.ensures c.add-after.ensures (omega (arith, c.put_bytes-started.ensures.place, length_base64 c.args.bytes.now, c.requires)) c.put_bytes.ensures

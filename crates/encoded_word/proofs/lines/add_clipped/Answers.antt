use Rattle.encoded_word.specs.WritingLaws.{begun_empty, begun_word, word_length}
use Rattle.buffer.specs.BufferLaws.{length_appended}
use lib.ListN.{length-take}
use native.Mathlib.Omega.{arith}
use Rattle.encoded_word.proofs.lines.add_clipped.Goals as goal

pub returns-then-e-eq0 : goal.returns-then-e-eq0
returns-then-e-eq0 c = begun_empty _ _ c.put_word-w.ensures _ c.if-e-eq0.true

pub slice_bounds-piece-end : goal.slice_bounds-piece-end
slice_bounds-piece-end c = omega (arith, word_length c.put_word-w.ensures, length_appended c.put_word-w.ensures.wrote)

pub slice_bounds-add_slice-end : goal.slice_bounds-add_slice-end
slice_bounds-add_slice-end c = rw length-take (omega (arith, word_length c.put_word-w.ensures, length_appended c.put_word-w.ensures.wrote))

pub returns : goal.returns
returns c = begun_word _ _ c.put_word-w.ensures (omega (arith, c.if-e-eq0.false)) (omega arith) (omega (arith, word_length c.put_word-w.ensures)) c.add_byte-spaced.ensures c.add_slice-after.ensures

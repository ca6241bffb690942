use Rattle.word_spelling.specs.SpellingLaws.{spell_at, spell_end, spell_byte_some, cost_at}
use Rattle.buffer.specs.BufferLaws.{reached_start, reached_then, reached_end, reached_within, length_reached}
use native.Mathlib.Omega.{arith}
use lib.ListN.{get_or}
use Rattle.encoded_word.proofs.spelling.put_char.Goals as goal

pub loop-b-init : goal.loop-b-init
loop-b-init c = (omega arith, reached_start _ _ _)

pub put_byte-next-requires : goal.put_byte-next-requires
put_byte-next-requires c = omega (arith, reached_within c.loop-b.invariant.1, length_reached c.loop-b.invariant.1, cost_at c.args.c.now c.loop-b.b-index c.loop-b-test.true, spell_byte_some (get_or c.args.c.now c.loop-b.b-index 0), c.requires)

pub loop-b-preserved : goal.loop-b-preserved
loop-b-preserved c = (omega arith, reached_then _ _ c.loop-b.invariant.1 (spell_at _ _ c.loop-b-test.true) c.put_byte-next.ensures)

pub returns : goal.returns
returns c = reached_end c.loop-b.invariant.1 (spell_end _ _ c.loop-b-test.false)

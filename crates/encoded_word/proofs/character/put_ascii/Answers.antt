use Rattle.encoded_word.specs.WritingLaws.{put_step, put_stop, put_singles, spell_byte_lem}
use Rattle.row_length.specs.LengthLaws.{stepped_ascii}
use Rattle.word_spelling.specs.SpellingLaws.{spell_byte_some}
use native.Mathlib.Omega.{arith}
use Prim.Native.Nat.{◌+◌}
use lib.ListN.{get_or}
use mathlib.Core.Path.{refl}
use Rattle.encoded_word.proofs.character.put_ascii.Goals as goal

pub returns-then-a-b : goal.returns-then-a-b
returns-then-a-b c = let known = c.type_inv.s in
    let i = c.args.i in
    (omega arith, put_singles c.args.s.now i _ _ _ _ _ _ c.if-left-s.true (omega (arith, known i)) (omega (arith, known (i + 1))) (omega (arith, known (i + 1 + 1))) (omega (arith, known (i + 1 + 1 + 1))) c.first_of-a.ensures c.first_of-b.ensures c.first_of-c.ensures c.first_of-d.ensures c.if-a-b.true c.put_alone-after.ensures)

pub returns-then-left-m : goal.returns-then-left-m
returns-then-left-m c = put_stop (stepped_ascii c.args.s.now c.args.i _ _ c.requires.0 c.requires.2 c.cost_of-m.ensures.0) c.if-left-m.true

pub put_byte-after-requires : goal.put_byte-after-requires
put_byte-after-requires c = omega (arith, c.requires.1, c.if-left-m.false, c.cost_of-m.ensures.0, spell_byte_some (get_or c.args.s.now c.args.i 0))

pub returns : goal.returns
returns c = (omega arith, put_step _ (stepped_ascii c.args.s.now c.args.i _ _ c.requires.0 c.requires.2 c.cost_of-m.ensures.0) c.if-left-m.false refl (spell_byte_lem c.args.s.now c.args.i c.requires.0) c.put_byte-after.ensures)

use Rattle.word_spelling.specs.FirstCharsLaws.{costs_next, costs_end}
use Rattle.utf8.specs.Utf8Laws.{char_len_le}
use native.Mathlib.Omega.{arith}
use lib.ListN.{get_or}
use Rattle.word_spelling.proofs.char_cost.Goals as goal

pub loop-j-preserved : goal.loop-j-preserved
loop-j-preserved c = let i = c.args.i in
    let s = c.args.s.now in
    let j = c.loop-j.j in
    let long = char_len_le (get_or s i 0) in
    (omega arith, omega (arith, long, c.char_end-end.ensures), omega arith, omega (arith, costs_next c.args.first.now s j c.char_end-end.result c.loop-j-test.true (omega (arith, c.char_end-end.ensures))))

pub returns : goal.returns
returns c = (c.char_end-end.ensures, omega (arith, costs_end c.args.first.now c.args.s.now c.loop-j.j c.char_end-end.result c.loop-j-test.false))

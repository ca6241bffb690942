use Rattle.encoded_word.specs.WritingLaws.{put_word_q, put_word_b}
use Rattle.word_choice.specs.EndInQLaws.{sure_q, chosen_q, chosen_b, word_b_end}
use lib.ListN.{length-take}
use native.Mathlib.Omega.{arith}
use Rattle.encoded_word.proofs.word.put_word.Goals as goal

pub returns-then-surely_in_q : goal.returns-then-surely_in_q
returns-then-surely_in_q c = put_word_q (sure_q c.requires.0 (c.surely_in_q.ensures.1 c.if-surely_in_q.true)) c.put_word_in_q.ensures

pub put_word_in_b-requires : goal.put_word_in_b-requires
put_word_in_b-requires c = let w = chosen_b c.requires.0 c.in-InB.is c.choose-choice.ensures.1 in (rw length-take (omega (arith, word_b_end c.requires.0 w)), c.requires.1)

pub returns-in-InQ : goal.returns-in-InQ
returns-in-InQ c = put_word_q (chosen_q c.requires.0 c.in-InQ.is c.choose-choice.ensures.1) c.put_word_in_q-in-InQ.ensures

pub returns-in-InB : goal.returns-in-InB
returns-in-InB c = put_word_b (chosen_b c.requires.0 c.in-InB.is c.choose-choice.ensures.1) c.put_word_in_b.ensures

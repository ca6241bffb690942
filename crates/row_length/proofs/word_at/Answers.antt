use Rattle.word_choice.specs.EndInQLaws.{sure_q, chosen_q, chosen_b, word_at_q, word_at_b}
use Rattle.row_length.proofs.word_at.Goals as goal

pub returns-then-surely_in_q : goal.returns-then-surely_in_q
returns-then-surely_in_q c = word_at_q (sure_q c.requires (c.surely_in_q.ensures.1 c.if-surely_in_q.true)) c.in_q.ensures

pub returns-in-InQ : goal.returns-in-InQ
returns-in-InQ c = word_at_q (chosen_q c.requires c.in-InQ.is c.choose-choice.ensures.1) c.in_q-in-InQ.ensures

pub returns-in-InB : goal.returns-in-InB
returns-in-InB c = word_at_b (chosen_b c.requires c.in-InB.is c.choose-choice.ensures.1)

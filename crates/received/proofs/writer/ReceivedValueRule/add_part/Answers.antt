use Rattle.piece.proofs.PieceLaws.{served}
use Rattle.received.proofs.writer.ReceivedValueRule.add_part.Goals as goal

pub returns-clause-is : goal.returns-clause-is
returns-clause-is c = λ _. rw (served _ _ _ c.fitting_len-n.ensures).is at c.add_token.ensures

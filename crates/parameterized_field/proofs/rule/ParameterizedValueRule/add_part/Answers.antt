use Rattle.piece.proofs.PieceLaws.{served}
use Rattle.parameterized_field.proofs.rule.ParameterizedValueRule.add_part.Goals as goal

pub returns-clause-is : goal.returns-clause-is
returns-clause-is c = rw (served _ _ _ c.fitting_len-n.ensures).is at c.add_part.ensures

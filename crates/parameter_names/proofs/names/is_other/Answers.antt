use Rattle.parameter_names.specs.KeysLaws.{absent_new}
use borrow.Author.Rules.{rules}
use Rattle.parameter_names.proofs.names.is_other.Goals as goal

pub returns-then-is_absent : goal.returns-then-is_absent
returns-then-is_absent c = absent_new _ _ _ c.requires.0 c.requires.1 c.is_absent.ensures c.if-is_absent.true

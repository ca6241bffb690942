use Rattle.parameter_names.specs.NamesLaws.{marked_last, marked_more}
use borrow.Author.Rules.{rules}
use Rattle.parameter_names.proofs.names.marked_end.Goals as goal

pub returns-then-s-end : goal.returns-then-s-end
returns-then-s-end c = marked_last _ _ _ c.token_end-end.ensures c.if-s-end.true

pub returns : goal.returns
returns c = marked_more _ _ _ c.token_end-end.ensures c.if-s-end.false

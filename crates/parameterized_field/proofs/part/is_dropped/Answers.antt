use borrow.Author.Tests.{not-true, not-false}
use Rattle.parameterized_field.specs.WritingLaws.{no_white, white_fresh, white_stays, white_before}
use borrow.Author.Rules.{rules}
use Rattle.parameterized_field.proofs.part.is_dropped.Goals as goal

pub returns-then-not-is_white_space : goal.returns-then-not-is_white_space
returns-then-not-is_white_space c = no_white _ _ _ c.is_white_space.ensures c.if-not-is_white_space.true

pub returns-then-state : goal.returns-then-state
returns-then-state c = white_fresh _ _ _ c.is_white_space.ensures c.if-not-is_white_space.false c.if-state.true

pub returns-then-not-state : goal.returns-then-not-state
returns-then-not-state c = white_stays _ _ _ c.is_white_space.ensures c.if-not-is_white_space.false c.if-state.false (not-true _ c.if-not-state.true)

pub returns : goal.returns
returns c = white_before _ _ _ c.is_white_space.ensures c.if-not-is_white_space.false c.if-state.false (not-false _ c.if-not-state.false) c.converted_next.ensures

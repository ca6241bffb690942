use Rattle.word_reader.specs.WordLaws.{last_two, last_three, last_quad}
use native.Mathlib.Omega.{arith}
use Rattle.word_reader.proofs.base64_text.add_last.Goals as goal

pub returns-then-y-eq61 : goal.returns-then-y-eq61
returns-then-y-eq61 c = last_two _ _ _ _ c.first_of.ensures c.add_byte-second.ensures c.if-quad-eq61.true c.if-y-eq61.true c.is_digit.ensures c.is_digit-then-y-eq61.ensures c.value.ensures.0

pub returns-then-quad-eq61 : goal.returns-then-quad-eq61
returns-then-quad-eq61 c = last_three _ _ _ _ (omega arith) c.first_of.ensures c.add_byte-second.ensures c.if-quad-eq61.true c.if-y-eq61.false c.is_digit-then-quad-eq61.ensures c.is_digit-then-quad-eq61-2.ensures c.is_digit-then-quad-eq61-3.ensures c.value-then-quad-eq61.ensures.0 c.second_of.ensures c.add_byte.ensures

pub returns : goal.returns
returns c = last_quad _ _ _ _ c.if-quad-eq61.false c.is_quad.ensures c.add_quad.ensures

use Rattle.word_reader.specs.WordLaws.{unit_hex, unit_space, unit_one}
use mathlib.Core.Path.{refl, ◌∙◌}
use Rattle.word_reader.proofs.q_text.unit_at.Goals as goal

pub returns-then-b-eq61 : goal.returns-then-b-eq61
returns-then-b-eq61 c = unit_hex _ _ _ refl _ _ _ _ _ _ c.if-b-eq61.true c.byte_at.ensures c.byte_at-then-b-eq61.ensures (c.unwrap_or.ensures ∙ c.hex_value-first.ensures.value) (c.unwrap_or-then-b-eq61.ensures ∙ c.hex_value-second.ensures.value) (c.is_some.ensures ∙ c.hex_value-first.ensures.digit) (c.is_some-then-b-eq61.ensures ∙ c.hex_value-second.ensures.digit)

pub returns-then-b-eq95 : goal.returns-then-b-eq95
returns-then-b-eq95 c = unit_space _ _ _ refl c.if-b-eq95.true

pub returns : goal.returns
returns c = unit_one _ _ _ refl c.if-b-eq61.false c.if-b-eq95.false
